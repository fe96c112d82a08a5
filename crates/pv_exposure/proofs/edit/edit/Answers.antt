use Rattle.std.proofs.Common.{◌≡◌, ◌∙◌, [], ◌∷◌, None, Some, true, false, option_map, ap, sym}
use Rattle.std.proofs.lemmas.Option.{same_Some}
use Rattle.pv_model.specs.declared.promise.Promise.TheVariants.{Wpath, Exec as ExecPromise}
use Rattle.pv_model.specs.Machine.{Process, process_at}
use Rattle.pv_model.specs.Perms.{permission_w}
use Rattle.pv_model.specs.Sealed.{has_none_of, is_pledged_without}
use Rattle.pv_procs.specs.declared.record.ProcessRecord.{ProcessRecord}
use Rattle.pv_procs.specs.Parts.{record_of}
use Rattle.pv_audit.specs.Findings.{least}
use Rattle.pv_audit.specs.Reasons.{descriptors_for}
use Rattle.pv_exposure.proofs.EditReasons.{edit-writes, edit-pledged, edit-table}
use Rattle.pv_exposure.proofs.edit.edit.Goals as goal

pub returns-in-Some : goal.returns-in-Some
returns-in-Some c = λ p at.
    let s = c.args.parts.now in
    let f = c.args.node in
    let owned = same_Some c.record-record.result.now (record_of p) (sym c.record-record.ensures ∙ ap (option_map record_of) at) in
    let is : least (descriptors_for s.files p.descriptors f permission_w) ≡ Some c.in-Some.d =
    sym (λ i. least (descriptors_for (c.files.ensures i) (owned i).descriptors f permission_w)) ∙ sym c.least_writing.ensures ∙ c.in-Some.is in
    sym (edit-writes s p f c.in-Some.d is)

pub returns-then-is_pledged_without : goal.returns-then-is_pledged_without
returns-then-is_pledged_without c = λ p at.
    let s = c.args.parts.now in
    let f = c.args.node in
    let owned = same_Some c.record-record.result.now (record_of p) (sym c.record-record.ensures ∙ ap (option_map record_of) at) in
    let none : least (descriptors_for s.files p.descriptors f permission_w) ≡ None =
    sym (λ i. least (descriptors_for (c.files.ensures i) (owned i).descriptors f permission_w)) ∙ sym c.least_writing.ensures ∙ c.in_default.is in
    let pledged : is_pledged_without (Wpath ∷ ExecPromise ∷ []) p ≡ true =
    ap (λ (r : ProcessRecord). has_none_of (Wpath ∷ ExecPromise ∷ []) r.pledge.promises) (sym owned) ∙ sym c.is_pledged_without.ensures ∙ c.if-is_pledged_without.true in
    sym (edit-pledged s p f none pledged)

pub returns : goal.returns
returns c = λ p at.
    let s = c.args.parts.now in
    let f = c.args.node in
    let owned = same_Some c.record-record.result.now (record_of p) (sym c.record-record.ensures ∙ ap (option_map record_of) at) in
    let none : least (descriptors_for s.files p.descriptors f permission_w) ≡ None =
    sym (λ i. least (descriptors_for (c.files.ensures i) (owned i).descriptors f permission_w)) ∙ sym c.least_writing.ensures ∙ c.in_default.is in
    let not_pledged : is_pledged_without (Wpath ∷ ExecPromise ∷ []) p ≡ false =
    ap (λ (r : ProcessRecord). has_none_of (Wpath ∷ ExecPromise ∷ []) r.pledge.promises) (sym owned) ∙ sym c.is_pledged_without.ensures ∙ c.if-is_pledged_without.false in
    c.reason_of_table.ensures p at ∙ sym (edit-table s p f none not_pledged)
