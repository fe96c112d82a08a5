use Rattle.std.proofs.Common.{◌∙◌, ◌+◌, ◌++◌, ◌∷◌, [], List, append-nil, append_assoc, ap, ap₂, bytes_eq, drop, if◌then◌else◌, sym}
use Rattle.std.specs.List.{list_any}
use Rattle.std.proofs.lemmas.List.{drop_all, drop_more}
use Rattle.pv_model.specs.Machine.{Bytes}
use Rattle.pv_exposure.specs.Collected.{Recorded}
use Rattle.pv_exposure.specs.Stored.{all_recorded, recorded_in}
use Rattle.pv_exposure.specs.declared.findings.StoredFinding.{StoredFinding}
use Rattle.pv_exposure.proofs.ListTexts.{all-left, left-next, lines_left, lines_of_text}
use Rattle.pv_exposure.proofs.text.append_findings.Goals as goal

pub loop-finding-init : goal.loop-finding-init
loop-finding-init c =
    let ks : List Recorded = all_recorded c.args.findings.now in
    let old = c.args.out.now.bytes.items in
    ap (λ (seen : List Bytes). old ++ lines_left c.args.kind ks seen ks) c.new-seen.ensures ∙ ap (λ (bs : Bytes). old ++ bs) (all-left c.args.kind ks)

pub loop-finding-preserved : goal.loop-finding-preserved
loop-finding-preserved c =
    let ls = c.args.findings.now in
    let ks : List Recorded = all_recorded ls in
    let i = c.loop-finding.finding-index in
    let x = c.finding-item.result in
    let out = c.loop-finding.out.bytes.items in
    let seen : List Bytes = c.loop-finding.seen in
    let rest : List Recorded = all_recorded (drop (i + 1) ls) in
    let next = drop_more ls i x c.loop-finding-test.true ∙ ap (λ (y : StoredFinding). y ∷ drop (i + 1) ls) (sym c.finding-item.is) in
    let file = c.deref.ensures.value in
    ap₂ (λ (bs : Bytes) (had : List Bytes). bs ++ lines_left c.args.kind ks had rest)
    (c.in_ok-append_unseen.ensures.out ∙ ap (λ (f : Bytes). out ++ (if list_any (bytes_eq f) seen then [] else lines_of_text c.args.kind ks f)) file)
    (c.in_ok-append_unseen.ensures.seen ∙ ap (λ (f : Bytes). if list_any (bytes_eq f) seen then seen else seen ++ f ∷ []) file)
    ∙ append_assoc out (if list_any (bytes_eq x.file.items) seen then [] else lines_of_text c.args.kind ks x.file.items) (lines_left c.args.kind ks (if list_any (bytes_eq x.file.items) seen then seen else seen ++ x.file.items ∷ []) rest)
    ∙ ap (λ (bs : Bytes). out ++ bs) (sym (left-next c.args.kind ks seen (recorded_in x) rest))
    ∙ ap (λ (zs : List StoredFinding). out ++ lines_left c.args.kind ks seen (all_recorded zs)) (sym next)
    ∙ c.loop-finding.invariant

pub returns : goal.returns
returns c =
    let ls = c.args.findings.now in
    let ks : List Recorded = all_recorded ls in
    let out = c.loop-finding.out.bytes.items in
    sym (append-nil out) ∙ ap (λ (zs : List StoredFinding). out ++ lines_left c.args.kind ks c.loop-finding.seen (all_recorded zs)) (sym (drop_all c.loop-finding.finding-index ls c.loop-finding-test.false)) ∙ c.loop-finding.invariant
