use Rattle.std.proofs.Common.{◌≡◌, ◌∙◌, ◌&&◌, [], ap, cond, is_some, map, not, option_map, refl, subst, sym, Some}
use Rattle.std.proofs.lemmas.Result.{on_ok_weaker}
use Rattle.pv_needs.proofs.OfCallsPath.CheckedWalks.{recorded}
use Rattle.pv_model.specs.Machine.{is_unveil, call_of, entries_of_table, Process, process_at}
use Rattle.pv_procs.specs.ProcessTable.{ProcessTable, process_in}
use Rattle.pv_procs.specs.declared.record.ProcessRecord.{ProcessRecord}
use Rattle.pv_promises.specs.Pledge.{bits_of}
use Rattle.pv_policy.specs.Asked.{entry_granted}
use Rattle.pv_policy.specs.Usage.{Noted, and_call}
use Rattle.pv_policy.proofs.RecordedCalls.{recorded-call}
use Rattle.pv_policy.proofs.note.note_call.Goals as goal

pub returns : goal.returns
returns c = on_ok_weaker c.keep_call.result (λ e me lives counted.
    let s = c.args.parts.now in
    let pid = c.args.pid in
    let call = call_of c.args.call in
    let r = c.record-record.result.now in
    let is = recorded (process_at s pid) me r lives c.record-record.ensures in
    let table = sym (ap (λ (x : ProcessRecord). x.unveiled.table) is) in
    let n : Noted = record {
      by = c.args.by.now;
      pid = pid;
      program = c.program.result.now;
      call = call;
      line = c.line.result;
      pledged = bits_of c.promises.result;
      walks = c.deref.result.now;
      held = c.rows_if.result.now;
      used = c.rows_if-2.result.now;
    } in
    let found : option_map (λ (p : Process). p.program) (process_at s pid) ≡ Some c.program.result.now =
    subst (λ (ps : ProcessTable). option_map (λ (p : Process). p.program) (process_in ps pid) ≡ Some c.program.result.now) c.processes.ensures c.program.ensures in
    let both : Some me.program ≡ Some c.program.result.now = sym (ap (option_map (λ (p : Process). p.program)) lives) ∙ found in
    let program : c.program.result.now ≡ me.program = cc both in
    let restricted = c.is_restricted-restricted.ensures ∙ ap (λ t. is_some t && not (is_unveil call)) table in
    let held = c.deref-2.ensures.value ∙ c.in_ok-held.ensures ∙ (λ i. map (λ e. entry_granted (c.tree.ensures i) e.0 e.1) (entries_of_table (table i))) in
    e
    ∙ ap (and_call c.args.programs.now.items)
    (recorded-call c.args.by.now s pid me call lives n refl refl program refl
    (c.line.ensures ∙ sym (ap (λ (x : ProcessRecord). x.context.line) is))
    (c.promises.ensures ∙ sym (ap (λ (x : ProcessRecord). x.pledge.promises) is))
    c.in_ok-asked.asked c.args.walks counted (c.in_ok-asked.ensures me lives)
    c.deref.ensures.value
    (c.rows_if.ensures ∙ (λ i. cond (restricted i) (held i) []))
    (c.rows_if-2.ensures ∙ (λ i. cond (restricted i) (c.deref-3.ensures.value i) []))))
    c.keep_call.ensures
