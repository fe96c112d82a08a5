use Rattle.std.proofs.Common.{◌≡◌, ◌∙◌, ◌≤◌, Some, ap, sym, subst}
use Rattle.std.specs.FinMap.Entries.{find}
use Rattle.std.specs.Ordering.{nat_cmp}
use Rattle.std.specs.Prelude.{IfOk, option_map, unwrap_or}
use Rattle.pv_model.specs.Machine.{done, parent_of, returns as returns_number, Process, process_at}
use Rattle.pv_calls_state.specs.OfProcs.ProcessTable.{ProcessTable}
use Rattle.pv_laws_states.proofs.ValidByProcess.{good-getppid}
use Rattle.pv_laws_states.proofs.ReferenceMembers.{live-found}
use Rattle.pv_calls_plain.specs.Performed.{attempt_of}
use Rattle.pv_calls_state.proofs.UncountedChanges.{some-at}
use Rattle.pv_calls_plain.proofs.processes.getppid.Goals as goal

parent-is : (c : goal.After-answer_of) (me : Process) → process_at c.args.parts.now c.args.pid ≡ Some me → c.unwrap_or.result ≡ me.parent
parent-is c me at =
    c.unwrap_or.ensures
    ∙ ap (λ o. unwrap_or o 0)
    (c.parent_of.ensures ∙ ap (λ (ps : ProcessTable). option_map parent_of (find nat_cmp c.args.pid ps.processes)) c.processes.ensures
    ∙ ap (option_map parent_of) (live-found c.args.parts.now c.args.pid me at))

pub returns : goal.returns
returns c =
    let s = c.args.parts.now in
    let found = some-at (process_at s c.args.pid) c.requires.live in
    record {
      performed = record {
        as_defined = λ me at. ap (λ x. done 0 (x, returns_number me.parent)) c.invariant.ensures.collected ∙ ap (λ n. done 0 (s, returns_number n)) (sym (parent-is c me at)) ∙ ap (attempt_of s) (sym c.answer_of.ensures);
        unchanged = rw c.answer_of.ensures tt;
        small = subst (λ r. IfOk r (λ d. d.value ≤ 2147483647)) (sym c.answer_of.ensures)
            (subst (λ n. n ≤ 2147483647) (sym (parent-is c found.0 found.1)) (good-getppid s c.args.pid found.0 c.requires.whole found.1).1);
      };
    }
