use Rattle.std.proofs.Common.{◌∙◌, ◌≤◌, ap, sym, subst}
use Rattle.std.specs.Prelude.{IfOk}
use Rattle.pv_model.specs.Machine.{done, returns as returns_number, process_at}
use Rattle.pv_laws_states.proofs.ValidByProcess.{good-getpid}
use Rattle.pv_calls_state.proofs.UncountedChanges.{some-at}
use Rattle.pv_calls_plain.specs.Performed.{attempt_of}
use Rattle.pv_calls_plain.proofs.processes.getpid.Goals as goal

pub returns : goal.returns
returns c =
    let s = c.args.parts.now in
    let found = some-at (process_at s c.args.pid) c.requires.live in
    record {
      performed = record {
        as_defined = λ me at. ap (λ x. done 0 (x, returns_number c.args.pid)) c.invariant.ensures.collected ∙ ap (attempt_of s) (sym c.answer_of.ensures);
        unchanged = rw c.answer_of.ensures tt;
        small = subst (λ r. IfOk r (λ d. d.value ≤ 2147483647)) (sym c.answer_of.ensures) (good-getpid s c.args.pid found.0 c.requires.whole found.1).1;
      };
    }
