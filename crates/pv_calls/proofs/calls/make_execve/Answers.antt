use Rattle.std.proofs.Common.{◌∙◌, ap, sym, subst, Ok, Err}
use Rattle.std.specs.Prelude.{IsSome}
use Rattle.pv_model.specs.declared.call.Call.TheVariants.{Execve}
use Rattle.pv_model.specs.Machine.{at_next_line, effect, update, execve, program_of, process_at, with_process}
use Rattle.pv_laws_states.proofs.Processes.{update-is}
use Rattle.pv_audit.specs.OfCallsState.Attempts.{collected_attempt}
use Rattle.pv_calls_path.specs.Execve.{Executes}
use Rattle.pv_audit.proofs.OfCallsState.UncountedChanges.{some-at}
use Rattle.pv_calls.proofs.CallAnswers.{next-live}
use Rattle.pv_calls.proofs.ExecveSteps.{execve-next}
use Rattle.pv_calls.proofs.LiveCallers.{lives}
use Rattle.pv_calls.proofs.StatesAfterCalls.{performed-live}
use Rattle.pv_calls.proofs.calls.make_execve.Goals as goal

pub report-requires-clause-live : goal.report-requires-clause-live
unfolding effect
report-requires-clause-live g c =
    let s = c.args.system.now.parts in
    let mine = some-at (process_at s c.args.pid) c.requires.caller.live in
    performed-live s c.execve.new.system.parts c.args.pid (Ok c.in-Ok.reported) (execve s c.args.pid mine.0 program_of c.args.path.now) (c.in-Ok.ensures.performed mine.0 mine.1) tt c.requires.caller.live
    (lives s c.args.pid mine.0 mine.1 c.requires.caller.whole (Execve c.args.path.now))

pub report-requires-in-Err-Refused-clause-live : goal.report-requires-in-Err-Refused-clause-live
report-requires-in-Err-Refused-clause-live g c =
    next-live c.execve.new.system.parts c.advance.new.self c.args.pid c.advance.ensures (subst (λ x. IsSome (process_at x c.args.pid)) (sym c.in-Err-Refused.ensures.unchanged) c.requires.caller.live)

pub returns-in-Ok-clause-carried : goal.returns-in-Ok-clause-carried
unfolding effect
returns-in-Ok-clause-carried g c = λ me at.
    let s = c.args.system.now.parts in
    let next = with_process s c.args.pid (at_next_line me) in
    c.report.ensures.reported s next (at_next_line me) (execve next c.args.pid (at_next_line me) program_of c.args.path.now)
    (ap collected_attempt (execve-next s c.args.pid me c.args.path.now) ∙ c.in-Ok.ensures.performed me at) tt

pub returns-in-Err-Refused-clause-carried : goal.returns-in-Err-Refused-clause-carried
unfolding effect
returns-in-Err-Refused-clause-carried g c = λ me at.
    let s = c.args.system.now.parts in
    let next = with_process s c.args.pid (at_next_line me) in
    c.report-in-Err-Refused.ensures.reported s next (at_next_line me) (execve next c.args.pid (at_next_line me) program_of c.args.path.now)
    (ap collected_attempt (execve-next s c.args.pid me c.args.path.now) ∙ subst (λ f. Executes s c.args.pid me c.args.path.now c.execve.new.system.parts (Err f)) c.in-Err-Refused.field-0-is (c.in-Err-Refused.ensures.performed me at))
    (c.advance.ensures ∙ ap (λ x. update x c.args.pid at_next_line) c.in-Err-Refused.ensures.unchanged ∙ update-is s c.args.pid at_next_line me at)

pub returns-in-Err-Memory-clause-memory : goal.returns-in-Err-Memory-clause-memory
returns-in-Err-Memory-clause-memory g c = λ me at.
    let s = c.args.system.now.parts in
    subst (λ f. Executes s c.args.pid me c.args.path.now c.execve.new.system.parts (Err f)) c.in-Err-Memory.field-0-is (c.in-Err-Memory.ensures.performed me at)
