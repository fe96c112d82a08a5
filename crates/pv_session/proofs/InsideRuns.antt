-- Several steps inside a process, as a run.
use Rattle.std.proofs.Common.{◌≡◌, ◌∙◌, ℕ, zero, suc, [], ap, sym, add-one, Some}
use Rattle.pv_laws_states.proofs.Processes.{process_at-same, with_process-twice}
use Rattle.pv_model.specs.Machine.{inside, next, Process, State, process_at, with_process, Run, Stepped}
use Rattle.pv_calls.specs.OfCallsState.Changes.{PassesInside}
use Rattle.pv_calls.specs.OfScript.Passing.{Passes}
use Rattle.pv_session.specs.Running.{run_of_turn}
use Rattle.pv_session.proofs.MachineSteps.{step-inside}
use Rattle.pv_session.proofs.TurnRuns.{following, one_step, single, turn_more}

-- a run without lines
abbrev pub silent : State → Run
silent final = record { lines = []; final = final }

inside-one : (s : State) (pid : ℕ) (me after : Process) → process_at s pid ≡ Some me → next me ≡ inside after → one_step s pid ≡ silent (with_process s pid after)
inside-one s pid me after at is = ap (λ (x : Stepped). let it : Run = record { lines = x.lines; final = x.after } in it) (step-inside s pid me after at is)

-- one instruction inside a process, and then n more
inside-more : (n : ℕ) (s : State) (pid : ℕ) (me after : Process) → process_at s pid ≡ Some me → Passes (suc n) me after → run_of_turn s pid (suc n) ≡ silent (with_process s pid after)
inside-more zero s pid me after at made = single s pid ∙ inside-one s pid made.0 after (at ∙ ap Some (sym made.1)) made.2
inside-more (suc n) s pid me after at made =
    let mid = with_process s pid made.0 in
    let before = inside-more n s pid me made.0 at made.1 in
    ap (run_of_turn s pid) (sym (add-one (suc n))) ∙ turn_more s mid pid (suc n) (sym (ap (λ (r : Run). r.final) before))
    ∙ ap (λ r. following r (one_step mid pid)) before
    ∙ ap (λ r. following (silent mid) r) (inside-one mid pid made.0 after (process_at-same s pid made.0) made.2)
    ∙ ap silent (with_process-twice s pid made.0 after)

-- instructions inside a process that were made at once are a turn without lines
pub passed-is : (s new : State) (pid n : ℕ) → PassesInside n pid s new → run_of_turn s pid n ≡ silent new
passed-is s new pid zero same = ap silent (sym same)
passed-is s new pid (suc n) made = inside-more n s pid made.me made.after made.lives made.step ∙ ap silent (sym made.only)
