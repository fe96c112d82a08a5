-- After a schedule with fewer steps than asked no process is ready, and in a state that a run reaches none is live.
use Rattle.std.proofs.Common.{◌≡◌, ◌≢◌, ◌∙◌, ℕ, ◌<◌, ◌≤◌, Bool, true, false, nat_le, nat_lt, List, [], ◌∷◌, ◌++◌, length, map, Option, None, Some, refl, sym, ap, subst, option_map, option_and_then, arith}
use Rattle.std.specs.Prelude.{IsSome, codes, is_some}
use Rattle.std.specs.List.{filter}
use Rattle.std.proofs.lemmas.Bool.{le-leb, ltb-false}
use Rattle.pv_model.specs.declared.call.Call.{Call}
use Rattle.pv_model.specs.declared.outcome.Outcome.{Outcome}
use Rattle.pv_model.specs.declared.outcome.Outcome.TheVariants.{Blocked, Gone}
use Rattle.pv_model.specs.Machine.{answer, first_of, continues, next_turn, turns, Bytes, program_of as programs, live_processes, Next, calls_for, inside, next, Process, Program, State, first_state, process_at, Run, Stepped, boot, run, step, step_by, Tree, find_entry, node_at, root}
use Rattle.pv_model.specs.Answers.Turns.{live_after}
use Rattle.pv_model.specs.Step.{init_program}
use Rattle.pv_model.proofs.RunComposition.{run-append}
use Rattle.pv_laws_answers.proofs.OfLawsStates.CallOutcomes.{gone-leaves}
use Rattle.pv_laws_answers.proofs.OfLawsAccess.ProcessesAfterEnds.{step-is}
use Rattle.pv_laws_answers.specs.Waits.{HasUnblockedProcess, ParentsHaveLesserNumbers}
use Rattle.pv_laws_answers.proofs.Lists.{Among, among-filter, among-left, among-map, among-right}
use Rattle.pv_laws_answers.proofs.LiveProcesses.{live-listed}
use Rattle.pv_laws_answers.proofs.ParentNumbers.{first-older}
use Rattle.pv_laws_answers.proofs.WaitingProcesses.{run-older, some-continues}
use Rattle.pv_laws_runs.specs.Runs.{IsReachedFrom}
use Rattle.pv_laws_runs.specs.Turns.{AllReady, NoneLive, NoneReady, steps_by_turns}
use Rattle.pv_laws_runs.proofs.ProgramRanges.{program_of-encodes}
use Rattle.pv_laws_runs.proofs.StartingStates.{boot-valid, given-first, reached-valid}
use Rattle.pv_laws_runs.proofs.ReadyTurns.{within-end, within-few, within-ready}

module _ (program_of : Bytes → Option Program) where
  -- ---- a live process whose next step is not a blocked wait can make a step

  continues-unless : (s : State) (pid : ℕ) (p : Process) → process_at s pid ≡ Some p → (call : Call) (o : Outcome) → (answer program_of s pid call).outcome ≡ o → o ≢ Blocked
      → continues o ≡ true
  continues-unless s pid p at call Blocked is free = absurd (free refl)
  continues-unless s pid p at call Gone is free = let none = (gone-leaves program_of s pid call is).not_live in cc (none, at)
  continues-unless s pid p at call o is free = refl

  ready-continues : (s : State) (pid : ℕ) (p : Process) → process_at s pid ≡ Some p → (step program_of s pid).outcome ≢ Blocked → continues (step program_of s pid).outcome ≡ true
  ready-continues s pid p at free =
      subst (λ (w : Stepped). continues w.outcome ≡ true) (sym (step-is program_of s pid p at))
      (by (next p) (subst (λ (w : Stepped). w.outcome ≢ Blocked) (step-is program_of s pid p at) free))
    where
      by : (n : Next) → (step_by program_of s pid p n).outcome ≢ Blocked → continues (step_by program_of s pid p n).outcome ≡ true
      by (inside q) free = refl
      by (calls_for call) free = continues-unless s pid p at call (answer program_of s pid call).outcome refl free

  -- ---- every live process is considered for the next turn

  first-none : {X : Type 0} (xs : List X) → first_of xs ≡ None → (x : X) → Among x xs → ⊥
  first-none [] is x h = h
  first-none (y ∷ ys) is x h = cc is

  live-considered : (last : ℕ) (s : State) (pid : ℕ) (p : Process) → process_at s pid ≡ Some p → Among pid (live_after last s)
  live-considered last s pid p at = by (nat_lt last pid) refl
    where
      there : Among pid (map (λ (q : ℕ × Process). q.0) (live_processes s.processes))
      there = among-map (λ (q : ℕ × Process). q.0) (pid, p) (live_processes s.processes) (live-listed s pid p at)

      by : (b : Bool) → nat_lt last pid ≡ b → Among pid (live_after last s)
      by true is =
          among-left pid (filter (λ other. nat_lt last other) (map (λ q. q.0) (live_processes s.processes))) (filter (λ other. nat_le other last) (map (λ q. q.0) (live_processes s.processes)))
          (among-filter (λ other. nat_lt last other) pid (map (λ q. q.0) (live_processes s.processes)) there is)
      by false is =
          among-right pid (filter (λ other. nat_lt last other) (map (λ q. q.0) (live_processes s.processes))) (filter (λ other. nat_le other last) (map (λ q. q.0) (live_processes s.processes)))
          (among-filter (λ other. nat_le other last) pid (map (λ q. q.0) (live_processes s.processes)) there (le-leb pid last (ltb-false last pid is)))

  nobody-next : (last : ℕ) (s : State) → next_turn program_of last s ≡ None → NoneReady program_of s
  nobody-next last s none pid ready = by (process_at s pid) refl ready.live
    where
      by : (o : Option Process) → process_at s pid ≡ o → IsSome o → ⊥
      by None is live = cc live
      by (Some p) is live =
          first-none (filter (λ other. continues (step program_of s other).outcome) (live_after last s)) none pid
          (among-filter (λ other. continues (step program_of s other).outcome) pid (live_after last s) (live-considered last s pid p is) (ready-continues s pid p is ready.free))

  -- ---- schedules

  pub turns-ready : (slice steps : ℕ) (s : State) → AllReady program_of (steps_by_turns program_of slice steps s) s
  unfolding turns
  turns-ready slice steps s = within-ready program_of slice steps steps 0 s

  pub turns-within : (slice steps : ℕ) (s : State) → length (steps_by_turns program_of slice steps s) ≤ steps
  unfolding turns
  turns-within slice steps s = within-few program_of slice steps steps 0 s

  pub turns-idle : (slice steps : ℕ) (s : State) → 1 ≤ slice → length (steps_by_turns program_of slice steps s) < steps
      → NoneReady program_of (run program_of (steps_by_turns program_of slice steps s) s).final
  unfolding turns
  turns-idle slice steps s some fewer =
      let ends = within-end program_of slice some steps steps 0 s (omega arith) fewer in
      nobody-next ends.0 (run program_of (steps_by_turns program_of slice steps s) s).final ends.1

-- ---- reached states

-- parents are older in the first state
booted-older : (t : Tree) (s : State) → boot programs t ≡ Some s → ParentsHaveLesserNumbers s
booted-older t s is = by (init_program programs t (option_and_then (node_at t) (find_entry t root (codes "init")))) is
  where
    by : (o : Option Program) → option_map (first_state t) o ≡ Some s → ParentsHaveLesserNumbers s
    by None is = cc is
    by (Some program) is = let same : first_state t program ≡ s = cc is in subst ParentsHaveLesserNumbers same (first-older t program)

reached-older : (bytes : Bytes) (s : State) → IsReachedFrom bytes s → ParentsHaveLesserNumbers s
reached-older bytes s is =
    subst ParentsHaveLesserNumbers is.reaches
    (run-older programs program_of-encodes is.pids is.first (boot-valid is.tree is.first (given-first bytes is.tree is.given) is.boots) (booted-older is.tree is.first is.boots))

pub idle-dead : (bytes : Bytes) (s : State) → IsReachedFrom bytes s → NoneReady programs s → NoneLive s
idle-dead bytes s is idle pid = by (process_at s pid) refl
  where
    by : (o : Option Process) → process_at s pid ≡ o → process_at s pid ≡ None
    by None none = none
    by (Some p) at =
        let on : HasUnblockedProcess programs s = some-continues programs s (reached-valid bytes s is) (reached-older bytes s is) pid p at in
        absurd (idle on.pid (record { live = ap (λ (o : Option Process). is_some o) on.lives; free = on.goes }))

pub dead-idle : (s : State) → NoneLive s → NoneReady programs s
dead-idle s dead pid ready = let none = ap (λ (o : Option Process). is_some o) (dead pid) in cc (none, ready.live)

-- a run from a reached state
pub reached-further : (bytes : Bytes) (s : State) (pids : List ℕ) → IsReachedFrom bytes s → IsReachedFrom bytes (run programs pids s).final
reached-further bytes s pids is = record {
  tree = is.tree;
  given = is.given;
  first = is.first;
  boots = is.boots;
  pids = is.pids ++ pids;
  reaches = ap (λ (r : Run). r.final) (run-append programs is.pids pids is.first) ∙ ap (λ (t : State). (run programs pids t).final) is.reaches;
}

pub turns-dead : (bytes : Bytes) (slice steps : ℕ) (s : State) → IsReachedFrom bytes s → 1 ≤ slice → length (steps_by_turns programs slice steps s) < steps
    → NoneLive (run programs (steps_by_turns programs slice steps s) s).final
turns-dead bytes slice steps s is some fewer =
    idle-dead bytes (run programs (steps_by_turns programs slice steps s) s).final (reached-further bytes s (steps_by_turns programs slice steps s) is)
    (turns-idle programs slice steps s some fewer)
