-- Each visited state is reached by its witness, and the properties of the finished search.
use Rattle.std.proofs.Common.{◌≡◌, ◌∙◌, sym, ap, subst, ℕ, ◌≤◌, Bool, true, List, [], ◌∷◌, ◌++◌, Option, Some, is_some, inl, refl, arith}
use Rattle.pv_model.specs.Machine.{Found, Move, move, moves_of, found_by, states_found, same_state, Bytes, live_processes, Program, Process, State, process_at, Run, step, run}
use Rattle.pv_model.proofs.RunComposition.{run-append}
use Rattle.pv_laws_states.specs.States.{EncodesPrograms, IsValid}
use Rattle.pv_laws_states.proofs.ValidBySteps.{step-keeps_valid}
use Rattle.pv_laws_answers.specs.Witnesses.{AreSteps, IsWitness}
use Rattle.pv_laws_answers.proofs.Lists.{Among, each-from_among, map-among}
use Rattle.pv_laws_answers.proofs.LiveProcesses.{listed-live, moves-ascending}
use Rattle.pv_laws_answers.proofs.StateDecoding.{reported-apart}
use Rattle.pv_laws_answers.proofs.SearchInvariant.{Decides, Finished, StepsAreSound, searched}

-- ---- the search of all states: each state is a class of its own

abbrev pub state_of : Found → State
state_of f = f.state

abbrev pub are_same_state : Found → Found → Bool
are_same_state f g = same_state f.state g.state

pub states-decided : Decides state_of are_same_state
states-decided f g = reported-apart f.state g.state

module _ (program_of : Bytes → Option Program) where
  steps-more : (witness : List ℕ) (pid : ℕ) (s : State) → AreSteps program_of witness s → is_some (process_at (run program_of witness s).final pid) ≡ true → AreSteps program_of (witness ++ pid ∷ []) s
  steps-more [] pid s steps lives = (lives, tt)
  steps-more (other ∷ witness) pid s steps lives = (steps.0, steps-more witness pid (step program_of s other).after steps.1 lives)

  -- one more step of a live process
  pub witness-more : (s t : State) (witness : List ℕ) (pid : ℕ) → IsWitness program_of s witness t → is_some (process_at t pid) ≡ true → IsWitness program_of s (witness ++ pid ∷ []) (step program_of t pid).after
  witness-more s t witness pid it lives = record {
    steps = steps-more witness pid s it.steps (subst (λ (u : State). is_some (process_at u pid) ≡ true) (sym it.leads) lives);
    leads = ap (λ (r : Run). r.final) (run-append program_of witness (pid ∷ []) s) ∙ ap (λ u. (step program_of u pid).after) it.leads;
  }

  module _ (s : State) where
    -- a visited state is valid, and its witness leads to it
    pub record IsSound (f : Found) : Type 0 where
      pub whole : IsValid f.state
      pub witness : IsWitness program_of s f.witness f.state

    -- the steps from a visited state are of live processes
    pub made-by : (f : Found) (m : Move) → IsValid f.state → Among m (moves_of program_of f) → (p : Process) × (process_at f.state m.pid ≡ Some p) × (m ≡ move program_of f m.pid)
    made-by f m whole within =
        let from = map-among (λ (p : ℕ × Process). move program_of f p.0) m (live_processes f.state.processes) within in
        let live = listed-live f.state from.0.0 from.0.1 whole.processes.ascending from.1 in
        let pid = ap (λ (n : Move). n.pid) from.2 in
        (from.0.1, ap (process_at f.state) pid ∙ live, from.2 ∙ ap (move program_of f) (sym pid))

    -- the visited states when all steps are made
    abbrev pub IsFinished : ℕ → List Found → Type 0
    IsFinished limit found = Finished state_of are_same_state states-decided (moves_of program_of) limit IsSound (record { witness = []; state = s } ∷ []) found

    module _ (encodes : EncodesPrograms program_of) where
      sound-move : (f : Found) (m : Move) → IsSound f → Among m (moves_of program_of f) → IsSound (found_by m)
      sound-move f m it within =
          let made = made-by f m it.whole within in
          subst (λ (n : Move). IsSound (found_by n)) (sym made.2) (record {
            whole = step-keeps_valid program_of encodes f.state m.pid it.whole;
            witness = witness-more s f.state f.witness m.pid it.witness (ap is_some made.1);
          })

      steps-sound : (limit : ℕ) → StepsAreSound state_of are_same_state states-decided (moves_of program_of) limit IsSound
      steps-sound limit f it =
          (moves-ascending program_of f it.whole.processes.ascending, each-from_among (λ m. IsSound (found_by m)) (moves_of program_of f) (λ m. sound-move f m it))

      -- the search from a valid state
      pub search-finished : (limit : ℕ) → 1 ≤ limit → IsValid s → IsFinished limit (states_found program_of limit s)
      unfolding states_found
      search-finished limit some whole =
          searched state_of are_same_state states-decided (moves_of program_of) limit IsSound (steps-sound limit) limit 0 (record { witness = []; state = s } ∷ []) [] (record { witness = []; state = s } ∷ [])
          (record {
            parts = refl;
            at = refl;
            sound = (record { whole = whole; witness = record { steps = tt; leads = refl } }, tt);
            rising = (tt, tt);
            different = (tt, tt);
            count = some;
            under = ((λ p. inl (omega arith)), tt);
            leads = tt;
          }) (omega arith)
