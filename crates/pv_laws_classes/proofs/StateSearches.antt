-- Searches that make each step of a live process, and identify the states of one class.
use Rattle.std.proofs.Common.{◌≡◌, ◌≢◌, ◌∙◌, sym, ap, subst, ℕ, ◌≤◌, Bool, true, List, [], ◌∷◌, Option, None, Some, is_some, refl}
use Rattle.std.specs.List.{list_all}
use Rattle.pv_model.specs.Machine.{Found, Move, found_by, move, moves_of, move_text, has_ended, endings, same_state, tree_numbers, Bytes, live_processes, named_tree, Program, Process, State, process_at, step, run}
use Rattle.pv_model.specs.Step.{final_tree}
use Rattle.pv_laws_states.specs.States.{EncodesPrograms, IsValid}
use Rattle.pv_laws_answers.specs.Search.{IsSearchable, HasLeastWitness, text_of_step}
use Rattle.pv_laws_answers.specs.Witnesses.{AreSteps}
use Rattle.pv_laws_answers.proofs.CompleteSearches.{still}
use Rattle.pv_laws_answers.proofs.LeastWitnesses.{steps-split}
use Rattle.pv_laws_answers.proofs.Lists.{Among, among-map}
use Rattle.pv_laws_answers.proofs.LiveProcesses.{live-listed, moves-ascending}
use Rattle.pv_laws_answers.proofs.StateDecoding.{reported-apart}
use Rattle.pv_laws_answers.proofs.SearchInvariant.{is_known}
use Rattle.pv_laws_answers.proofs.SoundStates.{made-by}
use Rattle.pv_laws_classes.proofs.ClassFunctions.{AreClasses, equal-states}
use Rattle.pv_laws_classes.proofs.VisitedStates.{IsSearch, IsReached, begins, AreMade, made-reached, reported, made_moves, found, least, text-reported, ending-found}

-- the class of a visited state, and the test whether two are of one class
abbrev pub state_class : (State → State) → Found → State
state_class class_of f = class_of f.state

abbrev pub same_class : (State → State) → Found → Found → Bool
same_class class_of f g = same_state (class_of f.state) (class_of g.state)

module _ (program_of : Bytes → Option Program) where
  -- the step of a live process is made
  pub own-move : (g : Found) (pid : ℕ) → is_some (process_at g.state pid) ≡ true → Among (move program_of g pid) (moves_of program_of g)
  own-move g pid lives = by (process_at g.state pid) refl lives
    where
      by : (o : Option Process) → process_at g.state pid ≡ o → is_some o ≡ true → Among (move program_of g pid) (moves_of program_of g)
      by None none some = cc
      by (Some p) is some = among-map (λ (r : ℕ × Process). move program_of g r.0) (pid, p) (live_processes g.state.processes) (live-listed g.state pid p is)

  -- a search of states
  abbrev pub IsStateSearch : (State → State) → State → Type 0
  IsStateSearch class_of s = IsSearch program_of s (state_class class_of) (same_class class_of) (moves_of program_of)

  pub state-search : (class_of : State → State) → EncodesPrograms program_of → AreClasses class_of program_of → (s : State) → IsValid s → IsStateSearch class_of s
  state-search class_of encodes classes s whole = record {
    encodes = encodes;
    whole = whole;
    decides = λ f g. reported-apart (class_of f.state) (class_of g.state);
    ascending = λ f sound. moves-ascending program_of f sound.whole.processes.ascending;
    lives = λ f m within. within;
    like = λ f g m sound_f sound_g same within.
        let made = made-by program_of s f m sound_f.whole within in
        let alike = classes.steps f.state g.state m.pid sound_f.whole sound_g.whole (sym same) in (
          move program_of g m.pid,
          own-move g m.pid (alike.lives ∙ ap is_some made.1),
          record {
            pid = refl;
            lines = alike.lines ∙ ap (λ (n : Move). n.stepped.lines) (sym made.2);
            after = sym alike.after ∙ ap (λ (n : Move). class_of n.stepped.after) (sym made.2);
          },
        );
    ending = record { same_test = λ f g. classes.ended f.state g.state; same_key = λ f g same. ap (λ u. tree_numbers (named_tree u)) (classes.tree f.state g.state same) };
  }

  -- the search of all states
  pub full-search : (limit : ℕ) (s : State) → IsSearchable program_of limit s → IsStateSearch (λ t. t) s
  full-search limit s it = state-search (λ t. t) it.encodes (equal-states program_of) s it.whole

  -- ---- schedules

  steps-made : (pids : List ℕ) (f : Found) → AreSteps program_of pids f.state → AreMade program_of (moves_of program_of) pids f
  steps-made [] f steps = tt
  steps-made (pid ∷ pids) f steps = (own-move f pid steps.0, steps-made pids (found_by (move program_of f pid)) steps.1)

  -- the end of a schedule
  abbrev pub end : State → List ℕ → Found
  end s pids = record { witness = pids; state = (run program_of pids s).final }

  pub steps-reached : (s : State) (pids : List ℕ) → AreSteps program_of pids s → IsReached program_of s (moves_of program_of) (end s pids)
  steps-reached s pids steps = made-reached program_of s (moves_of program_of) pids (record { witness = []; state = s }) begins (steps-made pids (record { witness = []; state = s }) steps)

  -- the steps of live processes in a schedule have the same final state
  only-live : (pids : List ℕ) (s : State) → (live : List ℕ) × AreSteps program_of live s × ((run program_of live s).final ≡ (run program_of pids s).final)
  only-live [] s = ([], tt, refl)
  only-live (pid ∷ pids) s = by (process_at s pid) refl (only-live pids s) (only-live pids (step program_of s pid).after)
    where
      by : (o : Option Process) → process_at s pid ≡ o
          → (live : List ℕ) × AreSteps program_of live s × ((run program_of live s).final ≡ (run program_of pids s).final)
          → (live : List ℕ) × AreSteps program_of live (step program_of s pid).after × ((run program_of live (step program_of s pid).after).final ≡ (run program_of (pid ∷ pids) s).final)
          → (live : List ℕ) × AreSteps program_of live s × ((run program_of live s).final ≡ (run program_of (pid ∷ pids) s).final)
      by None none here next = (here.0, here.1, here.2 ∙ ap (λ u. (run program_of pids u).final) (sym (still program_of s pid none)))
      by (Some p) lives here next = (pid ∷ next.0, (ap is_some lives, next.1), next.2)

-- ---- the visited states and reported steps

module _ (class_of : State → State) {program_of : Bytes → Option Program} {s : State} (it : IsStateSearch program_of class_of s) (limit : ℕ) (room : 1 ≤ limit) where
  pub least-witness : (m : Move) → Among m (reported it limit room) → HasLeastWitness program_of s m
  least-witness m h pids pid steps text =
      let parts = steps-split program_of pids pid s steps in
      least it limit room m h (end program_of s pids) (move program_of (end program_of s pids) pid) (steps-reached program_of s pids parts.0) (own-move program_of (end program_of s pids) pid parts.1) text

  module _ (complete : list_all (λ m. is_known (same_class class_of) m (found it limit room)) (made_moves it limit room) ≡ true) where
    -- the text of each step is reported
    pub text-there : (pids : List ℕ) (pid : ℕ) → is_some (process_at (run program_of pids s).final pid) ≡ true → text_of_step program_of (run program_of pids s).final pid ≢ []
        → (m : Move) × Among m (reported it limit room) × (move_text m ≡ text_of_step program_of (run program_of pids s).final pid)
    text-there pids pid lives text =
        let live = only-live program_of pids s in
        subst (λ u. (m : Move) × Among m (reported it limit room) × (move_text m ≡ text_of_step program_of u pid)) live.2
        (text-reported it limit room complete (end program_of s live.0) (move program_of (end program_of s live.0) pid) (steps-reached program_of s live.0 live.1)
        (own-move program_of (end program_of s live.0) pid (ap (λ u. is_some (process_at u pid)) live.2 ∙ lives)) (λ none. text (ap (λ u. text_of_step program_of u pid) (sym live.2) ∙ none)))

    -- the tree that is left by a schedule after which no process is live is counted
    pub ending-there : (pids : List ℕ) → has_ended (run program_of pids s).final ≡ true → Among (final_tree program_of pids s) (endings (found it limit room))
    ending-there pids ended =
        let live = only-live program_of pids s in
        subst (λ u. Among (named_tree u.tree) (endings (found it limit room))) live.2
        (ending-found it limit room complete (end program_of s live.0) (steps-reached program_of s live.0 live.1) (ap has_ended live.2 ∙ ended))
