-- A process shows the same data after a schedule and in a visited state, of the full search or of the reduced one.
use Rattle.std.proofs.Common.{◌≡◌, ap, ℕ, true, List, Option, Some, is_some}
use Rattle.pv_model.specs.Machine.{Found, states_found, is_complete, Bytes, Program, Process, State, process_at, run}
use Rattle.pv_laws_answers.specs.Search.{IsSearchable}
use Rattle.pv_laws_answers.specs.Witnesses.{AreSteps}
use Rattle.pv_laws_answers.proofs.CompleteSearches.{found-there, all-found}
use Rattle.pv_laws_answers.proofs.Lists.{Among}
use Rattle.pv_laws_answers.proofs.SearchInvariant.{visited}
use Rattle.pv_laws_answers.proofs.SoundStates.{IsSound}
use Rattle.pv_laws_classes.specs.Reduced.{reduced_found, is_reduced_complete}
use Rattle.pv_laws_classes.specs.Shown.{shown_in}
use Rattle.pv_laws_classes.proofs.ReducedSearch.{reduced-search}
use Rattle.pv_laws_classes.proofs.ShownLaws.{each-process}
use Rattle.pv_laws_classes.proofs.VisitedStates.{sound-at}
use Rattle.pv_laws_classes.proofs.ReducedProcesses.{themselves}

module _ (program_of : Bytes → Option Program) where
  -- states that are valid, with witnesses that lead to them
  abbrev pub AreSound : State → List Found → Type 0
  AreSound s fs = (f : Found) → Among f fs → IsSound program_of s f

  -- a state in which a process shows the same
  abbrev pub IsSeenIn : List Found → State → ℕ → Type 0
  IsSeenIn fs u pid = (g : Found) × Among g fs × (shown_in program_of g.state pid ≡ shown_in program_of u pid)

module _ (program_of : Bytes → Option Program) (limit : ℕ) (s : State) (it : IsSearchable program_of limit s) where
  pub seen-full : is_complete program_of limit s ≡ true → (pids : List ℕ) (pid : ℕ)
      → IsSeenIn program_of (states_found program_of limit s) (run program_of pids s).final pid
  seen-full complete pids pid =
      let there = found-there (run program_of pids s).final (states_found program_of limit s) (all-found program_of limit s it complete pids) in
      (there.0, there.1, ap (λ u. shown_in program_of u pid) there.2)

  pub seen-reduced : is_reduced_complete program_of s limit ≡ true → (pids : List ℕ) (pid : ℕ) (p : Process)
      → AreSteps program_of pids s → process_at (run program_of pids s).final pid ≡ Some p
      → IsSeenIn program_of (reduced_found program_of s limit) (run program_of pids s).final pid
  seen-reduced complete pids pid p steps live =
      let seen = each-process program_of limit s pids pid it complete steps (ap is_some live) in
      (seen.visited, themselves (reduced_found program_of s limit) seen.visited seen.within, seen.same)

  pub reduced-sound : AreSound program_of s (reduced_found program_of s limit)
  unfolding reduced_found visited
  reduced-sound f within = sound-at (reduced-search program_of s it.encodes it.whole) limit it.room f within
