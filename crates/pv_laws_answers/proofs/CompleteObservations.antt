-- If a search is complete, each item that is observed of a step of a live process is reported.
use Rattle.std.proofs.Common.{◌≡◌, ◌∙◌, sym, ap, subst, ℕ, true, bytes_eq, List, [], map, Option, None, Some, ◌⊎◌, inl, inr, refl}
use Rattle.std.specs.List.{AllByRecursion, list_any}
use Rattle.pv_model.specs.Machine.{Found, Move, move, moves_of, states_found, is_complete, Numbers, Observer, Observation, observed, observations, first_observations, Bytes, live_processes, Program, Process, State, process_at, step, run}
use Rattle.pv_model.specs.Answers.Observed.{observations_at}
use Rattle.pv_laws_trees.proofs.DirectoryEntries.{bytes_eq-itself}
use Rattle.pv_laws_answers.specs.Search.{IsSearchable}
use Rattle.pv_laws_answers.proofs.CompleteSearches.{found-there, all-found}
use Rattle.pv_laws_answers.proofs.Lists.{Among, among-map, among-flat, any-among, each-from_among}
use Rattle.pv_laws_answers.proofs.LiveProcesses.{live-listed}
use Rattle.pv_laws_answers.proofs.NewKeys.{new-like}

module _ {X : Type 0} (observe : Observer X) (key : X → Numbers) (program_of : Bytes → Option Program) (limit : ℕ) (s : State) (it : IsSearchable program_of limit s) where
  abbrev found : List Found
  found = states_found program_of limit s

  abbrev reported : List (Observation X)
  reported = first_observations key (observations observe program_of limit s)

  -- an item observed of a step from a visited state is reported
  pub seen-reported : (g : Found) → Among g found → (m : Move) → Among m (moves_of program_of g) → (x : X) → Among x (observe g.state m.pid m.stepped)
      → list_any (λ o. bytes_eq (key o.item) (key x)) reported ≡ true
  seen-reported g within m own x has =
      let here = among-flat (λ (m : Move). map (observed m) (observe g.state m.pid m.stepped)) m (observed m x) (moves_of program_of g) own (among-map (observed m) x (observe g.state m.pid m.stepped) has) in
      let all = among-flat (observations_at observe program_of) g (observed m x) found within here in
      like (new-like (λ (o : Observation X). key o.item) [] (observations observe program_of limit s) (observed m x) all)
    where
      like : Among (key x) [] ⊎ ((o : Observation X) × Among o reported × (key o.item ≡ key x)) → list_any (λ o. bytes_eq (key o.item) (key x)) reported ≡ true
      like (inl none) = absurd none
      like (inr o) = any-among (λ (o : Observation X). bytes_eq (key o.item) (key x)) o.0 reported o.1 (ap (λ k. bytes_eq k (key x)) o.2 ∙ bytes_eq-itself (key x))

  -- if the search is complete, each item observed of a step of a live process is reported
  pub all-observed : is_complete program_of limit s ≡ true → (pids : List ℕ) (pid : ℕ) (p : Process) → process_at (run program_of pids s).final pid ≡ Some p
      → (x : X) → Among x (observe (run program_of pids s).final pid (step program_of (run program_of pids s).final pid))
      → list_any (λ o. bytes_eq (key o.item) (key x)) reported ≡ true
  all-observed complete pids pid p lives x has =
      let there = found-there (run program_of pids s).final found (all-found program_of limit s it complete pids) in
      let g = there.0 in
      let own = among-map (λ (r : ℕ × Process). move program_of g r.0) (pid, p) (live_processes g.state.processes) (live-listed g.state pid p (ap (λ u. process_at u pid) there.2 ∙ lives)) in
      seen-reported g there.1 (move program_of g pid) own x (subst (λ (u : State). Among x (observe u pid (step program_of u pid))) (sym there.2) has)
