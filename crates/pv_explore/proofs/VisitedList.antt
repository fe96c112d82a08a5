-- The visited states, one at a time.
use Rattle.std.proofs.Common.{◌≡◌, ◌∙◌, sym, ap, ap₂, ℕ, ◌≤◌, Bool, List, [], ◌∷◌, length, map, slice_get, Option, None, Some, option_map, refl}
use Rattle.std.specs.List.{AllByRecursion}
use Rattle.std.proofs.lemmas.List.{length-map}
use Rattle.std.proofs.lemmas.Option.{slice_get-map}
use Rattle.pv_explore.specs.Observing.{no_text}
use Rattle.pv_explore.specs.Plan.{Visited, first_visited, reported_from, state_at, visited_from}
use Rattle.pv_explore.specs.Visiting.{Visits, found_at, visits_of, visited_states}
use Rattle.pv_explore.proofs.PlannedSearch.{Finds, plan-found, witness_of_found}
use Rattle.pv_model.specs.Machine.{Found, states_found, program_of, State}

module _ (s : State) where
  pub states-at : (found : List Found) → AllByRecursion (λ f. f.state ≡ state_at program_of s f.witness) found → map (found_at s) (map witness_of_found found) ≡ found
  states-at [] sound = refl
  states-at (f ∷ found) sound =
      let one : found_at s f.witness ≡ f = λ i. record { witness = f.witness; state = sym sound.0 i } in
      ap₂ (λ (x : Found) (xs : List Found). x ∷ xs) one (states-at found sound.1)

  pub visits-many : (witnesses : List (List ℕ)) (complete : Bool) (count : ℕ) → count ≡ length witnesses → count ≡ length (visits_of s witnesses complete).found
  visits-many witnesses complete count many = many ∙ sym (length-map witnesses (found_at s))

  module _ (limit : ℕ) (visited : Visited) (some : 1 ≤ limit) (is : visited ≡ visited_from no_text limit program_of s limit 0 (first_visited s)) where
    pub visits-are : visits_of s visited.witnesses visited.complete ≡ visited_states limit s
    visits-are =
        let it : Finds no_text program_of limit s (reported_from no_text limit program_of s limit 0 (first_visited s)) visited = plan-found no_text program_of limit s some visited is in
        let found : map (found_at s) visited.witnesses ≡ states_found program_of limit s = ap (map (found_at s)) it.keeps.witnesses ∙ states-at (states_found program_of limit s) it.sound in
        λ i. record { found = found i; complete = it.keeps.complete i }
