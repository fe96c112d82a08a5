-- The search of pairs as it is made gives the comparison of the definition.
use Rattle.std.proofs.Common.{◌≡◌, ◌∙◌, ap, ap₂, ℕ, ◌≤◌, Bool, true, false, ◌&&◌, ◌||◌, if◌then◌else◌, List, [], ◌∷◌, ◌++◌, length, flat_map, Option, refl}
use Rattle.std.proofs.lemmas.List.Folds.{list_any-append}
use Rattle.pv_model.specs.Machine.{Comparison, FoundPair, PairMove, alike, different, differs, comparison, pair_moves, state_numbers, Bytes, Program, State}
use Rattle.pv_model.specs.Answers.Compare.{compared_from, pair_found_by, is_pair_found, pair_after, same_pair}
use Rattle.pv_model.specs.Answers.Search.{search, with_element}
use Rattle.pv_laws_trees.proofs.DirectoryEntries.{bytes_eq-itself}
use Rattle.pv_compare.specs.Plan.{pair_at, planned}
use Rattle.pv_compare.specs.Stopping.{result_of}
use Rattle.pv_compare.proofs.StoppingSearch.{stopping-result}

-- ---- known pairs

still-known : (m : PairMove) (found : List FoundPair) (f : FoundPair) → is_pair_found m found ≡ true → is_pair_found m (found ++ f ∷ []) ≡ true
still-known m found f is =
    list_any-append (λ (g : FoundPair). same_pair g.states (pair_after m)) found (f ∷ []) ∙ ap (λ b. b || is_pair_found m (f ∷ [])) is

itself-known : (m : PairMove) (found : List FoundPair) → is_pair_found m (found ++ pair_found_by m ∷ []) ≡ true
itself-known m found =
    list_any-append (λ (g : FoundPair). same_pair g.states (pair_after m)) found (pair_found_by m ∷ [])
    ∙ ap (λ b. is_pair_found m found || (b || false)) (ap₂ (λ a b. a && b) (bytes_eq-itself (state_numbers m.first.after)) (bytes_eq-itself (state_numbers m.second.after)))
    ∙ or-true (is_pair_found m found)
  where
    or-true : (b : Bool) → (b || true) ≡ true
    or-true true = refl
    or-true false = refl

-- ---- the comparison

module _ (program_of : Bytes → Option Program) (limit : ℕ) where
  compared-is : (found : List FoundPair) (ms : List PairMove)
      → result_of (pair_moves program_of) pair_found_by is_pair_found limit differs different alike found ms ≡ compared_from program_of limit found ms
  compared-is found [] = refl
  compared-is found (m ∷ ms) =
      ap (λ (c : Comparison). if differs m then different m (length found) else c) (compared-is (with_element (pair_moves program_of) pair_found_by is_pair_found limit found m) ms)

  pub comparison-planned : (s t : State) → 1 ≤ limit → planned program_of limit s t ≡ comparison program_of limit s t
  unfolding comparison
  comparison-planned s t some =
      let start : FoundPair = pair_at program_of s t [] in
      stopping-result (pair_moves program_of) pair_found_by is_pair_found limit differs different alike still-known itself-known start some
      ∙ compared-is (start ∷ []) (flat_map (pair_moves program_of) (search (pair_moves program_of) pair_found_by is_pair_found limit start))
