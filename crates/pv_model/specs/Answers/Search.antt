-- Breadth-first searches of elements that moves reach, with a limit on the number of visited elements.
use Rattle.std.specs.Prelude.{ℕ, zero, suc, Bool, ◌||◌, if◌then◌else◌, nat_le, List, [], ◌∷◌, ◌++◌, length, flat_map, fold, slice_get, Option, None, Some}
use Rattle.std.specs.List.{list_all}

module _ {F M : Type 0} (moves_of : F → List M) (found_by : M → F) (is_known : M → List F → Bool) (limit : ℕ) where
  -- the visited elements after a move, which adds its element if that is new and the limit is not reached
  abbrev pub with_element : List F → M → List F
  with_element found m = if is_known m found || nat_le limit (length found) then found else found ++ found_by m ∷ []

  abbrev pub elements_after : (List F → List F) → List F → Option F → List F
  elements_after rest found None = found
  elements_after rest found (Some f) = rest (fold with_element found (moves_of f))

  -- the visited elements after the moves from the next `steps` elements, beginning with number k
  abbrev pub elements_from : ℕ → ℕ → List F → List F
  elements_from zero k found = found
  elements_from (suc steps) k found = elements_after (elements_from steps (suc k)) found (slice_get found k)

  -- the elements that moves reach from an element, each once, in breadth-first order, up to the limit
  abbrev pub search : F → List F
  search start = elements_from limit 0 (start ∷ [])

  -- whether every move of a search leads to a visited element
  abbrev pub is_closed : List F → Bool
  is_closed found = list_all (λ m. is_known m found) (flat_map moves_of found)
