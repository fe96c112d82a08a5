-- A breadth-first search that stops at the first move with a property. It makes the moves of each visited element in
-- turn, and knows at its end whether it left a move out.
use Rattle.std.specs.Prelude.{ℕ, zero, suc, Bool, false, not, ◌&&◌, if◌then◌else◌, nat_le, List, [], ◌∷◌, length, slice_get, Option, None, Some}
use Rattle.pv_model.specs.Answers.Search.{with_element, is_closed}

module _ {F M R : Type 0} (moves_of : F → List M) (found_by : M → F) (is_known : M → List F → Bool) (limit : ℕ)
    (stops : M → Bool) (stopped : M → ℕ → R) (ended : Bool → ℕ → R) where
  -- whether a move leads to a new element that is not added
  abbrev pub is_left_out : List F → M → Bool
  is_left_out found m = if is_known m found then false else nat_le limit (length found)

  -- the result of moves in sequence, then of the rest, given the visited elements and whether no move was left out
  abbrev pub result_of_moves : (List F → Bool → R) → List F → Bool → List M → R
  result_of_moves rest found complete [] = rest found complete
  result_of_moves rest found complete (m ∷ ms) =
      if stops m then stopped m (length found)
      else result_of_moves rest (with_element moves_of found_by is_known limit found m) (complete && not (is_left_out found m)) ms

  abbrev pub result_at : (List F → Bool → R) → List F → Bool → Option F → R
  result_at rest found complete None = ended complete (length found)
  result_at rest found complete (Some f) = result_of_moves rest found complete (moves_of f)

  -- the result of the moves from at most `steps` more elements, beginning with number k
  abbrev pub result_from : ℕ → ℕ → List F → Bool → R
  result_from zero k found complete = ended complete (length found)
  result_from (suc steps) k found complete = result_at (result_from steps (suc k)) found complete (slice_get found k)

  -- the definition: the result of all moves of a search, which tests at the end whether the search is closed
  abbrev pub result_of : List F → List M → R
  result_of found [] = ended (is_closed moves_of found_by is_known limit found) (length found)
  result_of found (m ∷ ms) =
      if stops m then stopped m (length found) else result_of (with_element moves_of found_by is_known limit found m) ms
