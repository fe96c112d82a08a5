-- Tables of groups: a row for each key, in the order of the first element that has it.
use Rattle.std.specs.Prelude.{ℕ, Bool, if◌then◌else◌, List, [], ◌∷◌, fold, position, bytes_eq, Option}
use Rattle.pv_model.specs.Machine.{Numbers}

module _ {X Y : Type 0} (key : X → Numbers) (key_of : Y → Numbers) (start : X → Y) (more : Y → X → Y) where
  -- whether a row has the key of an element
  abbrev pub is_row_of : X → Y → Bool
  is_row_of x y = bytes_eq (key x) (key_of y)

  -- the rows after one more element
  abbrev pub and_element : List Y → X → List Y
  and_element [] x = more (start x) x ∷ []
  and_element (y ∷ ys) x = if is_row_of x y then more y x ∷ ys else y ∷ and_element ys x

  -- the rows after more elements
  abbrev pub and_more : List Y → List X → List Y
  and_more ys xs = fold and_element ys xs

  -- the row with the key of an element
  abbrev pub row_at : List Y → X → Option ℕ
  row_at ys x = position (is_row_of x) ys
