-- The names of a node, ordered by directory and then by the bytes of the name.
use Rattle.std.specs.Prelude.{◌≡◌, ℕ, Bool, true, ◌&&◌, ◌||◌, ◌==◌, nat_lt, IsTrue, IsFalse, List, [], ◌∷◌, filter, find, Option, None, Some, MatchOption}
use Rattle.std.specs.Borrow.{Bor}
use Rattle.pv_model.specs.Machine.{Bytes, is_past, Tree, find_entry}

-- whether a name with its directory follows the last one, or there is no last one
abbrev pub is_after : Option (ℕ × Bytes) → ℕ × Bytes → Bool
is_after None name = true
is_after (Some last) name = nat_lt last.0 name.0 || ((last.0 == name.0) && is_past (Some last.1) name.1)

-- the first of some names that follows the last one
abbrev pub first_after : Option (ℕ × Bytes) → List (ℕ × Bytes) → Option (ℕ × Bytes)
first_after last names = find (is_after last) names

-- the names that follow the last one
abbrev pub names_after : Option (ℕ × Bytes) → List (ℕ × Bytes) → List (ℕ × Bytes)
names_after last names = filter (is_after last) names

-- the next name, and those that follow it
abbrev pub names_from : Option (ℕ × Bytes) → List (ℕ × Bytes) → List (ℕ × Bytes)
names_from None names = []
names_from (Some next) names = next ∷ names_after (Some next) names

-- a name of a node is the least that follows the last one
pub record IsLeastAfter (t : Tree) (n : ℕ) (last : Option (ℕ × Bytes)) (name : ℕ × Bytes) : Type 0 where
  pub named : find_entry t name.0 name.1 ≡ Some n
  pub after : IsTrue (is_after last name)
  pub least : (other : ℕ × Bytes) → find_entry t other.0 other.1 ≡ Some n → IsTrue (is_after last other) → IsFalse (is_after (Some other) name)

-- the next name of a node; without one, none follows the last
abbrev pub IsNextNameOfNode : Tree → ℕ → Option (ℕ × Bytes) → Option (ℕ × Bytes) → Type 0
IsNextNameOfNode t n last next =
    MatchOption next ((other : ℕ × Bytes) → find_entry t other.0 other.1 ≡ Some n → IsFalse (is_after last other)) (IsLeastAfter t n last)

-- the last name behind a reference
abbrev pub last_name_of : Option (ℕ × Bor Bytes) → Option (ℕ × Bytes)
last_name_of None = None
last_name_of (Some (directory, name)) = Some (directory, name.now)
