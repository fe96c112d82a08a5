-- Maps from a directory and a name to a node, such as `find_entry` of a tree.
use Rattle.std.specs.Prelude.{◌≡◌, ℕ, Option}
use Rattle.pv_model.specs.Machine.{Bytes}

-- two maps are equal
abbrev pub AreEqualLookups : (ℕ → Bytes → Option ℕ) → (ℕ → Bytes → Option ℕ) → Type 0
AreEqualLookups map other = (d : ℕ) (n : Bytes) → other d n ≡ map d n

-- two maps are equal except perhaps at one name of one directory
abbrev pub AreEqualExceptAt : ℕ → Bytes → (ℕ → Bytes → Option ℕ) → (ℕ → Bytes → Option ℕ) → Type 0
AreEqualExceptAt directory name map other = (d : ℕ) (n : Bytes) → ((d ≡ directory) × (n ≡ name) → ⊥) → other d n ≡ map d n

-- two maps are equal except perhaps at two names: an intermediate map differs from the first only at one name, and from
-- the second only at the other
abbrev pub AreEqualExceptAtTwo : ℕ → Bytes → ℕ → Bytes → (ℕ → Bytes → Option ℕ) → (ℕ → Bytes → Option ℕ) → Type 0
AreEqualExceptAtTwo from name to new map other = (between : ℕ → Bytes → Option ℕ) × AreEqualExceptAt from name map between × AreEqualExceptAt to new between other
