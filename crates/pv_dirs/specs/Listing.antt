-- The names of a directory in byte order.
use Rattle.std.specs.Prelude.{ℕ, ◌≡◌, ◌<◌, length, slice_index, ◌≢◌, ◌&&◌, if◌then◌else◌, Bool, true, IsTrue, IsFalse, Option, None, Some, IsSome, MatchOption}
use Rattle.std.specs.Cmp.Lexicographic.{slice_cmp}
use Rattle.std.specs.FinMap.Entries.{find}
use Rattle.std.specs.Ordering.{nat_cmp, is_lt}
use Rattle.std.specs.declared.cmp.Ordering.TheVariants.{Less}
use Rattle.pv_model.specs.Machine.{Bytes, is_past, Entries, Tree, find_entry}

-- the first name if there is one, else the second
abbrev pub first_name : Option Bytes → Option Bytes → Option Bytes
first_name (Some name) second = Some name
first_name None second = second

-- whether a name precedes another one, or there is no other one
abbrev pub is_before : Bytes → Option Bytes → Bool
is_before name None = true
is_before name (Some other) = is_lt (slice_cmp nat_cmp name other)

-- the better of a name and the best one so far: the name if it precedes the best one and follows the last
abbrev pub better_of : Option Bytes → Bytes → Option Bytes → Option Bytes
better_of last name best = if is_before name best && is_past last name then Some name else best

-- each name that precedes the best one and follows the last has this byte at this offset
abbrev pub IsShared : Option Bytes → Option Bytes → ℕ → ℕ → Type 0
IsShared last best at byte = (name : Bytes) → IsTrue (is_before name best) → IsTrue (is_past last name) → (at < length name) × (slice_index name at ≡ byte)

-- an entry of the list has the name
abbrev pub IsListedName : Entries → Bytes → Type 0
IsListedName es name = IsSome (find (slice_cmp nat_cmp) name es)

-- a name is the least in the list that follows the last one
pub record IsLeastPast (last : Option Bytes) (es : Entries) (name : Bytes) : Type 0 where
  pub listed : IsListedName es name
  pub following : IsTrue (is_past last name)
  pub least : (other : Bytes) → IsListedName es other → IsTrue (is_past last other) → slice_cmp nat_cmp other name ≢ Less

-- the next name after the last one; without one, no name of the list follows the last
abbrev pub IsNextName : Option Bytes → Entries → Option Bytes → Type 0
IsNextName last es next = MatchOption next ((other : Bytes) → IsListedName es other → is_past last other ≢ true) (IsLeastPast last es)

-- ---- the names of one node

-- a name is the least of some names that follows the last one
pub record IsLeastOf (IsOne : Bytes → Type 0) (last : Option Bytes) (name : Bytes) : Type 0 where
  pub named : IsOne name
  pub following : IsTrue (is_past last name)
  pub least : (other : Bytes) → IsOne other → IsTrue (is_past last other) → IsFalse (is_past (Some other) name)

-- the next of some names after the last one; without one, none of them follows the last
abbrev pub IsNextOf : (Bytes → Type 0) → Option Bytes → Option Bytes → Type 0
IsNextOf IsOne last next = MatchOption next ((other : Bytes) → IsOne other → IsFalse (is_past last other)) (IsLeastOf IsOne last)

-- the next name of a node in a directory; without one, none follows the last
abbrev pub IsNextNameOf : Tree → ℕ → ℕ → Option Bytes → Option Bytes → Type 0
IsNextNameOf t d n last next = IsNextOf (λ name. find_entry t d name ≡ Some n) last next
