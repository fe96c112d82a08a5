-- States as rows of small numbers. Each part is stored once; a group is a row of part numbers, and a state is a row of
-- group numbers.
use Rattle.std.specs.Prelude.{◌≡◌, ℕ, zero, suc, ◌+◌, ◌-◌, ◌*◌, true, if◌then◌else◌, nat_lt, List, [], ◌∷◌, ◌++◌, get_or, map, flat_map, bytes_eq}
use Rattle.std.specs.Global.{Vec}
use Rattle.std.specs.List.{AllByRecursion, list_any, position_or_len}
use Rattle.pv_model.specs.Machine.{Numbers, Bytes, State}
use Rattle.pv_step_cache.specs.OfStateEncoding.Groups.{state_groups}
use Rattle.pv_step_cache.specs.OfStateEncoding.Packed.{packed_all}

-- ---- bytes as numbers

-- the numbers in bytes, given how many bytes of the current number can still follow, the weight of the next byte, and
-- the value of the earlier ones
abbrev pub unpacked_from : Bytes → ℕ → ℕ → ℕ → Numbers
unpacked_from [] left weight low = []
unpacked_from (b ∷ bs) zero weight low = (low + weight * b) ∷ unpacked_from bs 9 1 0
unpacked_from (b ∷ bs) (suc left) weight low = if nat_lt b 128 then (low + weight * b) ∷ unpacked_from bs 9 1 0 else unpacked_from bs left (weight * 128) (low + weight * (b - 128))

unfoldable pub unpacked : Bytes → Numbers
unpacked bs = unpacked_from bs 9 1 0

-- ---- tables

-- the index of a byte string, or the number of byte strings if it is not in the table
abbrev pub number_in : List Bytes → Bytes → ℕ
number_in table b = position_or_len (bytes_eq b) table

pub record IsAmong (table : List Bytes) (b : Bytes) : Type 0 where
  pub is : list_any (bytes_eq b) table ≡ true

-- entries were appended
pub record Grew (old new : List Bytes) : Type 0 where
  pub more : List Bytes
  pub is : new ≡ old ++ more

-- the parts of a group of the code
abbrev pub parts_in : List (Vec ℕ) → List Bytes
parts_in group = map (λ p. p.items) group

-- ---- rows

module _ (parts : List Bytes) where
  abbrev pub group_row : List Bytes → Bytes
  group_row g = packed_all (map (number_in parts) g)

  -- the group of a row
  abbrev pub group_bytes : Bytes → Bytes
  group_bytes row = flat_map (λ n. get_or parts n []) (unpacked row)

  module _ (groups : List Bytes) where
    abbrev pub state_row : List (List Bytes) → Bytes
    state_row gs = packed_all (map (λ g. number_in groups (group_row g)) gs)

    abbrev pub state_bytes : Bytes → Bytes
    state_bytes row = flat_map (λ n. group_bytes (get_or groups n [])) (unpacked row)

    -- all parts of a group, or all groups of a state, are stored
    abbrev pub IsGroupVisited : List Bytes → Type 0
    IsGroupVisited g = AllByRecursion (IsAmong parts) g × IsAmong groups (group_row g)

    abbrev pub AreVisited : List (List Bytes) → Type 0
    AreVisited gs = AllByRecursion IsGroupVisited gs

    -- the row is that of a state
    pub record IsRow (row : Bytes) : Type 0 where
      pub state : State
      pub is : row ≡ state_row (state_groups state)
      pub visited : AreVisited (state_groups state)

-- the groups are those of a state
abbrev pub AreOfState : List (List Bytes) → Type 0
AreOfState gs = (s : State) × (gs ≡ state_groups s)
