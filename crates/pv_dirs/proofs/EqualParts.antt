-- The start and end of parts of equal length.
use Rattle.std.proofs.Common.{◌≡◌, ℕ, suc, ◌+◌, ◌*◌, ◌/◌, ◌%◌, ◌<◌, ◌≤◌, true, not, ◌&&◌, [], nat_le, length, bytes_eq, mul-le-mul_left, refl, ◌∙◌, arith}
use Rattle.std.specs.List.{list_all}
use Rattle.std.specs.Prelude.{codes}
use Rattle.std.proofs.lemmas.Bool.{and_parts, leb-true}
use Rattle.std.proofs.Math.Nat.{add-div_right, add-mod_right, div-add-mod, mod-lt, mul-div_cancel_left, mul-div-le, mul-mod_right}
use Rattle.pv_model.specs.declared.version.Version.{Version}
use Rattle.pv_model.specs.declared.version.Version.TheVariants.{V1, V2}
use Rattle.pv_model.specs.Machine.{Bytes, is_empty, entry_length, greatest_entries, greatest_length, greatest_name, is_name, is_name_byte}
use Rattle.pv_dirs.specs.Slots.{slot_count, slot_entries}

-- ---- slots of a version

pub slot_some : (v : Version) → 0 < entry_length v
slot_some V1 = omega arith
slot_some V2 = omega arith

pub slot_least : (v : Version) → 4 ≤ entry_length v
slot_least V1 = omega arith
slot_least V2 = omega arith

-- the first bytes of a slot are in one block
pub slot_front : (v : Version) (k : ℕ) → entry_length v * k % 512 + 4 ≤ 512
slot_front V1 k = omega (arith, mod-lt (64 * k) {m = 512} (omega arith), div-add-mod (64 * k) 512)
slot_front V2 k = omega (arith, mod-lt (260 * k) {m = 512} (omega arith), div-add-mod (260 * k) 512)

pub slot_greatest : (v : Version) → entry_length v ≤ 260
slot_greatest V1 = omega arith
slot_greatest V2 = omega arith

-- a slot has room for a name
pub name_fits : (v : Version) → greatest_name v + 4 ≤ entry_length v
name_fits V1 = omega arith
name_fits V2 = omega arith

pub name_short : (v : Version) → greatest_name v ≤ 255
name_short V1 = omega arith
name_short V2 = omega arith

-- a name does not exceed the maximum length of its version
pub name_length : (v : Version) (name : Bytes) → is_name v name ≡ true → length name ≤ greatest_name v
name_length v name good =
    leb-true (length name) (greatest_name v)
    (and_parts (not (is_empty name)) (nat_le (length name) (greatest_name v))
    (and_parts (not (is_empty name) && nat_le (length name) (greatest_name v)) (list_all is_name_byte name)
    (and_parts _ (not (bytes_eq name (codes "."))) (and_parts _ (not (bytes_eq name (codes ".."))) good).0).0).0).1

-- the number of slots is limited
pub entries_few : (v : Version) → greatest_entries v ≤ 2540
entries_few V1 = omega arith
entries_few V2 = omega arith

pub entries_within : (v : Version) (n : ℕ) → n ≤ greatest_length v → n / entry_length v ≤ greatest_entries v
entries_within V1 n few = omega arith
entries_within V2 n few = omega arith

-- a number of entries is within the maximum length of contents
pub few_allowed : (v : Version) → 2540 ≤ greatest_length v
few_allowed V1 = omega arith
few_allowed V2 = omega arith

-- the offset of a slot fits in 32 bits
pub start_fits : (v : Version) (k : ℕ) → k ≤ 2540 → entry_length v * k ≤ 660400
start_fits V1 k few = omega arith
start_fits V2 k few = omega arith

-- ---- no slots

pub no_entries : (v : Version) → slot_entries v [] ≡ []
unfolding slot_entries
no_entries V1 = refl
no_entries V2 = refl

pub none_counted : (v : Version) → slot_count v [] ≡ 0
none_counted V1 = refl
none_counted V2 = refl

pub none_left : (v : Version) → 0 % entry_length v ≡ 0
none_left V1 = refl
none_left V2 = refl

-- ---- parts

module _ (l : ℕ) (some : 0 < l) where
  -- part k ends where the next starts, and each of the first n parts ends by the end of the n parts
  pub component_before : (k n : ℕ) → k < n → l * k + l ≤ l * n
  component_before k n less = let whole : l * suc k ≤ l * n = mul-le-mul_left l less in omega arith

  pub component_within : (k n : ℕ) → k < n / l → l * k + l ≤ n
  component_within k n less = omega (arith, component_before k (n / l) less, mul-div-le n l)

  pub components_more : (n : ℕ) → (n + l) / l ≡ n / l + 1
  components_more n = add-div_right n some

  pub whole_more : (n : ℕ) → n % l ≡ 0 → (n + l) % l ≡ 0
  whole_more n whole = add-mod_right n l ∙ whole

  pub whole_is : (n : ℕ) → n % l ≡ 0 → n ≡ l * (n / l)
  whole_is n whole = omega (arith, div-add-mod n l)

  pub components_of : (k : ℕ) → (l * k) / l ≡ k
  components_of k = mul-div_cancel_left k some

  pub whole_of : (k : ℕ) → (l * k) % l ≡ 0
  whole_of k = mul-mod_right l k
