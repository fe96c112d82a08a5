-- The slots of a directory's contents, one by one.
use Rattle.std.proofs.Common.{◌≡◌, ℕ, zero, suc, ◌+◌, ◌*◌, ◌/◌, ◌≤◌, ◌<◌, ◌-◌, List, [], ◌∷◌, ◌++◌, length, take, drop, get_or, map, Bool, true, false, ap, sym, subst, ◌∙◌, refl, arith, ltb-false}
use Rattle.std.proofs.lemmas.Bool.{eq-eqb, or_from, or_parts}
use Rattle.std.proofs.lemmas.Cmp.{nat_list_cmp_total}
use Rattle.std.proofs.lemmas.List.{drop-drop, map-append}
use Rattle.std.proofs.lemmas.List.Folds.{list_any-append, list_any_at}
use Rattle.std.proofs.lemmas.Slice.Eq.{bytes_eq-Decides}
use Rattle.std.specs.Prelude.{bytes_eq, not, ◌&&◌, ◌||◌, ◌==◌, nat_le, nat_lt}
use Rattle.std.specs.Cmp.Lexicographic.{slice_cmp, texts_ties}
use Rattle.std.specs.List.{list_any}
use Rattle.std.specs.Ordering.{is_lt, nat_cmp}
use Rattle.pv_model.specs.declared.version.Version.{Version}
use Rattle.pv_model.specs.declared.version.Version.TheVariants.{V1, V2}
use Rattle.pv_model.specs.Machine.{Bytes, inode_number, is_bad_slot, is_free, slot_length, slot_name, slot_number, slots_of, appears_twice, entry_length, greatest_name, is_name}
use Rattle.pv_laws_trees.proofs.NameOrder.{less_from}
use Rattle.pv_laws_trees.proofs.TreeImages.{length-slots_of, room_for}
use Rattle.pv_image_mount.proofs.InodeContents.{none_at}
use Rattle.pv_image_mount.proofs.SortedNames.{once_rising}
use Rattle.pv_image_mount.specs.Slots.{name_key, slot_of_content, slot_key, NamesAscend}

-- a slot is within the contents
pub slot_within : (v : Version) (i len : ℕ) → i < len / entry_length v → entry_length v * i + entry_length v ≤ len
slot_within V1 i len less = omega arith
slot_within V2 i len less = omega arith

slot_after : (v : Version) (i : ℕ) (content : Bytes) → slot_of_content v (drop (entry_length v) content) i ≡ slot_of_content v content (suc i)
slot_after v i content =
    let long = entry_length v in
    let same : long + long * i ≡ long * suc i = omega arith in
    ap (take long) (drop-drop (long * i) long content ∙ ap (λ m. drop m content) same)

slot_first : (v : Version) (content : Bytes) → take (entry_length v) content ≡ slot_of_content v content 0
slot_first v content =
    let none : 0 ≡ entry_length v * 0 = omega arith in
    ap (λ m. take (entry_length v) (drop m content)) none

pub slots_more : (v : Version) (k : ℕ) (content : Bytes) → slots_of v (k + 1) content ≡ slots_of v k content ++ slot_of_content v content k ∷ []
slots_more v zero content = ap (λ s. s ∷ []) (slot_first v content)
slots_more v (suc k) content =
    let plus : suc k + 1 ≡ suc (k + 1) = omega arith in
    ap (λ m. slots_of v m content) plus
    ∙ ap (λ ss. take (entry_length v) content ∷ ss) (slots_more v k (drop (entry_length v) content) ∙ ap (λ s. slots_of v k (drop (entry_length v) content) ++ s ∷ []) (slot_after v k content))

pub get_or-slots : (v : Version) (k i : ℕ) (content : Bytes) → i < k → get_or (slots_of v k content) i [] ≡ slot_of_content v content i
get_or-slots v zero i content less = absurd (omega arith)
get_or-slots v (suc k) zero content less = slot_first v content
get_or-slots v (suc k) (suc i) content less = get_or-slots v k i (drop (entry_length v) content) (omega arith) ∙ slot_after v i content

-- ---- a test on slots

module _ (p : Bytes → Bool) (v : Version) (content : Bytes) where
  pub any_slot_more : (k : ℕ) → list_any p (slots_of v k content) ≡ false → p (slot_of_content v content k) ≡ false → list_any p (slots_of v (k + 1) content) ≡ false
  any_slot_more k before here =
      ap (list_any p) (slots_more v k content) ∙ list_any-append p (slots_of v k content) (slot_of_content v content k ∷ [])
      ∙ or_from (list_any p (slots_of v k content)) (p (slot_of_content v content k) || false) before (or_from (p (slot_of_content v content k)) false here refl)

  pub any_slot_at : (k i : ℕ) → i < k → p (slot_of_content v content i) ≡ true → list_any p (slots_of v k content) ≡ true
  any_slot_at k i less is =
      let within : i < length (slots_of v k content) = subst (λ m. i < m) (sym (length-slots_of v k content)) less in
      list_any_at p (slots_of v k content) i [] within (ap p (get_or-slots v k i content less) ∙ is)

  no_slot_at : (k i : ℕ) → i < k → list_any p (slots_of v k content) ≡ false → p (slot_of_content v content i) ≡ false
  no_slot_at k i less none =
      let within : i < length (slots_of v k content) = subst (λ m. i < m) (sym (length-slots_of v k content)) less in
      sym (ap p (get_or-slots v k i content less)) ∙ none_at p (slots_of v k content) i [] none within

-- ---- names

-- the name is within its slot
pub name_within : (v : Version) (slot : Bytes) → length slot ≡ entry_length v → slot_length slot ≤ greatest_name v → 4 + slot_length slot ≤ length slot
name_within v slot whole short = let most = room_for v in omega (arith, most, whole, short)

name_short : (v : Version) (bytes slot : Bytes) → is_bad_slot v bytes slot ≡ false → slot_length slot ≤ greatest_name v
name_short v bytes slot fine =
    let no_number = not (nat_le 1 (slot_number slot) && nat_le (slot_number slot) (inode_number bytes)) in
    let free = is_free v bytes (slot_number slot) in
    let long = nat_lt (greatest_name v) (slot_length slot) in
    let no_name = not (is_name v (slot_name slot)) in
    let first = or_parts (no_number || free || long) no_name fine in
    ltb-false (greatest_name v) (slot_length slot) (or_parts (no_number || free) long first.0).1

-- so it is in a slot of contents without invalid slots
pub name_fits : (v : Version) (bytes content slot : Bytes) (count i : ℕ) → list_any (is_bad_slot v bytes) (slots_of v count content) ≡ false → i < count
    → slot ≡ slot_of_content v content i → length slot ≡ entry_length v → 4 + slot_length slot ≤ length slot
name_fits v bytes content slot count i none less is whole =
    name_within v slot whole (name_short v bytes slot (ap (is_bad_slot v bytes) is ∙ no_slot_at (is_bad_slot v bytes) v content count i less none))

map-slots_more : {X : Type 0} (of : Bytes → X) (v : Version) (content : Bytes) (k : ℕ) → map of (slots_of v k content) ++ of (slot_of_content v content k) ∷ [] ≡ map of (slots_of v (k + 1) content)
map-slots_more of v content k = sym (ap (map of) (slots_more v k content) ∙ map-append of (slots_of v k content) (slot_of_content v content k ∷ []))

pub names_more : {X : Type 0} (now : X → Bytes) (v : Version) (content : Bytes) (k : ℕ) (names new : List X) (name : X)
    → map now names ≡ map slot_name (slots_of v k content) → new ≡ names ++ name ∷ [] → now name ≡ slot_name (slot_of_content v content k)
    → map now new ≡ map slot_name (slots_of v (k + 1) content)
names_more now v content k names new name before more is =
    ap (map now) more ∙ map-append now names (name ∷ []) ∙ ap (λ l. l ++ now name ∷ []) before ∙ ap (λ x. map slot_name (slots_of v k content) ++ x ∷ []) is
    ∙ map-slots_more slot_name v content k

-- ascending names are distinct
pub ascending_once : (v : Version) (content : Bytes) (count : ℕ) → NamesAscend v count content → appears_twice bytes_eq (map slot_name (slots_of v count content)) ≡ false
ascending_once v content count up =
    let slots = slots_of v count content in
    once_rising nat_list_cmp_total texts_ties slot_name slots [] (λ k within.
    let less : k + 1 < count = subst (λ m. k + 1 < m) (length-slots_of v count content) within in
    let low : k < count = omega (arith, less) in
    let one : 1 ≤ k + 1 = omega arith in
    let before : k + 1 - 1 ≡ k = omega arith in
    less_from (slice_cmp nat_cmp (slot_name (get_or slots k [])) (slot_name (get_or slots (k + 1) [])))
    (ap (λ s. is_lt (slice_cmp nat_cmp (slot_name s) (slot_name (get_or slots (k + 1) [])))) (get_or-slots v count k content low)
    ∙ ap (λ s. is_lt (slice_cmp nat_cmp (slot_name (slot_of_content v content k)) (slot_name s))) (get_or-slots v count (k + 1) content less)
    ∙ sym (ap (λ m. is_lt (slice_cmp nat_cmp (slot_name (slot_of_content v content m)) (slot_name (slot_of_content v content (k + 1))))) before) ∙ up (k + 1) less one))

-- ---- keys of names

pub keys_more : (v : Version) (content : Bytes) (k : ℕ) (keys new : List ℕ) (key : ℕ)
    → keys ≡ map slot_key (slots_of v k content) → new ≡ keys ++ key ∷ [] → key ≡ slot_key (slot_of_content v content k) → new ≡ map slot_key (slots_of v (k + 1) content)
keys_more v content k keys new key before more is =
    more ∙ ap (λ l. l ++ key ∷ []) before ∙ ap (λ n. map slot_key (slots_of v k content) ++ n ∷ []) is ∙ map-slots_more slot_key v content k

key_differs : (name other : Bytes) → (name_key name == name_key other) ≡ false → bytes_eq name other ≡ false
key_differs name other differs =
    elim (bytes_eq name other) as (λ t. bytes_eq name other ≡ t → t ≡ false) [
      | true ↦ λ is. let same : (name_key name == name_key other) ≡ true = eq-eqb (name_key name) (name_key other) (ap name_key ((bytes_eq-Decides name other).0 is)) in absurd cc
      | false ↦ λ is. refl
    ] refl

none_by_key : (name : Bytes) (slots : List Bytes) → list_any (◌==◌ (name_key name)) (map slot_key slots) ≡ false → list_any (bytes_eq name) (map slot_name slots) ≡ false
none_by_key name [] none = refl
none_by_key name (slot ∷ slots) none =
    let parts = or_parts (name_key name == slot_key slot) (list_any (◌==◌ (name_key name)) (map slot_key slots)) none in
    or_from (bytes_eq name (slot_name slot)) (list_any (bytes_eq name) (map slot_name slots)) (key_differs name (slot_name slot) parts.0) (none_by_key name slots parts.1)

-- names with distinct keys are distinct
pub once_by_key : (slots : List Bytes) → appears_twice ◌==◌ (map slot_key slots) ≡ false → appears_twice bytes_eq (map slot_name slots) ≡ false
once_by_key [] once = refl
once_by_key (slot ∷ slots) once =
    let parts = or_parts (list_any (◌==◌ (slot_key slot)) (map slot_key slots)) (appears_twice ◌==◌ (map slot_key slots)) once in
    or_from (list_any (bytes_eq (slot_name slot)) (map slot_name slots)) (appears_twice bytes_eq (map slot_name slots)) (none_by_key (slot_name slot) slots parts.0) (once_by_key slots parts.1)
