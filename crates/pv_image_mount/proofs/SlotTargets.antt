-- The inode numbers in the slots of directories.
use Rattle.std.proofs.Common.{◌≡◌, ℕ, ◌+◌, ◌/◌, ◌≤◌, ◌<◌, List, [], ◌∷◌, ◌++◌, length, get_or, map, true, false, cond, ap, sym, subst, ◌∙◌, refl, arith}
use Rattle.std.proofs.lemmas.Bool.{and_parts, eqb-true, leb-true, or_parts}
use Rattle.std.proofs.lemmas.List.{get_or-map, length-map, map-append}
use Rattle.std.proofs.lemmas.List.Sums.{length-filter, sum_by-cons}
use Rattle.std.specs.Prelude.{not, ◌&&◌, ◌||◌, ◌==◌, nat_le, nat_lt, bytes_eq, flat_map, count_by}
use Rattle.std.specs.List.{list_any}
use Rattle.pv_model.specs.declared.version.Version.{Version}
use Rattle.pv_model.specs.declared.version.Version.TheVariants.{V1, V2}
use Rattle.pv_model.specs.Machine.{Bytes, content, size, has_bad_content, has_bad_inode, inode_number, is_bad_slot, is_free, kind, name_count, slot_length, slot_name, slot_number, slots_at, slots_of, appears_twice, entry_length, greatest_length, greatest_name, is_name}
use Rattle.pv_model.specs.Mount.{has_slot_for, inode_numbers}
use Rattle.pv_laws_trees.proofs.TreeImages.{length-slots_of}
use Rattle.pv_image_mount.proofs.BadContents.{used_kind}
use Rattle.pv_image_mount.proofs.InodeBlocks.{size_fits}
use Rattle.pv_image_mount.proofs.InodeContents.{none_at}
use Rattle.pv_image_mount.proofs.SlotRows.{slots_more}
use Rattle.pv_image_mount.specs.Numbers.{IsInodeNumber}
use Rattle.pv_image_mount.specs.Places.{is_among, targets_of, occurrences_of}
use Rattle.pv_image_mount.specs.Slots.{slot_of_content}

pub slot_long : (v : Version) → 2 ≤ entry_length v
slot_long V1 = omega arith
slot_long V2 = omega arith

few_entries : (v : Version) (s : ℕ) → s ≤ greatest_length v → s / entry_length v ≤ 2540
few_entries V1 s most = omega arith
few_entries V2 s most = omega arith

pub numbers_more : (v : Version) (content : Bytes) (k : ℕ) (numbers new : List ℕ) (number : ℕ)
    → numbers ≡ map slot_number (slots_of v k content) → new ≡ numbers ++ number ∷ [] → number ≡ slot_number (slot_of_content v content k)
    → new ≡ map slot_number (slots_of v (k + 1) content)
numbers_more v content k numbers new number before more is =
    more ∙ ap (λ l. l ++ number ∷ []) before ∙ ap (λ x. map slot_number (slots_of v k content) ++ x ∷ []) is
    ∙ sym (ap (map slot_number) (slots_more v k content) ∙ map-append slot_number (slots_of v k content) (slot_of_content v content k ∷ []))

any_mapped : (k : ℕ) (slots : List Bytes) → list_any (λ slot. slot_number slot == k) slots ≡ is_among (map slot_number slots) k
any_mapped k [] = refl
any_mapped k (s ∷ ss) = ap (λ b. (slot_number s == k) || b) (any_mapped k ss)

count_mapped : (k : ℕ) (slots : List Bytes) → count_by (λ slot. slot_number slot == k) slots ≡ count_by (λ other. other == k) (map slot_number slots)
count_mapped k [] = refl
count_mapped k (s ∷ ss) =
    sum_by-cons (λ slot. cond (slot_number slot == k) 1 0) s ss
    ∙ ap (λ m. cond (slot_number s == k) 1 0 + m) (count_mapped k ss)
    ∙ sym (sum_by-cons (λ other. cond (other == k) 1 0) (slot_number s) (map slot_number ss))

flat_mapped : (slots : ℕ → List Bytes) (ns : List ℕ) → map slot_number (flat_map slots ns) ≡ flat_map (λ n. map slot_number (slots n)) ns
flat_mapped slots [] = refl
flat_mapped slots (n ∷ ns) = map-append slot_number (slots n) (flat_map slots ns) ∙ ap (λ l. map slot_number (slots n) ++ l) (flat_mapped slots ns)

module _ (v : Version) (bytes : Bytes) where
  pub targets-directory : (n : ℕ) → kind v bytes n ≡ 1 → targets_of v bytes n ≡ map slot_number (slots_of v (size v bytes n / entry_length v) (content v bytes n))
  unfolding targets_of
  targets-directory n is = ap (λ b. map slot_number (cond b (slots_of v (size v bytes n / entry_length v) (content v bytes n)) [])) (ap (λ k. k == 1) is)

  pub targets-other : (n : ℕ) → (kind v bytes n == 1) ≡ false → targets_of v bytes n ≡ []
  unfolding targets_of
  targets-other n differs = ap (λ b. map slot_number (cond b (slots_of v (size v bytes n / entry_length v) (content v bytes n)) [])) differs

  -- a directory has a slot for a number if and only if it is among its targets
  pub slot_for-among : (k d : ℕ) → has_slot_for v bytes k d ≡ is_among (targets_of v bytes d) k
  unfolding targets_of
  slot_for-among k d = any_mapped k (slots_at v bytes d)

  pub name_count-occurrences_of : (k : ℕ) → name_count v bytes k ≡ occurrences_of k (flat_map (targets_of v bytes) (inode_numbers bytes))
  unfolding targets_of occurrences_of
  name_count-occurrences_of k =
      let slots = flat_map (slots_at v bytes) (inode_numbers bytes) in
      length-filter (λ slot. slot_number slot == k) slots ∙ count_mapped k slots ∙ ap (count_by (λ other. other == k)) (flat_mapped (slots_at v bytes) (inode_numbers bytes))

  -- the number of targets of a directory is limited
  pub few_targets : (n : ℕ) → has_bad_inode v bytes n ≡ false → length (targets_of v bytes n) ≤ 2540
  few_targets n fine =
      elim (kind v bytes n == 1) as (λ b. (kind v bytes n == 1) ≡ b → length (targets_of v bytes n) ≤ 2540) [
        | true ↦ λ one.
            let is : kind v bytes n ≡ 1 = eqb-true (kind v bytes n) 1 one in
            let count = size v bytes n / entry_length v in
            let long : length (targets_of v bytes n) ≡ count = ap length (targets-directory n is) ∙ length-map (slots_of v count (content v bytes n)) slot_number ∙ length-slots_of v count (content v bytes n) in
            subst (λ m. m ≤ 2540) (sym long) (few_entries v (size v bytes n) (size_fits v bytes n fine (used_kind v bytes n 1 (λ h. cc) is)))
        | false ↦ λ differs. subst (λ m. m ≤ 2540) (sym (ap length (targets-other n differs))) (omega arith)
      ] refl

  good_slot : (slot : Bytes) → is_bad_slot v bytes slot ≡ false → IsInodeNumber bytes (slot_number slot)
  good_slot slot fine =
      let inside = nat_le 1 (slot_number slot) && nat_le (slot_number slot) (inode_number bytes) in
      let free = is_free v bytes (slot_number slot) in
      let long = nat_lt (greatest_name v) (slot_length slot) in
      let no_name = not (is_name v (slot_name slot)) in
      let first = or_parts (not inside || free || long) no_name fine in
      let second = or_parts (not inside || free) long first.0 in
      let third = or_parts (not inside) free second.0 in
      let yes : inside ≡ true = elim inside as (λ b. not b ≡ false → b ≡ true) [ true ↦ λ h. refl | false ↦ λ h. sym h ] third.0 in
      let both = and_parts (nat_le 1 (slot_number slot)) (nat_le (slot_number slot) (inode_number bytes)) yes in
      (leb-true 1 (slot_number slot) both.0, leb-true (slot_number slot) (inode_number bytes) both.1)

  -- each target is the number of an inode
  pub target_number : (n : ℕ) → has_bad_content v bytes n ≡ false → (i : ℕ) → i < length (targets_of v bytes n) → IsInodeNumber bytes (get_or (targets_of v bytes n) i 0)
  unfolding targets_of has_bad_content
  target_number n fine i within =
      let slots = slots_at v bytes n in
      let text = (kind v bytes n == 4) && list_any (λ b. b == 0) (content v bytes n) in
      let first = or_parts (list_any (is_bad_slot v bytes) slots || appears_twice bytes_eq (map slot_name slots)) text fine in
      let none = (or_parts (list_any (is_bad_slot v bytes) slots) (appears_twice bytes_eq (map slot_name slots)) first.0).0 in
      let inner : i < length slots = subst (λ m. i < m) (length-map slots slot_number) within in
      subst (IsInodeNumber bytes) (sym (get_or-map slot_number slots i [] 0 inner)) (good_slot (get_or slots i []) (none_at (is_bad_slot v bytes) slots i [] none inner))
