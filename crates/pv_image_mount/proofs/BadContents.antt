-- Errors in the contents of an inode, by its kind.
use Rattle.std.proofs.Common.{◌≡◌, ℕ, ◌/◌, List, [], map, Bool, true, false, cond, ap, ◌∙◌, arith}
use Rattle.std.proofs.lemmas.Bool.{or_left}
use Rattle.std.proofs.lemmas.Bool.Decides.{nat_tests}
use Rattle.std.specs.Prelude.{◌&&◌, ◌||◌, ◌==◌, bytes_eq}
use Rattle.std.specs.List.{list_any}
use Rattle.pv_model.specs.declared.version.Version.{Version}
use Rattle.pv_model.specs.Machine.{Bytes, content, size, has_bad_content, is_bad_slot, is_free, kind, slot_name, slots_of, appears_twice, entry_length}
use Rattle.pv_image_mount.proofs.InodeBlocks.{or_none}
use Rattle.pv_image_mount.specs.Slots.{are_bad_slots}

pub other : (a b : ℕ) → (a ≡ b → ⊥) → (a == b) ≡ false
other a b differs = grind (arith, nat_tests)

module _ (v : Version) (bytes : Bytes) where
  pub bad_slots_any : (slots : List Bytes) → list_any (is_bad_slot v bytes) slots ≡ true → are_bad_slots v bytes slots ≡ true
  unfolding are_bad_slots
  bad_slots_any slots is = or_left (list_any (is_bad_slot v bytes) slots) (appears_twice bytes_eq (map slot_name slots)) is

  pub bad_slots_twice : (slots : List Bytes) → list_any (is_bad_slot v bytes) slots ≡ false → are_bad_slots v bytes slots ≡ appears_twice bytes_eq (map slot_name slots)
  unfolding are_bad_slots
  bad_slots_twice slots none = ap (λ b. b || appears_twice bytes_eq (map slot_name slots)) none

  -- errors in slots, and in a target if the inode is a symbolic link
  abbrev bad_with : Bool → Bool → List Bytes → Bool
  bad_with is_link has_zero slots = list_any (is_bad_slot v bytes) slots || appears_twice bytes_eq (map slot_name slots) || (is_link && has_zero)

  by_kind : (n : ℕ) (is_directory is_link : Bool) → (kind v bytes n == 1) ≡ is_directory → (kind v bytes n == 4) ≡ is_link
      → has_bad_content v bytes n ≡ bad_with is_link (list_any (λ b. b == 0) (content v bytes n)) (cond is_directory (slots_of v (size v bytes n / entry_length v) (content v bytes n)) [])
  unfolding has_bad_content
  by_kind n is_directory is_link one four =
      ap (λ b. bad_with (kind v bytes n == 4) (list_any (λ b. b == 0) (content v bytes n)) (cond b (slots_of v (size v bytes n / entry_length v) (content v bytes n)) [])) one
      ∙ ap (λ b. bad_with b (list_any (λ b. b == 0) (content v bytes n)) (cond is_directory (slots_of v (size v bytes n / entry_length v) (content v bytes n)) [])) four

  pub in_directory : (n : ℕ) → kind v bytes n ≡ 1 → has_bad_content v bytes n ≡ are_bad_slots v bytes (slots_of v (size v bytes n / entry_length v) (content v bytes n))
  unfolding are_bad_slots
  in_directory n is =
      let slots = slots_of v (size v bytes n / entry_length v) (content v bytes n) in
      by_kind n true false (ap (λ k. k == 1) is) (ap (λ k. k == 4) is) ∙ or_none (list_any (is_bad_slot v bytes) slots || appears_twice bytes_eq (map slot_name slots))

  pub in_link : (n : ℕ) → kind v bytes n ≡ 4 → has_bad_content v bytes n ≡ list_any (λ b. b == 0) (content v bytes n)
  in_link n is = by_kind n false true (ap (λ k. k == 1) is) (ap (λ k. k == 4) is)

  pub in_other : (n : ℕ) → (kind v bytes n ≡ 1 → ⊥) → (kind v bytes n ≡ 4 → ⊥) → has_bad_content v bytes n ≡ false
  in_other n one four = by_kind n false false (other (kind v bytes n) 1 one) (other (kind v bytes n) 4 four)

  pub used_kind : (n k : ℕ) → (k ≡ 0 → ⊥) → kind v bytes n ≡ k → is_free v bytes n ≡ false
  used_kind n k some is = ap (λ m. m == 0) is ∙ other k 0 some
