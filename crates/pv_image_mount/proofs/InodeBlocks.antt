-- The blocks that inodes use, and which of them are invalid.
use Rattle.std.proofs.Common.{◌≡◌, ℕ, zero, suc, ◌+◌, ◌-◌, ◌≤◌, List, [], ◌∷◌, ◌++◌, Bool, true, false, ap, sym, ◌∙◌, refl, arith, ltb-false, ◌%◌}
use Rattle.std.proofs.lemmas.Bool.{or_parts, or_right}
use Rattle.std.proofs.lemmas.Grind.{flat_map-append}
use Rattle.std.proofs.lemmas.List.{append-nil}
use Rattle.std.proofs.lemmas.List.Folds.{list_any-append}
use Rattle.std.specs.Prelude.{not, ◌&&◌, ◌||◌, ◌==◌, nat_lt, nat_le, flat_map, cond}
use Rattle.std.specs.List.{list_any, range_with_len}
use Rattle.pv_blocks.specs.declared.block_set.BlockSet.{BlockSet}
use Rattle.pv_blocks.specs.BlockSet.{is_member}
use Rattle.pv_model.specs.declared.version.Version.{Version}
use Rattle.pv_model.specs.Machine.{Bytes, size, used_content, used_index, has_bad_block, has_bad_inode, is_data_block, is_free, kind, appears_twice, entry_length, greatest_length}
use Rattle.pv_model.specs.Mount.{used_before, used_by}
use Rattle.pv_image_mount.specs.Claims.{are_refused_blocks, is_taken_by, HasUsedBefore}

-- ---- lists

pub same_tests : (p q : ℕ → Bool) → ((k : ℕ) → p k ≡ q k) → (xs : List ℕ) → list_any p xs ≡ list_any q xs
same_tests p q same [] = refl
same_tests p q same (x ∷ xs) = ap (λ b. b || list_any p xs) (same x) ∙ ap (λ b. q x || b) (same_tests p q same xs)

pub range_more : (from k : ℕ) → range_with_len from (k + 1) ≡ range_with_len from k ++ (from + k) ∷ []
range_more from zero = ap (λ m. m ∷ []) (let e : from ≡ from + 0 = omega arith in e)
range_more from (suc k) =
    let plus : suc k + 1 ≡ suc (k + 1) = omega arith in
    let same : from + 1 + k ≡ from + suc k = omega arith in
    ap (λ m. range_with_len from m) plus ∙ ap (λ l. from ∷ l) (range_more (from + 1) k ∙ ap (λ m. range_with_len (from + 1) k ++ m ∷ []) same)

and_rest : (f x : Bool) → f ≡ false → (not f && x) ≡ false → x ≡ false
and_rest f x never is = ap (λ b. not b && x) (sym never) ∙ is

pub or_none : (b : Bool) → (b || false) ≡ b
or_none b = elim b as (λ b. (b || false) ≡ b) [ true ↦ refl | false ↦ refl ]

pub or_flips : (a b : Bool) → (a || b) ≡ (b || a)
or_flips a b = elim a as (λ a. (a || b) ≡ (b || a)) [ true ↦ sym (or_right b true refl) | false ↦ elim b as (λ b. b ≡ (b || false)) [ true ↦ refl | false ↦ refl ] ]

-- ---- inodes

module _ (v : Version) (bytes : Bytes) where
  -- the size of a valid inode
  pub size_fits : (n : ℕ) → has_bad_inode v bytes n ≡ false → is_free v bytes n ≡ false → size v bytes n ≤ greatest_length v
  unfolding has_bad_inode
  size_fits n fine used =
      let sort = kind v bytes n in
      let long = size v bytes n in
      let no_sort = nat_lt 4 sort in
      let too_long = nat_lt (greatest_length v) long in
      let part_slot = (sort == 1) && not (long % entry_length v == 0) in
      let no_text = (sort == 4) && not (nat_le 1 long && nat_le long 1023) in
      let parts = and_rest (is_free v bytes n) (no_sort || too_long || part_slot || no_text) used fine in
      let front = or_parts (no_sort || too_long || part_slot) no_text parts in
      let fronts = or_parts (no_sort || too_long) part_slot front.0 in
      let lengths = or_parts no_sort too_long fronts.0 in
      ltb-false (greatest_length v) long lengths.1

  pub used_by-free : (n : ℕ) → is_free v bytes n ≡ true → used_by v bytes n ≡ []
  used_by-free n free = ap (λ b. cond b [] (used_content v bytes n ++ used_index v bytes n)) free

  pub used_by-used : (n : ℕ) → is_free v bytes n ≡ false → used_by v bytes n ≡ used_content v bytes n ++ used_index v bytes n
  used_by-used n used = ap (λ b. cond b [] (used_content v bytes n ++ used_index v bytes n)) used

  -- a block is invalid by the specification if and only if the set rejects it
  pub bad_block-refused : (used : BlockSet) (n : ℕ) → HasUsedBefore used v bytes n → are_refused_blocks (is_data_block v bytes) (is_member used) (used_by v bytes n) ≡ has_bad_block v bytes n
  unfolding has_bad_block are_refused_blocks
  bad_block-refused used n has =
      ap (λ b. list_any (λ k. not (is_data_block v bytes k)) (used_by v bytes n) || appears_twice ◌==◌ (used_by v bytes n) || b)
      (same_tests (is_member used) (λ k. list_any (λ o. o == k) (used_before v bytes n)) has (used_by v bytes n))

  pub used_before_more : (n : ℕ) → 1 ≤ n → used_before v bytes (n + 1) ≡ used_before v bytes n ++ used_by v bytes n
  used_before_more n low =
      let less : n + 1 - 1 ≡ n - 1 + 1 = omega arith in
      let last : 1 + (n - 1) ≡ n = omega arith in
      ap (λ k. flat_map (used_by v bytes) (range_with_len 1 k)) less
      ∙ ap (flat_map (used_by v bytes)) (range_more 1 (n - 1))
      ∙ flat_map-append (used_by v bytes) (range_with_len 1 (n - 1)) ((1 + (n - 1)) ∷ [])
      ∙ ap (λ l. used_before v bytes n ++ l) (append-nil (used_by v bytes (1 + (n - 1))) ∙ ap (used_by v bytes) last)

  -- the set with the blocks of one more inode
  pub has_used_more : (old new : BlockSet) (n : ℕ) → 1 ≤ n → HasUsedBefore old v bytes n → ((k : ℕ) → is_member new k ≡ is_taken_by (is_member old) (used_by v bytes n) k)
      → HasUsedBefore new v bytes (n + 1)
  has_used_more old new n low has after k =
      let test = λ (o : ℕ). o == k in
      after k ∙ ap (λ b. list_any test (used_by v bytes n) || b) (has k)
      ∙ or_flips (list_any test (used_by v bytes n)) (list_any test (used_before v bytes n))
      ∙ sym (list_any-append test (used_before v bytes n) (used_by v bytes n))
      ∙ ap (list_any test) (sym (used_before_more n low))

  -- no inode is before the first
  pub none_before : (used : BlockSet) → ((k : ℕ) → is_member used k ≡ false) → HasUsedBefore used v bytes 1
  none_before used empty k = empty k
