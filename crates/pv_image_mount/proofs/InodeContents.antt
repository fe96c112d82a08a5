-- The contents of inodes, and their length.
use Rattle.std.proofs.Common.{◌≡◌, ℕ, suc, ◌+◌, ◌-◌, ◌*◌, ◌≤◌, ◌<◌, List, [], ◌∷◌, ◌++◌, length, drop, get_or, Bool, true, false, ap, sym, subst, ◌∙◌, refl, arith, ltb-true}
use Rattle.std.proofs.lemmas.Bool.{and_parts, or_parts}
use Rattle.std.proofs.lemmas.List.{length-append, length-drop, length-take-le}
use Rattle.std.proofs.lemmas.List.Folds.{list_any-append, list_any_at}
use Rattle.std.specs.Prelude.{not, ◌||◌, ◌==◌, nat_lt, flat_map}
use Rattle.std.specs.List.{list_any}
use Rattle.pv_model.specs.declared.version.Version.{Version}
use Rattle.pv_model.specs.Machine.{Bytes, block, block_count, content, inode, inode_blocks, size, used_content, used_index, block_number, inode_number, has_bad_block, has_bad_inode, is_data_block, is_free, appears_twice, rounded_up}
use Rattle.pv_model.specs.Mount.{used_before, used_by}
use Rattle.pv_image_mount.proofs.InodeBlocks.{size_fits, used_by-used}
use Rattle.pv_image_mount.proofs.PointerRows.{length-row, used_content-rows, used_index-row}
use Rattle.pv_image_mount.specs.Rows.{pointer_row}

-- if no element passes a test, element i does not
pub none_at : {X : Type 0} (p : X → Bool) (xs : List X) (i : ℕ) (d : X) → list_any p xs ≡ false → i < length xs → p (get_or xs i d) ≡ false
none_at p xs i d none within =
    elim (p (get_or xs i d)) as (λ b. p (get_or xs i d) ≡ b → b ≡ false) [
      | true ↦ λ is. let one = list_any_at p xs i d within is in absurd cc
      | false ↦ λ is. refl
    ] refl

-- concatenations of lists of equal length
length_flat : {A : Type 0} (f : ℕ → List A) (m : ℕ) (xs : List ℕ) → ((i : ℕ) → i < length xs → length (f (get_or xs i 0)) ≡ m) → length (flat_map f xs) ≡ m * length xs
length_flat f m [] each = let e : 0 ≡ m * 0 = omega arith in e
length_flat f m (x ∷ xs) each =
    let head : length (f x) ≡ m = each 0 (omega arith) in
    let rest = length_flat f m xs (λ i within. each (suc i) (omega arith)) in
    length-append (f x) (flat_map f xs) ∙ (let e : length (f x) + length (flat_map f xs) ≡ m * suc (length xs) = omega (arith, head, rest) in e)

count_covers : (b : ℕ) → b ≤ 10 + 256 * rounded_up (b - 10) 256
count_covers b = omega arith

size_covered : (s : ℕ) → s ≤ 512 * rounded_up s 512
size_covered s = omega arith

module _ (v : Version) (bytes : Bytes) where
  pub is_data-within : (k : ℕ) → not (is_data_block v bytes k) ≡ false → k < block_number bytes
  is_data-within k is =
      let data_block = is_data_block v bytes k in
      let yes : data_block ≡ true = elim data_block as (λ b. not b ≡ false → b ≡ true) [ true ↦ λ h. refl | false ↦ λ h. sym h ] is in
      ltb-true k (block_number bytes) (and_parts (nat_lt (inode_blocks v (inode_number bytes)) k) (nat_lt k (block_number bytes)) yes).1

  module _ (n : ℕ) (inode_fine : has_bad_inode v bytes n ≡ false) (block_fine : has_bad_block v bytes n ≡ false) (used : is_free v bytes n ≡ false) where
    all_data : list_any (λ k. not (is_data_block v bytes k)) (used_content v bytes n ++ used_index v bytes n) ≡ false
    unfolding has_bad_block
    all_data =
        let blocks = used_by v bytes n in
        let outside = list_any (λ k. not (is_data_block v bytes k)) in
        let before = list_any (λ k. list_any (λ other. other == k) (used_before v bytes n)) blocks in
        let first = or_parts (outside blocks || appears_twice ◌==◌ blocks) before block_fine in
        sym (ap outside (used_by-used v bytes n used)) ∙ (or_parts (outside blocks) (appears_twice ◌==◌ blocks) first.0).0

    parts : (list_any (λ k. not (is_data_block v bytes k)) (used_content v bytes n) ≡ false) × (list_any (λ k. not (is_data_block v bytes k)) (used_index v bytes n) ≡ false)
    parts =
        let outside = λ (k : ℕ). not (is_data_block v bytes k) in
        or_parts (list_any outside (used_content v bytes n)) (list_any outside (used_index v bytes n)) (sym (list_any-append outside (used_content v bytes n) (used_index v bytes n)) ∙ all_data)

    pub content_within : (i : ℕ) → i < length (used_content v bytes n) → get_or (used_content v bytes n) i 0 < block_number bytes
    content_within i within = is_data-within (get_or (used_content v bytes n) i 0) (none_at (λ k. not (is_data_block v bytes k)) (used_content v bytes n) i 0 parts.0 within)

    pub index_within : (i : ℕ) → i < length (used_index v bytes n) → get_or (used_index v bytes n) i 0 < block_number bytes
    index_within i within = is_data-within (get_or (used_index v bytes n) i 0) (none_at (λ k. not (is_data_block v bytes k)) (used_index v bytes n) i 0 parts.1 within)

    length_index : length (used_index v bytes n) ≡ rounded_up (block_count v bytes n - 10) 256
    length_index = ap length (used_index-row v bytes n (size_fits v bytes n inode_fine used)) ∙ length-row (rounded_up (block_count v bytes n - 10) 256) (drop 28 (inode v bytes n))

    length_used_content : length (used_content v bytes n) ≡ block_count v bytes n
    length_used_content =
        let count = block_count v bytes n in
        let front = pointer_row 10 (drop 8 (inode v bytes n)) in
        let following = flat_map (λ k. pointer_row 256 (block bytes k)) (used_index v bytes n) in
        let long : length following ≡ 256 * length (used_index v bytes n) = length_flat (λ k. pointer_row 256 (block bytes k)) 256 (used_index v bytes n) (λ i within. length-row 256 (block bytes (get_or (used_index v bytes n) i 0))) in
        let ten : length front ≡ 10 = length-row 10 (drop 8 (inode v bytes n)) in
        let whole : length (front ++ following) ≡ 10 + 256 * rounded_up (count - 10) 256 = length-append front following ∙ ap (λ m. m + length following) ten ∙ ap (λ m. 10 + m) (long ∙ ap (λ m. 256 * m) length_index) in
        let enough : count ≤ length (front ++ following) = subst (λ m. count ≤ m) (sym whole) (count_covers count) in
        ap length (used_content-rows v bytes n) ∙ length-take-le count (front ++ following) enough

    length_block : length bytes ≡ 512 * block_number bytes → (k : ℕ) → k < block_number bytes → length (block bytes k) ≡ 512
    length_block whole k within =
        let total = length bytes in
        let following : length (drop (512 * k) bytes) ≡ total - 512 * k = length-drop (512 * k) bytes in
        length-take-le 512 (drop (512 * k) bytes) (omega (arith, following, whole, within))

    -- contents have the length in their inode
    pub length_content : length bytes ≡ 512 * block_number bytes → length (content v bytes n) ≡ size v bytes n
    length_content whole =
        let all = flat_map (block bytes) (used_content v bytes n) in
        let long : length all ≡ 512 * length (used_content v bytes n) = length_flat (block bytes) 512 (used_content v bytes n) (λ i within. length_block whole (get_or (used_content v bytes n) i 0) (content_within i within)) in
        let enough : size v bytes n ≤ length all = subst (λ m. size v bytes n ≤ m) (sym (long ∙ ap (λ m. 512 * m) length_used_content)) (size_covered (size v bytes n)) in
        length-take-le (size v bytes n) all enough
