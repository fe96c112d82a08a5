-- The blocks that the nodes in inodes use.
use Rattle.std.proofs.Common.{◌≡◌, ◌≢◌, ℕ, zero, suc, ◌-◌, ◌≤◌, Bool, true, false, not, ◌||◌, ◌==◌, nat_lt, List, [], ◌∷◌, ◌++◌, flat_map, None, Some, ap, sym, subst, ◌∙◌, refl, arith, append-nil, ⊎_elim}
use Rattle.std.specs.Prelude.{if◌then◌else◌}
use Rattle.std.specs.List.{AllByRecursion, list_any, range_with_len}
use Rattle.std.proofs.lemmas.Bool.{and_parts, and_from, or_parts, or_from, eq-eqb, ne_eqb, ltb-true, lt-ltb, cases_eq}
use Rattle.std.proofs.lemmas.List.Concat.{flat_map-append}
use Rattle.pv_model.specs.declared.version.Version.{Version}
use Rattle.pv_model.specs.Machine.{Bytes, inode_blocks, used_index, used_content, content, used_blocks, appears_twice, block_number, inode_number, kind, is_data_block, slots_at, has_bad_block, tree_in, Node}
use Rattle.pv_model.specs.Mount.{used_by, used_before, entries_in, node_in}
use Rattle.pv_laws_trees.specs.Inodes.{AreFineBlocks, IsData, have_common_element}
use Rattle.pv_laws_trees.proofs.InodeNodes.{by_kind, node_of}
use Rattle.pv_laws_trees.proofs.Ranges.{each_weaker, none_any, any_none, apart-once, once-apart, each_in_range, range_each, each_flat, flat_each, flat-made, last_of_range}

module _ (v : Version) (bytes : Bytes) where
  abbrev used : ℕ → List ℕ
  used = used_by v bytes

  -- the blocks that the first m inodes use
  abbrev pub used_first : ℕ → List ℕ
  used_first m = flat_map used (range_with_len 1 m)

  data-block : (k : ℕ) → not (is_data_block v bytes k) ≡ false → IsData v bytes k
  data-block k is = by (is_data_block v bytes k) refl is
    where
      by : (b : Bool) → is_data_block v bytes k ≡ b → not b ≡ false → IsData v bytes k
      by true at h = let parts = and_parts (nat_lt (inode_blocks v (inode_number bytes)) k) (nat_lt k (block_number bytes)) at in (ltb-true _ k parts.0, ltb-true k _ parts.1)
      by false at h = cc h

  block-data : (k : ℕ) → IsData v bytes k → not (is_data_block v bytes k) ≡ false
  block-data k is = ap not (and_from (nat_lt (inode_blocks v (inode_number bytes)) k) (nat_lt k (block_number bytes)) (lt-ltb _ k is.0) (lt-ltb k _ is.1))

  pub blocks-fine : (n : ℕ) → has_bad_block v bytes n ≡ false → AreFineBlocks v bytes n
  unfolding has_bad_block
  blocks-fine n none =
      let a = or_parts (list_any (λ k. not (is_data_block v bytes k)) (used n) || appears_twice ◌==◌ (used n)) (have_common_element (used_before v bytes n) (used n)) none in
      let b = or_parts (list_any (λ k. not (is_data_block v bytes k)) (used n)) (appears_twice ◌==◌ (used n)) a.0 in
      record {
        in_data = each_weaker (λ k. not (is_data_block v bytes k) ≡ false) (IsData v bytes) data-block (used n) (none_any (λ k. not (is_data_block v bytes k)) (used n) b.0);
        once = b.1;
        apart = a.1;
      }

  pub fine-blocks : (n : ℕ) → AreFineBlocks v bytes n → has_bad_block v bytes n ≡ false
  unfolding has_bad_block
  fine-blocks n is =
      or_from (list_any (λ k. not (is_data_block v bytes k)) (used n) || appears_twice ◌==◌ (used n)) (have_common_element (used_before v bytes n) (used n))
      (or_from (list_any (λ k. not (is_data_block v bytes k)) (used n)) (appears_twice ◌==◌ (used n))
      (any_none (λ k. not (is_data_block v bytes k)) (used n) (each_weaker (IsData v bytes) (λ k. not (is_data_block v bytes k) ≡ false) block-data (used n) is.in_data)) is.once)
      is.apart

  used_next : (m : ℕ) → used_first (suc m) ≡ used_first m ++ used (suc m)
  used_next m =
      ap (flat_map used) (last_of_range 1 m (suc m) (omega arith)) ∙ flat_map-append used (range_with_len 1 m) (suc m ∷ []) ∙ ap (λ (ks : List ℕ). used_first m ++ ks) (append-nil (used (suc m)))

  before-next : (m : ℕ) → used_before v bytes (suc m) ≡ used_first m
  before-next m = ap used_first (let e : suc m - 1 ≡ m = omega arith in e)

  -- different inodes use different blocks
  pub all-once : (m : ℕ) → ((n : ℕ) → 1 ≤ n → n ≤ m → AreFineBlocks v bytes n) → appears_twice ◌==◌ (used_first m) ≡ false
  all-once zero fine = refl
  all-once (suc m) fine =
      let here = fine (suc m) (omega arith) (omega arith) in
      ap (appears_twice ◌==◌) (used_next m)
      ∙ apart-once (used_first m) (used (suc m)) (all-once m (λ n low high. fine n low (omega (arith, high)))) here.once
      (ap (λ (before : List ℕ). have_common_element before (used (suc m))) (sym (before-next m)) ∙ here.apart)

  record IsOnceAt (n : ℕ) : Type 0 where
    once : appears_twice ◌==◌ (used n) ≡ false
    apart : have_common_element (used_before v bytes n) (used n) ≡ false

  once-all : (m : ℕ) → appears_twice ◌==◌ (used_first m) ≡ false → (n : ℕ) → 1 ≤ n → n ≤ m → IsOnceAt n
  once-all zero once n low high = absurd (omega (arith, low, high))
  once-all (suc m) once n low high =
      let parts = once-apart (used_first m) (used (suc m)) (ap (appears_twice ◌==◌) (sym (used_next m)) ∙ once) in
      ⊎_elim
      (λ same. subst IsOnceAt (sym same) (record { once = parts.1; apart = ap (λ (before : List ℕ). have_common_element before (used (suc m))) (before-next m) ∙ parts.2 }))
      (λ other. once-all m parts.0 n low (omega (arith, high, other))) (cases_eq n (suc m))

  abbrev all_used : List ℕ
  all_used = used_first (inode_number bytes)

  pub fine-all : appears_twice ◌==◌ all_used ≡ false → AllByRecursion (IsData v bytes) all_used → (n : ℕ) → 1 ≤ n → n ≤ inode_number bytes → AreFineBlocks v bytes n
  fine-all once there n low high =
      let here = once-all (inode_number bytes) once n low high in
      record {
        in_data = range_each (λ n. AllByRecursion (IsData v bytes) (used n)) 1 (inode_number bytes) (flat_each (IsData v bytes) used (range_with_len 1 (inode_number bytes)) there) n low (omega (arith, high));
        once = here.once;
        apart = here.apart;
      }

  pub all-data : ((n : ℕ) → 1 ≤ n → n ≤ inode_number bytes → AreFineBlocks v bytes n) → AllByRecursion (IsData v bytes) all_used
  all-data fine = each_flat (IsData v bytes) used (range_with_len 1 (inode_number bytes)) (each_in_range (λ n. AllByRecursion (IsData v bytes) (used n)) 1 (inode_number bytes) (λ n low high. (fine n low (omega (arith, high))).in_data))

  -- the blocks of the nodes are those of the inodes
  used-free : (n : ℕ) → kind v bytes n ≡ 0 → used n ≡ []
  used-free n is = ap (λ b. if b then [] else used_content v bytes n ++ used_index v bytes n) (eq-eqb (kind v bytes n) 0 is)

  pub used-kind : (n : ℕ) → kind v bytes n ≢ 0 → used n ≡ used_content v bytes n ++ used_index v bytes n
  used-kind n other = ap (λ b. if b then [] else used_content v bytes n ++ used_index v bytes n) (ne_eqb (kind v bytes n) 0 other)

  pub none-free : (n : ℕ) → kind v bytes n ≤ 4 → node_in v bytes n ≡ None → kind v bytes n ≡ 0
  none-free n low none =
      by_kind (λ k. kind v bytes n ≡ k → node_of k (entries_in v bytes (slots_at v bytes n)) (content v bytes n) ≡ None → k ≡ 0)
      (λ is h. refl) (λ is h. cc h) (λ is h. cc h) (λ is h. cc h) (λ is h. cc h) (kind v bytes n) low refl none

  pub some-used : (n : ℕ) (node : Node) → node_in v bytes n ≡ Some node → kind v bytes n ≢ 0
  some-used n node some free =
      let none : node_in v bytes n ≡ None =
      ap (λ k. node_of k (entries_in v bytes (slots_at v bytes n)) (content v bytes n)) free in
      let both : None ≡ Some node = sym none ∙ some in
      cc both

  pub used-all : ((n : ℕ) → 1 ≤ n → n ≤ inode_number bytes → kind v bytes n ≤ 4) → used_blocks bytes (tree_in v bytes) ≡ all_used
  used-all kinds =
      flat-made (node_in v bytes) (λ e. used_content v bytes e.0 ++ used_index v bytes e.0) used 1 (inode_number bytes)
      (λ n low high none. used-free n (none-free n (kinds n low (omega (arith, high))) none))
      (λ n node some. sym (used-kind n (some-used n node some)))
