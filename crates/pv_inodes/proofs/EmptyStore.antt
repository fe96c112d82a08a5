-- A store of zeros has no inodes in use.
use Rattle.std.proofs.Common.{◌≡◌, ℕ, zero, suc, ◌+◌, ◌*◌, ◌-◌, ◌<◌, ◌≤◌, Bool, true, false, not, ◌&&◌, leb, cond, List, [], map, length, get_or, drop, replicate, count_by, None, refl, sym, ap, ◌∙◌, inl, inr, arith}
use Rattle.std.specs.List.{range_with_len, sum_by, All}
use Rattle.std.proofs.lemmas.Bool.{cases_lt, le-leb, lt-leb, leb-true, and_parts, false≢true}
use Rattle.std.proofs.lemmas.List.{same_lists, length-replicate, get_or-replicate, get_or-take, get_or-drop, get_or_past}
use Rattle.std.proofs.lemmas.List.FromFn.{length-map-range_with_len, get_or-map-range_with_len, sum_by-map-range_with_len_more}
use Rattle.std.proofs.lemmas.List.Sums.{sum_by-cons}
use Rattle.pv_model.specs.declared.version.Version.{Version}
use Rattle.pv_model.specs.Machine.{Bytes, block}
use Rattle.pv_blocks.specs.declared.block_set.BlockSet.{BlockSet}
use Rattle.pv_blocks.specs.BlockSet.{is_member}
use Rattle.pv_blocks.specs.BlockStore.{BlockStore, blocks_in_bytes, free_from}
use Rattle.pv_blocks.proofs.BlockStores.{length-block, get_or-blocks_in_bytes, length-blocks_in_bytes, length-free_from}
use Rattle.pv_inodes.specs.Layout.{block_at, number, home, offset, kind_at, owned_count, contained_at, nodes_in}
use Rattle.pv_inodes.specs.Owning.{sum_over, count_set}
use Rattle.pv_inodes.specs.Sound.{first_data, IsSound, files_of}
use Rattle.pv_inodes.proofs.InodeContents.{owned_count-free, contained_at-free}
use Rattle.pv_inodes.proofs.InodeLayouts.{home-below, inode-fits, pointers-fit}

abbrev weight : Bool → ℕ
weight f = cond f 1 0

abbrev pub free_test : ℕ → BlockSet → ℕ → Bool
free_test first used k = leb first k && not (is_member used k)

-- all blocks from the first on are free
pub count_from : (used : BlockSet) (first : ℕ) → ((k : ℕ) → is_member used k ≡ false) → (n : ℕ) → count_by (λ f. f) (free_from first used n) ≡ n - first
count_from used first none zero = omega arith
count_from used first none (suc n) =
    let next : n + 1 ≡ suc n = omega arith in
    let more = rw next at (sum_by-map-range_with_len_more weight (free_test first used) 0 n n (omega arith)) in
    elim (cases_lt n first) [
      | inl below ↦
          let nothing : weight (free_test first used n) ≡ 0 = rw (lt-leb first n below) refl in
          omega (arith, more, nothing, count_from used first none n)
      | inr from ↦
          let one : weight (free_test first used n) ≡ 1 = rw (le-leb first n from, none n) refl in
          omega (arith, more, one, count_from used first none n)
    ]

pub sum_zeros : (f : ℕ → ℕ) (a n : ℕ) → ((s : ℕ) → a ≤ s → s < a + n → f s ≡ 0) → sum_by f (range_with_len a n) ≡ 0
sum_zeros f a zero nothing = refl
sum_zeros f a (suc n) nothing =
    omega (arith, sum_by-cons f a (range_with_len (a + 1) n), nothing a (omega arith) (omega arith), sum_zeros f (a + 1) n (λ s from below. nothing s (omega arith) (omega arith)))

-- a store of zeros without data blocks in use
pub record IsEmptyStore (version : Version) (st : BlockStore) (bytes : Bytes) (used : BlockSet) (inodes count : ℕ) : Type 0 where
  pub long : length bytes ≡ 512 * count
  pub zeros : All (λ b. b ≡ 0) bytes
  pub none : (k : ℕ) → is_member used k ≡ false
  pub fits : first_data version inodes ≤ count
  pub blocks : st.blocks ≡ blocks_in_bytes count bytes
  pub free : st.free ≡ free_from (first_data version inodes) used count
  pub first : st.first ≡ first_data version inodes

module _ (version : Version) (st : BlockStore) (bytes : Bytes) (used : BlockSet) (inodes count : ℕ) (given : IsEmptyStore version st bytes used inodes count) where
  open given use {long, zeros, none, fits, blocks, free, first}

  total : length st.blocks ≡ count
  total = ap length blocks ∙ length-blocks_in_bytes count bytes

  is_block : (k : ℕ) → k < count → block_at st.blocks k ≡ block bytes k
  is_block k within = ap (λ (bs : List Bytes). block_at bs k) blocks ∙ get_or-blocks_in_bytes count bytes k [] within

  byte_zero : (i : ℕ) → get_or bytes i 0 ≡ 0
  byte_zero i = elim (cases_lt i (length bytes)) [
    | inl within ↦ zeros i 0 within
    | inr past ↦ get_or_past bytes i 0 past
  ]

  kind_zero : (s : ℕ) → s < inodes → kind_at version st.blocks s ≡ 0
  unfolding kind_at number
  kind_zero s below =
      let at_home = home-below version inodes s below in
      let byte : get_or (block_at st.blocks (home version s)) (offset version s) 0 ≡ 0 =
      ap (λ (b : Bytes). get_or b (offset version s) 0) (is_block (home version s) (omega arith))
      ∙ get_or-take 512 (drop (512 * home version s) bytes) (offset version s) 0 (omega (arith, inode-fits version s, pointers-fit version))
      ∙ get_or-drop (512 * home version s) bytes (offset version s) 0
      ∙ byte_zero (512 * home version s + offset version s) in
      rw byte (omega arith)

  none_owned : (s : ℕ) → s < inodes → owned_count version st.blocks s ≡ 0
  none_owned s below = owned_count-free version st.blocks s (kind_zero s below)

  flag_from : (k : ℕ) → get_or st.free k false ≡ true → st.first ≤ k
  flag_from k is_set =
      let flags : get_or (free_from (first_data version inodes) used count) k false ≡ true = ap (λ (fs : List Bool). get_or fs k false) (sym free) ∙ is_set in
      elim (cases_lt k count) [
        | inl within ↦
            let test : free_test (first_data version inodes) used k ≡ true = sym (get_or-map-range_with_len (free_test (first_data version inodes) used) 0 count k k false within (omega arith)) ∙ flags in
            omega (arith, first, leb-true (first_data version inodes) k (and_parts (leb (first_data version inodes) k) (not (is_member used k)) test).0)
        | inr past ↦
            absurd (false≢true (sym (get_or_past (free_from (first_data version inodes) used count) k false (omega (arith, length-free_from (first_data version inodes) used count))) ∙ flags))
      ]

  counted_empty : count_set st.free + sum_over inodes (owned_count version st.blocks) + st.first ≡ length st.blocks
  unfolding count_set sum_over
  counted_empty =
      let flags : count_by (λ f. f) st.free ≡ count - first_data version inodes = ap (count_by (λ f. f)) free ∙ count_from used (first_data version inodes) none count in
      let nothing = sum_zeros (owned_count version st.blocks) 0 inodes (λ s from below. none_owned s (omega arith)) in
      omega (arith, flags, nothing, total, first)

  pub sound_empty : IsSound version st inodes
  sound_empty = record {
    shape = record {
      first = first;
      first_within = omega (arith, first, total);
      flags = ap length free ∙ length-free_from (first_data version inodes) used count ∙ sym total;
      whole = λ k within. ap length (is_block k (omega (arith, total))) ∙ length-block bytes k (omega (arith, total));
      free_from = flag_from;
    };
    kinds = λ s below. omega (arith, kind_zero s below);
    sizes = λ s below used. absurd (omega (arith, kind_zero s below));
    owning = record {
      few = λ s below. omega (arith, none_owned s below);
      from = λ s i below in_range. absurd (omega (arith, none_owned s below));
      within = λ s i below in_range. absurd (omega (arith, none_owned s below));
      taken = λ s i below in_range. absurd (omega (arith, none_owned s below));
      apart = λ s i t j below in_range below_t in_range_t same. absurd (omega (arith, none_owned s below));
      counted = counted_empty;
    };
  }

  pub files_of-empty : files_of version st inodes ≡ record { version = version; nodes = replicate (suc inodes) None; blocks = count - first_data version inodes }
  unfolding files_of nodes_in
  files_of-empty =
      let length_nodes = length-map-range_with_len (contained_at version st.blocks) 0 inodes in
      let nodes : map (contained_at version st.blocks) (range_with_len 0 inodes) ≡ replicate inodes None = same_lists _ _ (length_nodes ∙ sym (length-replicate inodes None)) (λ s d within.
      let below : s < inodes = rw length_nodes at within in
      get_or-map-range_with_len (contained_at version st.blocks) 0 inodes s s d below (omega arith) ∙ contained_at-free version st.blocks s (kind_zero s below) ∙ sym (get_or-replicate inodes s None d below)) in
      rw (nodes, total, first) refl
