-- The store over the bytes of an image while its blocks are marked as in use, and the files in it.
use Rattle.std.proofs.Common.{◌≡◌, ℕ, suc, ◌+◌, ◌*◌, ◌-◌, ◌/◌, ◌<◌, ◌≤◌, ◌≢◌, Bool, false, List, ◌∷◌, map, length, Option, None, Some, refl, sym, ap, subst, ◌∙◌, inl, inr, arith}
use Rattle.std.specs.List.{range_with_len}
use Rattle.std.proofs.lemmas.Bool.{cases_eq, eq-eqb, ne_eqb}
use Rattle.std.proofs.lemmas.List.{same_lists}
use Rattle.std.proofs.lemmas.List.FromFn.{length-map-range_with_len, get_or-map-range_with_len}
use Rattle.std.proofs.lemmas.Option.{slice_get-get_or}
use Rattle.pv_model.specs.declared.version.Version.{Version}
use Rattle.pv_model.specs.Machine.{Bytes, inode_blocks, content, kind}
use Rattle.pv_blocks.specs.declared.block_set.BlockSet.{BlockSet}
use Rattle.pv_blocks.specs.BlockSet.{is_member}
use Rattle.pv_blocks.specs.BlockStore.{BlockStore, blocks_in_bytes, free_from, IsFree, take}
use Rattle.pv_blocks.proofs.BlockStores.{length-block, length-blocks_in_bytes}
use Rattle.pv_inodes.specs.Files.{Contained, kind_of_number}
use Rattle.pv_inodes.specs.Images.{AreInodes, contained, files_in}
use Rattle.pv_inodes.specs.Layout.{home, kind_at, size_at, pointer_at, owned_at, owned_count, content_at, contained_at, nodes_in, most_owned, pointer_of, after_index, position_of_block}
use Rattle.pv_inodes.specs.Sound.{first_data, IsSound, files_of}
use Rattle.pv_inodes.proofs.ClaimedBlocks.{IsClaimed, next_free, claimed_none, claimed_more, claimed_next, owning_all}
use Rattle.pv_inodes.proofs.InodeContents.{owned_count-used, contained_at-used, contained_at-free}
use Rattle.pv_inodes.proofs.InodeFields.{index-is}
use Rattle.pv_inodes.proofs.ImageBlocks.{block_at-image, kind-inode, size-inode, content-inode}
use Rattle.pv_inodes.proofs.InodeLayouts.{home-below, first_data-is, wanted-is, position_of_block-is, index_of, greatest_length-most}
use Rattle.pv_inodes.proofs.BlockUses.{MayOwn, may_own}

-- the blocks of an image; those in use are the ones that the inodes before inode s own, and the first i of s
pub record IsOver (v : Version) (bytes : Bytes) (count inodes : ℕ) (st : BlockStore) (s i : ℕ) : Type 0 where
  pub whole : length bytes ≡ 512 * count
  pub are : AreInodes v bytes inodes
  pub fits : first_data v inodes ≤ count
  pub blocks : st.blocks ≡ blocks_in_bytes count bytes
  pub first : st.first ≡ first_data v inodes
  pub claimed : IsClaimed v (blocks_in_bytes count bytes) inodes (first_data v inodes) st.free s i

pub over_none : (v : Version) (bytes : Bytes) (count inodes : ℕ) (st : BlockStore) (used : BlockSet) → length bytes ≡ 512 * count → AreInodes v bytes inodes → first_data v inodes ≤ count
    → st.blocks ≡ blocks_in_bytes count bytes → st.first ≡ first_data v inodes → st.free ≡ free_from (first_data v inodes) used count → ((k : ℕ) → is_member used k ≡ false)
    → IsOver v bytes count inodes st 0 0
over_none v bytes count inodes st used whole are fits blocks first free none =
    let long = length-blocks_in_bytes count bytes in
    record {
      whole = whole;
      are = are;
      fits = fits;
      blocks = blocks;
      first = first;
      claimed = subst (λ (flags : List Bool). IsClaimed v (blocks_in_bytes count bytes) inodes (first_data v inodes) flags 0 0)
          (ap (free_from (first_data v inodes) used) long ∙ sym free)
          (claimed_none v (blocks_in_bytes count bytes) inodes (first_data v inodes) used (omega arith) none);
    }

module _ (v : Version) (bytes : Bytes) (count inodes : ℕ) (st : BlockStore) (s i : ℕ) (over : IsOver v bytes count inodes st s i) where
  abbrev bs : List Bytes
  bs = blocks_in_bytes count bytes

  may : MayOwn v bs inodes (first_data v inodes)
  may = may_own v bytes count inodes over.whole over.are

  total : length st.blocks ≡ count
  total = ap length over.blocks ∙ length-blocks_in_bytes count bytes

  owned_count-bs : owned_count v st.blocks s ≡ owned_count v bs s
  owned_count-bs = ap (λ (cs : List Bytes). owned_count v cs s) over.blocks

  owned_at-bs : (j : ℕ) → owned_at v st.blocks s j ≡ owned_at v bs s j
  owned_at-bs j = ap (λ (cs : List Bytes). owned_at v cs s j) over.blocks

  module _ (below : s < inodes) where
    pub home_over : home v s < length st.blocks
    home_over = omega (arith, home-below v inodes s below, over.fits, total)

    pub size_over : 0 < kind_at v st.blocks s → size_at v st.blocks s ≤ 660480
    size_over used =
        let used_bs : 0 < kind_at v bs s = subst (λ (cs : List Bytes). 0 < kind_at v cs s) over.blocks used in
        omega (arith, may.sizes s below used_bs, greatest_length-most v, ap (λ (cs : List Bytes). size_at v cs s) over.blocks)

    pub over_next : i ≡ owned_count v st.blocks s → IsOver v bytes count inodes st (suc s) 0
    over_next all = record {
      whole = over.whole;
      are = over.are;
      fits = over.fits;
      blocks = over.blocks;
      first = over.first;
      claimed = claimed_next v bs inodes (first_data v inodes) may st.free s i over.claimed (all ∙ owned_count-bs);
    }

    module _ (more : i < owned_count v st.blocks s) where
      more_bs : i < owned_count v bs s
      more_bs = omega (arith, owned_count-bs)

      pub most_over : i < most_owned v
      most_over = omega (arith, may.few s below, more_bs)

      pub index_over : after_index i ≢ 0 → pointer_at v st.blocks s (pointer_of i) < length st.blocks
      index_over following =
          let in_row : index_of i < owned_count v bs s = omega (arith, more_bs) in
          omega (arith, index-is v st.blocks s i, owned_at-bs (index_of i), may.within s (index_of i) below in_row, total, length-blocks_in_bytes count bytes)

      pub free_over : (k : ℕ) → k ≡ owned_at v st.blocks s i → IsFree st k
      free_over k is =
          let within = may.within s i below more_bs in
          let here : k ≡ owned_at v bs s i = is ∙ owned_at-bs i in
          rw here (slice_get-get_or st.free (owned_at v bs s i) false (omega (arith, over.claimed.flags))
          ∙ ap Some (next_free v bs inodes (first_data v inodes) may st.free s i over.claimed below more_bs))

      pub over_more : (after : BlockStore) (k : ℕ) → k ≡ owned_at v st.blocks s i → after ≡ take st k → IsOver v bytes count inodes after s (i + 1)
      over_more after k is taken =
          let here : k ≡ owned_at v bs s i = is ∙ owned_at-bs i in
          let next : i + 1 ≡ suc i = omega arith in
          subst (λ (x : BlockStore). IsOver v bytes count inodes x s (i + 1)) (sym taken) (record {
            whole = over.whole;
            are = over.are;
            fits = over.fits;
            blocks = over.blocks;
            first = over.first;
            claimed = rw (here, next) (claimed_more v bs inodes (first_data v inodes) may st.free s i over.claimed below more_bs);
          })

-- ---- all blocks that inodes use are in use

-- the contents of an inode are read from its blocks
pub node-inode : (v : Version) (bytes : Bytes) (count inodes s : ℕ) → length bytes ≡ 512 * count → AreInodes v bytes inodes → s < inodes → contained_at v (blocks_in_bytes count bytes) s ≡ contained v bytes (suc s)
node-inode v bytes count inodes s whole are below =
    let kinds = kind-inode v bytes count whole s in
    elim (cases_eq (kind v bytes (suc s)) 0) [
      | inl free ↦ contained_at-free v (blocks_in_bytes count bytes) s (omega arith) ∙ sym (rw (eq-eqb (kind v bytes (suc s)) 0 free) refl)
      | inr used ↦
          let some : 0 < kind_at v (blocks_in_bytes count bytes) s = omega arith in
          let may = may_own v bytes count inodes whole are in
          let allowed = are.sizes (suc s) (omega arith) (omega arith) (omega arith) in
          let row = owned_count-used v (blocks_in_bytes count bytes) s some in
          let sizes = size-inode v bytes count whole s in
          let same : content_at v (blocks_in_bytes count bytes) s ≡ content v bytes (suc s) = content-inode v bytes count whole s allowed (λ j less.
          omega (arith, may.within s (position_of_block j) below (omega (arith, position_of_block-is j, row, wanted-is (size_at v (blocks_in_bytes count bytes) s), sizes)), length-blocks_in_bytes count bytes)) in
          contained_at-used v (blocks_in_bytes count bytes) s some
          ∙ ap (λ (bs : Bytes). let c : Option Contained = Some (record { sort = kind_of_number (kind_at v (blocks_in_bytes count bytes) s); bytes = bs }) in c) same
          ∙ ap (λ k. let c : Option Contained = Some (record { sort = kind_of_number k; bytes = content v bytes (suc s) }) in c) (sym kinds)
          ∙ sym (rw (ne_eqb (kind v bytes (suc s)) 0 used) refl)
    ]

module _ (v : Version) (bytes : Bytes) (count inodes : ℕ) (st : BlockStore) (all : IsOver v bytes count inodes st inodes 0) where
  abbrev cs : List Bytes
  cs = blocks_in_bytes count bytes

  pub sound_over : IsSound v st inodes
  sound_over =
      let may = may_own v bytes count inodes all.whole all.are in
      let long : length st.blocks ≡ count = ap length all.blocks ∙ length-blocks_in_bytes count bytes in
      subst (λ (x : BlockStore). IsSound v x inodes) (sym (as_parts st all.blocks all.first)) (record {
        shape = record {
          first = refl;
          first_within = omega (arith, all.fits, length-blocks_in_bytes count bytes);
          flags = all.claimed.flags;
          whole = λ k within. ap length (block_at-image v bytes count all.whole k) ∙ length-block bytes k (omega (arith, length-blocks_in_bytes count bytes, all.whole));
          free_from = all.claimed.free_from;
        };
        kinds = may.kinds;
        sizes = may.sizes;
        owning = owning_all v cs inodes (first_data v inodes) st.free all.claimed;
      })
    where
      as_parts : (x : BlockStore) → x.blocks ≡ cs → x.first ≡ first_data v inodes → x ≡ record { blocks = cs; free = x.free; first = first_data v inodes }
      as_parts x blocks first = λ j. record { blocks = blocks j; free = x.free; first = first j }

  pub files_of-over : files_of v st inodes ≡ files_in v bytes inodes
  unfolding files_of nodes_in files_in
  files_of-over =
      let long : length st.blocks ≡ length bytes / 512 = ap length all.blocks ∙ length-blocks_in_bytes count bytes ∙ omega (arith, all.whole) in
      let length_own = length-map-range_with_len (contained_at v st.blocks) 0 inodes in
      let length_reported = length-map-range_with_len (contained v bytes) 1 inodes in
      let nodes : map (contained_at v st.blocks) (range_with_len 0 inodes) ≡ map (contained v bytes) (range_with_len 1 inodes) = same_lists _ _ (length_own ∙ sym length_reported) (λ s d within.
      let below : s < inodes = rw length_own at within in
      get_or-map-range_with_len (contained_at v st.blocks) 0 inodes s s d below (omega arith)
      ∙ ap (λ (xs : List Bytes). contained_at v xs s) all.blocks
      ∙ node-inode v bytes count inodes s all.whole all.are below
      ∙ sym (get_or-map-range_with_len (contained v bytes) 1 inodes s (suc s) d below (omega arith))) in
      let sizes : length st.blocks - st.first ≡ length bytes / 512 - (inode_blocks v inodes + 1) = omega (arith, long, all.first, first_data-is v inodes) in
      λ j. record { version = v; nodes = None ∷ nodes j; blocks = sizes j }
