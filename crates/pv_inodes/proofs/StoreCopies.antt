-- A store to which the blocks in use of another one were copied holds the same files.
use Rattle.std.proofs.Common.{◌≡◌, ℕ, ◌<◌, ◌∷◌, true, false, List, length, Option, None, refl, sym, ap, ◌∙◌, inl, inr, arith}
use Rattle.std.specs.Prelude.{slice_index_or}
use Rattle.std.proofs.lemmas.Bool.{cases_Bool, false_from_ne_true, lt-ltb}
use Rattle.std.proofs.lemmas.List.{get_or_default, same_lists}
use Rattle.std.proofs.lemmas.List.FromFn.{get_or-map-range_with_len, length-map-range_with_len}
use Rattle.pv_model.specs.declared.version.Version.{Version}
use Rattle.pv_model.specs.Machine.{Bytes}
use Rattle.pv_blocks.specs.BlockStore.{BlockStore, CopiesUsed}
use Rattle.pv_inodes.specs.Files.{Contained}
use Rattle.pv_inodes.specs.Layout.{block_at, home, most_owned, contained_at, nodes_in, owned_at, owned_count, pointer_of}
use Rattle.pv_inodes.specs.Sound.{IsSound, files_of}
use Rattle.pv_inodes.proofs.InodeContents.{contained_at-same, owned_count-same}
use Rattle.pv_inodes.proofs.InodeFields.{SameHead, index-is, owned_at-same, same_head}
use Rattle.pv_inodes.proofs.InodeLayouts.{home-below, index_of, pointer_of-few}
use Rattle.pv_inodes.proofs.BlockOwners.{owning-same}

module _ (version : Version) (inodes : ℕ) (from old new : BlockStore) (copied : CopiesUsed from old new) (sound : IsSound version from inodes) where
  -- a block in use is the same
  same_used : (k : ℕ) → k < length from.blocks → slice_index_or from.free k true ≡ false → block_at new.blocks k ≡ block_at from.blocks k
  same_used k below used = copied.each k ∙ rw (lt-ltb k (length from.blocks) below, used) refl

  same_home : (s : ℕ) → s < inodes → block_at new.blocks (home version s) ≡ block_at from.blocks (home version s)
  same_home s below =
      let first = home-below version inodes s below in
      let within : home version s < length from.blocks = omega (arith, sound.shape.first, sound.shape.first_within) in
      let in_flags : home version s < length from.free = omega (arith, sound.shape.flags) in
      let set : slice_index_or from.free (home version s) false ≡ false = false_from_ne_true _ (λ free. omega (arith, sound.shape.free_from (home version s) free, sound.shape.first)) in
      same_used (home version s) within (get_or_default from.free (home version s) true false in_flags ∙ set)

  head : (s : ℕ) → s < inodes → SameHead version from.blocks new.blocks s
  head s below = same_head version from.blocks new.blocks s (same_home s below)

  count : (s : ℕ) → s < inodes → owned_count version new.blocks s ≡ owned_count version from.blocks s
  count s below = owned_count-same version from.blocks new.blocks s (head s below).kind (head s below).size

  -- a block that an inode owns is the same
  same_owned : (s i : ℕ) → s < inodes → i < owned_count version from.blocks s → block_at new.blocks (owned_at version from.blocks s i) ≡ block_at from.blocks (owned_at version from.blocks s i)
  same_owned s i below within = same_used (owned_at version from.blocks s i) (sound.owning.within s i below within) (sound.owning.taken s i below within)

  owned : (s i : ℕ) → s < inodes → i < owned_count version from.blocks s → owned_at version new.blocks s i ≡ owned_at version from.blocks s i
  owned s i below within =
      let few : i < most_owned version = omega (arith, sound.owning.few s below) in
      owned_at-same version from.blocks new.blocks s i ((head s below).direct (pointer_of i) (pointer_of-few version i few))
      (λ following. rw (index-is version from.blocks s i) (same_owned s (index_of i) below (omega arith)))

  node : (s : ℕ) → s < inodes → contained_at version new.blocks s ≡ contained_at version from.blocks s
  node s below = contained_at-same version from.blocks new.blocks s (record {
    kind = (head s below).kind;
    size = (head s below).size;
    owned = λ i within. owned s i below within;
    blocks = λ i within content. same_owned s i below within;
  })

  nodes : nodes_in version new.blocks inodes ≡ nodes_in version from.blocks inodes
  unfolding nodes_in
  nodes = ap (λ (ns : List (Option Contained)). None ∷ ns) (same_lists _ _
      (length-map-range_with_len (contained_at version new.blocks) 0 inodes ∙ sym (length-map-range_with_len (contained_at version from.blocks) 0 inodes))
      (λ t d within.
      let below : t < inodes = omega (arith, length-map-range_with_len (contained_at version new.blocks) 0 inodes) in
      get_or-map-range_with_len (contained_at version new.blocks) 0 inodes t t d below (omega arith)
      ∙ node t below
      ∙ sym (get_or-map-range_with_len (contained_at version from.blocks) 0 inodes t t d below (omega arith))))

  pub copied_files : files_of version new inodes ≡ files_of version from inodes
  unfolding files_of
  copied_files = rw (nodes, copied.first, copied.long) refl

  -- each block has 512 bytes
  whole_block : ((k : ℕ) → k < length old.blocks → length (block_at old.blocks k) ≡ 512) → length old.blocks ≡ length from.blocks → (k : ℕ) → k < length from.blocks → length (block_at new.blocks k) ≡ 512
  whole_block whole long k below = elim (cases_Bool (slice_index_or from.free k true)) [
    | inl free ↦ ap (λ (bs : Bytes). length bs) (copied.each k ∙ rw (lt-ltb k (length from.blocks) below, free) refl) ∙ whole k (omega (arith, long))
    | inr used ↦ ap (λ (bs : Bytes). length bs) (same_used k below used) ∙ sound.shape.whole k below
  ]

  pub copied_sound : ((k : ℕ) → k < length old.blocks → length (block_at old.blocks k) ≡ 512) → length old.blocks ≡ length from.blocks → IsSound version new inodes
  copied_sound whole long = record {
    shape = record {
      first = copied.first ∙ sound.shape.first;
      first_within = rw (copied.first, copied.long) sound.shape.first_within;
      flags = rw (copied.free, copied.long) sound.shape.flags;
      whole = λ k below. whole_block whole long k (omega (arith, copied.long));
      free_from = rw (copied.free, copied.first) sound.shape.free_from;
    };
    kinds = λ s below. rw (head s below).kind (sound.kinds s below);
    sizes = λ s below used. rw (head s below).size (sound.sizes s below (rw (head s below).kind at used));
    owning = rw (copied.first, copied.long, copied.free) (owning-same inodes (most_owned version) from.first (length from.blocks) from.free (owned_count version from.blocks) (owned_count version new.blocks) (owned_at version from.blocks) (owned_at version new.blocks) sound.owning count owned);
  }
