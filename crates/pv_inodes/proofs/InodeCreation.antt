-- An inode that owns no block is created or freed.
use Rattle.std.proofs.Common.{◌≡◌, ℕ, suc, ◌<◌, ◌≤◌, ◌≢◌, List, [], length, set, Some, refl, sym, ap, ◌∙◌, inl, inr, arith}
use Rattle.std.proofs.lemmas.Bool.{cases_eq}
use Rattle.std.proofs.lemmas.List.{nil_from_length}
use Rattle.pv_model.specs.declared.version.Version.{Version}
use Rattle.pv_model.specs.Machine.{Bytes, greatest_length}
use Rattle.pv_blocks.specs.BlockStore.{BlockStore}
use Rattle.pv_inodes.specs.Files.{kind_of_number, with_new, without}
use Rattle.pv_inodes.specs.Layout.{block_at, home, kind_at, size_at, pointer_at, owned_at, owned_count, pointer_of, most_owned, wanted, content_at, contained_at, nodes_in, with_kind, with_size}
use Rattle.pv_inodes.specs.Sound.{IsShapedStore, IsSound, files_of, resized_store, rekinded}
use Rattle.pv_inodes.proofs.InodeContents.{SameNode, contained_at-same, contained_at-used, contained_at-free, length-content_at, nodes_in-set, length-nodes_in, owned_count-used, owned_count-free, owned_count-same}
use Rattle.pv_inodes.proofs.InodeFields.{SameHead, owned_at-same, index-is, kind_at-with_kind, size_at-with_kind, head-with_kind, block_at-with_kind, length-with_kind, length-block_with_kind, size_at-with_size, head-with_size, block_at-with_size, length-with_size, length-block_with_size}
use Rattle.pv_inodes.proofs.InodeLayouts.{home-below, pointer_of-few, index_of}
use Rattle.pv_inodes.proofs.NumberMaps.{with_number-set, without_number-set}
use Rattle.pv_inodes.proofs.BlockOwners.{owning-same}

-- an inode is the same if its fields and all data blocks are the same
pub same_node : (version : Version) (st : BlockStore) (cs : List Bytes) (inodes t : ℕ) → IsSound version st inodes → t < inodes → SameHead version st.blocks cs t → ((y : ℕ) → st.first ≤ y → block_at cs y ≡ block_at st.blocks y) → SameNode version st.blocks cs t
same_node version st cs inodes t sound below head same = record {
  kind = head.kind;
  size = head.size;
  owned = λ i in_range. owned_at-same version st.blocks cs t i
      (head.direct (pointer_of i) (pointer_of-few version i (omega (arith, sound.owning.few t below))))
      (λ following. same (pointer_at version st.blocks t (pointer_of i)) (rw (index-is version st.blocks t i) (sound.owning.from t (index_of i) below (omega arith))));
  blocks = λ i in_range content. same (owned_at version st.blocks t i) (sound.owning.from t i below in_range);
}

-- inode s has another kind, and owns no block before and after
pub record Retyped (version : Version) (st after : BlockStore) (inodes s : ℕ) : Type 0 where
  pub shape : IsShapedStore version after inodes
  pub first : after.first ≡ st.first
  pub total : length after.blocks ≡ length st.blocks
  pub free : after.free ≡ st.free
  pub others : (t : ℕ) → t < inodes → t ≢ s → SameNode version st.blocks after.blocks t
  pub none_before : owned_count version st.blocks s ≡ 0
  pub none_after : owned_count version after.blocks s ≡ 0
  pub kind : kind_at version after.blocks s ≤ 4
  pub size : 0 < kind_at version after.blocks s → size_at version after.blocks s ≤ greatest_length version

pub sound_retyped : (version : Version) (st after : BlockStore) (inodes s : ℕ) → IsSound version st inodes → Retyped version st after inodes s → IsSound version after inodes
sound_retyped version st after inodes s sound retyped =
    let counts : (t : ℕ) → t < inodes → owned_count version after.blocks t ≡ owned_count version st.blocks t = λ t below. elim (cases_eq t s) [
      | inl same ↦ rw same (retyped.none_after ∙ sym retyped.none_before)
      | inr differs ↦
          let other = retyped.others t below differs in
          owned_count-same version st.blocks after.blocks t other.kind other.size
    ] in
    record {
      shape = retyped.shape;
      kinds = λ t below. elim (cases_eq t s) [
        | inl same ↦ rw same retyped.kind
        | inr differs ↦ rw (retyped.others t below differs).kind (sound.kinds t below)
      ];
      sizes = λ t below used. elim (cases_eq t s) [
        | inl same ↦ rw same (retyped.size (rw same at used))
        | inr differs ↦
            let other = retyped.others t below differs in
            rw other.size (sound.sizes t below (rw other.kind at used))
      ];
      owning = rw (retyped.first, retyped.total, retyped.free) (owning-same inodes (most_owned version) st.first (length st.blocks) st.free (owned_count version st.blocks) (owned_count version after.blocks) (owned_at version st.blocks) (owned_at version after.blocks) sound.owning counts (λ t i below in_range. elim (cases_eq t s) [
        | inl same ↦
            let count : owned_count version st.blocks t ≡ 0 = ap (owned_count version st.blocks) same ∙ retyped.none_before in
            absurd (omega arith)
        | inr differs ↦ (retyped.others t below differs).owned i in_range
      ]));
    }

wanted-zero : wanted 0 ≡ 0
unfolding wanted
wanted-zero = refl

module _ (version : Version) (st : BlockStore) (inodes s : ℕ) (sound : IsSound version st inodes) (below : s < inodes) where
  home_first : home version s < st.first
  home_first = omega (arith, home-below version inodes s below, sound.shape.first)

  pub home_within : home version s < length st.blocks
  home_within = omega (arith, home_first, sound.shape.first_within)

  home_whole : length (block_at st.blocks (home version s)) ≡ 512
  home_whole = sound.shape.whole (home version s) home_within

  -- an inode without contents is freed
  module _ (used : 0 < kind_at version st.blocks s) (empty : size_at version st.blocks s ≡ 0) where
    retyped_dropped : Retyped version st (rekinded version st s 0) inodes s
    unfolding rekinded
    retyped_dropped =
        let total = length-with_kind version st.blocks s 0 home_within home_whole in
        record {
          shape = record {
            first = sound.shape.first;
            first_within = omega (arith, sound.shape.first_within, total);
            flags = sound.shape.flags ∙ sym total;
            whole = λ y within. elim (cases_eq y (home version s)) [
              | inl same ↦ rw same (length-block_with_kind version st.blocks s 0 home_within home_whole)
              | inr differs ↦ ap length (block_at-with_kind version st.blocks s 0 home_within home_whole y differs) ∙ sound.shape.whole y (omega (arith, total))
            ];
            free_from = sound.shape.free_from;
          };
          first = refl;
          total = total;
          free = refl;
          others = λ t below_t differs. same_node version st (with_kind version st.blocks s 0) inodes t sound below_t (head-with_kind version st.blocks s 0 home_within home_whole t differs) (λ y from. block_at-with_kind version st.blocks s 0 home_within home_whole y (λ e. omega (arith, home_first)));
          none_before = owned_count-used version st.blocks s used ∙ ap wanted empty ∙ wanted-zero;
          none_after = owned_count-free version (with_kind version st.blocks s 0) s (kind_at-with_kind version st.blocks s 0 home_within home_whole);
          kind = omega (arith, kind_at-with_kind version st.blocks s 0 home_within home_whole);
          size = λ impossible. absurd (omega (arith, kind_at-with_kind version st.blocks s 0 home_within home_whole));
        }

    pub sound_dropped : IsSound version (rekinded version st s 0) inodes
    sound_dropped = sound_retyped version st (rekinded version st s 0) inodes s sound retyped_dropped

    pub files_of-dropped : files_of version (rekinded version st s 0) inodes ≡ without (files_of version st inodes) (suc s)
    unfolding files_of rekinded
    files_of-dropped =
        let total = length-with_kind version st.blocks s 0 home_within home_whole in
        let node = contained_at-free version (with_kind version st.blocks s 0) s (kind_at-with_kind version st.blocks s 0 home_within home_whole) in
        let nodes = nodes_in-set version st.blocks (with_kind version st.blocks s 0) inodes s below (λ t below_t differs. contained_at-same version st.blocks (with_kind version st.blocks s 0) t (same_node version st (with_kind version st.blocks s 0) inodes t sound below_t (head-with_kind version st.blocks s 0 home_within home_whole t differs) (λ y from. block_at-with_kind version st.blocks s 0 home_within home_whole y (λ e. omega (arith, home_first)))))
        ∙ ap (set (nodes_in version st.blocks inodes) (suc s)) node
        ∙ sym (without_number-set (nodes_in version st.blocks inodes) (suc s)) in
        rw (nodes, total) refl

  -- a free inode gets a kind, without contents
  module _ (unused : kind_at version st.blocks s ≡ 0) (kind : ℕ) (some : 0 < kind) (few : kind ≤ 4) where
    abbrev sized : List Bytes
    sized = with_size version st.blocks s 0

    pub total_sized : length (with_size version st.blocks s 0) ≡ length st.blocks
    total_sized = length-with_size version st.blocks s 0 home_within home_whole (omega arith)

    within_sized : home version s < length (with_size version st.blocks s 0)
    within_sized = omega (arith, total_sized, home_within)

    whole_sized : length (block_at (with_size version st.blocks s 0) (home version s)) ≡ 512
    whole_sized = length-block_with_size version st.blocks s 0 home_within home_whole (omega arith)

    total_made : length (with_kind version (with_size version st.blocks s 0) s kind) ≡ length st.blocks
    total_made = length-with_kind version (with_size version st.blocks s 0) s kind within_sized whole_sized ∙ total_sized

    block_made : (y : ℕ) → y ≢ home version s → block_at (with_kind version (with_size version st.blocks s 0) s kind) y ≡ block_at st.blocks y
    block_made y differs = block_at-with_kind version (with_size version st.blocks s 0) s kind within_sized whole_sized y differs ∙ block_at-with_size version st.blocks s 0 home_within home_whole (omega arith) y differs

    head_made : (t : ℕ) → t ≢ s → SameHead version st.blocks (with_kind version (with_size version st.blocks s 0) s kind) t
    head_made t differs =
        let first = head-with_size version st.blocks s 0 home_within home_whole (omega arith) t differs in
        let second = head-with_kind version (with_size version st.blocks s 0) s kind within_sized whole_sized t differs in
        record { kind = second.kind ∙ first.kind; size = second.size ∙ first.size; direct = λ i direct. second.direct i direct ∙ first.direct i direct }

    kind_made : kind_at version (with_kind version (with_size version st.blocks s 0) s kind) s ≡ kind
    kind_made = kind_at-with_kind version (with_size version st.blocks s 0) s kind within_sized whole_sized

    size_made : size_at version (with_kind version (with_size version st.blocks s 0) s kind) s ≡ 0
    size_made = size_at-with_kind version (with_size version st.blocks s 0) s kind within_sized whole_sized ∙ size_at-with_size version st.blocks s 0 home_within home_whole (omega arith)

    other_made : (t : ℕ) → t < inodes → t ≢ s → SameNode version st.blocks (with_kind version (with_size version st.blocks s 0) s kind) t
    other_made t below_t differs = same_node version st (with_kind version (with_size version st.blocks s 0) s kind) inodes t sound below_t (head_made t differs) (λ y from. block_made y (λ e. omega (arith, home_first)))

    retyped_made : Retyped version st (rekinded version (resized_store version st s 0) s kind) inodes s
    unfolding rekinded resized_store
    retyped_made = record {
      shape = record {
        first = sound.shape.first;
        first_within = omega (arith, sound.shape.first_within, total_made);
        flags = sound.shape.flags ∙ sym total_made;
        whole = λ y within. elim (cases_eq y (home version s)) [
          | inl same ↦ rw same (length-block_with_kind version (with_size version st.blocks s 0) s kind within_sized whole_sized)
          | inr differs ↦ ap length (block_made y differs) ∙ sound.shape.whole y (omega (arith, total_made))
        ];
        free_from = sound.shape.free_from;
      };
      first = refl;
      total = total_made;
      free = refl;
      others = other_made;
      none_before = owned_count-free version st.blocks s unused;
      none_after = owned_count-used version (with_kind version (with_size version st.blocks s 0) s kind) s (rw kind_made some) ∙ ap wanted size_made ∙ wanted-zero;
      kind = rw kind_made few;
      size = λ is_used. omega (arith, size_made);
    }

    pub sound_made : IsSound version (rekinded version (resized_store version st s 0) s kind) inodes
    sound_made = sound_retyped version st (rekinded version (resized_store version st s 0) s kind) inodes s sound retyped_made

    pub files_of-made : files_of version (rekinded version (resized_store version st s 0) s kind) inodes ≡ with_new (files_of version st inodes) (suc s) (kind_of_number kind)
    unfolding files_of rekinded resized_store
    files_of-made =
        let long = length-nodes_in version st.blocks inodes in
        let none : content_at version (with_kind version (with_size version st.blocks s 0) s kind) s ≡ [] = nil_from_length (content_at version (with_kind version (with_size version st.blocks s 0) s kind) s) (length-content_at version (with_kind version (with_size version st.blocks s 0) s kind) s ∙ size_made) in
        let node : contained_at version (with_kind version (with_size version st.blocks s 0) s kind) s ≡ Some (record { sort = kind_of_number kind; bytes = [] }) = contained_at-used version (with_kind version (with_size version st.blocks s 0) s kind) s (rw kind_made some) ∙ rw (kind_made, none) refl in
        let nodes = nodes_in-set version st.blocks (with_kind version (with_size version st.blocks s 0) s kind) inodes s below (λ t below_t differs. contained_at-same version st.blocks (with_kind version (with_size version st.blocks s 0) s kind) t (other_made t below_t differs))
        ∙ ap (set (nodes_in version st.blocks inodes) (suc s)) node
        ∙ sym (with_number-set (nodes_in version st.blocks inodes) (suc s) (record { sort = kind_of_number kind; bytes = [] }) (omega arith)) in
        rw (nodes, total_made) refl
