-- An inode allocates a block.
use Rattle.std.proofs.Common.{◌≡◌, ℕ, suc, ◌*◌, ◌-◌, ◌^◌, ◌<◌, ◌≤◌, ◌≢◌, Bool, true, false, List, [], length, get_or, set, refl, sym, ap, ◌∙◌, inl, inr, arith}
use Rattle.std.proofs.lemmas.Bool.{cases_eq}
use Rattle.std.proofs.lemmas.List.{get_or-set_same, get_or-set_other, length-set, length-replicate}
use Rattle.std.proofs.lemmas.Option.{get_or_from_slice_get, slice_get_within}
use Rattle.pv_model.specs.declared.version.Version.{Version}
use Rattle.pv_model.specs.Machine.{Bytes}
use Rattle.pv_blocks.specs.BlockStore.{BlockStore, IsFree, take, with_block}
use Rattle.pv_inodes.specs.Layout.{block_at, home, kind_at, size_at, pointer_at, owned_at, with_owned, zeros, number, pointer_count, most_owned, after_index, pointer_of}
use Rattle.pv_inodes.specs.Owning.{changed, IsOwning}
use Rattle.pv_inodes.specs.Sound.{first_data, IsShapedStore, pushed}
use Rattle.pv_inodes.proofs.InodeFields.{SameHead, same_head, owned_at-same, owned_at-direct, owned_at-entry, index-is, pointer_at-with_direct_same, pointer_at-with_direct_other, kind_at-with_direct, size_at-with_direct, head-with_direct, block_at-with_direct, length-block_with_direct, length-with_owned, block_at-with_entry, length-block_with_entry, entry-same, entry-other}
use Rattle.pv_inodes.proofs.InodeLayouts.{home-below, index_of, IsContent, index_of-is_index, index_of-apart, after_index-apart, pointer_of-few, pointer_of-apart}
use Rattle.pv_inodes.proofs.BlockOwners.{owning-same, free_unowned, owning-take}

pub length-zeros : length zeros ≡ 512
unfolding zeros
length-zeros = length-replicate {A = ℕ} 512 0

-- the blocks after block k was recorded as the next one that inode s owns
pub record Names (version : Version) (bs cs : List Bytes) (inodes first : ℕ) (count : ℕ → ℕ) (s k : ℕ) : Type 0 where
  pub kinds : (t : ℕ) → t < inodes → kind_at version cs t ≡ kind_at version bs t
  pub sizes : (t : ℕ) → t < inodes → size_at version cs t ≡ size_at version bs t
  pub owned : (t i : ℕ) → t < inodes → i < count t → owned_at version cs t i ≡ owned_at version bs t i
  pub here : owned_at version cs s (count s) ≡ k
  pub blocks : (y : ℕ) → first ≤ y → (after_index (count s) ≢ 0 → y ≢ owned_at version bs s (index_of (count s))) → block_at cs y ≡ block_at bs y
  pub whole : (y : ℕ) → y < length cs → length (block_at cs y) ≡ 512

module _ (version : Version) (bs : List Bytes) (inodes first : ℕ) (free : List Bool) (count : ℕ → ℕ) (s k : ℕ) (below : s < inodes) (at_first : first ≡ first_data version inodes) (first_within : first ≤ length bs) (whole : (y : ℕ) → y < length bs → length (block_at bs y) ≡ 512) (owning : IsOwning inodes (most_owned version) first (length bs) free count (owned_at version bs)) (few : count s < most_owned version) (small : k < 2 ^ 16) where
  home-first : (t : ℕ) → t < inodes → home version t < first
  home-first t below_t = omega (arith, home-below version inodes t below_t)

  home_within : home version s < length bs
  home_within = omega (arith, home-first s below)

  home_whole : length (block_at bs (home version s)) ≡ 512
  home_whole = whole (home version s) home_within

  -- a block that is owned has a pointer in the inode, directly or through its index block
  has_pointer : (t i : ℕ) → t < inodes → i < count t → pointer_of i < pointer_count version
  has_pointer t i below_t in_range = pointer_of-few version i (omega (arith, owning.few t below_t))

  -- the index block of a block that is owned is owned too
  index_owned : (t i : ℕ) → t < inodes → i < count t → first ≤ pointer_at version bs t (pointer_of i)
  index_owned t i below_t in_range = rw (index-is version bs t i) (owning.from t (index_of i) below_t (omega arith))

  module _ (direct : after_index (count s) ≡ 0) where
    others_direct : (t : ℕ) → t ≢ s → SameHead version bs (with_owned version bs s (count s) k) t
    others_direct t differs = head-with_direct version bs s (count s) k home_within home_whole direct few small t differs

    block_direct : (y : ℕ) → first ≤ y → block_at (with_owned version bs s (count s) k) y ≡ block_at bs y
    block_direct y from =
        let at_home = home-first s below in
        let apart : y ≢ home version s = λ e. omega arith in
        block_at-with_direct version bs s (count s) k home_within home_whole direct few small y apart

    pointer_direct : (t i : ℕ) → t < inodes → i < count t → pointer_at version (with_owned version bs s (count s) k) t (pointer_of i) ≡ pointer_at version bs t (pointer_of i)
    pointer_direct t i below_t in_range = elim (cases_eq t s) [
      | inl same ↦
          let counts : count t ≡ count s = ap count same in
          rw same (pointer_at-with_direct_other version bs s (count s) k home_within home_whole direct few small (pointer_of i) (pointer_of-apart i (count s) (omega arith) direct))
      | inr differs ↦ (others_direct t differs).direct (pointer_of i) (has_pointer t i below_t in_range)
    ]

    owned_direct : (t i : ℕ) → t < inodes → i < count t → owned_at version (with_owned version bs s (count s) k) t i ≡ owned_at version bs t i
    owned_direct t i below_t in_range = owned_at-same version bs (with_owned version bs s (count s) k) t i (pointer_direct t i below_t in_range) (λ following. block_direct (pointer_at version bs t (pointer_of i)) (index_owned t i below_t in_range))

    names_direct : Names version bs (with_owned version bs s (count s) k) inodes first count s k
    names_direct = record {
      kinds = λ t below_t. elim (cases_eq t s) [
        | inl same ↦ rw same (kind_at-with_direct version bs s (count s) k home_within home_whole direct few small)
        | inr differs ↦ (others_direct t differs).kind
      ];
      sizes = λ t below_t. elim (cases_eq t s) [
        | inl same ↦ rw same (size_at-with_direct version bs s (count s) k home_within home_whole direct few small)
        | inr differs ↦ (others_direct t differs).size
      ];
      owned = owned_direct;
      here = owned_at-direct version (with_owned version bs s (count s) k) s (count s) direct ∙ pointer_at-with_direct_same version bs s (count s) k home_within home_whole direct few small;
      blocks = λ y from apart. block_direct y from;
      whole = λ y within. elim (cases_eq y (home version s)) [
        | inl same ↦ rw same (length-block_with_direct version bs s (count s) k home_within home_whole direct few small)
        | inr differs ↦ ap length (block_at-with_direct version bs s (count s) k home_within home_whole direct few small y differs) ∙ whole y (omega (arith, length-with_owned version bs s (count s) k))
      ];
    }

  module _ (following : after_index (count s) ≢ 0) where
    -- the index block that receives the pointer
    abbrev index : ℕ
    index = pointer_at version bs s (pointer_of (count s))

    before : index_of (count s) < count s
    before = omega arith

    index_from : first ≤ pointer_at version bs s (pointer_of (count s))
    index_from = rw (index-is version bs s (count s)) (owning.from s (index_of (count s)) below before)

    index_within : pointer_at version bs s (pointer_of (count s)) < length bs
    index_within = rw (index-is version bs s (count s)) (owning.within s (index_of (count s)) below before)

    index_whole : length (block_at bs (pointer_at version bs s (pointer_of (count s)))) ≡ 512
    index_whole = whole (pointer_at version bs s (pointer_of (count s))) index_within

    block_entry : (y : ℕ) → y ≢ pointer_at version bs s (pointer_of (count s)) → block_at (with_owned version bs s (count s) k) y ≡ block_at bs y
    block_entry y apart = block_at-with_entry version bs s (count s) k index_within index_whole following small y apart

    head_entry : (t : ℕ) → t < inodes → SameHead version bs (with_owned version bs s (count s) k) t
    head_entry t below_t =
        let at_home = home-first t below_t in
        let from = index_from in
        let apart : home version t ≢ pointer_at version bs s (pointer_of (count s)) = λ e. omega arith in
        same_head version bs (with_owned version bs s (count s) k) t (block_entry (home version t) apart)

    pointer_entry : (t i : ℕ) → t < inodes → i < count t → pointer_at version (with_owned version bs s (count s) k) t (pointer_of i) ≡ pointer_at version bs t (pointer_of i)
    pointer_entry t i below_t in_range = (head_entry t below_t).direct (pointer_of i) (has_pointer t i below_t in_range)

    -- an index block belongs to one inode, at one position
    one_index : (t i : ℕ) → t < inodes → i < count t → pointer_at version bs t (pointer_of i) ≡ pointer_at version bs s (pointer_of (count s)) → (t ≡ s) × (index_of i ≡ index_of (count s))
    one_index t i below_t in_range same = owning.apart t (index_of i) s (index_of (count s)) below_t (omega arith) below before (sym (index-is version bs t i) ∙ same ∙ index-is version bs s (count s))

    -- the blocks of another index block do not change either
    owned_apart : (t i : ℕ) → t < inodes → i < count t → pointer_at version bs t (pointer_of i) ≢ pointer_at version bs s (pointer_of (count s)) → owned_at version (with_owned version bs s (count s) k) t i ≡ owned_at version bs t i
    owned_apart t i below_t in_range apart = owned_at-same version bs (with_owned version bs s (count s) k) t i (pointer_entry t i below_t in_range) (λ past. block_entry (pointer_at version bs t (pointer_of i)) apart)

    -- the other pointers in the index block do not change
    owned_other : (i : ℕ) → i < count s → after_index i ≢ 0 → pointer_at version bs s (pointer_of i) ≡ pointer_at version bs s (pointer_of (count s)) → owned_at version (with_owned version bs s (count s) k) s i ≡ owned_at version bs s i
    owned_other i in_range past same =
        let group : pointer_of i ≡ pointer_of (count s) = index_of-apart i (count s) past following (one_index s i below in_range same).1 in
        let differs : after_index i ≢ after_index (count s) = after_index-apart i (count s) (λ e. omega arith) past following group in
        owned_at-entry version (with_owned version bs s (count s) k) s i past
        ∙ ap (λ p. number (with_owned version bs s (count s) k) p (2 * (after_index i - 1)) 2) (pointer_entry s i below in_range ∙ same)
        ∙ entry-other version bs s (count s) k index_within index_whole following small i past differs
        ∙ ap (λ p. number bs p (2 * (after_index i - 1)) 2) (sym same)
        ∙ sym (owned_at-entry version bs s i past)

    owned_entry : (t i : ℕ) → t < inodes → i < count t → owned_at version (with_owned version bs s (count s) k) t i ≡ owned_at version bs t i
    owned_entry t i below_t in_range = elim (cases_eq (after_index i) 0) [
      | inl direct ↦
          owned_at-direct version (with_owned version bs s (count s) k) t i direct
          ∙ pointer_entry t i below_t in_range
          ∙ sym (owned_at-direct version bs t i direct)
      | inr past ↦ elim (cases_eq (pointer_at version bs t (pointer_of i)) (pointer_at version bs s (pointer_of (count s)))) [
        | inl same ↦
            let here = (one_index t i below_t in_range same).0 in
            let counts : count t ≡ count s = ap count here in
            rw here (owned_other i (omega arith) past (rw here at same))
        | inr apart ↦ owned_apart t i below_t in_range apart
      ]
    ]

    names_entry : Names version bs (with_owned version bs s (count s) k) inodes first count s k
    names_entry = record {
      kinds = λ t below_t. (head_entry t below_t).kind;
      sizes = λ t below_t. (head_entry t below_t).size;
      owned = owned_entry;
      here =
          owned_at-entry version (with_owned version bs s (count s) k) s (count s) following
          ∙ ap (λ p. number (with_owned version bs s (count s) k) p (2 * (after_index (count s) - 1)) 2) ((head_entry s below).direct (pointer_of (count s)) (pointer_of-few version (count s) few))
          ∙ entry-same version bs s (count s) k index_within index_whole following small;
      blocks = λ y from apart. block_entry y (λ e. apart following (e ∙ index-is version bs s (count s)));
      whole = λ y within. elim (cases_eq y (pointer_at version bs s (pointer_of (count s)))) [
        | inl same ↦ rw same (length-block_with_entry version bs s (count s) k index_within index_whole following small)
        | inr differs ↦ ap length (block_entry y differs) ∙ whole y (omega (arith, length-with_owned version bs s (count s) k))
      ];
    }

  pub names : Names version bs (with_owned version bs s (count s) k) inodes first count s k
  names = elim (cases_eq (after_index (count s)) 0) [ inl direct ↦ names_direct direct | inr following ↦ names_entry following ]

-- the store after inode s allocated block k as the next one that it owns
pub record Pushed (version : Version) (st after : BlockStore) (inodes : ℕ) (count : ℕ → ℕ) (s k : ℕ) : Type 0 where
  pub shape : IsShapedStore version after inodes
  pub first : after.first ≡ st.first
  pub total : length after.blocks ≡ length st.blocks
  pub owning : IsOwning inodes (most_owned version) after.first (length after.blocks) after.free (changed count s (suc (count s))) (owned_at version after.blocks)
  pub kinds : (t : ℕ) → t < inodes → kind_at version after.blocks t ≡ kind_at version st.blocks t
  pub sizes : (t : ℕ) → t < inodes → size_at version after.blocks t ≡ size_at version st.blocks t
  pub owned : (t i : ℕ) → t < inodes → i < count t → owned_at version after.blocks t i ≡ owned_at version st.blocks t i
  pub here : owned_at version after.blocks s (count s) ≡ k
  pub blocks : (t i : ℕ) → t < inodes → i < count t → IsContent i → block_at after.blocks (owned_at version st.blocks t i) ≡ block_at st.blocks (owned_at version st.blocks t i)
  pub cleared : block_at after.blocks k ≡ zeros

module _ (version : Version) (st : BlockStore) (inodes : ℕ) (count : ℕ → ℕ) (s k : ℕ) (below : s < inodes) (shape : IsShapedStore version st inodes) (owning : IsOwning inodes (most_owned version) st.first (length st.blocks) st.free count (owned_at version st.blocks)) (few : count s < most_owned version) (small : k < 2 ^ 16) (is_free : IsFree st k) where
  flag : (d : Bool) → get_or st.free k d ≡ true
  flag d = get_or_from_slice_get st.free k true d is_free

  within : k < length st.blocks
  within = omega (arith, slice_get_within st.free k true is_free, shape.flags)

  from : st.first ≤ k
  from = shape.free_from k (flag false)

  -- the blocks after block k is cleared
  abbrev clear : List Bytes
  clear = set st.blocks k zeros

  block_clear : (y : ℕ) → y ≢ k → block_at (set st.blocks k zeros) y ≡ block_at st.blocks y
  block_clear y differs = get_or-set_other st.blocks k y zeros [] differs

  block_cleared : block_at (set st.blocks k zeros) k ≡ zeros
  block_cleared = get_or-set_same st.blocks k zeros [] within

  long_clear : length (set st.blocks k zeros) ≡ length st.blocks
  long_clear = length-set st.blocks k zeros

  unowned : (t i : ℕ) → t < inodes → i < count t → owned_at version st.blocks t i ≢ k
  unowned t i below_t in_range = free_unowned inodes (most_owned version) st.first (length st.blocks) st.free count (owned_at version st.blocks) owning shape.flags k (flag true) t i below_t in_range

  head_clear : (t : ℕ) → t < inodes → SameHead version st.blocks (set st.blocks k zeros) t
  head_clear t below_t =
      let at_home = home-below version inodes t below_t in
      let at_first = shape.first in
      let from_k = from in
      let apart : home version t ≢ k = λ e. omega arith in
      same_head version st.blocks (set st.blocks k zeros) t (block_clear (home version t) apart)

  owned_clear : (t i : ℕ) → t < inodes → i < count t → owned_at version (set st.blocks k zeros) t i ≡ owned_at version st.blocks t i
  owned_clear t i below_t in_range = owned_at-same version st.blocks (set st.blocks k zeros) t i
      ((head_clear t below_t).direct (pointer_of i) (pointer_of-few version i (omega (arith, owning.few t below_t))))
      (λ following. block_clear (pointer_at version st.blocks t (pointer_of i)) (rw (index-is version st.blocks t i) (unowned t (index_of i) below_t (omega arith))))

  whole_clear : (y : ℕ) → y < length (set st.blocks k zeros) → length (block_at (set st.blocks k zeros) y) ≡ 512
  whole_clear y in_range = elim (cases_eq y k) [
    | inl same ↦ rw (same, block_cleared) length-zeros
    | inr differs ↦ ap length (block_clear y differs) ∙ shape.whole y (omega (arith, long_clear))
  ]

  owning_clear : IsOwning inodes (most_owned version) st.first (length (set st.blocks k zeros)) st.free count (owned_at version (set st.blocks k zeros))
  owning_clear = rw long_clear (owning-same inodes (most_owned version) st.first (length st.blocks) st.free count count (owned_at version st.blocks) (owned_at version (set st.blocks k zeros)) owning (λ t below_t. refl) owned_clear)

  names_clear : Names version (set st.blocks k zeros) (with_owned version (set st.blocks k zeros) s (count s) k) inodes st.first count s k
  names_clear = names version (set st.blocks k zeros) inodes st.first st.free count s k below shape.first (omega (arith, long_clear, shape.first_within)) whole_clear owning_clear few small

  -- the index block is not the one that is allocated
  index_apart : after_index (count s) ≢ 0 → k ≢ owned_at version (set st.blocks k zeros) s (index_of (count s))
  index_apart following same =
      let before : index_of (count s) < count s = omega arith in
      unowned s (index_of (count s)) below before (sym (owned_clear s (index_of (count s)) below before) ∙ sym same)

  pub is_pushed : Pushed version st (pushed version st s (count s) k) inodes count s k
  unfolding pushed
  is_pushed =
      let done = names_clear in
      let total = length-with_owned version (set st.blocks k zeros) s (count s) k ∙ long_clear in
      let taken = owning-take inodes (most_owned version) st.first (length st.blocks) st.free count (owned_at version st.blocks) owning shape.flags s below few k flag from within (owned_at version (with_owned version (set st.blocks k zeros) s (count s) k)) (λ t i below_t in_range. done.owned t i below_t in_range ∙ owned_clear t i below_t in_range) done.here in
      record {
        shape = record {
          first = shape.first;
          first_within = omega (arith, total, shape.first_within);
          flags = omega (arith, total, shape.flags, length-set st.free k false);
          whole = done.whole;
          free_from = λ y is_set. elim (cases_eq y k) [
            | inl same ↦ rw same from
            | inr differs ↦ shape.free_from y (sym (get_or-set_other st.free k y false false differs) ∙ is_set)
          ];
        };
        first = refl;
        total = total;
        owning = rw total taken;
        kinds = λ t below_t. done.kinds t below_t ∙ (head_clear t below_t).kind;
        sizes = λ t below_t. done.sizes t below_t ∙ (head_clear t below_t).size;
        owned = λ t i below_t in_range. done.owned t i below_t in_range ∙ owned_clear t i below_t in_range;
        here = done.here;
        blocks = λ t i below_t in_range content.
            done.blocks (owned_at version st.blocks t i) (owning.from t i below_t in_range) (λ following same.
            let before : index_of (count s) < count s = omega arith in
            let index = (owning.apart t i s (index_of (count s)) below_t in_range below before (same ∙ owned_clear s (index_of (count s)) below before)).1 in
            content (rw index (index_of-is_index (count s) following)))
            ∙ block_clear (owned_at version st.blocks t i) (unowned t i below_t in_range);
        cleared = done.blocks k from index_apart ∙ block_cleared;
      }

-- a block is allocated, cleared, and recorded as one that inode s owns
pub pushed-steps : (version : Version) (st taken cleared named : BlockStore) (s i k : ℕ) → taken ≡ take st k → cleared ≡ with_block taken k zeros → named ≡ record cleared { blocks = with_owned version cleared.blocks s i k } → named ≡ pushed version st s i k
unfolding pushed
pushed-steps version st taken cleared named s i k first second third =
    let steps : cleared ≡ with_block (take st k) k zeros = second ∙ ap (λ (a : BlockStore). with_block a k zeros) first in
    third ∙ ap (λ (b : BlockStore). record b { blocks = with_owned version b.blocks s i k }) steps

-- the pointers of inode s do not change as a block is cleared
pub pointer_at-cleared : (version : Version) (st taken cleared : BlockStore) (s k p : ℕ) → taken ≡ take st k → cleared ≡ with_block taken k zeros → home version s < st.first → st.first ≤ k → p < pointer_count version → pointer_at version cleared.blocks s p ≡ pointer_at version st.blocks s p
pointer_at-cleared version st taken cleared s k p first second at_home from direct =
    let blocks : cleared.blocks ≡ set st.blocks k zeros = ap (λ (b : BlockStore). b.blocks) second ∙ ap (λ (a : BlockStore). set a.blocks k zeros) first in
    let apart : home version s ≢ k = λ e. omega arith in
    ap (λ (bs : List Bytes). pointer_at version bs s p) blocks ∙ (same_head version st.blocks (set st.blocks k zeros) s (get_or-set_other st.blocks k (home version s) zeros [] apart)).direct p direct

pub length-cleared : (st taken cleared : BlockStore) (k : ℕ) → taken ≡ take st k → cleared ≡ with_block taken k zeros → length cleared.blocks ≡ length st.blocks
length-cleared st taken cleared k first second =
    ap (λ (b : BlockStore). length b.blocks) second ∙ length-set taken.blocks k zeros ∙ ap (λ (a : BlockStore). length a.blocks) first
