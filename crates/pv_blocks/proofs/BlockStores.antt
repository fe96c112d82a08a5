-- Bytes as blocks, and the free flags.
use Rattle.std.proofs.Common.{◌≡◌, ℕ, zero, suc, ◌+◌, ◌*◌, ◌-◌, ◌<◌, ◌≤◌, ◌≢◌, Bool, true, false, not, ◌&&◌, ◌||◌, cond, eqb, ltb, leb, List, [], map, length, get_or, set, take, drop, count_by, Some, refl, sym, ap, ◌∙◌, inl, inr, arith}
use Rattle.std.specs.List.{range_with_len, slice_get}
use Rattle.std.specs.Prelude.{slice_index_or}
use borrow.Rule.Slice.PartMut.{put_mid}
use Rattle.pv_model.specs.Machine.{Bytes, block}
use Rattle.pv_blocks.specs.declared.block_set.BlockSet.{BlockSet}
use Rattle.pv_blocks.specs.BlockSet.{is_member, AllMembers}
use Rattle.pv_blocks.specs.BlockStore.{BlockStore, block_of, blocks_in_bytes, free_outside, free_from}
use Rattle.std.proofs.lemmas.Bool.{cases_eq, cases_lt, cases_order, eq-eqb, ne_eqb, lt-ltb, le-ltb, lt-leb, le-leb, not-true}
use Rattle.std.proofs.lemmas.Bool.Decides.{nat_tests}
use Rattle.std.proofs.lemmas.Option.{slice_get-get_or, get_or_from_slice_get, slice_get_within}
use Rattle.std.proofs.lemmas.List.{same_lists, get_or_past, get_or-set_same, get_or-set_other, length-set, length-append, length-take, length-drop, drop-take}
use Rattle.std.proofs.lemmas.List.FromFn.{length-map-range_with_len, get_or-map-range_with_len, sum_by-map-range_with_len_more}
use Rattle.std.proofs.lemmas.List.Sums.{sum_by-cons, sum_by-set}
use Rattle.std.proofs.lemmas.Slice.{take-put_mid_below, drop-put_mid, between-put_mid}

pub length-block : (bytes : Bytes) (k : ℕ) → 512 * k + 512 ≤ length bytes → length (block bytes k) ≡ 512
length-block bytes k within = omega (arith, length-take 512 (drop (512 * k) bytes), length-drop (512 * k) bytes)

pub get_or-blocks_in_bytes : (count : ℕ) (bytes : Bytes) (k : ℕ) (d : Bytes) → k < count → get_or (blocks_in_bytes count bytes) k d ≡ block bytes k
get_or-blocks_in_bytes count bytes k d within = get_or-map-range_with_len (block bytes) 0 count k k d within (omega arith)

pub length-blocks_in_bytes : (count : ℕ) (bytes : Bytes) → length (blocks_in_bytes count bytes) ≡ count
length-blocks_in_bytes count bytes = length-map-range_with_len (block bytes) 0 count

module _ (bytes new : Bytes) (k : ℕ) (within : 512 * k + 512 ≤ length bytes) (whole : length new ≡ 512) where
  pub length-put_mid : length (put_mid (512 * k) 512 bytes new) ≡ length bytes
  length-put_mid = simp (length-append, length-take, length-drop) (omega arith)

  -- a write to a block changes that block
  block-put_mid_same : block (put_mid (512 * k) 512 bytes new) k ≡ new
  block-put_mid_same =
      let size : 512 * k + 512 - 512 * k ≡ 512 = omega arith in
      rw size at (between-put_mid (512 * k) 512 bytes new (512 * k + 512) (omega arith) (omega arith))

  -- and no other
  block-put_mid_below : (j : ℕ) → j < k → block (put_mid (512 * k) 512 bytes new) j ≡ block bytes j
  block-put_mid_below j below =
      sym (drop-take (512 * j) 512 (put_mid (512 * k) 512 bytes new))
      ∙ ap (drop (512 * j)) (take-put_mid_below (512 * k) 512 bytes new (512 * j + 512) (omega arith) (omega arith))
      ∙ drop-take (512 * j) 512 bytes

  block-put_mid_above : (j : ℕ) → k < j → block (put_mid (512 * k) 512 bytes new) j ≡ block bytes j
  block-put_mid_above j above = ap (take 512) (drop-put_mid (512 * k) 512 bytes new (512 * j) (omega arith) (omega arith) whole)

  pub block-put_mid_other : (j : ℕ) → j ≢ k → block (put_mid (512 * k) 512 bytes new) j ≡ block bytes j
  block-put_mid_other j other = elim (cases_order j k) [
    | inl same ↦ absurd (other same)
    | inr (inl below) ↦ block-put_mid_below j below
    | inr (inr above) ↦ block-put_mid_above j above
  ]

  pub blocks_in_bytes-put_mid : (count : ℕ) → k < count → blocks_in_bytes count (put_mid (512 * k) 512 bytes new) ≡ set (blocks_in_bytes count bytes) k new
  blocks_in_bytes-put_mid count counted =
      let after = put_mid (512 * k) 512 bytes new in
      let length_new = length-blocks_in_bytes count after in
      let length_old = length-blocks_in_bytes count bytes in
      let length_set = length-set (blocks_in_bytes count bytes) k new in
      same_lists _ _ (omega arith) (λ j d in_range. get_or-blocks_in_bytes count after j d (omega arith) ∙ elim (cases_order j k) [
        | inl same ↦ rw same (block-put_mid_same ∙ sym (get_or-set_same (blocks_in_bytes count bytes) k new d (omega arith)))
        | inr (inl below) ↦ block-put_mid_below j below ∙ sym (get_or-set_other (blocks_in_bytes count bytes) k j new d (omega arith) ∙ get_or-blocks_in_bytes count bytes j d (omega arith))
        | inr (inr above) ↦ block-put_mid_above j above ∙ sym (get_or-set_other (blocks_in_bytes count bytes) k j new d (omega arith) ∙ get_or-blocks_in_bytes count bytes j d (omega arith))
      ])

pub length-free_outside : (taken : BlockSet) (count : ℕ) → length (free_outside taken count) ≡ count
length-free_outside taken count = length-map-range_with_len (λ k. not (is_member taken k)) 0 count

pub get_or-free_outside : (taken : BlockSet) (count k : ℕ) (d : Bool) → k < count → get_or (free_outside taken count) k d ≡ not (is_member taken k)
get_or-free_outside taken count k d within = get_or-map-range_with_len (λ k. not (is_member taken k)) 0 count k k d within (omega arith)

-- a store as its methods see it
module _ (bytes : Bytes) (taken : BlockSet) (first count : ℕ) (s : BlockStore) (is : record { blocks = blocks_in_bytes count bytes; free = free_outside taken count; first = first } ≡ s) where
  pub count_seen : count ≡ length s.blocks
  count_seen = sym (length-blocks_in_bytes count bytes) ∙ ap (λ (s : BlockStore). length s.blocks) is

  pub bytes_seen : (k : ℕ) → k < count → block_of s k ≡ block bytes k
  bytes_seen k below = sym (ap (λ (s : BlockStore). block_of s k) is) ∙ get_or-blocks_in_bytes count bytes k [] below

  -- a block is free if it is not in the set
  pub flag_seen : (k : ℕ) → k < count → (member : Bool) → is_member taken k ≡ member → slice_index_or s.free k true ≡ not member
  flag_seen k below member same = sym (ap (λ (s : BlockStore). slice_index_or s.free k true) is) ∙ get_or-free_outside taken count k true below ∙ ap not same

  -- and so is a block past the last
  pub flag_absent : (k : ℕ) → (k < count → is_member taken k ≡ false) → slice_index_or s.free k true ≡ true
  flag_absent k absent = elim (cases_lt k count) [
    | inl below ↦ flag_seen k below false (absent below)
    | inr past ↦ get_or_past s.free k true (omega (arith, ap (λ (s : BlockStore). length s.free) is, length-free_outside taken count))
  ]

-- sets with the same members give the same flags
pub free_outside-same : (old new : BlockSet) (count : ℕ) → ((k : ℕ) → k < count → is_member new k ≡ is_member old k) → free_outside new count ≡ free_outside old count
free_outside-same old new count same =
    let length_new = length-free_outside new count in
    let length_old = length-free_outside old count in
    same_lists _ _ (omega arith) (λ k d in_range.
    let within : k < count = omega arith in
    get_or-free_outside new count k d within ∙ ap not (same k within) ∙ sym (get_or-free_outside old count k d within))

-- a set that differs at one number changes one flag
pub free_outside-set : (old new : BlockSet) (count k : ℕ) (flag : Bool) → k < count → not (is_member new k) ≡ flag → ((j : ℕ) → j ≢ k → is_member new j ≡ is_member old j) → free_outside new count ≡ set (free_outside old count) k flag
free_outside-set old new count k flag within here elsewhere =
    let length_new = length-free_outside new count in
    let length_old = length-free_outside old count in
    let length_set = length-set (free_outside old count) k flag in
    same_lists _ _ (omega arith) (λ j d in_range. get_or-free_outside new count j d (omega arith) ∙ elim (cases_eq j k) [
      | inl same ↦ rw same (here ∙ sym (get_or-set_same (free_outside old count) k flag d (omega arith)))
      | inr other ↦ ap not (elsewhere j other) ∙ sym (get_or-set_other (free_outside old count) k j flag d other ∙ get_or-free_outside old count j d (omega arith))
    ])

abbrev weight : Bool → ℕ
weight f = cond f 1 0

-- clearing or setting a flag changes the count by one
pub count-cleared : (flags : List Bool) (k : ℕ) → k < length flags → get_or flags k false ≡ true → count_by (λ f. f) (set flags k false) + 1 ≡ count_by (λ f. f) flags
count-cleared flags k within is_set =
    let change = sum_by-set weight flags k false false within in
    let one : weight (get_or flags k false) ≡ 1 = ap weight is_set in
    omega (arith, change, one)

pub count-raised : (flags : List Bool) (k : ℕ) → k < length flags → get_or flags k true ≡ false → count_by (λ f. f) (set flags k true) ≡ count_by (λ f. f) flags + 1
count-raised flags k within is_clear =
    let change = sum_by-set weight flags k true true within in
    let none : weight (get_or flags k true) ≡ 0 = ap weight is_clear in
    omega (arith, change, none)

-- no flag is set if the test fails for each number
pub count-none : (test : ℕ → Bool) (a n : ℕ) → ((k : ℕ) → a ≤ k → k < a + n → test k ≡ false) → count_by (λ f. f) (map test (range_with_len a n)) ≡ 0
count-none test a zero fails = refl
count-none test a (suc n) fails =
    let first : weight (test a) ≡ 0 = ap weight (fails a (omega arith) (omega arith)) in
    let rest = count-none test (a + 1) n (λ k from below. fails k (omega arith) (omega arith)) in
    let both = sum_by-cons weight (test a) (map test (range_with_len (a + 1) n)) in
    omega (arith, first, rest, both)

-- the effect of freeing a block on the flags
pub record GivesBack (old new : BlockSet) (count k : ℕ) : Type 0 where
  pub within : k < count
  pub others : (j : ℕ) → j ≢ k → is_member new j ≡ is_member old j
  pub flags : free_outside new count ≡ set (free_outside old count) k true
  pub counted : count_by (λ f. f) (free_outside new count) ≡ count_by (λ f. f) (free_outside old count) + 1

pub gives_back : (old new : BlockSet) (count k : ℕ) → slice_get (free_outside old count) k ≡ Some false → ((j : ℕ) → is_member new j ≡ (not (eqb j k) && is_member old j)) → GivesBack old new count k
gives_back old new count k was after =
    let length_old = length-free_outside old count in
    let within : k < count = omega (arith, slice_get_within (free_outside old count) k false was) in
    let here : not (is_member new k) ≡ true = rw (after k, eq-eqb k k refl) refl in
    let others : (j : ℕ) → j ≢ k → is_member new j ≡ is_member old j = λ j differs. rw (after j, ne_eqb j k differs) refl in
    let flags = free_outside-set old new count k true within here others in
    record {
      within = within;
      others = others;
      flags = flags;
      counted = ap (count_by (λ f. f)) flags ∙ count-raised (free_outside old count) k (rw length_old within) (get_or_from_slice_get (free_outside old count) k false true was);
    }

-- the effect of allocating a block on the flags
pub record Takes (old new : BlockSet) (count k : ℕ) : Type 0 where
  pub was_free : slice_get (free_outside old count) k ≡ Some true
  pub others : (j : ℕ) → j ≢ k → is_member new j ≡ is_member old j
  pub here : is_member new k ≡ true
  pub flags : free_outside new count ≡ set (free_outside old count) k false
  pub counted : count_by (λ f. f) (free_outside new count) + 1 ≡ count_by (λ f. f) (free_outside old count)

pub takes : (old new : BlockSet) (count k : ℕ) → k < count → is_member old k ≡ false → ((j : ℕ) → is_member new j ≡ (eqb j k || is_member old j)) → Takes old new count k
takes old new count k within absent after =
    let length_old = length-free_outside old count in
    let flag : (d : Bool) → get_or (free_outside old count) k d ≡ true = λ d. get_or-free_outside old count k d within ∙ ap not absent in
    let here : is_member new k ≡ true = rw (after k, eq-eqb k k refl) refl in
    let others : (j : ℕ) → j ≢ k → is_member new j ≡ is_member old j = λ j differs. rw (after j, ne_eqb j k differs) refl in
    let flags = free_outside-set old new count k false within (ap not here) others in
    record {
      was_free = slice_get-get_or (free_outside old count) k true (rw length_old within) ∙ ap Some (flag true);
      others = others;
      here = here;
      flags = flags;
      counted = ap (λ (fs : List Bool). count_by (λ f. f) fs + 1) flags ∙ count-cleared (free_outside old count) k (rw length_old within) (flag false);
    }

-- a block whose flag is set is not in the set, and can be allocated
pub takes_free : (old new : BlockSet) (count k : ℕ) → slice_get (free_outside old count) k ≡ Some true → ((j : ℕ) → is_member new j ≡ (eqb j k || is_member old j)) → Takes old new count k
takes_free old new count k was after =
    let within : k < count = omega (arith, length-free_outside old count, slice_get_within (free_outside old count) k true was) in
    let flag : not (is_member old k) ≡ true = sym (get_or-free_outside old count k false within) ∙ get_or_from_slice_get (free_outside old count) k true false was in
    takes old new count k within (not-true (is_member old k) flag) after

-- the flag of a block that is not in the set is set
pub free_flag : (taken : BlockSet) (count k : ℕ) → k < count → is_member taken k ≡ false → slice_get (free_outside taken count) k ≡ Some true
free_flag taken count k within absent =
    slice_get-get_or (free_outside taken count) k true (rw (length-free_outside taken count) within) ∙ ap Some (get_or-free_outside taken count k true within ∙ ap not absent)

pub some_free : (taken : BlockSet) (count k : ℕ) → k < count → is_member taken k ≡ false → 0 < count_by (λ f. f) (free_outside taken count)
some_free taken count k within absent =
    omega (arith, count-cleared (free_outside taken count) k (rw (length-free_outside taken count) within) (get_or-free_outside taken count k false within ∙ ap not absent))

-- no block is free if all are in the set
pub count-all_taken : (taken : BlockSet) (count : ℕ) → AllMembers taken 0 count → count_by (λ f. f) (free_outside taken count) ≡ 0
count-all_taken taken count all = count-none (λ k. not (is_member taken k)) 0 count (λ k from below. ap not (all k from (omega arith)))

pub ltb-other : (j k : ℕ) → j ≢ k → ltb j (k + 1) ≡ ltb j k
ltb-other j k other = grind (arith, nat_tests)

-- a loop over the blocks has added those in use to the set, and counted the others
pub record TakesUpTo (taken used : BlockSet) (first k free : ℕ) : Type 0 where
  pub taken_so_far : (j : ℕ) → is_member taken j ≡ (ltb j first || (ltb j k && is_member used j))
  pub counted : free ≡ count_by (λ f. f) (free_from first used k)

pub takes_none : (taken used : BlockSet) (first : ℕ) → ((j : ℕ) → is_member taken j ≡ ltb j first) → TakesUpTo taken used first first 0
takes_none taken used first below = record {
  taken_so_far = λ j. grind (arith, nat_tests, below j);
  counted = sym (count-none (λ k. leb first k && not (is_member used k)) 0 first (λ k from within. rw (lt-leb first k (omega arith)) refl));
}

count-free_from_more : (used : BlockSet) (first k : ℕ) → count_by (λ f. f) (free_from first used (k + 1)) ≡ count_by (λ f. f) (free_from first used k) + weight (leb first k && not (is_member used k))
count-free_from_more used first k = sum_by-map-range_with_len_more weight (λ j. leb first j && not (is_member used j)) 0 k k (omega arith)

module _ (taken used : BlockSet) (first k free : ℕ) (so_far : TakesUpTo taken used first k free) (from : first ≤ k) where
  pub takes_more_used : (new : BlockSet) → is_member used k ≡ true → ((j : ℕ) → is_member new j ≡ (eqb j k || is_member taken j)) → TakesUpTo new used first (k + 1) free
  takes_more_used new in_use after = record {
    taken_so_far = λ j. elim (cases_eq j k) [
      | inl here ↦ rw (after j, eq-eqb j k here, le-ltb j first (omega arith), lt-ltb j (k + 1) (omega arith), here, in_use) refl
      | inr there ↦
          let tests = ltb-other j k there in
          rw (after j, ne_eqb j k there, so_far.taken_so_far j, tests) refl
    ];
    counted = so_far.counted ∙ sym (count-free_from_more used first k ∙ rw (le-leb first k from, in_use) (omega arith));
  }

  pub takes_more_free : is_member used k ≡ false → TakesUpTo taken used first (k + 1) (free + 1)
  takes_more_free absent = record {
    taken_so_far = λ j. elim (cases_eq j k) [
      | inl here ↦ rw (so_far.taken_so_far j, le-ltb j k (omega arith), lt-ltb j (k + 1) (omega arith), here, absent) refl
      | inr there ↦
          let tests = ltb-other j k there in
          rw (so_far.taken_so_far j, tests) refl
    ];
    counted = sym (count-free_from_more used first k ∙ rw (le-leb first k from, absent) (omega (arith, so_far.counted)));
  }

  -- the free flags at the end of the loop
  pub free_outside_all : free_outside taken k ≡ free_from first used k
  free_outside_all =
      let length_outside = length-free_outside taken k in
      let length_from : length (free_from first used k) ≡ k = length-map-range_with_len (λ j. leb first j && not (is_member used j)) 0 k in
      same_lists _ _ (omega arith) (λ j d in_range.
      let within : j < k = omega arith in
      get_or-free_outside taken k j d within
      ∙ ap not (so_far.taken_so_far j ∙ rw (lt-ltb j k within) refl)
      ∙ outside_from j
      ∙ sym (get_or-map-range_with_len (λ i. leb first i && not (is_member used i)) 0 k j j d within (omega arith)))
    where
      outside_from : (j : ℕ) → not (ltb j first || is_member used j) ≡ (leb first j && not (is_member used j))
      outside_from j = elim (cases_lt j first) [
        | inl below ↦ rw (lt-ltb j first below, lt-leb first j below) refl
        | inr above ↦ rw (le-ltb j first above, le-leb first j above) refl
      ]

  -- all blocks below the first are in the set
  pub first_taken : (j : ℕ) → j < first → is_member taken j ≡ true
  first_taken j below = so_far.taken_so_far j ∙ rw (lt-ltb j first below) refl

pub length-free_from : (first : ℕ) (used : BlockSet) (count : ℕ) → length (free_from first used count) ≡ count
length-free_from first used count = length-map-range_with_len (λ j. leb first j && not (is_member used j)) 0 count
