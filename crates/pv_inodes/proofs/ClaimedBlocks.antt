-- Marking blocks as in use, inode by inode.
use Rattle.std.proofs.Common.{◌≡◌, ℕ, suc, ◌<◌, ◌≤◌, Bool, true, false, ltb, cond, eqb, List, length, get_or, set, refl, sym, ap, ◌∙◌, inl, inr, arith}
use Rattle.std.proofs.lemmas.Bool.{cases_lt, cases_eq, cases_order, cases_Bool, eq-eqb, ne_eqb, lt-ltb, le-ltb, le-leb, lt-leb, false≢true}
use Rattle.std.proofs.lemmas.List.{length-set, get_or-set_same, get_or-set_other, get_or_past, get_or_default}
use Rattle.std.proofs.lemmas.List.FromFn.{get_or-map-range_with_len}
use Rattle.pv_model.specs.declared.version.Version.{Version}
use Rattle.pv_model.specs.Machine.{Bytes}
use Rattle.pv_blocks.specs.declared.block_set.BlockSet.{BlockSet}
use Rattle.pv_blocks.specs.BlockSet.{is_member}
use Rattle.pv_blocks.specs.BlockStore.{free_from}
use Rattle.pv_blocks.proofs.BlockStores.{length-free_from}
use Rattle.pv_inodes.specs.Layout.{owned_at, owned_count, most_owned}
use Rattle.pv_inodes.specs.Owning.{IsOwning, changed, count_set, sum_over}
use Rattle.pv_inodes.proofs.EmptyStore.{count_from, sum_zeros, free_test}
use Rattle.pv_inodes.proofs.BlockOwners.{changed-same, changed-other, owning-same, owning-take}
use Rattle.pv_inodes.proofs.BlockUses.{MayOwn}

-- the number of blocks of each inode if those before inode s have all, and s has i
abbrev pub so_far : (ℕ → ℕ) → ℕ → ℕ → ℕ → ℕ
so_far count s i t = cond (ltb t s) (count t) (cond (eqb t s) i 0)

module _ (count : ℕ → ℕ) (s i : ℕ) where
  so_far-before : (t : ℕ) → t < s → so_far count s i t ≡ count t
  so_far-before t before = rw (lt-ltb t s before) refl

  so_far-here : so_far count s i s ≡ i
  so_far-here = rw (le-ltb s s (omega arith), eq-eqb s s refl) refl

  so_far-following : (t : ℕ) → s < t → so_far count s i t ≡ 0
  so_far-following t following = rw (le-ltb t s (omega arith), ne_eqb t s (λ e. omega arith)) refl

-- one more block
so_far-more : (count : ℕ → ℕ) (s i t : ℕ) → so_far count s (suc i) t ≡ changed (so_far count s i) s (suc (so_far count s i s)) t
so_far-more count s i t = elim (cases_order t s) [
  | inl here ↦ rw here (so_far-here count s (suc i) ∙ sym (changed-same (so_far count s i) s (suc (so_far count s i s)) ∙ ap suc (so_far-here count s i)))
  | inr (inl before) ↦ so_far-before count s (suc i) t before ∙ sym (changed-other (so_far count s i) s (suc (so_far count s i s)) t (λ e. omega arith) ∙ so_far-before count s i t before)
  | inr (inr following) ↦ so_far-following count s (suc i) t following ∙ sym (changed-other (so_far count s i) s (suc (so_far count s i s)) t (λ e. omega arith) ∙ so_far-following count s i t following)
]

-- an inode has all of its blocks
so_far-next : (count : ℕ → ℕ) (s t : ℕ) → so_far count (suc s) 0 t ≡ so_far count s (count s) t
so_far-next count s t = elim (cases_order t s) [
  | inl here ↦ rw here (so_far-before count (suc s) 0 s (omega arith) ∙ sym (so_far-here count s (count s)))
  | inr (inl before) ↦ so_far-before count (suc s) 0 t (omega arith) ∙ sym (so_far-before count s (count s) t before)
  | inr (inr following) ↦ elim (cases_eq t (suc s)) [
    | inl next ↦ rw next (so_far-here count (suc s) 0 ∙ sym (so_far-following count s (count s) (suc s) (omega arith)))
    | inr far ↦ so_far-following count (suc s) 0 t (omega arith) ∙ sym (so_far-following count s (count s) t following)
  ]
]

-- a block is one of those that inodes have so far
pub record IsSomeones (v : Version) (bs : List Bytes) (inodes s i k : ℕ) : Type 0 where
  pub owner : ℕ
  pub place : ℕ
  pub below : owner < inodes
  pub in_row : place < so_far (owned_count v bs) s i owner
  pub is : owned_at v bs owner place ≡ k

-- the data blocks in use are those that the inodes before inode s will own, and the first i of s
pub record IsClaimed (v : Version) (bs : List Bytes) (inodes first : ℕ) (free : List Bool) (s i : ℕ) : Type 0 where
  pub flags : length free ≡ length bs
  pub free_from : (k : ℕ) → get_or free k false ≡ true → first ≤ k
  pub owning : IsOwning inodes (most_owned v) first (length bs) free (so_far (owned_count v bs) s i) (owned_at v bs)
  pub claimed : (k : ℕ) → first ≤ k → k < length bs → get_or free k true ≡ false → IsSomeones v bs inodes s i k

module _ (v : Version) (bs : List Bytes) (inodes first : ℕ) (may : MayOwn v bs inodes first) (free : List Bool) (s i : ℕ) (old : IsClaimed v bs inodes first free s i) where
  abbrev count : ℕ → ℕ
  count = owned_count v bs

  -- the blocks so far are some of those that will be owned
  to_own : (t j : ℕ) → i ≤ count s → t < inodes → j < so_far count s i t → j < count t
  to_own t j few below in_row = elim (cases_order t s) [
    | inl here ↦ let counts : count t ≡ count s = ap count here in let so : so_far count s i t ≡ i = ap (so_far count s i) here ∙ so_far-here count s i in omega arith
    | inr (inl before) ↦ omega (arith, so_far-before count s i t before)
    | inr (inr following) ↦ absurd (omega (arith, so_far-following count s i t following))
  ]

  module _ (below : s < inodes) (more : i < count s) where
    -- the next block is free
    pub next_free : get_or free (owned_at v bs s i) false ≡ true
    next_free =
        let from = may.from s i below more in
        let within = may.within s i below more in
        let same = get_or_default free (owned_at v bs s i) false true (omega (arith, old.flags)) in
        elim (cases_Bool (get_or free (owned_at v bs s i) true)) [
          | inl is_set ↦ same ∙ is_set
          | inr is_clear ↦
              let someone = old.claimed (owned_at v bs s i) from within is_clear in
              let itself = may.apart someone.owner someone.place s i someone.below (to_own someone.owner someone.place (omega arith) someone.below someone.in_row) below more someone.is in
              absurd (omega (arith, itself.1, someone.in_row, ap (so_far count s i) itself.0, so_far-here count s i))
        ]

    pub claimed_more : IsClaimed v bs inodes first (set free (owned_at v bs s i) false) s (suc i)
    claimed_more =
        let from = may.from s i below more in
        let within = may.within s i below more in
        let here = so_far-here count s i in
        let k = owned_at v bs s i in
        let taken = owning-take inodes (most_owned v) first (length bs) free (so_far count s i) (owned_at v bs) old.owning old.flags
        s below (omega (arith, here, may.few s below)) (owned_at v bs s i) (λ d. get_or_default free (owned_at v bs s i) d false (omega (arith, old.flags)) ∙ next_free) from within
        (owned_at v bs) (λ t j below_t in_row. refl) (ap (owned_at v bs s) here) in
        record {
          flags = length-set free (owned_at v bs s i) false ∙ old.flags;
          free_from = λ j is_set. elim (cases_eq j (owned_at v bs s i)) [
            | inl same ↦ absurd (false≢true (sym (ap (λ p. get_or (set free (owned_at v bs s i) false) p false) same ∙ get_or-set_same free (owned_at v bs s i) false false (omega (arith, old.flags))) ∙ is_set))
            | inr other ↦ old.free_from j (sym (get_or-set_other free (owned_at v bs s i) j false false other) ∙ is_set)
          ];
          owning = owning-same inodes (most_owned v) first (length bs) (set free (owned_at v bs s i) false) (changed (so_far count s i) s (suc (so_far count s i s))) (so_far count s (suc i)) (owned_at v bs) (owned_at v bs) taken
              (λ t below_t. so_far-more count s i t) (λ t j below_t in_row. refl);
          claimed = λ j from_j within_j is_clear. elim (cases_eq j (owned_at v bs s i)) [
            | inl same ↦ record { owner = s; place = i; below = below; in_row = omega (arith, so_far-here count s (suc i)); is = sym same }
            | inr other ↦
                let someone = old.claimed j from_j within_j (sym (get_or-set_other free (owned_at v bs s i) j false true other) ∙ is_clear) in
                record { owner = someone.owner; place = someone.place; below = someone.below; in_row = still someone.owner someone.place someone.in_row; is = someone.is }
          ];
        }
      where
        still : (t j : ℕ) → j < so_far count s i t → j < so_far count s (suc i) t
        still t j in_row = elim (cases_order t s) [
          | inl same ↦ omega (arith, in_row, ap (so_far count s i) same, so_far-here count s i, ap (so_far count s (suc i)) same, so_far-here count s (suc i))
          | inr (inl before) ↦ omega (arith, so_far-before count s i t before, so_far-before count s (suc i) t before)
          | inr (inr following) ↦ absurd (omega (arith, so_far-following count s i t following))
        ]

  pub claimed_next : i ≡ count s → IsClaimed v bs inodes first free (suc s) 0
  claimed_next all =
      let same : (t : ℕ) → so_far count (suc s) 0 t ≡ so_far count s i t = λ t. so_far-next count s t ∙ ap (λ n. so_far count s n t) (sym all) in
      record {
        flags = old.flags;
        free_from = old.free_from;
        owning = owning-same inodes (most_owned v) first (length bs) free (so_far count s i) (so_far count (suc s) 0) (owned_at v bs) (owned_at v bs) old.owning (λ t below_t. same t) (λ t j below_t in_row. refl);
        claimed = λ j from within is_clear.
            let someone = old.claimed j from within is_clear in
            record { owner = someone.owner; place = someone.place; below = someone.below; in_row = omega (arith, someone.in_row, same someone.owner); is = someone.is };
      }

-- ---- no blocks, and all blocks

flag-free_from : (first : ℕ) (used : BlockSet) (total k : ℕ) (d : Bool) → k < total → get_or (free_from first used total) k d ≡ free_test first used k
flag-free_from first used total k d within = get_or-map-range_with_len (free_test first used) 0 total k k d within (omega arith)

-- no block is in use if the set is empty
pub claimed_none : (v : Version) (bs : List Bytes) (inodes first : ℕ) (used : BlockSet) → first ≤ length bs → ((k : ℕ) → is_member used k ≡ false)
    → IsClaimed v bs inodes first (free_from first used (length bs)) 0 0
unfolding count_set sum_over
claimed_none v bs inodes first used fits none =
    let long = length-free_from first used (length bs) in
    let nothing : (t : ℕ) → so_far (owned_count v bs) 0 0 t ≡ 0 = λ t. elim (cases_order t 0) [
      | inl here ↦ rw here (so_far-here (owned_count v bs) 0 0)
      | inr (inl before) ↦ absurd (omega arith)
      | inr (inr following) ↦ so_far-following (owned_count v bs) 0 0 t following
    ] in
    record {
      flags = long;
      free_from = λ k is_set. elim (cases_lt k (length bs)) [
        | inl within ↦ elim (cases_lt k first) [
          | inl below ↦ absurd (false≢true (sym (flag-free_from first used (length bs) k false within ∙ rw (lt-leb first k below) refl) ∙ is_set))
          | inr from ↦ from
        ]
        | inr past ↦ absurd (false≢true (sym (get_or_past (free_from first used (length bs)) k false (omega arith)) ∙ is_set))
      ];
      owning = record {
        few = λ s below. omega (arith, nothing s);
        from = λ s i below in_row. absurd (omega (arith, nothing s));
        within = λ s i below in_row. absurd (omega (arith, nothing s));
        taken = λ s i below in_row. absurd (omega (arith, nothing s));
        apart = λ s i t j below_s in_row_s below_t in_row_t same. absurd (omega (arith, nothing s));
        counted = omega (arith, count_from used first none (length bs), sum_zeros (so_far (owned_count v bs) 0 0) 0 inodes (λ s from below. nothing s));
      };
      claimed = λ k from within is_clear. absurd (false≢true (sym is_clear ∙ flag-free_from first used (length bs) k true within ∙ rw (le-leb first k from, none k) refl));
    }

-- at the end, all blocks are owned
pub owning_all : (v : Version) (bs : List Bytes) (inodes first : ℕ) (free : List Bool) → IsClaimed v bs inodes first free inodes 0
    → IsOwning inodes (most_owned v) first (length bs) free (owned_count v bs) (owned_at v bs)
owning_all v bs inodes first free all =
    owning-same inodes (most_owned v) first (length bs) free (so_far (owned_count v bs) inodes 0) (owned_count v bs) (owned_at v bs) (owned_at v bs) all.owning
    (λ t below. sym (so_far-before (owned_count v bs) inodes 0 t below)) (λ t j below in_row. refl)
