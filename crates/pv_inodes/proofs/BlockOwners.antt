-- The owners of blocks, as blocks are allocated and freed.
use Rattle.std.proofs.Common.{◌≡◌, ℕ, zero, suc, ◌+◌, ◌<◌, ◌≤◌, ◌≢◌, ◌⊎◌, Bool, true, false, List, length, get_or, set, refl, sym, ap, ◌∙◌, inl, inr, arith}
use Rattle.std.specs.List.{range_with_len, sum_by}
use Rattle.std.proofs.lemmas.Bool.{cases_eq, cases_lt, eq-eqb, ne_eqb, false≢true}
use Rattle.std.proofs.lemmas.List.{get_or-set_same, get_or-set_other}
use Rattle.std.proofs.lemmas.List.Sums.{sum_by-cons}
use Rattle.pv_blocks.proofs.BlockStores.{count-cleared, count-raised}
use Rattle.pv_inodes.specs.Owning.{sum_over, count_set, changed, IsOwning}

pub changed-same : (count : ℕ → ℕ) (s n : ℕ) → changed count s n s ≡ n
unfolding changed
changed-same count s n = rw (eq-eqb s s refl) refl

pub changed-other : (count : ℕ → ℕ) (s n t : ℕ) → t ≢ s → changed count s n t ≡ count t
unfolding changed
changed-other count s n t differs = rw (ne_eqb t s differs) refl

-- sums of equal numbers
sum_by-range_same : (f g : ℕ → ℕ) (a n : ℕ) → ((t : ℕ) → a ≤ t → t < a + n → f t ≡ g t) → sum_by f (range_with_len a n) ≡ sum_by g (range_with_len a n)
sum_by-range_same f g a zero same = refl
sum_by-range_same f g a (suc n) same =
    let first = same a (omega arith) (omega arith) in
    let rest = sum_by-range_same f g (a + 1) n (λ t from below. same t (omega arith) (omega arith)) in
    omega (arith, sum_by-cons f a (range_with_len (a + 1) n), sum_by-cons g a (range_with_len (a + 1) n), first, rest)

-- sums that differ in one number
sum_by-range_changed : (f g : ℕ → ℕ) (a n s : ℕ) → a ≤ s → s < a + n → ((t : ℕ) → t ≢ s → f t ≡ g t) → sum_by f (range_with_len a n) + g s ≡ sum_by g (range_with_len a n) + f s
sum_by-range_changed f g a zero s from below same = absurd (omega arith)
sum_by-range_changed f g a (suc n) s from below same =
    let split_f = sum_by-cons f a (range_with_len (a + 1) n) in
    let split_g = sum_by-cons g a (range_with_len (a + 1) n) in
    elim (cases_eq a s) [
      | inl here ↦
          let rest = sum_by-range_same f g (a + 1) n (λ t following within. same t (λ e. omega arith)) in
          let first_f : f a ≡ f s = ap f here in
          let first_g : g a ≡ g s = ap g here in
          omega (arith, split_f, split_g, rest, first_f, first_g)
      | inr differs ↦
          let rest = sum_by-range_changed f g (a + 1) n s (omega arith) (omega arith) same in
          let first = same a differs in
          omega (arith, split_f, split_g, rest, first)
    ]

pub sum_over-same : (inodes : ℕ) (f g : ℕ → ℕ) → ((t : ℕ) → t < inodes → f t ≡ g t) → sum_over inodes f ≡ sum_over inodes g
unfolding sum_over
sum_over-same inodes f g same = sum_by-range_same f g 0 inodes (λ t from below. same t (omega arith))

pub sum_over-changed : (inodes : ℕ) (count : ℕ → ℕ) (s n : ℕ) → s < inodes → sum_over inodes (changed count s n) + count s ≡ sum_over inodes count + n
unfolding sum_over
sum_over-changed inodes count s n below =
    let here = changed-same count s n in
    let all = sum_by-range_changed (changed count s n) count 0 inodes s (omega arith) (omega arith) (λ t differs. changed-other count s n t differs) in
    omega (arith, all, here)

module _ (inodes most first total : ℕ) (free : List Bool) (count count' : ℕ → ℕ) (owned owned' : ℕ → ℕ → ℕ) where
  -- the same blocks are owned
  pub owning-same : IsOwning inodes most first total free count owned → ((t : ℕ) → t < inodes → count' t ≡ count t) → ((t i : ℕ) → t < inodes → i < count t → owned' t i ≡ owned t i) → IsOwning inodes most first total free count' owned'
  owning-same old same_count same_owned =
      let within_old : (t i : ℕ) → t < inodes → i < count' t → i < count t = λ t i below within. omega (arith, same_count t below) in
      let is : (t i : ℕ) → t < inodes → i < count' t → owned' t i ≡ owned t i = λ t i below within. same_owned t i below (within_old t i below within) in
      record {
        few = λ t below. omega (arith, same_count t below, old.few t below);
        from = λ t i below within. rw (is t i below within) (old.from t i below (within_old t i below within));
        within = λ t i below within. rw (is t i below within) (old.within t i below (within_old t i below within));
        taken = λ t i below within. rw (is t i below within) (old.taken t i below (within_old t i below within));
        apart = λ s i t j below_s within_s below_t within_t same. old.apart s i t j below_s (within_old s i below_s within_s) below_t (within_old t j below_t within_t) (sym (is s i below_s within_s) ∙ same ∙ is t j below_t within_t);
        counted = omega (arith, old.counted, sum_over-same inodes count' count same_count);
      }

module _ (inodes most first total : ℕ) (free : List Bool) (count : ℕ → ℕ) (owned : ℕ → ℕ → ℕ) (old : IsOwning inodes most first total free count owned) (long : length free ≡ total) where
  -- a free block is not owned
  pub free_unowned : (k : ℕ) → get_or free k true ≡ true → (t i : ℕ) → t < inodes → i < count t → owned t i ≢ k
  free_unowned k is_free t i below within same = false≢true (sym (old.taken t i below within) ∙ ap (λ y. get_or free y true) same ∙ is_free)

  module _ (s : ℕ) (below : s < inodes) (room : count s < most) (k : ℕ) (is_free : (d : Bool) → get_or free k d ≡ true) (from : first ≤ k) (within : k < total) (owned' : ℕ → ℕ → ℕ) (same : (t i : ℕ) → t < inodes → i < count t → owned' t i ≡ owned t i) (here : owned' s (count s) ≡ k) where
    -- a block that is owned now is the one that was allocated, or was owned before
    new_or_old : (t i : ℕ) → i < changed count s (suc (count s)) t → ((t ≡ s) × (i ≡ count s)) ⊎ (i < count t)
    new_or_old t i in_range = elim (cases_eq t s) [
      | inl equal ↦
          let more : i < suc (count s) = rw (equal, changed-same count s (suc (count s))) at in_range in
          elim (cases_lt i (count t)) [
            | inl before ↦ inr before
            | inr following ↦ let counts : count t ≡ count s = ap count equal in inl (equal, omega arith)
          ]
      | inr differs ↦ inr (rw (changed-other count s (suc (count s)) t differs) at in_range)
    ]

    new_is : (t i : ℕ) → (t ≡ s) × (i ≡ count s) → owned' t i ≡ k
    new_is t i new = rw (new.0, new.1) here

    old_is : (t i : ℕ) → t < inodes → i < count t → owned' t i ≢ k
    old_is t i below_t before equal = free_unowned k (is_free true) t i below_t before (sym (same t i below_t before) ∙ equal)

    counted-take : count_set (set free k false) + sum_over inodes (changed count s (suc (count s))) + first ≡ total
    unfolding count_set
    counted-take =
        let fewer = count-cleared free k (omega arith) (is_free false) in
        let more = sum_over-changed inodes count s (suc (count s)) below in
        omega (arith, old.counted, fewer, more)

    -- inode s allocates a free block
    pub owning-take : IsOwning inodes most first total (set free k false) (changed count s (suc (count s))) owned'
    owning-take = record {
      few = λ t below_t. elim (cases_eq t s) [
        | inl equal ↦ rw (equal, changed-same count s (suc (count s))) room
        | inr differs ↦ rw (changed-other count s (suc (count s)) t differs) (old.few t below_t)
      ];
      from = λ t i below_t in_range. elim (new_or_old t i in_range) [
        | inl new ↦ rw (new_is t i new) from
        | inr before ↦ rw (same t i below_t before) (old.from t i below_t before)
      ];
      within = λ t i below_t in_range. elim (new_or_old t i in_range) [
        | inl new ↦ rw (new_is t i new) within
        | inr before ↦ rw (same t i below_t before) (old.within t i below_t before)
      ];
      taken = λ t i below_t in_range. elim (new_or_old t i in_range) [
        | inl new ↦ rw (new_is t i new) (get_or-set_same free k false true (omega arith))
        | inr before ↦ get_or-set_other free k (owned' t i) false true (old_is t i below_t before) ∙ rw (same t i below_t before) (old.taken t i below_t before)
      ];
      apart = λ t i r j below_t in_range_t below_r in_range_r equal. elim (new_or_old t i in_range_t) [
        | inl new_t ↦ elim (new_or_old r j in_range_r) [
          | inl new_r ↦ (new_t.0 ∙ sym new_r.0, new_t.1 ∙ sym new_r.1)
          | inr before_r ↦ absurd (old_is r j below_r before_r (sym equal ∙ new_is t i new_t))
        ]
        | inr before_t ↦ elim (new_or_old r j in_range_r) [
          | inl new_r ↦ absurd (old_is t i below_t before_t (equal ∙ new_is r j new_r))
          | inr before_r ↦ old.apart t i r j below_t before_t below_r before_r (sym (same t i below_t before_t) ∙ equal ∙ same r j below_r before_r)
        ]
      ];
      counted = counted-take;
    }

  module _ (s n : ℕ) (below : s < inodes) (last : count s ≡ suc n) where
    still : (t i : ℕ) → i < changed count s n t → (i < count t) × ((t ≡ s) → i < n)
    still t i in_range = elim (cases_eq t s) [
      | inl equal ↦
          let fewer : i < n = rw (equal, changed-same count s n) at in_range in
          let counts : count t ≡ count s = ap count equal in
          (omega arith, λ _. fewer)
      | inr differs ↦ (rw (changed-other count s n t differs) at in_range, λ equal. absurd (differs equal))
    ]

    not_given : (t i : ℕ) → t < inodes → i < changed count s n t → owned t i ≢ owned s n
    not_given t i below_t in_range equal =
        let preserved = still t i in_range in
        let same = old.apart t i s n below_t preserved.0 below (omega arith) equal in
        let fewer = preserved.1 same.0 in
        omega (arith, same.1)

    counted-give : count_set (set free (owned s n) true) + sum_over inodes (changed count s n) + first ≡ total
    unfolding count_set
    counted-give =
        let within = old.within s n below (omega arith) in
        let more = count-raised free (owned s n) (omega arith) (old.taken s n below (omega arith)) in
        let fewer = sum_over-changed inodes count s n below in
        omega (arith, old.counted, fewer, more)

    -- inode s frees the last block that it owns
    pub owning-give : IsOwning inodes most first total (set free (owned s n) true) (changed count s n) owned
    owning-give = record {
      few = λ t below_t. elim (cases_eq t s) [
        | inl equal ↦
            let most_s = old.few s below in
            rw (equal, changed-same count s n) (omega arith)
        | inr differs ↦ rw (changed-other count s n t differs) (old.few t below_t)
      ];
      from = λ t i below_t in_range. old.from t i below_t (still t i in_range).0;
      within = λ t i below_t in_range. old.within t i below_t (still t i in_range).0;
      taken = λ t i below_t in_range. get_or-set_other free (owned s n) (owned t i) true true (not_given t i below_t in_range) ∙ old.taken t i below_t (still t i in_range).0;
      apart = λ t i r j below_t in_range_t below_r in_range_r equal. old.apart t i r j below_t (still t i in_range_t).0 below_r (still r j in_range_r).0 equal;
      counted = counted-give;
    }
