-- Open files under two numberings.
use Rattle.std.proofs.Common.{◌≡◌, ◌≢◌, ℕ, zero, suc, ◌<◌, ◌≤◌, true, false, ◌==◌, if◌then◌else◌, nat_le, List, [], ◌∷◌, map, length, Option, None, Some, is_some, refl, ap, sym, subst, ◌∙◌, ⊎_elim, arith, suc-le-suc, le_of_suc-le-suc, zero-le}
use Rattle.std.proofs.lemmas.Bool.{leb-false, cases_eq, eq-eqb, ne_eqb, le-leb, leb-true}
use Rattle.std.specs.Cmp.{both_ways}
use Rattle.pv_model.specs.Machine.{among, Numbered, at_number, with_number, without_number, least_free, present, keep, OpenFile}
use Rattle.pv_laws_trees.proofs.NumberedMaps.{at_number-below, length-with_number, with_number-same, with_number-other, with_number-same_within, with_number-other_within, without_number-other, least_free-free, least_free-within, least_free-below, present-all, keep-some, keep-passes, length-keep}
use Rattle.pv_laws_states.proofs.ReferenceMembers.{among-present, present-at}
use Rattle.pv_laws_classes.proofs.RenumberedLists.{among-map, map-among}

-- ---- the number of values

module _ {X : Type 0} where
  pub some-value : (o : Option X) → is_some o ≡ true → (x : X) × (o ≡ Some x)
  some-value None is = cc is
  some-value (Some x) is = (x, refl)

  present-within : (xs : Numbered X) → length (present xs) ≤ length xs
  present-within [] = zero-le
  present-within (None ∷ xs) = omega (arith, present-within xs)
  present-within (Some x ∷ xs) = suc-le-suc (present-within xs)

  present-without : (xs : Numbered X) (n : ℕ) → is_some (at_number xs n) ≡ true → length (present xs) ≡ suc (length (present (without_number xs n)))
  present-without [] n is = cc is
  present-without (None ∷ xs) zero is = cc is
  present-without (None ∷ xs) (suc n) is = present-without xs n is
  present-without (Some x ∷ xs) zero is = refl
  present-without (Some x ∷ xs) (suc n) is = ap suc (present-without xs n is)

  -- a map is full if its least free number is its length
  full-present : (xs : Numbered X) → length xs ≤ least_free xs → length xs ≤ length (present xs)
  full-present xs full = present-all xs (length xs) (λ n below. least_free-below xs n (omega (arith, full, below)))

  present-full : (xs : Numbered X) → length xs ≤ length (present xs) → length xs ≤ least_free xs
  present-full [] full = zero-le
  present-full (None ∷ xs) full = absurd (omega (arith, present-within xs, full))
  present-full (Some x ∷ xs) full = suc-le-suc (present-full xs (le_of_suc-le-suc full))

-- a map from numbers does not have fewer values than another one, if each value of the other has a number in it, and
-- different ones have different numbers
count-le : {X Y : Type 0} (xs : Numbered X) (ys : Numbered Y) (R : ℕ → ℕ → Type 0)
    → ((n : ℕ) (x : X) → at_number xs n ≡ Some x → (m : ℕ) × (is_some (at_number ys m) ≡ true) × R n m) → ((m n k : ℕ) → R m k → R n k → m ≡ n)
    → length (present xs) ≤ length (present ys)
count-le [] ys R there alone = zero-le
count-le (None ∷ xs) ys R there alone = count-le xs ys (λ n m. R (suc n) m) (λ n x is. there (suc n) x is) (λ m n k one other. let same : suc m ≡ suc n = alone (suc m) (suc n) k one other in omega arith)
count-le (Some x ∷ xs) ys R there alone =
    let first = there 0 x refl in
    let rest = count-le xs (without_number ys first.0) (λ n m. R (suc n) m)
    (λ n y is.
    let got = there (suc n) y is in
    let other : got.0 ≢ first.0 = λ same. let none : suc n ≡ 0 = alone (suc n) 0 first.0 (subst (R (suc n)) same got.2) first.2 in absurd (omega (arith, none)) in
    (got.0, ap is_some (without_number-other ys first.0 got.0 other) ∙ got.1, got.2))
    (λ m n k one another. let same : suc m ≡ suc n = alone (suc m) (suc n) k one another in omega (arith, same)) in
    omega (arith, rest, present-without ys first.0 first.1)

-- ---- two numberings

-- the open files gs are the open files fs, each under another number
pub record Matches (f : ℕ → ℕ) (fs gs : Numbered OpenFile) : Type 0 where
  pub before : length fs ≡ 128
  pub following : length gs ≡ 128
  pub injective : (m n : ℕ) (x y : OpenFile) → at_number fs m ≡ Some x → at_number fs n ≡ Some y → f m ≡ f n → m ≡ n
  pub same : (n : ℕ) (x : OpenFile) → at_number fs n ≡ Some x → at_number gs (f n) ≡ Some x
  pub onto : (m : ℕ) (x : OpenFile) → at_number gs m ≡ Some x → (n : ℕ) × (at_number fs n ≡ Some x) × (f n ≡ m)

module _ (f : ℕ → ℕ) (fs gs : Numbered OpenFile) (matches : Matches f fs gs) where
  -- the table of open files is full in both, or in neither
  pub full-matches : nat_le 128 (least_free gs) ≡ nat_le 128 (least_free fs)
  full-matches = both_ways (nat_le 128 (least_free gs)) (nat_le 128 (least_free fs)) back there
    where
      there : nat_le 128 (least_free fs) ≡ true → nat_le 128 (least_free gs) ≡ true
      there is =
          let most = count-le fs gs (λ n m. (f n ≡ m) × (is_some (at_number fs n) ≡ true)) (λ n x at. (f n, ap is_some (matches.same n x at), (refl, ap is_some at)))
          (λ m n k one other.
          let x = some-value (at_number fs m) one.1 in
          let y = some-value (at_number fs n) other.1 in
          matches.injective m n x.0 y.0 x.1 y.1 (one.0 ∙ sym other.0)) in
          let full = full-present fs (omega (arith, matches.before, leb-true 128 (least_free fs) is)) in
          le-leb 128 (least_free gs) (omega (arith, matches.before, matches.following, present-full gs (omega (arith, matches.before, matches.following, most, full))))

      back : nat_le 128 (least_free gs) ≡ true → nat_le 128 (least_free fs) ≡ true
      back is =
          let most = count-le gs fs (λ m n. f n ≡ m) (λ m x at. let had = matches.onto m x at in (had.0, ap is_some had.1, had.2)) (λ m n k one other. sym one ∙ other) in
          let full = full-present gs (omega (arith, matches.following, leb-true 128 (least_free gs) is)) in
          le-leb 128 (least_free fs) (omega (arith, matches.before, matches.following, present-full fs (omega (arith, matches.before, matches.following, most, full))))

  -- the same nodes have open files
  pub nodes-match : (n : ℕ) → among (map (λ (x : OpenFile). x.node) (present gs)) n ≡ among (map (λ (x : OpenFile). x.node) (present fs)) n
  nodes-match n =
      both_ways (among (map (λ (x : OpenFile). x.node) (present gs)) n) (among (map (λ (x : OpenFile). x.node) (present fs)) n)
      (λ is.
      let found = present-at (λ (x : OpenFile). x.node) gs n is in
      let had = matches.onto found.0 found.1 found.2 in
      subst (λ m. among (map (λ (x : OpenFile). x.node) (present fs)) m ≡ true) found.3 (among-present (λ (x : OpenFile). x.node) fs had.0 found.1 had.1))
      (λ is.
      let found = present-at (λ (x : OpenFile). x.node) fs n is in
      subst (λ m. among (map (λ (x : OpenFile). x.node) (present gs)) m ≡ true) found.3 (among-present (λ (x : OpenFile). x.node) gs (f found.0) found.1 (matches.same found.0 found.1 found.2)))

  -- only the open files that are used remain
  pub keep-matches : (us : List ℕ) → ((n : ℕ) → among us n ≡ true → is_some (at_number fs n) ≡ true) → Matches f (keep (among us) fs) (keep (among (map f us)) gs)
  keep-matches us opens = record {
    before = length-keep (among us) fs ∙ matches.before;
    following = length-keep (among (map f us)) gs ∙ matches.following;
    injective = λ m n x y at_m at_n. matches.injective m n x y (keep-some (among us) fs m x at_m).1 (keep-some (among us) fs n y at_n).1;
    same = λ n x at.
        let remaining = keep-some (among us) fs n x at in
        keep-passes (among (map f us)) gs (f n) (among-map f us n remaining.0) ∙ matches.same n x remaining.1;
    onto = λ m x at.
        let remaining = keep-some (among (map f us)) gs m x at in
        let own = map-among f us m remaining.0 in
        let old = some-value (at_number fs own.0) (opens own.0 own.1) in
        let both : Some old.0 ≡ Some x = sym (matches.same own.0 old.0 old.1) ∙ ap (at_number gs) own.2 ∙ remaining.1 in
        (own.0, keep-passes (among us) fs own.0 own.1 ∙ old.1 ∙ both, own.2);
  }

  -- an open file is replaced
  module _ (k : ℕ) (old new : OpenFile) (at : at_number fs k ≡ Some old) where
    below_fs : k < length fs
    below_fs = at_number-below fs k old at

    below_gs : f k < length gs
    below_gs = at_number-below gs (f k) old (matches.same k old at)

    was : (n : ℕ) (x : OpenFile) → at_number (with_number fs k new) n ≡ Some x → (y : OpenFile) × (at_number fs n ≡ Some y)
    was n x is = ⊎_elim (λ here. (old, ap (at_number fs) here ∙ at)) (λ away. (x, sym (with_number-other fs k new n below_fs away) ∙ is)) (cases_eq n k)

    same-put : (n : ℕ) (x : OpenFile) → at_number (with_number fs k new) n ≡ Some x → at_number (with_number gs (f k) new) (f n) ≡ Some x
    same-put n x is =
        ⊎_elim
        (λ here. ap (λ m. at_number (with_number gs (f k) new) (f m)) here ∙ with_number-same gs (f k) new below_gs ∙ sym (with_number-same fs k new below_fs) ∙ ap (at_number (with_number fs k new)) (sym here) ∙ is)
        (λ away.
        let had : at_number fs n ≡ Some x = sym (with_number-other fs k new n below_fs away) ∙ is in
        with_number-other gs (f k) new (f n) below_gs (λ equal. away (matches.injective n k x old had at equal)) ∙ matches.same n x had)
        (cases_eq n k)

    onto-put : (m : ℕ) (x : OpenFile) → at_number (with_number gs (f k) new) m ≡ Some x → (n : ℕ) × (at_number (with_number fs k new) n ≡ Some x) × (f n ≡ m)
    onto-put m x is =
        ⊎_elim
        (λ here. (k, with_number-same fs k new below_fs ∙ sym (with_number-same gs (f k) new below_gs) ∙ ap (at_number (with_number gs (f k) new)) (sym here) ∙ is, sym here))
        (λ away.
        let had = matches.onto m x (sym (with_number-other gs (f k) new m below_gs away) ∙ is) in
        (had.0, with_number-other fs k new had.0 below_fs (λ equal. away (sym had.2 ∙ ap f equal)) ∙ had.1, had.2))
        (cases_eq m (f k))

    pub put-matches : Matches f (with_number fs k new) (with_number gs (f k) new)
    put-matches = record {
      before = length-with_number fs k new below_fs ∙ matches.before;
      following = length-with_number gs (f k) new below_gs ∙ matches.following;
      injective = λ m n x y at_m at_n. let one = was m x at_m in let other = was n y at_n in matches.injective m n one.0 other.0 one.1 other.1;
      same = same-put;
      onto = onto-put;
    }

  -- an open file is added, under the least free number of each
  module _ (new : OpenFile) (room : nat_le 128 (least_free fs) ≡ false) where
    abbrev a : ℕ
    a = least_free fs

    abbrev b : ℕ
    b = least_free gs

    abbrev pub renumbering : ℕ → ℕ
    renumbering n = if n == a then b else f n

    pub renumbering-new : renumbering a ≡ b
    renumbering-new = ap (λ t. if t then b else f a) (eq-eqb a a refl)

    renumbering-at : (n : ℕ) → n ≡ a → renumbering n ≡ b
    renumbering-at n here = ap (λ t. if t then b else f n) (eq-eqb n a here)

    renumbering-away : (n : ℕ) → n ≢ a → renumbering n ≡ f n
    renumbering-away n away = ap (λ t. if t then b else f n) (ne_eqb n a away)

    -- a number in use is not the new one
    pub renumbering-old : (n : ℕ) → is_some (at_number fs n) ≡ true → renumbering n ≡ f n
    renumbering-old n is = renumbering-away n (λ here. let none : is_some (at_number fs n) ≡ false = ap (λ m. is_some (at_number fs m)) here ∙ ap is_some (least_free-free fs) in cc (sym is ∙ none))

    fresh : (n : ℕ) (x : OpenFile) → at_number fs n ≡ Some x → f n ≢ b
    fresh n x is here = let none : Some x ≡ None = sym (matches.same n x is) ∙ ap (at_number gs) here ∙ least_free-free gs in cc none

    within_fs : a ≤ length fs
    within_fs = least_free-within fs

    within_gs : b ≤ length gs
    within_gs = least_free-within gs

    old : (n : ℕ) (x : OpenFile) → n ≢ a → at_number (with_number fs a new) n ≡ Some x → at_number fs n ≡ Some x
    old n x away is = sym (with_number-other_within fs a new n within_fs away) ∙ is

    injective-new : (m n : ℕ) (x y : OpenFile) → at_number (with_number fs a new) m ≡ Some x → at_number (with_number fs a new) n ≡ Some y → renumbering m ≡ renumbering n → m ≡ n
    injective-new m n x y at_m at_n equal =
        ⊎_elim
        (λ here.
        ⊎_elim (λ there. here ∙ sym there) (λ away. absurd (fresh n y (old n y away at_n) (sym (renumbering-away n away) ∙ sym equal ∙ renumbering-at m here))) (cases_eq n a))
        (λ apart.
        ⊎_elim (λ there. absurd (fresh m x (old m x apart at_m) (sym (renumbering-away m apart) ∙ equal ∙ renumbering-at n there)))
        (λ away. matches.injective m n x y (old m x apart at_m) (old n y away at_n) (sym (renumbering-away m apart) ∙ equal ∙ renumbering-away n away)) (cases_eq n a))
        (cases_eq m a)

    same-new : (n : ℕ) (x : OpenFile) → at_number (with_number fs a new) n ≡ Some x → at_number (with_number gs b new) (renumbering n) ≡ Some x
    same-new n x is =
        ⊎_elim
        (λ here.
        ap (at_number (with_number gs b new)) (renumbering-at n here) ∙ with_number-same_within gs b new within_gs ∙ sym (with_number-same_within fs a new within_fs)
        ∙ ap (at_number (with_number fs a new)) (sym here) ∙ is)
        (λ away.
        let had = old n x away is in
        ap (at_number (with_number gs b new)) (renumbering-away n away) ∙ with_number-other_within gs b new (f n) within_gs (fresh n x had) ∙ matches.same n x had)
        (cases_eq n a)

    onto-new : (m : ℕ) (x : OpenFile) → at_number (with_number gs b new) m ≡ Some x → (n : ℕ) × (at_number (with_number fs a new) n ≡ Some x) × (renumbering n ≡ m)
    onto-new m x is =
        ⊎_elim
        (λ here.
        (a, with_number-same_within fs a new within_fs ∙ sym (with_number-same_within gs b new within_gs) ∙ ap (at_number (with_number gs b new)) (sym here) ∙ is, renumbering-new ∙ sym here))
        (λ away.
        let had = matches.onto m x (sym (with_number-other_within gs b new m within_gs away) ∙ is) in
        let apart : had.0 ≢ a = λ here. let none : Some x ≡ None = sym had.1 ∙ ap (at_number fs) here ∙ least_free-free fs in cc none in
        (had.0, with_number-other_within fs a new had.0 within_fs apart ∙ had.1, renumbering-away had.0 apart ∙ had.2))
        (cases_eq m b)

    pub new-matches : Matches renumbering (with_number fs a new) (with_number gs b new)
    new-matches = record {
      before = length-with_number fs a new (omega (arith, leb-false 128 a room, matches.before)) ∙ matches.before;
      following = length-with_number gs b new (omega (arith, leb-false 128 b (full-matches ∙ room), matches.following)) ∙ matches.following;
      injective = injective-new;
      same = same-new;
      onto = onto-new;
    }
