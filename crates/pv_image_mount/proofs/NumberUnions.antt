-- Lists to which missing numbers are added.
use Rattle.std.proofs.Common.{◌≡◌, ℕ, zero, suc, ◌+◌, ◌≤◌, ◌<◌, List, [], ◌∷◌, ◌++◌, length, get_or, take, true, false, cond, inl, inr, ap, sym, subst, ◌∙◌, refl, arith, ltb-true, ltb-false}
use Rattle.std.proofs.lemmas.Bool.{eqb-true, or_cases, or_left, or_right}
use Rattle.std.proofs.lemmas.Bool.Decides.{nat_tests}
use Rattle.std.proofs.lemmas.Cmp.{nat_eq_equiv}
use Rattle.std.proofs.lemmas.List.{get_or_append_left, get_or_push, length_push, take_more}
use Rattle.std.proofs.lemmas.List.Folds.{list_any-append, list_any_at}
use Rattle.std.proofs.lemmas.Map.Keys.{IsDistinct-push, IsDistinct-from_apart}
use Rattle.std.specs.Prelude.{◌||◌, ◌==◌, nat_lt}
use Rattle.pv_blocks.specs.declared.block_set.BlockSet.{BlockSet}
use Rattle.pv_blocks.specs.BlockSet.{is_member}
use Rattle.pv_image_mount.proofs.InodeBlocks.{or_flips, or_none, same_tests}
use Rattle.pv_image_mount.proofs.InvalidBlocks.{eq_flips}
use Rattle.pv_image_mount.specs.Places.{is_among, joined_numbers, with_number_last, HasEach}

-- ---- one number

among_last : (xs : List ℕ) (k j : ℕ) → is_among (xs ++ k ∷ []) j ≡ (k == j || is_among xs j)
among_last xs k j =
    list_any-append (λ other. other == j) xs (k ∷ []) ∙ ap (λ b. is_among xs j || b) (or_none (k == j)) ∙ or_flips (is_among xs j) (k == j)

-- the position of a number in a list
pub record AppearsAt (xs : List ℕ) (k : ℕ) : Type 0 where
  pub at : ℕ
  pub within : at < length xs
  pub is : get_or xs at 0 ≡ k

pub among_at : (xs : List ℕ) (k : ℕ) → is_among xs k ≡ true → AppearsAt xs k
among_at [] k is = absurd cc
among_at (x ∷ xs) k is =
    elim (or_cases (x == k) (is_among xs k) is) [
      | inl here ↦ record { at = 0; within = omega arith; is = eqb-true x k here }
      | inr following ↦
          let rest = among_at xs k following in
          let inner = rest.within in
          record { at = suc rest.at; within = omega (arith, inner); is = rest.is }
    ]

same_true : (k : ℕ) → (k == k) ≡ true
same_true k = grind (arith, nat_tests)

pub at_among : (xs : List ℕ) (i : ℕ) → i < length xs → is_among xs (get_or xs i 0) ≡ true
at_among xs i within = list_any_at (λ other. other == get_or xs i 0) xs i 0 within (same_true (get_or xs i 0))

-- ---- one more number

last_keeps : (xs : List ℕ) (k j : ℕ) → is_among xs j ≡ true → is_among (with_number_last xs k) j ≡ true
last_keeps xs k j is =
    elim (is_among xs k) as (λ b. is_among (cond b xs (xs ++ k ∷ [])) j ≡ true) [
      | true ↦ is
      | false ↦ among_last xs k j ∙ or_right (k == j) (is_among xs j) is
    ]

last_has : (xs : List ℕ) (k : ℕ) → is_among (with_number_last xs k) k ≡ true
last_has xs k =
    elim (is_among xs k) as (λ b. is_among xs k ≡ b → is_among (cond b xs (xs ++ k ∷ [])) k ≡ true) [
      | true ↦ λ is. is
      | false ↦ λ lacks. among_last xs k k ∙ or_left (k == k) (is_among xs k) (same_true k)
    ] refl

last_longer : (xs : List ℕ) (k : ℕ) → length xs ≤ length (with_number_last xs k)
last_longer xs k =
    elim (is_among xs k) as (λ b. length xs ≤ length (cond b xs (xs ++ k ∷ []))) [
      | true ↦ omega arith
      | false ↦ let more = length_push xs k in omega (arith, more)
    ]

last_front : (xs : List ℕ) (k i : ℕ) → i < length xs → get_or (with_number_last xs k) i 0 ≡ get_or xs i 0
last_front xs k i within =
    elim (is_among xs k) as (λ b. get_or (cond b xs (xs ++ k ∷ [])) i 0 ≡ get_or xs i 0) [
      | true ↦ refl
      | false ↦ get_or_append_left xs (k ∷ []) 0 i within
    ]

-- a property of each number at its position, and of the new one
last_each : (P : ℕ → ℕ → Type 0) (xs : List ℕ) (k : ℕ) → ((i : ℕ) → i < length xs → P i (get_or xs i 0)) → ((i : ℕ) → length xs ≤ i → P i k)
    → (i : ℕ) → i < length (with_number_last xs k) → P i (get_or (with_number_last xs k) i 0)
last_each P xs k old new =
    elim (is_among xs k) as (λ b. (i : ℕ) → i < length (cond b xs (xs ++ k ∷ [])) → P i (get_or (cond b xs (xs ++ k ∷ [])) i 0)) [
      | true ↦ old
      | false ↦ λ i within.
          let more : length (xs ++ k ∷ []) ≡ length xs + 1 = length_push xs k in
          elim (nat_lt i (length xs)) as (λ b. nat_lt i (length xs) ≡ b → P i (get_or (xs ++ k ∷ []) i 0)) [
            | true ↦ λ less. let low : i < length xs = ltb-true i (length xs) less in subst (P i) (sym (get_or_append_left xs (k ∷ []) 0 i low)) (old i low)
            | false ↦ λ past.
                let high : length xs ≤ i = ltb-false i (length xs) past in
                let last : length xs ≡ i = omega (arith, high, more, within) in
                subst (P i) (sym (get_or_push xs k 0 i last)) (new i high)
          ] refl
    ]

-- ---- many

pub joined_push : (xs ks : List ℕ) (k : ℕ) → joined_numbers xs (ks ++ k ∷ []) ≡ with_number_last (joined_numbers xs ks) k
joined_push xs [] k = refl
joined_push xs (j ∷ js) k = joined_push (with_number_last xs j) js k

pub joined_more : (xs ks : List ℕ) (i : ℕ) → i < length ks → joined_numbers xs (take (i + 1) ks) ≡ with_number_last (joined_numbers xs (take i ks)) (get_or ks i 0)
joined_more xs ks i within = ap (joined_numbers xs) (take_more ks i 0 within) ∙ joined_push xs (take i ks) (get_or ks i 0)

pub joined_keeps : (xs ks : List ℕ) (j : ℕ) → is_among xs j ≡ true → is_among (joined_numbers xs ks) j ≡ true
joined_keeps xs [] j is = is
joined_keeps xs (k ∷ ks) j is = joined_keeps (with_number_last xs k) ks j (last_keeps xs k j is)

pub joined_has : (xs ks : List ℕ) (i : ℕ) → i < length ks → is_among (joined_numbers xs ks) (get_or ks i 0) ≡ true
joined_has xs [] i within = absurd (omega arith)
joined_has xs (k ∷ ks) zero within = joined_keeps (with_number_last xs k) ks k (last_has xs k)
joined_has xs (k ∷ ks) (suc i) within = joined_has (with_number_last xs k) ks i (omega arith)

pub joined_longer : (xs ks : List ℕ) → length xs ≤ length (joined_numbers xs ks)
joined_longer xs [] = omega arith
joined_longer xs (k ∷ ks) = let one = last_longer xs k in let rest = joined_longer (with_number_last xs k) ks in omega (arith, one, rest)

pub joined_front : (xs ks : List ℕ) (i : ℕ) → i < length xs → get_or (joined_numbers xs ks) i 0 ≡ get_or xs i 0
joined_front xs [] i within = refl
joined_front xs (k ∷ ks) i within =
    let longer = last_longer xs k in
    joined_front (with_number_last xs k) ks i (omega (arith, longer, within)) ∙ last_front xs k i within

pub joined_each : (P : ℕ → ℕ → Type 0) (base : ℕ) (xs ks : List ℕ) → base ≤ length xs → ((i : ℕ) → i < length xs → P i (get_or xs i 0))
    → ((m : ℕ) → m < length ks → (i : ℕ) → base ≤ i → P i (get_or ks m 0)) → (i : ℕ) → i < length (joined_numbers xs ks) → P i (get_or (joined_numbers xs ks) i 0)
joined_each P base xs [] low old new = old
joined_each P base xs (k ∷ ks) low old new =
    let longer = last_longer xs k in
    joined_each P base (with_number_last xs k) ks (omega (arith, longer, low))
    (last_each P xs k old (λ i high. new 0 (omega arith) i (omega (arith, high, low))))
    (λ m within. new (suc m) (omega (arith, within)))

-- ---- a set with the numbers of a list

pub one_each : (set : BlockSet) (k : ℕ) → ((j : ℕ) → is_member set j ≡ (j == k || false)) → HasEach set (k ∷ [])
one_each set k has = record {
  members = λ j. has j ∙ ap (λ b. b || false) (eq_flips j k);
  once = IsDistinct-from_apart ◌==◌ (k ∷ []) (λ i j d less within. absurd (omega (arith, less, within)));
}

pub each_more : (old new : BlockSet) (xs : List ℕ) (k : ℕ) → HasEach old xs → is_member old k ≡ false → ((j : ℕ) → is_member new j ≡ (j == k || is_member old j)) → HasEach new (xs ++ k ∷ [])
each_more old new xs k has lacks after = record {
  members = λ j. after j ∙ ap (λ b. b || is_member old j) (eq_flips j k) ∙ ap (λ b. k == j || b) (has.members j) ∙ sym (among_last xs k j);
  once = IsDistinct-push nat_eq_equiv xs k has.once (same_tests (λ y. k == y) (λ y. y == k) (eq_flips k) xs ∙ sym (has.members k) ∙ lacks);
}

pub lacking_last : (xs : List ℕ) (k : ℕ) → is_among xs k ≡ false → with_number_last xs k ≡ xs ++ k ∷ []
lacking_last xs k lacks = ap (λ b. cond b xs (xs ++ k ∷ [])) lacks

pub having_last : (xs : List ℕ) (k : ℕ) → is_among xs k ≡ true → with_number_last xs k ≡ xs
having_last xs k has = ap (λ b. cond b xs (xs ++ k ∷ [])) has
