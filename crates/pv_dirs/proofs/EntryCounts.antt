-- Counts of entries.
use Rattle.std.proofs.Common.{◌≡◌, ℕ, suc, ◌+◌, ◌<◌, ◌≤◌, true, false, cond, ◌==◌, ltb, List, [], ◌∷◌, ◌++◌, filter, length, take, get_or, set, None, Some, refl, ap, sym, ◌∙◌, inl, inr, arith}
use Rattle.std.specs.FinMap.Entries.{find, put, by_order}
use Rattle.std.specs.Ordering.{is_eq}
use Rattle.std.specs.declared.cmp.Ordering.TheVariants.{Less, Equal, Greater}
use Rattle.std.proofs.lemmas.Bool.{cases_eq, eq-eqb, ne_eqb, lt-ltb}
use Rattle.std.proofs.lemmas.List.{get_or-set_same, get_or-set_other, length-take-le, take_more}
use Rattle.pv_model.specs.Machine.{Bytes, Entries}
use Rattle.pv_dirs.specs.Counts.{count_in}
use Rattle.pv_dirs.specs.Slots.{in_order, IsDistinct}
use Rattle.pv_dirs.proofs.SortedEntries.{by_name, find-in_order}

-- 1 for the node itself, 0 for others
abbrev pub one_if : ℕ → ℕ → ℕ
one_if m n = cond (m == n) 1 0

pub count-cons : (n : ℕ) (e : Bytes × ℕ) (es : Entries) → count_in n (e ∷ es) ≡ one_if e.1 n + count_in n es
count-cons n e es = elim (e.1 == n) as (λ b. length (cond b (e ∷ filter (λ e. e.1 == n) es) (filter (λ e. e.1 == n) es)) ≡ cond b 1 0 + count_in n es) [ true ↦ omega arith | false ↦ omega arith ]

pub count-put : (n : ℕ) (name : Bytes) (m : ℕ) (es : Entries) → find by_name name es ≡ None → count_in n (put by_name name m es) ≡ one_if m n + count_in n es
count-put n name m [] none = count-cons n (name, m) []
count-put n name m (e ∷ es) none =
    elim (by_name name e.0) as (λ o. cond (is_eq o) (Some e.1) (find by_name name es) ≡ None
    → count_in n (by_order o ((name, m) ∷ e ∷ es) ((e.0, m) ∷ es) (e ∷ put by_name name m es)) ≡ one_if m n + count_in n (e ∷ es)) [
      | Less ↦ λ _. count-cons n (name, m) (e ∷ es)
      | Equal ↦ λ is. cc is
      | Greater ↦ λ is. omega (arith, count-cons n e (put by_name name m es), count-cons n e es, count-put n name m es is)
    ] none

pub count-most : (n : ℕ) (es : Entries) → count_in n es ≤ length es
count-most n [] = omega arith
count-most n (e ∷ es) = elim (e.1 == n) as (λ b. length (cond b (e ∷ filter (λ e. e.1 == n) es) (filter (λ e. e.1 == n) es)) ≤ suc (length es)) [ true ↦ omega (arith, count-most n es) | false ↦ omega (arith, count-most n es) ]

-- the order does not matter
pub count-in_order : (n : ℕ) (es : Entries) → IsDistinct es → count_in n (in_order es) ≡ count_in n es
unfolding in_order IsDistinct
count-in_order n [] apart = refl
count-in_order n (e ∷ es) apart =
    count-put n e.0 e.1 (in_order es) (find-in_order e.0 es ∙ apart.0)
    ∙ ap (λ k. one_if e.1 n + k) (count-in_order n es apart.1)
    ∙ sym (count-cons n e es)

count-append : (n : ℕ) (es : Entries) (e : Bytes × ℕ) → count_in n (es ++ e ∷ []) ≡ count_in n es + one_if e.1 n
count-append n [] e = omega (arith, count-cons n e [])
count-append n (f ∷ es) e = omega (arith, count-cons n f (es ++ e ∷ []), count-cons n f es, count-append n es e)

-- ---- a pass

-- the first k entries of a directory are counted
pub record IsCountedUpTo (es : Entries) (directory k : ℕ) (counts parents old_counts old_parents : List ℕ) : Type 0 where
  pub counted : (n : ℕ) → get_or counts n 0 ≡ get_or old_counts n 0 + count_in n (take k es)
  pub above : (n : ℕ) → get_or parents n 0 ≡ cond (ltb 0 (count_in n (take k es))) directory (get_or old_parents n 0)

pub counted_none : (es : Entries) (directory : ℕ) (counts parents : List ℕ) → IsCountedUpTo es directory 0 counts parents counts parents
counted_none es directory counts parents = record {
  counted = λ n. omega arith;
  above = λ n. refl;
}

module _ (es : Entries) (directory k : ℕ) (counts parents old_counts old_parents : List ℕ) (before : IsCountedUpTo es directory k counts parents old_counts old_parents) where
  pub count_fits : (n most : ℕ) → k < length es → length es ≤ 2540 → get_or old_counts n 0 + 2540 ≤ most → get_or counts n 0 + 1 ≤ most
  count_fits n most within few room = omega (arith, before.counted n, count-most n (take k es), length-take-le k es (omega arith))

  pub counted_more : (e : Bytes × ℕ) → k < length es → get_or es k e ≡ e → e.1 < length counts → length parents ≡ length counts
      → IsCountedUpTo es directory (k + 1) (set counts e.1 (get_or counts e.1 0 + 1)) (set parents e.1 directory) old_counts old_parents
  counted_more e within is below places =
      let more : (n : ℕ) → count_in n (take (k + 1) es) ≡ count_in n (take k es) + one_if e.1 n =
      λ n. ap (count_in n) (take_more es k e within ∙ ap (λ (f : Bytes × ℕ). take k es ++ f ∷ []) is) ∙ count-append n (take k es) e in
      record {
        counted = λ n. elim (cases_eq n e.1) [
          | inl here ↦
              let one : one_if e.1 n ≡ 1 = ap (λ b. cond b 1 0) (eq-eqb e.1 n (sym here)) in
              let written : get_or (set counts e.1 (get_or counts e.1 0 + 1)) n 0 ≡ get_or counts e.1 0 + 1 =
              ap (λ i. get_or (set counts e.1 (get_or counts e.1 0 + 1)) i 0) here ∙ get_or-set_same counts e.1 (get_or counts e.1 0 + 1) 0 below in
              omega (arith, written, one, more n, before.counted n, ap (λ i. get_or counts i 0) here)
          | inr other ↦
              let none : one_if e.1 n ≡ 0 = ap (λ b. cond b 1 0) (ne_eqb e.1 n (λ same. other (sym same))) in
              omega (arith, get_or-set_other counts e.1 n (get_or counts e.1 0 + 1) 0 other, none, more n, before.counted n)
        ];
        above = λ n. elim (cases_eq n e.1) [
          | inl here ↦
              let one : one_if e.1 n ≡ 1 = ap (λ b. cond b 1 0) (eq-eqb e.1 n (sym here)) in
              ap (λ i. get_or (set parents e.1 directory) i 0) here ∙ get_or-set_same parents e.1 directory 0 (omega arith)
              ∙ sym (ap (λ b. cond b directory (get_or old_parents n 0)) (lt-ltb 0 (count_in n (take (k + 1) es)) (omega (arith, more n, one))))
          | inr other ↦
              let none : one_if e.1 n ≡ 0 = ap (λ b. cond b 1 0) (ne_eqb e.1 n (λ same. other (sym same))) in
              let same : count_in n (take k es) ≡ count_in n (take (k + 1) es) = omega (arith, more n, none) in
              get_or-set_other parents e.1 n directory 0 other ∙ before.above n
              ∙ ap (λ i. cond (ltb 0 i) directory (get_or old_parents n 0)) same
        ];
      }
