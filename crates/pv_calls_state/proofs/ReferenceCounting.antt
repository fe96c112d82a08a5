-- The number of occurrences in the lists that the parts of a state yield.
use Rattle.std.proofs.Common.{◌≡◌, ◌≢◌, ℕ, zero, suc, ◌+◌, ◌*◌, ◌<◌, ◌≤◌, Bool, true, false, cond, not, ◌==◌, List, [], ◌∷◌, ◌++◌, map, filter, length, drop, Option, None, Some, refl, ap, sym, subst, ◌∙◌, ⊎_elim, zero-add, add-zero, add-one, arith}
use Rattle.std.specs.Prelude.{slice_get, slice_index, option_map}
use Rattle.std.specs.Cmp.{unsigned_ties}
use Rattle.std.specs.FinMap.Entries.{by_order, find, put, is_sorted, below_all}
use Rattle.std.specs.Ordering.{nat_cmp, is_eq}
use Rattle.std.specs.declared.cmp.Ordering.{Ordering}
use Rattle.std.specs.declared.cmp.Ordering.TheVariants.{Less, Equal, Greater}
use Rattle.std.proofs.Math.ListN.{length-append}
use Rattle.std.proofs.lemmas.Bool.{and_parts, eq-eqb, ne_eqb, cases_eq}
use Rattle.std.proofs.lemmas.List.Sums.{count_by-le-length}
use Rattle.pv_model.specs.Machine.{adopt, is_unclaimed, Numbered, at_number, present, with_number, without_number, Process, ProcessRecord, live, ended_record}
use Rattle.pv_laws_states.proofs.ReferenceMembers.{all_of, find_number_after}
use Rattle.pv_laws_states.proofs.ProcessInsides.{not_before}
use Rattle.pv_calls_state.specs.Counts.{times}
use Rattle.pv_calls_state.proofs.CollectionByCounts.{one_if, times-append, times-cons}

pub times-one : (n m : ℕ) → times n (m ∷ []) ≡ one_if m n
times-one n m = times-cons n m [] ∙ add-zero (one_if m n)

pub one-self : (n : ℕ) → one_if n n ≡ 1
one-self n = ap (λ b. cond b 1 0) (eq-eqb n n refl)

-- two functions differ by one at one number, and agree elsewhere
pub one-apart : (f g : ℕ → ℕ) (m : ℕ) → f m + 1 ≡ g m → ((n : ℕ) → n ≢ m → f n ≡ g n) → (n : ℕ) → f n + one_if m n ≡ g n
one-apart f g m here others n =
    ⊎_elim
    (λ same. subst (λ k. f k + one_if m k ≡ g k) (sym same) (omega (arith, here, one-self m)))
    (λ other. let none : one_if m n ≡ 0 = ap (λ b. cond b 1 0) (ne_eqb m n (λ same. other (sym same))) in omega (arith, others n other))
    (cases_eq n m)

-- an index with a positive count is in range
pub indexed-within : (xs : List ℕ) (n : ℕ) → 0 < slice_index xs n → n < length xs
indexed-within [] n more = absurd (omega arith)
indexed-within (x ∷ xs) zero more = omega arith
indexed-within (x ∷ xs) (suc n) more = let below = indexed-within xs n more in omega arith

pub times-within : (n : ℕ) (xs : List ℕ) → times n xs ≤ length xs
times-within n xs = count_by-le-length (λ m. m == n) xs

-- ---- optional elements

module _ {X : Type 0} (f : X → ℕ) where
  -- the number of an optional element
  abbrev pub of_place : Option X → List ℕ
  of_place None = []
  of_place (Some x) = f x ∷ []

  -- the numbers of the present elements
  abbrev pub listed : Numbered X → List ℕ
  listed xs = map f (present xs)

  pub times-place : (n : ℕ) (o : Option X) (xs : Numbered X) → times n (listed (o ∷ xs)) ≡ times n (of_place o) + times n (listed xs)
  times-place n None xs = sym (zero-add (times n (listed xs)))
  times-place n (Some x) xs = times-cons n (f x) (listed xs) ∙ ap (λ a. a + times n (listed xs)) (sym (times-one n (f x)))

  -- the counts after an element is replaced
  pub times-with_number : (n : ℕ) (xs : Numbered X) (k : ℕ) (x : X)
      → times n (listed (with_number xs k x)) + times n (of_place (at_number xs k)) ≡ times n (listed xs) + times n (of_place (Some x))
  times-with_number n [] k x = add-zero _ ∙ sym (zero-add _)
  times-with_number n (o ∷ xs) zero x = omega (arith, times-place n (Some x) xs, times-place n o xs)
  times-with_number n (o ∷ xs) (suc k) x = omega (arith, times-place n o xs, times-place n o (with_number xs k x), times-with_number n xs k x)

  -- the counts after an element is removed
  pub times-without_number : (n : ℕ) (xs : Numbered X) (k : ℕ) → times n (listed (without_number xs k)) + times n (of_place (at_number xs k)) ≡ times n (listed xs)
  times-without_number n [] k = refl
  times-without_number n (o ∷ xs) zero = omega (arith, times-place n o xs, times-place n None xs)
  times-without_number n (o ∷ xs) (suc k) = omega (arith, times-place n o xs, times-place n o (without_number xs k), times-without_number n xs k)

  from-place : (n : ℕ) (xs : Numbered X) (k : ℕ) → times n (listed (drop k xs)) ≡ times n (of_place (at_number xs k)) + times n (listed (drop (suc k) xs))
  from-place n [] zero = refl
  from-place n [] (suc k) = refl
  from-place n (o ∷ xs) zero = times-place n o xs
  from-place n (o ∷ xs) (suc k) = from-place n xs k

  -- the counts from an index on
  pub times-drop : (n : ℕ) (xs : Numbered X) (k : ℕ) → times n (listed (drop k xs)) ≡ times n (of_place (at_number xs k)) + times n (listed (drop (k + 1) xs))
  times-drop n xs k = from-place n xs k ∙ ap (λ j. times n (of_place (at_number xs k)) + times n (listed (drop j xs))) (sym (add-one k))

  -- the count of an optional element
  pub place-is : (n : ℕ) (o : Option X) (m : ℕ) → option_map f o ≡ Some m → times n (of_place o) ≡ one_if m n
  place-is n None m is = cc
  place-is n (Some x) m is = let same : f x ≡ m = cc is in times-one n (f x) ∙ ap (λ j. one_if j n) same

  pub place-none : (n : ℕ) (o : Option X) → option_map f o ≡ None → times n (of_place o) ≡ 0
  place-none n None is = refl
  place-none n (Some x) is = cc

  -- an element that is present has a positive count
  pub times-there : (xs : Numbered X) (k m : ℕ) → option_map f (at_number xs k) ≡ Some m → 0 < times m (listed xs)
  times-there xs k m is = omega (arith, times-without_number m xs k, place-is m (at_number xs k) m is, one-self m)

  pub length-listed : (xs : Numbered X) → length (listed xs) ≤ length xs
  length-listed [] = omega arith
  length-listed (None ∷ xs) = omega (arith, length-listed xs)
  length-listed (Some x ∷ xs) = omega (arith, length-listed xs)

-- ---- lists from an index on

from-entry : {X : Type 0} (f : X → ℕ) (n : ℕ) (xs : List X) (k : ℕ) (x : X) → slice_get xs k ≡ Some x
    → times n (map f (drop k xs)) ≡ one_if (f x) n + times n (map f (drop (suc k) xs))
from-entry f n [] k x is = cc
from-entry f n (y ∷ xs) zero x is = let same : y ≡ x = cc is in times-cons n (f y) (map f xs) ∙ ap (λ z. one_if (f z) n + times n (map f xs)) same
from-entry f n (y ∷ xs) (suc k) x is = from-entry f n xs k x is

pub times-from : {X : Type 0} (f : X → ℕ) (n : ℕ) (xs : List X) (k : ℕ) (x : X) → slice_get xs k ≡ Some x
    → times n (map f (drop k xs)) ≡ one_if (f x) n + times n (map f (drop (k + 1) xs))
times-from f n xs k x is = from-entry f n xs k x is ∙ ap (λ j. one_if (f x) n + times n (map f (drop j xs))) (sym (add-one k))

pub times-get : {X : Type 0} (f : X → ℕ) (xs : List X) (k : ℕ) (x : X) → slice_get xs k ≡ Some x → 0 < times (f x) (map f xs)
times-get f [] k x is = cc
times-get f (y ∷ xs) zero x is =
    let same : y ≡ x = cc is in omega (arith, times-cons (f x) (f y) (map f xs), ap (λ z. one_if (f z) (f x)) same, one-self (f x))
times-get f (y ∷ xs) (suc k) x is = omega (arith, times-cons (f x) (f y) (map f xs), times-get f xs k x is)

-- ---- processes

module _ (g : Process → List ℕ) where
  -- the numbers of a live process; an ended process has none
  abbrev pub of_record : ProcessRecord → List ℕ
  of_record (live p) = g p
  of_record (ended_record parent status) = []

  pub times-record : (n k : ℕ) (r : ProcessRecord) (ps : List (ℕ × ProcessRecord)) → times n (all_of g ((k, r) ∷ ps)) ≡ times n (of_record r) + times n (all_of g ps)
  times-record n k (live p) ps = times-append n (g p) (all_of g ps)
  times-record n k (ended_record parent status) ps = sym (zero-add (times n (all_of g ps)))

  -- the counts after a record is replaced
  pub times-put : (n : ℕ) (ps : List (ℕ × ProcessRecord)) (pid : ℕ) (r q : ProcessRecord) → is_sorted nat_cmp ps ≡ true → find nat_cmp pid ps ≡ Some r
      → times n (all_of g (put nat_cmp pid q ps)) + times n (of_record r) ≡ times n (all_of g ps) + times n (of_record q)
  times-put n [] pid r q sorted found = cc
  times-put n ((k, x) ∷ ps) pid r q sorted found =
      by (nat_cmp pid k) refl (λ there. times-put n ps pid r q (and_parts (below_all nat_cmp k ps) (is_sorted nat_cmp ps) sorted).1 there)
    where
      by : (o : Ordering) → nat_cmp pid k ≡ o
          → (find nat_cmp pid ps ≡ Some r → times n (all_of g (put nat_cmp pid q ps)) + times n (of_record r) ≡ times n (all_of g ps) + times n (of_record q))
          → times n (all_of g (by_order o ((pid, q) ∷ (k, x) ∷ ps) ((k, q) ∷ ps) ((k, x) ∷ put nat_cmp pid q ps))) + times n (of_record r)
          ≡ times n (all_of g ((k, x) ∷ ps)) + times n (of_record q)
      by Less is rest = not_before pid r (k, x) ps sorted is found
      by Equal is rest =
          let here : Some x ≡ Some r = sym (ap (λ o. cond (is_eq o) (Some x) (find nat_cmp pid ps)) is) ∙ found in
          let same : x ≡ r = cc here in
          omega (arith, times-record n k q ps, times-record n k x ps, ap (λ y. times n (of_record y)) same)
      by Greater is rest =
          omega (arith, times-record n k x ps, times-record n k x (put nat_cmp pid q ps), rest (sym (ap (λ o. cond (is_eq o) (Some x) (find nat_cmp pid ps)) is) ∙ found))

  -- the counts after a record is added
  pub times-put_new : (n : ℕ) (ps : List (ℕ × ProcessRecord)) (pid : ℕ) (q : ProcessRecord) → find nat_cmp pid ps ≡ None
      → times n (all_of g (put nat_cmp pid q ps)) ≡ times n (all_of g ps) + times n (of_record q)
  times-put_new n [] pid q none = omega (arith, times-record n pid q [])
  times-put_new n ((k, x) ∷ ps) pid q none = by (nat_cmp pid k) refl (λ there. times-put_new n ps pid q there)
    where
      by : (o : Ordering) → nat_cmp pid k ≡ o → (find nat_cmp pid ps ≡ None → times n (all_of g (put nat_cmp pid q ps)) ≡ times n (all_of g ps) + times n (of_record q))
          → times n (all_of g (by_order o ((pid, q) ∷ (k, x) ∷ ps) ((k, q) ∷ ps) ((k, x) ∷ put nat_cmp pid q ps))) ≡ times n (all_of g ((k, x) ∷ ps)) + times n (of_record q)
      by Less is rest = omega (arith, times-record n pid q ((k, x) ∷ ps))
      by Equal is rest =
          let here : Some x ≡ None = sym (ap (λ o. cond (is_eq o) (Some x) (find nat_cmp pid ps)) is) ∙ none in cc here
      by Greater is rest =
          omega (arith, times-record n k x ps, times-record n k x (put nat_cmp pid q ps), rest (sym (ap (λ o. cond (is_eq o) (Some x) (find nat_cmp pid ps)) is) ∙ none))

  -- adopted orphans keep their references, and unclaimed ended processes have none
  pub all_of-adopted : ((p : Process) (parent : ℕ) → g (record p { parent = parent }) ≡ g p) → (old new : ℕ) (ps : List (ℕ × ProcessRecord))
      → all_of g (filter (λ r. not (is_unclaimed r.1)) (map (adopt old new) ps)) ≡ all_of g ps
  all_of-adopted same old new [] = refl
  all_of-adopted same old new ((k, live p) ∷ ps) =
      elim (p.parent == old) as (λ b. all_of g (filter (λ r. not (is_unclaimed r.1)) (cond b (k, live (record p { parent = new })) (k, live p) ∷ map (adopt old new) ps)) ≡ g p ++ all_of g ps) [
        | true ↦ ap (λ xs. xs ++ all_of g (filter (λ r. not (is_unclaimed r.1)) (map (adopt old new) ps))) (same p new) ∙ ap (λ xs. g p ++ xs) (all_of-adopted same old new ps)
        | false ↦ ap (λ xs. g p ++ xs) (all_of-adopted same old new ps)
      ]
  all_of-adopted same old new ((k, ended_record parent status) ∷ ps) =
      elim (parent == old) as (λ b. all_of g (filter (λ r. not (is_unclaimed r.1)) (cond b (k, ended_record new status) (k, ended_record parent status) ∷ map (adopt old new) ps)) ≡ all_of g ps) [
        | true ↦ ended new (new == 0) (all_of-adopted same old new ps)
        | false ↦ ended parent (parent == 0) (all_of-adopted same old new ps)
      ]
    where
      ended : (above : ℕ) (b : Bool) → all_of g (filter (λ r. not (is_unclaimed r.1)) (map (adopt old new) ps)) ≡ all_of g ps
          → all_of g (cond (not b) ((k, ended_record above status) ∷ filter (λ r. not (is_unclaimed r.1)) (map (adopt old new) ps)) (filter (λ r. not (is_unclaimed r.1)) (map (adopt old new) ps))) ≡ all_of g ps
      ended above true rest = rest
      ended above false rest = rest

  -- a bound on the total, given a bound for each process
  pub length-all_of : (most : ℕ) (ps : List (ℕ × ProcessRecord)) → is_sorted nat_cmp ps ≡ true → ((pid : ℕ) (p : Process) → find nat_cmp pid ps ≡ Some (live p) → length (g p) ≤ most)
      → length (all_of g ps) ≤ length ps * most
  length-all_of most [] sorted few = omega arith
  length-all_of most ((k, live p) ∷ ps) sorted few =
      let first : length (g p) ≤ most = few k p (ap (λ b. cond b (Some (live p)) (find nat_cmp k ps)) (sym (unsigned_ties k k) ∙ eq-eqb k k refl)) in
      let rest : length (all_of g ps) ≤ length ps * most =
      length-all_of most ps (and_parts (below_all nat_cmp k ps) (is_sorted nat_cmp ps) sorted).1 (λ pid q found. few pid q (find_number_after pid (live q) (k, live p) ps sorted found)) in
      omega (arith, length-append (g p) (all_of g ps))
  length-all_of most ((k, ended_record parent status) ∷ ps) sorted few =
      let rest : length (all_of g ps) ≤ length ps * most =
      length-all_of most ps (and_parts (below_all nat_cmp k ps) (is_sorted nat_cmp ps) sorted).1 (λ pid q found. few pid q (find_number_after pid (live q) (k, ended_record parent status) ps sorted found)) in
      omega arith
