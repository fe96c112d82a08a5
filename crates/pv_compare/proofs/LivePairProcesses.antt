-- The processes that are live in either state of a pair.
use Rattle.std.proofs.Common.{◌≡◌, ◌∙◌, sym, ap, ap₂, subst, ℕ, zero, suc, ◌+◌, ◌-◌, ◌<◌, ◌≤◌, Bool, true, false, ◌||◌, ◌==◌, cond, max, nat_le, List, [], ◌∷◌, ◌++◌, map, filter, fold, append-nil, Option, None, Some, is_some, refl, arith}
use Rattle.std.specs.List.{range_with_len}
use Rattle.std.specs.Cmp.{both_ways}
use Rattle.std.proofs.lemmas.Bool.{and_parts, eq-eqb, eqb-true, leb-true}
use Rattle.std.proofs.lemmas.Bool.Decides.{nat_tests}
use Rattle.std.proofs.lemmas.List.Elements.{filter-append}
use Rattle.std.proofs.lemmas.List.Folds.{list_any-append}
use Rattle.pv_explore.proofs.NumberRanges.{among-most, range-suc}
use Rattle.pv_laws_answers.proofs.Lists.{Among, among-any, among-map, any-among, map-among}
use Rattle.pv_laws_answers.proofs.LiveProcesses.{listed-live, live-listed}
use Rattle.pv_laws_states.proofs.ReferenceMembers.{find_number-list_all, live-found}
use Rattle.pv_laws_states.specs.States.{IsValid, is_process_number}
use Rattle.pv_model.specs.Answers.Compare.{Pair, is_live, live_in_either}
use Rattle.pv_model.specs.Machine.{among, live_processes, Process, State, live, process_at}

abbrev pub live_numbers : State → List ℕ
live_numbers s = map (λ p. p.0) (live_processes s.processes)

-- ---- in one state

-- a process is live if and only if its number is listed
live-among : (s : State) (pid : ℕ) → is_live s pid ≡ true → among (live_numbers s) pid ≡ true
live-among s pid is = by (process_at s pid) refl is
  where
    by : (o : Option Process) → process_at s pid ≡ o → is_some o ≡ true → among (live_numbers s) pid ≡ true
    by None at some = cc
    by (Some p) at some =
        any-among (λ m. m == pid) pid (live_numbers s) (among-map (λ (q : ℕ × Process). q.0) (pid, p) (live_processes s.processes) (live-listed s pid p at)) (eq-eqb pid pid refl)

among-live : (s : State) (pid : ℕ) → IsValid s → among (live_numbers s) pid ≡ true → is_live s pid ≡ true
among-live s pid whole is =
    let listed = among-any (λ m. m == pid) (live_numbers s) is in
    let from = map-among (λ (q : ℕ × Process). q.0) listed.0 (live_processes s.processes) listed.1 in
    let same : from.0.0 ≡ pid = sym from.2 ∙ eqb-true listed.0 pid listed.2 in
    ap (is_live s) (sym same) ∙ ap is_some (listed-live s from.0.0 from.0.1 whole.processes.ascending from.1)

live-is : (s : State) (pid : ℕ) → IsValid s → is_live s pid ≡ among (live_numbers s) pid
live-is s pid whole = both_ways (is_live s pid) (among (live_numbers s) pid) (live-among s pid) (among-live s pid whole)

-- the number of a live process is at most the last one given
live-within : (s : State) (pid : ℕ) → IsValid s → is_live s pid ≡ true → pid ≤ s.last_process
live-within s pid whole is = by (process_at s pid) refl is
  where
    by : (o : Option Process) → process_at s pid ≡ o → is_some o ≡ true → pid ≤ s.last_process
    by None at some = cc
    by (Some p) at some =
        let number = find_number-list_all (is_process_number s.last_process) pid (live p) s.processes whole.processes.numbers (live-found s pid p at) in
        leb-true pid s.last_process (and_parts (nat_le 1 pid) (nat_le pid s.last_process) number).1

-- ---- the greatest number

most-within : (xs : List ℕ) (a limit : ℕ) → a ≤ limit → ((n : ℕ) → among xs n ≡ true → n ≤ limit) → fold max a xs ≤ limit
most-within [] a limit first each = first
most-within (x ∷ xs) a limit first each =
    let here = each x (ap (λ b. b || among xs x) (eq-eqb x x refl)) in
    most-within xs (max a x) limit (omega (arith, first, here)) (λ n is. each n (later n is))
  where
    or-later : (b : Bool) → (b || true) ≡ true
    or-later true = refl
    or-later false = refl

    later : (n : ℕ) → among xs n ≡ true → among (x ∷ xs) n ≡ true
    later n is = ap (λ b. (x == n) || b) is ∙ or-later (x == n)

-- ---- in either state

-- numbers beyond the last that has a property add nothing
filter-further : (p : ℕ → Bool) (m k : ℕ) → ((n : ℕ) → p n ≡ true → n ≤ m) → filter p (range_with_len 1 (m + k)) ≡ filter p (range_with_len 1 m)
filter-further p m zero within = let same : m + 0 ≡ m = omega arith in ap (λ n. filter p (range_with_len 1 n)) same
filter-further p m (suc k) within =
    let same : m + suc k ≡ suc (m + k) = omega arith in
    ap (λ n. filter p (range_with_len 1 n)) same ∙ ap (filter p) (range-suc 1 (m + k)) ∙ filter-append p (range_with_len 1 (m + k)) ((1 + (m + k)) ∷ [])
    ∙ ap (λ ns. filter p (range_with_len 1 (m + k)) ++ ns) (none (p (1 + (m + k))) refl) ∙ append-nil (filter p (range_with_len 1 (m + k)))
    ∙ filter-further p m k within
  where
    none : (b : Bool) → p (1 + (m + k)) ≡ b → cond b ((1 + (m + k)) ∷ []) [] ≡ []
    none true is = let few = within (1 + (m + k)) is in absurd (omega (arith, few))
    none false is = refl

filter-to : (p : ℕ → Bool) (m n : ℕ) → m ≤ n → ((i : ℕ) → p i ≡ true → i ≤ m) → filter p (range_with_len 1 m) ≡ filter p (range_with_len 1 n)
filter-to p m n few within = let same : m + (n - m) ≡ n = omega (arith, few) in sym (filter-further p m (n - m) within) ∙ ap (λ k. filter p (range_with_len 1 k)) same

pub either-live : (b : Pair) (xs ys : List ℕ) → IsValid b.first → IsValid b.second → xs ≡ live_numbers b.first → ys ≡ live_numbers b.second
    → filter (among (xs ++ ys)) (range_with_len 1 (fold max 0 (xs ++ ys))) ≡ live_in_either b
either-live b xs ys first second xs_are ys_are =
    filter-to (among all) (fold max 0 all) limit (most-within all 0 limit (omega arith) within) (among-most all 0)
    ∙ ap (λ (p : ℕ → Bool). filter p (range_with_len 1 limit)) (λ i n. same n i)
  where
    all : List ℕ
    all = xs ++ ys

    limit : ℕ
    limit = max b.first.last_process b.second.last_process

    same : (n : ℕ) → among all n ≡ (is_live b.first n || is_live b.second n)
    same n =
        list_any-append (λ m. m == n) xs ys
        ∙ ap₂ (λ x y. x || y) (ap (λ ns. among ns n) xs_are ∙ sym (live-is b.first n first)) (ap (λ ns. among ns n) ys_are ∙ sym (live-is b.second n second))

    within : (n : ℕ) → among all n ≡ true → n ≤ limit
    within n is = by (is_live b.first n) refl (sym (same n) ∙ is)
      where
        by : (c : Bool) → is_live b.first n ≡ c → (c || is_live b.second n) ≡ true → n ≤ limit
        by true lives is = let low = live-within b.first n first lives in omega (arith, low)
        by false none is = let high = live-within b.second n second is in omega (arith, high)
