-- The live processes, in the order of their numbers.
use Rattle.std.proofs.Common.{◌≡◌, ◌≢◌, ℕ, suc, ◌+◌, ◌<◌, ◌≤◌, Bool, true, false, cond, nat_lt, List, [], ◌∷◌, ◌++◌, map, filter, length, Option, None, Some, is_some, refl, ap, sym, subst, ◌∙◌, ◌⊎◌, ⊎_elim, inl, inr, arith, length-append}
use Rattle.std.specs.List.{list_all}
use Rattle.std.specs.Cmp.{unsigned_ties}
use Rattle.std.specs.Ordering.{nat_cmp, is_lt}
use Rattle.std.specs.FinMap.Entries.{find, is_sorted, below_all}
use Rattle.std.proofs.lemmas.Bool.{and_parts, and_from, eq-eqb, ne_eqb, lt-ltb, cases_lt, le-ltb}
use Rattle.std.proofs.lemmas.List.{map-append}
use Rattle.pv_model.specs.Machine.{live_processes, Process, ProcessRecord, live, ended_record, State, live_process, process_at}
use Rattle.pv_calls_state.proofs.OfLawsStates.ReferenceMembers.{find_number_after}
use Rattle.pv_laws_trees.proofs.ListMembers.{In}
use Rattle.pv_calls_state.proofs.OfProcs.ForkedSlots.{number-less}
use Rattle.pv_audit.specs.declared.suspects.Suspect.{Suspect}
use Rattle.pv_audit.specs.Findings.{suspect, are_live}

abbrev pub Living : Type 0
Living = ℕ × Process

abbrev pub Recorded : Type 0
Recorded = ℕ × ProcessRecord

-- the live processes with lower numbers
abbrev pub live_below : ℕ → List Recorded → List Living
live_below n rs = filter (λ (e : Living). nat_lt e.0 n) (live_processes rs)

-- the process with a number, if it is live
abbrev pub at_most_one : ℕ → Option Process → List Living
at_most_one n None = []
at_most_one n (Some p) = (n, p) ∷ []

-- no process is below if all numbers are above
none_below : (k n : ℕ) (rs : List Recorded) → below_all nat_cmp k rs ≡ true → n ≤ suc k → live_below n rs ≡ []
none_below k n [] below low = refl
none_below k n ((j, live p) ∷ rs) below low =
    let parts = and_parts (is_lt (nat_cmp k j)) (below_all nat_cmp k rs) below in
    let more = number-less k j parts.0 in
    ap (λ b. cond b ((j, p) ∷ live_below n rs) (live_below n rs)) (le-ltb j n (omega arith)) ∙ none_below k n rs parts.1 low
none_below k n ((j, ended_record parent status) ∷ rs) below low =
    none_below k n rs (and_parts (is_lt (nat_cmp k j)) (below_all nat_cmp k rs) below).1 low

pub below-zero : (rs : List Recorded) → live_below 0 rs ≡ []
below-zero [] = refl
below-zero ((j, live p) ∷ rs) = ap (λ b. cond b ((j, p) ∷ live_below 0 rs) (live_below 0 rs)) (le-ltb j 0 (omega arith)) ∙ below-zero rs
below-zero ((j, ended_record parent status) ∷ rs) = below-zero rs

find_here : (k : ℕ) (r : ProcessRecord) (rs : List Recorded) → find nat_cmp k ((k, r) ∷ rs) ≡ Some r
find_here k r rs = ap (λ b. cond b (Some r) (find nat_cmp k rs)) (sym (unsigned_ties k k) ∙ eq-eqb k k refl)

find_past : (n k : ℕ) (r : ProcessRecord) (rs : List Recorded) → n ≢ k → find nat_cmp n ((k, r) ∷ rs) ≡ find nat_cmp n rs
find_past n k r rs apart = ap (λ b. cond b (Some r) (find nat_cmp n rs)) (sym (unsigned_ties n k) ∙ ne_eqb n k apart)

same_or_not : (n k : ℕ) → (n ≡ k) ⊎ (n ≢ k)
same_or_not n k = ⊎_elim (λ (low : n < k). inr (λ same. absurd (omega arith))) (λ high. ⊎_elim (λ (more : k < n). inr (λ same. absurd (omega arith))) (λ low. inl (omega (arith, low, high))) (cases_lt k n)) (cases_lt n k)

-- the next number
pub below-more : (n : ℕ) (rs : List Recorded) → is_sorted nat_cmp rs ≡ true → live_below (n + 1) rs ≡ live_below n rs ++ at_most_one n (live_process (find nat_cmp n rs))
below-more n [] sorted = refl
below-more n ((k, live p) ∷ rs) sorted =
    let parts = and_parts (below_all nat_cmp k rs) (is_sorted nat_cmp rs) sorted in
    ⊎_elim
    (λ same.
    let here : nat_lt k (n + 1) ≡ true = lt-ltb k (n + 1) (omega (arith, same)) in
    let not_yet : nat_lt k n ≡ false = le-ltb k n (omega (arith, same)) in
    let table_access : find nat_cmp n ((k, live p) ∷ rs) ≡ Some (live p) = ap (λ j. find nat_cmp j ((k, live p) ∷ rs)) same ∙ find_here k (live p) rs in
    ap (λ b. cond b ((k, p) ∷ live_below (n + 1) rs) (live_below (n + 1) rs)) here
    ∙ ap (λ (xs : List Living). (k, p) ∷ xs) (none_below k (n + 1) rs parts.0 (omega (arith, same)))
    ∙ ap (λ (j : ℕ). (j, p) ∷ []) (sym same)
    ∙ sym
    ((λ i. ap (λ b. cond b ((k, p) ∷ live_below n rs) (live_below n rs)) not_yet i ++ at_most_one n (live_process (table_access i)))
    ∙ ap (λ (xs : List Living). xs ++ ((n, p) ∷ [])) (none_below k n rs parts.0 (omega (arith, same)))))
    (λ apart.
    let further = below-more n rs parts.1 in
    let past = find_past n k (live p) rs apart in
    let alike : nat_lt k (n + 1) ≡ nat_lt k n = ⊎_elim (λ (low : k < n). lt-ltb k (n + 1) (omega arith) ∙ sym (lt-ltb k n low))
    (λ high. let higher : n + 1 ≤ k = omega (arith, high, apart) in le-ltb k (n + 1) higher ∙ sym (le-ltb k n high)) (cases_lt k n) in
    ap (λ b. cond b ((k, p) ∷ live_below (n + 1) rs) (live_below (n + 1) rs)) alike
    ∙ elim (nat_lt k n) as (λ b. cond b ((k, p) ∷ live_below (n + 1) rs) (live_below (n + 1) rs) ≡ cond b ((k, p) ∷ live_below n rs) (live_below n rs) ++ at_most_one n (live_process (find nat_cmp n rs))) [
      | true ↦ ap (λ (xs : List Living). (k, p) ∷ xs) further
      | false ↦ further
    ]
    ∙ ap (λ (o : Option ProcessRecord). cond (nat_lt k n) ((k, p) ∷ live_below n rs) (live_below n rs) ++ at_most_one n (live_process o)) (sym past))
    (same_or_not n k)
below-more n ((k, ended_record parent status) ∷ rs) sorted =
    let parts = and_parts (below_all nat_cmp k rs) (is_sorted nat_cmp rs) sorted in
    ⊎_elim
    (λ same.
    let table_access : find nat_cmp n ((k, ended_record parent status) ∷ rs) ≡ Some (ended_record parent status) =
    ap (λ j. find nat_cmp j ((k, ended_record parent status) ∷ rs)) same ∙ find_here k (ended_record parent status) rs in
    none_below k (n + 1) rs parts.0 (omega (arith, same))
    ∙ sym ((λ i. live_below n rs ++ at_most_one n (live_process (table_access i))) ∙ ap (λ (xs : List Living). xs ++ []) (none_below k n rs parts.0 (omega (arith, same)))))
    (λ apart. below-more n rs parts.1 ∙ ap (λ (o : Option ProcessRecord). live_below n rs ++ at_most_one n (live_process o)) (sym (find_past n k (ended_record parent status) rs apart)))
    (same_or_not n k)

-- past all numbers
pub below-all : (n : ℕ) (rs : List Recorded) (test : Recorded → Bool) → list_all test rs ≡ true → ((r : Recorded) → test r ≡ true → r.0 < n) → live_below n rs ≡ live_processes rs
below-all n [] test all low = refl
below-all n ((k, live p) ∷ rs) test all low =
    let parts = and_parts (test (k, live p)) (list_all test rs) all in
    ap (λ b. cond b ((k, p) ∷ live_below n rs) (live_below n rs)) (lt-ltb k n (low (k, live p) parts.0)) ∙ ap (λ (xs : List Living). (k, p) ∷ xs) (below-all n rs test parts.1 low)
below-all n ((k, ended_record parent status) ∷ rs) test all low =
    below-all n rs test (and_parts (test (k, ended_record parent status)) (list_all test rs) all).1 low

pub below-few : (n : ℕ) (rs : List Recorded) → length (live_below n rs) ≤ length rs
below-few n [] = omega arith
below-few n ((k, live p) ∷ rs) =
    let few = below-few n rs in
    elim (nat_lt k n) as (λ b. length (cond b ((k, p) ∷ live_below n rs) (live_below n rs)) ≤ length ((k, live p) ∷ rs)) [ true ↦ omega arith | false ↦ omega arith ]
below-few n ((k, ended_record parent status) ∷ rs) = let few = below-few n rs in omega arith

-- ---- as suspects

abbrev pub start : Living → Suspect
start p = suspect p.0

pub suspects-more : (n : ℕ) (rs : List Recorded) (xs ys : List Suspect) → is_sorted nat_cmp rs ≡ true → xs ≡ map start (live_below n rs) → is_some (live_process (find nat_cmp n rs)) ≡ true
    → ys ≡ xs ++ suspect n ∷ [] → ys ≡ map start (live_below (n + 1) rs)
suspects-more n rs xs ys sorted so lives is = by (live_process (find nat_cmp n rs)) refl lives
  where
    by : (o : Option Process) → live_process (find nat_cmp n rs) ≡ o → is_some o ≡ true → ys ≡ map start (live_below (n + 1) rs)
    by None none some = cc some
    by (Some p) table_access some =
        is ∙ ap (λ (zs : List Suspect). zs ++ suspect n ∷ []) so
        ∙ sym (ap (map start) (below-more n rs sorted ∙ ap (λ (o : Option Process). live_below n rs ++ at_most_one n o) table_access) ∙ map-append start (live_below n rs) ((n, p) ∷ []))

pub suspects-same : (n : ℕ) (rs : List Recorded) (xs : List Suspect) → is_sorted nat_cmp rs ≡ true → xs ≡ map start (live_below n rs) → is_some (live_process (find nat_cmp n rs)) ≡ false
    → xs ≡ map start (live_below (n + 1) rs)
suspects-same n rs xs sorted so gone = by (live_process (find nat_cmp n rs)) refl gone
  where
    by : (o : Option Process) → live_process (find nat_cmp n rs) ≡ o → is_some o ≡ false → xs ≡ map start (live_below (n + 1) rs)
    by None none some =
        so ∙ sym (ap (map start) (below-more n rs sorted ∙ ap (λ (o : Option Process). live_below n rs ++ at_most_one n o) none) ∙ map-append start (live_below n rs) [] ∙ nothing (map start (live_below n rs)))
      where
        nothing : (zs : List Suspect) → zs ++ [] ≡ zs
        nothing [] = refl
        nothing (z ∷ zs) = ap (λ (ws : List Suspect). z ∷ ws) (nothing zs)
    by (Some p) table_access some = cc some

-- there is room for another live process
pub suspects-few : (n : ℕ) (rs : List Recorded) (xs : List Suspect) → is_sorted nat_cmp rs ≡ true → xs ≡ map start (live_below n rs) → is_some (live_process (find nat_cmp n rs)) ≡ true
    → length xs < length rs
suspects-few n rs xs sorted so lives =
    let more = suspects-more n rs xs (xs ++ suspect n ∷ []) sorted so lives refl in
    let few = below-few (n + 1) rs in
    omega (arith, few, ap length more, length-append xs (suspect n ∷ []), length-started (live_below (n + 1) rs))
  where
    length-started : (ps : List Living) → length (map start ps) ≡ length ps
    length-started [] = refl
    length-started (p ∷ ps) = ap suc (length-started ps)

-- ---- each suspect is live

pub live-in : (rs : List Recorded) (p : Living) → is_sorted nat_cmp rs ≡ true → In Living p (live_processes rs) → find nat_cmp p.0 rs ≡ Some (live p.1)
live-in [] p sorted within = absurd within
live-in ((k, live q) ∷ rs) p sorted within =
    let parts = and_parts (below_all nat_cmp k rs) (is_sorted nat_cmp rs) sorted in
    ⊎_elim (λ same. subst (λ (e : Living). find nat_cmp e.0 ((k, live q) ∷ rs) ≡ Some (live e.1)) same (find_here k (live q) rs))
    (λ later. find_number_after p.0 (live p.1) (k, live q) rs sorted (live-in rs p parts.1 later)) within
live-in ((k, ended_record parent status) ∷ rs) p sorted within =
    find_number_after p.0 (live p.1) (k, ended_record parent status) rs sorted (live-in rs p (and_parts (below_all nat_cmp k rs) (is_sorted nat_cmp rs) sorted).1 within)

module _ (s : State) (sorted : is_sorted nat_cmp s.processes ≡ true) where
  pub live-process : (p : Living) → In Living p (live_processes s.processes) → process_at s p.0 ≡ Some p.1
  live-process p within = ap live_process (live-in s.processes p sorted within)

all_live : (s : State) (ps : List Living) → ((p : Living) → In Living p ps → process_at s p.0 ≡ Some p.1) → are_live s (map start ps) ≡ true
all_live s [] each = refl
all_live s (p ∷ ps) each = and_from _ _ (ap is_some (each p (inl refl))) (all_live s ps (λ q within. each q (inr within)))

pub suspects-live : (s : State) → is_sorted nat_cmp s.processes ≡ true → are_live s (map start (live_processes s.processes)) ≡ true
suspects-live s sorted = all_live s (live_processes s.processes) (live-process s sorted)
