-- The process that has the next turn, number by number.
use Rattle.std.proofs.Common.{◌≡◌, ◌∙◌, ℕ, ◌<◌, ◌≤◌, Bool, true, false, cond, not, if◌then◌else◌, ◌&&◌, nat_le, nat_lt, List, [], ◌∷◌, ◌++◌, map, Option, None, Some, option_map, refl, sym, ap, ap₂, subst, arith}
use Rattle.std.specs.Prelude.{find as first_where}
use Rattle.std.specs.FinMap.Entries.{below_all, find, is_sorted}
use Rattle.std.specs.List.{filter, list_all}
use Rattle.std.specs.Cmp.{unsigned_ties}
use Rattle.std.specs.Ordering.{is_lt, nat_cmp}
use Rattle.std.proofs.lemmas.Bool.{and_parts, eq-eqb, le-leb, leb-true, leb-false, le-ltb, lt-leb, lt-ltb, ltb-false, ltb-true}
use Rattle.std.proofs.lemmas.List.Elements.{filter-append}
use Rattle.pv_model.specs.declared.limits.TheConstants.{LAST_PROCESS}
use Rattle.pv_model.specs.Machine.{first_of, continues, next_turn, Bytes, live_processes, Process, ProcessRecord, Program, State, ended_record, live, live_process, process_at, step, step_of}
use Rattle.pv_laws_states.specs.States.{AreProcesses, is_process_number}
use Rattle.pv_laws_states.proofs.ReferenceMembers.{find_number_after}
use Rattle.pv_procs.proofs.ForkedSlots.{number-less}
use Rattle.pv_needs.specs.Turning.{first_between}

-- ---- filters

filter-filter : {X : Type 0} (p q : X → Bool) (xs : List X) → filter q (filter p xs) ≡ filter (λ x. p x && q x) xs
filter-filter p q [] = refl
filter-filter p q (x ∷ xs) = by (p x) (filter-filter p q xs)
  where
    by : (b : Bool) → filter q (filter p xs) ≡ filter (λ y. p y && q y) xs
        → filter q (cond b (x ∷ filter p xs) (filter p xs)) ≡ cond (b && q x) (x ∷ filter (λ y. p y && q y) xs) (filter (λ y. p y && q y) xs)
    by true rest = ap (λ ys. cond (q x) (x ∷ ys) ys) rest
    by false rest = rest

abbrev pub or_else : {X : Type 0} → Option X → Option X → Option X
or_else None other = other
or_else (Some x) other = Some x

first-append : {X : Type 0} (xs ys : List X) → first_of (xs ++ ys) ≡ or_else (first_of xs) (first_of ys)
first-append [] ys = refl
first-append (x ∷ xs) ys = refl

-- ---- ascending numbers

abbrev AllAbove : ℕ → List (ℕ × ProcessRecord) → Type 0
AllAbove k [] = Unit {0}
AllAbove k (r ∷ rs) = (k < r.0) × AllAbove k rs

all-above : (k : ℕ) (rs : List (ℕ × ProcessRecord)) → below_all nat_cmp k rs ≡ true → AllAbove k rs
all-above k [] is = tt
all-above k (r ∷ rs) is = let parts = and_parts (is_lt (nat_cmp k r.0)) (below_all nat_cmp k rs) is in (number-less k r.0 parts.0, all-above k rs parts.1)

abbrev pub after_of : ℕ → List (ℕ × ProcessRecord) → Option ℕ
after_of k rs = option_map (λ (r : ℕ × ProcessRecord). r.0) (first_where (λ (r : ℕ × ProcessRecord). nat_lt k r.0) rs)

abbrev numbers : List (ℕ × ProcessRecord) → List ℕ
numbers rs = map (λ r. r.0) rs

-- the numbers between two that pass a test
module _ (g : ℕ → Bool) (up : ℕ) where
  abbrev between : ℕ → List (ℕ × ProcessRecord) → List ℕ
  between k rs = filter (λ x. (nat_lt k x && nat_le x up) && g x) (numbers rs)

  abbrev pub chosen : Bool → ℕ → Option ℕ → Option ℕ
  chosen b n rest = if b then Some n else rest

  -- the start does not matter below the first greater number
  same-after : (k n : ℕ) (rs : List (ℕ × ProcessRecord)) → k ≤ n → AllAbove n rs → between k rs ≡ between n rs
  same-after k n [] low far = refl
  same-after k n (r ∷ rs) low far =
      ap₂ (λ (b : Bool) (xs : List ℕ). cond ((b && nat_le r.0 up) && g r.0) (r.0 ∷ xs) xs) (lt-ltb k r.0 (omega (arith, far.0, low)) ∙ sym (lt-ltb n r.0 far.0)) (same-after k n rs low far.1)

  none-beyond : (k n : ℕ) (rs : List (ℕ × ProcessRecord)) → up < n → AllAbove n rs → between k rs ≡ []
  none-beyond k n [] past far = refl
  none-beyond k n (r ∷ rs) past far =
      ap (λ (b : Bool). cond ((nat_lt k r.0 && b) && g r.0) (r.0 ∷ between k rs) (between k rs)) (lt-leb r.0 up (omega (arith, past, far.0)))
      ∙ never (nat_lt k r.0) ∙ none-beyond k n rs past far.1
    where
      never : (b : Bool) → cond ((b && false) && g r.0) (r.0 ∷ between k rs) (between k rs) ≡ between k rs
      never true = refl
      never false = refl

  skipped : (k : ℕ) (r : ℕ × ProcessRecord) (rs : List (ℕ × ProcessRecord)) → r.0 ≤ k → between k (r ∷ rs) ≡ between k rs
  skipped k r rs low = ap (λ (b : Bool). cond ((b && nat_le r.0 up) && g r.0) (r.0 ∷ between k rs) (between k rs)) (le-ltb k r.0 low)

  taken : (k : ℕ) (r : ℕ × ProcessRecord) (rs : List (ℕ × ProcessRecord)) → AllAbove r.0 rs → k < r.0
      → first_of (between k (r ∷ rs)) ≡ (if nat_le r.0 up then chosen (g r.0) r.0 (first_of (between r.0 (r ∷ rs))) else None)
  taken k r rs far low =
      ap (λ (b : Bool). first_of (cond ((b && nat_le r.0 up) && g r.0) (r.0 ∷ between k rs) (between k rs))) (lt-ltb k r.0 low)
      ∙ by (nat_le r.0 up) refl (g r.0)
      ∙ ap (λ (xs : List ℕ). if nat_le r.0 up then chosen (g r.0) r.0 (first_of xs) else None)
      (same-after k r.0 rs (omega arith) far ∙ sym (skipped r.0 r rs (omega arith)))
    where
      by : (a : Bool) → nat_le r.0 up ≡ a → (c : Bool)
          → first_of (cond (a && c) (r.0 ∷ between k rs) (between k rs)) ≡ (if a then chosen c r.0 (first_of (between k rs)) else None)
      by true is true = refl
      by true is false = refl
      by false is c = ap first_of (none-beyond k r.0 rs (leb-false r.0 up is) far)

  after-greater : (k n : ℕ) (rs : List (ℕ × ProcessRecord)) → after_of k rs ≡ Some n → k < n
  after-greater k n [] is = absurd (cc)
  after-greater k n (r ∷ rs) is = by (nat_lt k r.0) refl is (after-greater k n rs)
    where
      by : (b : Bool) → nat_lt k r.0 ≡ b → option_map (λ (x : ℕ × ProcessRecord). x.0) (cond b (Some r) (first_where (λ (x : ℕ × ProcessRecord). nat_lt k x.0) rs)) ≡ Some n
          → (after_of k rs ≡ Some n → k < n) → k < n
      by true low found rest = let same : r.0 ≡ n = cc in subst (λ m. k < m) same (ltb-true k r.0 low)
      by false not found rest = rest found

  -- the first greater number, and those after it
  pub next-one : (k n : ℕ) (rs : List (ℕ × ProcessRecord)) → is_sorted nat_cmp rs ≡ true → after_of k rs ≡ Some n
      → first_of (between k rs) ≡ (if nat_le n up then chosen (g n) n (first_of (between n rs)) else None)
  next-one k n [] sorted is = absurd (cc)
  next-one k n (r ∷ rs) sorted is =
      let parts = and_parts (below_all nat_cmp r.0 rs) (is_sorted nat_cmp rs) sorted in
      by (nat_lt k r.0) refl is (next-one k n rs parts.1) (taken k r rs (all-above r.0 rs parts.0))
    where
      by : (b : Bool) → nat_lt k r.0 ≡ b → option_map (λ (x : ℕ × ProcessRecord). x.0) (cond b (Some r) (first_where (λ (x : ℕ × ProcessRecord). nat_lt k x.0) rs)) ≡ Some n
          → (after_of k rs ≡ Some n → first_of (between k rs) ≡ (if nat_le n up then chosen (g n) n (first_of (between n rs)) else None))
          → (k < r.0 → first_of (between k (r ∷ rs)) ≡ (if nat_le r.0 up then chosen (g r.0) r.0 (first_of (between r.0 (r ∷ rs))) else None))
          → first_of (between k (r ∷ rs)) ≡ (if nat_le n up then chosen (g n) n (first_of (between n (r ∷ rs))) else None)
      by true low found rest here =
          let same : r.0 ≡ n = cc in
          here (ltb-true k r.0 low) ∙ ap (λ m. if nat_le m up then chosen (g m) m (first_of (between m (r ∷ rs))) else None) same
      by false not found rest here =
          let far : r.0 ≤ k = ltb-false k r.0 not in
          let more : k < n = after-greater k n rs found in
          ap first_of (skipped k r rs far) ∙ rest found
          ∙ sym (ap (λ (xs : List ℕ). if nat_le n up then chosen (g n) n (first_of xs) else None) (skipped n r rs (omega arith)))

  -- no number is greater
  pub next-none : (k : ℕ) (rs : List (ℕ × ProcessRecord)) → after_of k rs ≡ None → between k rs ≡ []
  next-none k [] is = refl
  next-none k (r ∷ rs) is = by (nat_lt k r.0) refl is (next-none k rs)
    where
      by : (b : Bool) → nat_lt k r.0 ≡ b → option_map (λ (x : ℕ × ProcessRecord). x.0) (cond b (Some r) (first_where (λ (x : ℕ × ProcessRecord). nat_lt k x.0) rs)) ≡ None
          → (after_of k rs ≡ None → between k rs ≡ []) → between k (r ∷ rs) ≡ []
      by true low none rest = absurd (cc)
      by false not none rest = skipped k r rs (ltb-false k r.0 not) ∙ rest none

-- ---- live processes and all processes

find_here : (k : ℕ) (v : ProcessRecord) (rs : List (ℕ × ProcessRecord)) → find nat_cmp k ((k, v) ∷ rs) ≡ Some v
find_here k v rs = ap (λ (b : Bool). cond b (Some v) (find nat_cmp k rs)) (sym (unsigned_ties k k) ∙ eq-eqb k k refl)

module _ (s : State) (g : ℕ → Bool) (gone : (k : ℕ) → process_at s k ≡ None → g k ≡ false) (h : ℕ → Bool) where
  abbrev Upward : List (ℕ × ProcessRecord) → Type 0
  Upward rs = (q : ℕ) (v : ProcessRecord) → find nat_cmp q rs ≡ Some v → find nat_cmp q s.processes ≡ Some v

  live-same : (rs : List (ℕ × ProcessRecord)) → is_sorted nat_cmp rs ≡ true → Upward rs
      → filter (λ k. h k && g k) (numbers rs) ≡ filter (λ k. h k && g k) (map (λ (p : ℕ × Process). p.0) (live_processes rs))
  live-same [] sorted up = refl
  live-same ((k, live p) ∷ rs) sorted up =
      ap (λ (xs : List ℕ). cond (h k && g k) (k ∷ xs) xs)
      (live-same rs (and_parts (below_all nat_cmp k rs) (is_sorted nat_cmp rs) sorted).1 (λ q v is. up q v (find_number_after q v (k, live p) rs sorted is)))
  live-same ((k, ended_record parent status) ∷ rs) sorted up =
      ap (λ (b : Bool). cond (h k && b) (k ∷ filter (λ x. h x && g x) (numbers rs)) (filter (λ x. h x && g x) (numbers rs)))
      (gone k (ap live_process (up k (ended_record parent status) (find_here k (ended_record parent status) rs))))
      ∙ never (h k)
      ∙ live-same rs (and_parts (below_all nat_cmp k rs) (is_sorted nat_cmp rs) sorted).1
      (λ q v is. up q v (find_number_after q v (k, ended_record parent status) rs sorted is))
    where
      never : (b : Bool) → cond (b && false) (k ∷ filter (λ x. h x && g x) (numbers rs)) (filter (λ x. h x && g x) (numbers rs)) ≡ filter (λ x. h x && g x) (numbers rs)
      never true = refl
      never false = refl

-- ---- the next turn

abbrev SameOn : (ℕ → Bool) → (ℕ → Bool) → List ℕ → Type 0
SameOn p q [] = Unit {0}
SameOn p q (k ∷ ks) = (p k ≡ q k) × SameOn p q ks

filter-same : (p q : ℕ → Bool) (ks : List ℕ) → SameOn p q ks → filter p ks ≡ filter q ks
filter-same p q [] same = refl
filter-same p q (k ∷ ks) same = ap₂ (λ (b : Bool) (xs : List ℕ). cond b (k ∷ xs) xs) same.0 (filter-same p q ks same.1)

module _ (g : ℕ → Bool) (pid last : ℕ) (low : last ≤ LAST_PROCESS) where
  up-to-all : (rs : List (ℕ × ProcessRecord)) → list_all (λ r. is_process_number last r.0) rs ≡ true
      → SameOn (λ k. nat_lt pid k && g k) (λ k. (nat_lt pid k && nat_le k LAST_PROCESS) && g k) (numbers rs)
  up-to-all [] all = tt
  up-to-all (r ∷ rs) all =
      let parts = and_parts (is_process_number last r.0) (list_all (λ x. is_process_number last x.0) rs) all in
      let within = leb-true r.0 last (and_parts (nat_le 1 r.0) (nat_le r.0 last) parts.0).1 in
      (by (nat_lt pid r.0) (g r.0) ∙ sym (ap (λ (b : Bool). (nat_lt pid r.0 && b) && g r.0) (le-leb r.0 LAST_PROCESS (omega (arith, within)))), up-to-all rs parts.1)
    where
      by : (a b : Bool) → (a && b) ≡ ((a && true) && b)
      by true b = refl
      by false b = refl

  from-first : (rs : List (ℕ × ProcessRecord)) → list_all (λ r. is_process_number last r.0) rs ≡ true
      → SameOn (λ k. nat_le k pid && g k) (λ k. (nat_lt 0 k && nat_le k pid) && g k) (numbers rs)
  from-first [] all = tt
  from-first (r ∷ rs) all =
      let parts = and_parts (is_process_number last r.0) (list_all (λ x. is_process_number last x.0) rs) all in
      let some = leb-true 1 r.0 (and_parts (nat_le 1 r.0) (nat_le r.0 last) parts.0).0 in
      (sym (ap (λ (b : Bool). (b && nat_le r.0 pid) && g r.0) (lt-ltb 0 r.0 (omega (arith, some)))), from-first rs parts.1)

module _ (program_of : Bytes → Option Program) (s : State) (processes : AreProcesses s) where
  abbrev goes : ℕ → Bool
  goes k = continues (step program_of s k).outcome

  goes-gone : (k : ℕ) → process_at s k ≡ None → goes k ≡ false
  unfolding step
  goes-gone k none = ap (λ (p : Option Process). continues (step_of program_of s k p).outcome) none

  -- greater numbers come first, then those from the first process on
  pub next-turn : (pid : ℕ) → next_turn program_of pid s ≡ or_else (first_between program_of s pid LAST_PROCESS) (first_between program_of s 0 pid)
  next-turn pid =
      let live = map (λ (p : ℕ × Process). p.0) (live_processes s.processes) in
      let all = numbers s.processes in
      let up = λ (q : ℕ) (v : ProcessRecord) (is : find nat_cmp q s.processes ≡ Some v). is in
      ap first_of (filter-append goes (filter (λ k. nat_lt pid k) live) (filter (λ k. nat_le k pid) live))
      ∙ first-append (filter goes (filter (λ k. nat_lt pid k) live)) (filter goes (filter (λ k. nat_le k pid) live))
      ∙ ap₂ (λ (xs ys : List ℕ). or_else (first_of xs) (first_of ys))
      (filter-filter (λ (k : ℕ). nat_lt pid k) goes live ∙ sym (live-same s goes goes-gone (λ k. nat_lt pid k) s.processes processes.ascending up)
      ∙ filter-same _ _ all (up-to-all goes pid s.last_process processes.last.1 s.processes processes.numbers))
      (filter-filter (λ (k : ℕ). nat_le k pid) goes live ∙ sym (live-same s goes goes-gone (λ k. nat_le k pid) s.processes processes.ascending up)
      ∙ filter-same _ _ all (from-first goes pid s.last_process processes.last.1 s.processes processes.numbers))
