-- The least length of a schedule with a text.
use Rattle.std.proofs.Common.{◌≡◌, ◌≢◌, ◌⊎◌, ⊎_elim, inl, inr, ℕ, zero, suc, ◌<◌, ◌≤◌, Bool, true, false, bytes_eq, List, [], ◌∷◌, ◌++◌, length, Option, None, Some, is_some, refl, ap, sym, subst, ◌∙◌, arith, length-append}
use Rattle.std.proofs.lemmas.Bool.{cases_lt, cases_eq}
use Rattle.pv_model.specs.Machine.{Bytes, live_processes, Program, Process, State, process_at, step, run}
use Rattle.pv_laws_trees.proofs.DirectoryEntries.{bytes_eq-same, bytes_eq-itself}
use Rattle.pv_laws_states.specs.States.{EncodesPrograms, IsValid}
use Rattle.pv_laws_states.proofs.ValidBySteps.{step-keeps_valid}
use Rattle.pv_laws_answers.specs.Search.{text_of_step}
use Rattle.pv_laws_answers.specs.Witnesses.{AreSteps}
use Rattle.pv_laws_answers.proofs.Lists.{Among}
use Rattle.pv_laws_answers.proofs.LiveProcesses.{listed-live, live-listed}
use Rattle.pv_laws_classes.specs.Together.{HasSchedule, IsLeast, HasLeastLength}
use Rattle.pv_laws_classes.proofs.CombinedSteps.{least-equal}

-- ---- the least number with a decidable property

abbrev Decides : Type 0 → Type 0
Decides P = P ⊎ (P → ⊥)

module _ (P : ℕ → Type 0) (decide : (n : ℕ) → Decides (P n)) where
  record LeastBelow (k : ℕ) : Type 0 where
    n : ℕ
    below : n < k
    least : IsLeast P n

  least-below : (k : ℕ) → LeastBelow k ⊎ ((m : ℕ) → m < k → P m → ⊥)
  least-below zero = inr (λ m less p. absurd (omega (arith, less)))
  least-below (suc k) =
      ⊎_elim (λ (is : LeastBelow k). inl (record { n = is.n; below = omega (arith, is.below); least = is.least }))
      (λ none.
      ⊎_elim
      (λ (p : P k).
      inl (record {
        n = k;
        below = omega arith;
        least = (p, λ m q. ⊎_elim (λ (less : m < k). absurd (none m less q)) (λ (more : k ≤ m). more) (cases_lt m k));
      }))
      (λ (not_k : P k → ⊥).
      inr (λ m less q.
      ⊎_elim (λ (lower : m < k). none m lower q) (λ (more : k ≤ m). let same : m ≡ k = omega (arith, less, more) in not_k (subst P same q)) (cases_lt m k)))
      (decide k))
      (least-below k)

  least-of : (m : ℕ) → P m → LeastBelow (suc m)
  least-of m p = ⊎_elim (λ (is : LeastBelow (suc m)). is) (λ none. absurd (none m (omega arith) p)) (least-below (suc m))

-- ---- whether a schedule of n steps has a text

module _ {X : Type 0} (P : X → Type 0) where
  decide-any : (xs : List X) → ((x : X) → Among x xs → Decides (P x)) → ((x : X) × Among x xs × P x) ⊎ ((x : X) → Among x xs → P x → ⊥)
  decide-any [] decide = inr (λ x within p. absurd within)
  decide-any (y ∷ xs) decide =
      ⊎_elim (λ (p : P y). inl (y, inl refl, p))
      (λ (not_y : P y → ⊥).
      ⊎_elim (λ (is : (x : X) × Among x xs × P x). inl (is.0, inr is.1, is.2))
      (λ (none : (x : X) → Among x xs → P x → ⊥). inr (λ x within p. ⊎_elim (λ (same : x ≡ y). not_y (subst P same p)) (λ (later : Among x xs). none x later p) within))
      (decide-any xs (λ x within. decide x (inr within))))
      (decide y (inl refl))

module _ (program_of : Bytes → Option Program) (encodes : EncodesPrograms program_of) (bytes : Bytes) where
  abbrev Has : State → ℕ → Type 0
  Has s n = HasSchedule program_of s bytes n

  -- a schedule that starts with a step of a process, and has n more steps
  abbrev Starts : State → ℕ → ℕ → Type 0
  Starts s n pid = ((n ≡ 0) × (text_of_step program_of s pid ≡ bytes)) ⊎ Has (step program_of s pid).after n

  started : (s : State) (n pid : ℕ) → is_some (process_at s pid) ≡ true → Starts s n pid → Has s (suc n)
  started s n pid lives (inl is) = record { pids = []; pid = pid; steps = (lives, tt); text = is.1; count = ap suc (sym is.0) }
  started s n pid lives (inr had) = record { pids = pid ∷ had.pids; pid = had.pid; steps = (lives, had.steps); text = had.text; count = ap suc had.count }

  starts : (s : State) (n : ℕ) → Has s (suc n) → (pid : ℕ) × (is_some (process_at s pid) ≡ true) × Starts s n pid
  starts s n had = by had.pids had.steps had.text had.count
    where
      by : (pids : List ℕ) → AreSteps program_of (pids ++ had.pid ∷ []) s → text_of_step program_of (run program_of pids s).final had.pid ≡ bytes → length (pids ++ had.pid ∷ []) ≡ suc n
          → (pid : ℕ) × (is_some (process_at s pid) ≡ true) × Starts s n pid
      by [] steps text count = (had.pid, steps.0, inl (omega (arith, count), text))
      by (pid ∷ pids) steps text count = (pid, steps.0, inr (record { pids = pids; pid = had.pid; steps = steps.1; text = text; count = omega (arith, count) }))

  decide-text : (one other : Bytes) → Decides (one ≡ other)
  decide-text one other = by (bytes_eq one other) refl
    where
      by : (b : Bool) → bytes_eq one other ≡ b → Decides (one ≡ other)
      by true same = inl (bytes_eq-same one other same)
      by false differ = inr (λ same. let bad : true ≡ false = sym (bytes_eq-itself one) ∙ ap (bytes_eq one) same ∙ differ in cc bad)

  decide-starts : (s : State) (n pid : ℕ) → Decides (Has (step program_of s pid).after n) → Decides (Starts s n pid)
  decide-starts s n pid rest =
      ⊎_elim (λ (had : Has (step program_of s pid).after n). inl (inr had))
      (λ (none : Has (step program_of s pid).after n → ⊥).
      ⊎_elim
      (λ (last : n ≡ 0).
      ⊎_elim (λ (same : text_of_step program_of s pid ≡ bytes). inl (inl (last, same)))
      (λ (differ : text_of_step program_of s pid ≢ bytes). inr (λ is. ⊎_elim (λ (now : (n ≡ 0) × (text_of_step program_of s pid ≡ bytes)). differ now.1) none is))
      (decide-text (text_of_step program_of s pid) bytes))
      (λ (more : n ≢ 0). inr (λ is. ⊎_elim (λ (now : (n ≡ 0) × (text_of_step program_of s pid ≡ bytes)). more now.0) none is))
      (cases_eq n 0))
      rest

  none-short : (s : State) → Has s 0 → ⊥
  none-short s had = absurd (omega (arith, had.count, length-append had.pids (had.pid ∷ [])))

  live-process : (s : State) (pid : ℕ) → is_some (process_at s pid) ≡ true → (p : Process) × (process_at s pid ≡ Some p)
  live-process s pid = by (process_at s pid) refl
    where
      by : (o : Option Process) → process_at s pid ≡ o → is_some o ≡ true → (p : Process) × (process_at s pid ≡ Some p)
      by None at lives = cc lives
      by (Some p) at lives = (p, at)

  decide : (n : ℕ) (s : State) → IsValid s → Decides (Has s n)
  decide zero s whole = inr (none-short s)
  decide (suc n) s whole =
      ⊎_elim
      (λ (is : (r : ℕ × Process) × Among r (live_processes s.processes) × Starts s n r.0).
      inl (started s n is.0.0 (ap is_some (listed-live s is.0.0 is.0.1 whole.processes.ascending is.1)) is.2))
      (λ (none : (r : ℕ × Process) → Among r (live_processes s.processes) → Starts s n r.0 → ⊥).
      inr (λ had. let first = starts s n had in let p = live-process s first.0 first.1 in none (first.0, p.0) (live-listed s first.0 p.0 p.1) first.2))
      (decide-any (λ (r : ℕ × Process). Starts s n r.0) (live_processes s.processes)
      (λ r within. decide-starts s n r.0 (decide n (step program_of s r.0).after (step-keeps_valid program_of encodes s r.0 whole))))

  pub has-least_length : (most : ℕ) (s : State) → IsValid s → bytes ≢ [] → (m : ℕ) → Has s m → HasLeastLength program_of most s bytes m
  has-least_length most s whole some m had =
      let least = least-of (Has s) (λ n. decide n s whole) m had in
      record {
        n = least.n;
        bound = omega (arith, least.below);
        schedule = least.least;
        combined = (least-equal program_of most encodes s whole bytes some least.n).0 least.least;
      }
