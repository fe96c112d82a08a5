-- Steps of different processes that commute.
use Rattle.std.proofs.Common.{◌≡◌, ◌≢◌, ℕ, Bool, true, false, cond, if◌then◌else◌, ◌==◌, List, [], ◌∷◌, Option, Some, refl, ap, ap₂, sym, subst, ◌∙◌}
use Rattle.std.specs.FinMap.Entries.{by_order, find, put, is_sorted, below_all}
use Rattle.std.specs.Ordering.{nat_cmp, is_lt, is_eq}
use Rattle.std.specs.Cmp.{unsigned_ties}
use Rattle.std.specs.declared.cmp.Ordering.{Ordering}
use Rattle.std.specs.declared.cmp.Ordering.TheVariants.{Less, Equal, Greater}
use Rattle.std.proofs.lemmas.Bool.{and_parts, eqb-true, eq-eqb}
use Rattle.pv_model.specs.Machine.{Bytes, Program, Process, ProcessRecord, live, State, process_at, with_process, step}
use Rattle.pv_laws_states.specs.States.{IsValid}
use Rattle.pv_laws_states.proofs.ReferenceMembers.{live-found}
use Rattle.pv_laws_states.proofs.Processes.{number-itself}
use Rattle.pv_laws_states.proofs.ProcessInsides.{not_before}
use Rattle.pv_laws_steps.specs.Beside.{change_live, with_change, become, StepsWithOtherProcess}
use Rattle.pv_laws_steps.specs.Commuting.{Commute, StaysInside}
use Rattle.pv_laws_steps.proofs.ChangedProcess.{changed}
use Rattle.pv_laws_steps.proofs.StepsOfOthers.{others-alter-nothing}

-- ---- storing a process is a change of it

module _ (k : ℕ) (f : Process → Process) where
  not-itself : (n : ℕ) → is_lt (nat_cmp k n) ≡ true → (n == k) ≡ false
  not-itself n less = by (n == k) refl
    where
      by : (b : Bool) → (n == k) ≡ b → (n == k) ≡ false
      by false differs = differs
      by true same =
          let here : n ≡ k = eqb-true n k same in
          let bad : is_lt Equal ≡ true = ap is_lt (sym (number-itself k)) ∙ ap (λ m. is_lt (nat_cmp k m)) (sym here) ∙ less in cc bad

  unchanged-above : (es : List (ℕ × ProcessRecord)) → below_all nat_cmp k es ≡ true → changed k f es ≡ es
  unchanged-above [] below = refl
  unchanged-above (e ∷ es) below =
      let parts = and_parts (is_lt (nat_cmp k e.0)) (below_all nat_cmp k es) below in
      ap₂ (λ b (xs : List (ℕ × ProcessRecord)). (e.0, if b then change_live f e.1 else e.1) ∷ xs) (not-itself e.0 parts.0) (unchanged-above es parts.1)

  pub put-changes : (es : List (ℕ × ProcessRecord)) (p : Process) → is_sorted nat_cmp es ≡ true → find nat_cmp k es ≡ Some (live p) → put nat_cmp k (live (f p)) es ≡ changed k f es
  put-changes [] p sorted found = cc found
  put-changes (e ∷ es) p sorted found = by (nat_cmp k e.0) refl (λ there. put-changes es p parts.1 there)
    where
      parts : (below_all nat_cmp e.0 es ≡ true) × (is_sorted nat_cmp es ≡ true)
      parts = and_parts (below_all nat_cmp e.0 es) (is_sorted nat_cmp es) sorted

      by : (o : Ordering) → nat_cmp k e.0 ≡ o → (find nat_cmp k es ≡ Some (live p) → put nat_cmp k (live (f p)) es ≡ changed k f es)
          → by_order o ((k, live (f p)) ∷ e ∷ es) ((e.0, live (f p)) ∷ es) (e ∷ put nat_cmp k (live (f p)) es) ≡ changed k f (e ∷ es)
      by Less is rest = not_before k (live p) e es sorted is found
      by Equal is rest =
          let here : k ≡ e.0 = eqb-true k e.0 (unsigned_ties k e.0 ∙ ap is_eq is) in
          let value : Some e.1 ≡ Some (live p) = sym (ap (λ o. cond (is_eq o) (Some e.1) (find nat_cmp k es)) is) ∙ found in
          let same : e.1 ≡ live p = cc value in
          let above : below_all nat_cmp k es ≡ true = ap (λ n. below_all nat_cmp n es) here ∙ parts.0 in
          let number : (e.0 == k) ≡ true = ap (λ n. n == k) (sym here) ∙ eq-eqb k k refl in
          ap₂ (λ r (xs : List (ℕ × ProcessRecord)). (e.0, r) ∷ xs) (ap (change_live f) (sym same)) (sym (unchanged-above es above))
          ∙ ap (λ b. (e.0, if b then change_live f e.1 else e.1) ∷ changed k f es) (sym number)
      by Greater is rest =
          let there : find nat_cmp k es ≡ Some (live p) = sym (ap (λ o. cond (is_eq o) (Some e.1) (find nat_cmp k es)) is) ∙ found in
          let apart : (e.0 == k) ≡ false = none (e.0 == k) refl in
          ap₂ (λ b (xs : List (ℕ × ProcessRecord)). (e.0, if b then change_live f e.1 else e.1) ∷ xs) (sym apart) (rest there)
        where
          none : (b : Bool) → (e.0 == k) ≡ b → (e.0 == k) ≡ false
          none false differs = differs
          none true same =
              let here : k ≡ e.0 = sym (eqb-true e.0 k same) in
              let bad : Equal ≡ Greater = sym (number-itself k) ∙ ap (nat_cmp k) here ∙ is in cc bad

-- storing a process where it is already
pub put-there : (k : ℕ) (es : List (ℕ × ProcessRecord)) (p : Process) → is_sorted nat_cmp es ≡ true → find nat_cmp k es ≡ Some (live p) → put nat_cmp k (live p) es ≡ es
put-there k [] p sorted found = cc found
put-there k (e ∷ es) p sorted found = by (nat_cmp k e.0) refl (λ there. put-there k es p (and_parts (below_all nat_cmp e.0 es) (is_sorted nat_cmp es) sorted).1 there)
  where
    by : (o : Ordering) → nat_cmp k e.0 ≡ o → (find nat_cmp k es ≡ Some (live p) → put nat_cmp k (live p) es ≡ es)
        → by_order o ((k, live p) ∷ e ∷ es) ((e.0, live p) ∷ es) (e ∷ put nat_cmp k (live p) es) ≡ e ∷ es
    by Less is rest = not_before k (live p) e es sorted is found
    by Equal is rest =
        let value : Some e.1 ≡ Some (live p) = sym (ap (λ o. cond (is_eq o) (Some e.1) (find nat_cmp k es)) is) ∙ found in
        let same : e.1 ≡ live p = cc value in
        ap (λ r. (e.0, r) ∷ es) (sym same)
    by Greater is rest = ap (λ (xs : List (ℕ × ProcessRecord)). e ∷ xs) (rest (sym (ap (λ o. cond (is_eq o) (Some e.1) (find nat_cmp k es)) is) ∙ found))

-- a state with another process under a number is a state in which that process is changed
pub with-is-change : (s : State) (k : ℕ) (p q : Process) → IsValid s → process_at s k ≡ Some p → q.parent ≡ p.parent → with_process s k q ≡ with_change s k (become q)
with-is-change s k p q whole at parent =
    let same : q ≡ become q p = ap (λ n. record q { parent = n }) parent in
    ap (with_process s k) same ∙ ap (λ ps. record s { processes = ps }) (put-changes k (become q) s.processes p whole.processes.ascending (live-found s k p at))

-- changes of different processes commute
changes-commute : (j k : ℕ) (f g : Process → Process) → j ≢ k → (es : List (ℕ × ProcessRecord)) → changed k f (changed j g es) ≡ changed j g (changed k f es)
changes-commute j k f g apart [] = refl
changes-commute j k f g apart (e ∷ es) = ap₂ (λ r (xs : List (ℕ × ProcessRecord)). (e.0, r) ∷ xs) (by (e.0 == k) refl (e.0 == j) refl) (changes-commute j k f g apart es)
  where
    by : (b : Bool) → (e.0 == k) ≡ b → (c : Bool) → (e.0 == j) ≡ c
        → (if b then change_live f (if c then change_live g e.1 else e.1) else (if c then change_live g e.1 else e.1)) ≡ (if c then change_live g (if b then change_live f e.1 else e.1) else (if b then change_live f e.1 else e.1))
    by true at_k true at_j = absurd (apart (sym (eqb-true e.0 j at_j) ∙ eqb-true e.0 k at_k))
    by true at_k false at_j = refl
    by false at_k true at_j = refl
    by false at_k false at_j = refl

module _ (program_of : Bytes → Option Program) (s : State) (whole : IsValid s) where
  -- a step after one of another process that stays inside its process
  pub following-inside : (j k : ℕ) → j ≢ k → (is : StaysInside program_of s k) → StepsWithOtherProcess k (become is.following) (step program_of s j) (step program_of (step program_of s k).after j)
  following-inside j k apart is =
      subst (λ x. StepsWithOtherProcess k (become is.following) (step program_of s j) (step program_of x j)) (sym (is.after ∙ with-is-change s k is.before is.following whole is.at is.parent))
      (others-alter-nothing program_of s j k is.before is.following whole (λ same. apart (sym same)) is.at is.alike)

  pub inside-commute : (j k : ℕ) → j ≢ k → StaysInside program_of s j → StaysInside program_of s k → Commute program_of s j k
  inside-commute j k apart one two =
      let first = following-inside j k apart two in
      let second = following-inside k j (λ same. apart (sym same)) one in
      record {
        first = record { outcome = first.outcome; lines = first.lines };
        second = record { outcome = second.outcome; lines = second.lines };
        after =
            first.after
            ∙ ap (λ x. with_change x k (become two.following)) (one.after ∙ with-is-change s j one.before one.following whole one.at one.parent)
            ∙ ap (λ ps. record s { processes = ps }) (changes-commute j k (become two.following) (become one.following) apart s.processes)
            ∙ sym (second.after ∙ ap (λ x. with_change x j (become one.following)) (two.after ∙ with-is-change s k two.before two.following whole two.at two.parent));
      }
