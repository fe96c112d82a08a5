-- Turns: the process that has the next turn, and the steps of one turn.
use Rattle.std.proofs.Common.{◌≡◌, ℕ, zero, suc, ◌≤◌, Bool, true, false, cond, List, [], ◌∷◌, Option, Some, refl, ap, subst, arith}
use Rattle.std.specs.List.{filter}
use Rattle.pv_model.specs.Machine.{first_of, continues, next_turn, Bytes, Program, State, step}
use Rattle.pv_model.specs.Answers.Turns.{Turn, live_after, one_step_more, turn}

first-passes : {X : Type 0} (p : X → Bool) (xs : List X) (x : X) → first_of (filter p xs) ≡ Some x → p x ≡ true
first-passes p [] x is = absurd (cc)
first-passes p (y ∷ ys) x is = by (p y) refl is (first-passes p ys x)
  where
    by : (b : Bool) → p y ≡ b → first_of (cond b (y ∷ filter p ys) (filter p ys)) ≡ Some x → (first_of (filter p ys) ≡ Some x → p x ≡ true) → p x ≡ true
    by true passes is rest = let same : y ≡ x = cc in subst (λ z. p z ≡ true) same passes
    by false fails is rest = rest is

module _ (program_of : Bytes → Option Program) where
  -- the process with the next turn can make a step
  pub next-goes : (pid : ℕ) (s : State) (q : ℕ) → next_turn program_of pid s ≡ Some q → continues (step program_of s q).outcome ≡ true
  next-goes pid s q is = first-passes (λ other. continues (step program_of s other).outcome) (live_after pid s) q is

  -- ---- one turn

  pub turn-goes : (n pid : ℕ) (s : State) → continues (step program_of s pid).outcome ≡ true
      → turn program_of (suc n) pid s ≡ one_step_more (turn program_of n pid (step program_of s pid).after)
  unfolding turn
  turn-goes n pid s is =
      ap (λ (b : Bool). cond b (one_step_more (turn program_of n pid (step program_of s pid).after)) (let it : Turn = record { count = 0; after = s } in it)) is

  -- the bound on the steps of a turn
  pub turn-few : (n pid : ℕ) (s : State) → (turn program_of n pid s).count ≤ n
  unfolding turn
  turn-few zero pid s = omega arith
  turn-few (suc n) pid s = by (continues (step program_of s pid).outcome) (turn-few n pid (step program_of s pid).after)
    where
      by : (b : Bool) → (turn program_of n pid (step program_of s pid).after).count ≤ n
          → (cond b (one_step_more (turn program_of n pid (step program_of s pid).after)) (let it : Turn = record { count = 0; after = s } in it)).count ≤ suc n
      by true few = omega arith
      by false few = omega arith

  -- the turn of a process that can make a step has a step
  pub turn-some : (n pid : ℕ) (s : State) → 1 ≤ n → continues (step program_of s pid).outcome ≡ true → 1 ≤ (turn program_of n pid s).count
  turn-some zero pid s some is = absurd (omega arith)
  turn-some (suc n) pid s some is = rw (turn-goes n pid s is) (omega arith)
