-- Turns: a fair schedule, turn by turn.
use Rattle.std.proofs.Common.{◌≡◌, ◌∙◌, ℕ, zero, suc, ◌-◌, ◌≤◌, Bool, true, false, cond, List, [], ◌∷◌, Option, None, Some, refl, ap, min, arith}
use Rattle.pv_model.specs.Machine.{continues, next_turn, turns, Bytes, Program, State, Schedule, step}
use Rattle.pv_model.specs.Answers.Turns.{Turn, one_step_more, turn, turn_then, turns_within}
use Rattle.pv_laws_runs.proofs.TurnSteps.{next-goes, turn-some}

module _ (program_of : Bytes → Option Program) where
  -- ---- one turn

  pub turn-stops : (n pid : ℕ) (s : State) → continues (step program_of s pid).outcome ≡ false → turn program_of n pid s ≡ record { count = 0; after = s }
  unfolding turn
  turn-stops zero pid s is = refl
  turn-stops (suc n) pid s is =
      ap (λ (b : Bool). cond b (one_step_more (turn program_of n pid (step program_of s pid).after)) (let it : Turn = record { count = 0; after = s } in it)) is

  pub turn-none : (pid : ℕ) (s : State) → turn program_of 0 pid s ≡ record { count = 0; after = s }
  unfolding turn
  turn-none pid s = refl

  -- ---- turns

  module _ (slice : ℕ) where
    -- the turns of the remaining steps
    abbrev pub rest_of : ℕ → ℕ → State → Schedule
    rest_of left pid s = turns_within program_of slice left left pid s

    pub turns-end : (left pid : ℕ) (s : State) → next_turn program_of pid s ≡ None → rest_of left pid s ≡ []
    turns-end zero pid s is = refl
    turns-end (suc n) pid s is = ap (turn_then program_of slice (turns_within program_of slice n) (suc n) s) is

    pub turns-over : (pid : ℕ) (s : State) → rest_of 0 pid s ≡ []
    turns-over pid s = refl

    pub turns-from : (steps : ℕ) (s : State) → turns program_of slice steps s ≡ rest_of steps 0 s
    unfolding turns
    turns-from steps s = refl

  module _ (slice : ℕ) (whole : 1 ≤ slice) where
    least : (n : ℕ) → 1 ≤ min slice (suc n)
    least n = omega arith

    -- there are no more turns than steps
    pub enough : (f g steps pid : ℕ) (s : State) → steps ≤ f → steps ≤ g → turns_within program_of slice f steps pid s ≡ turns_within program_of slice g steps pid s
    enough zero zero steps pid s low wide = refl
    enough zero (suc g) zero pid s low wide = refl
    enough zero (suc g) (suc n) pid s low wide = absurd (omega arith)
    enough (suc f) zero zero pid s low wide = refl
    enough (suc f) zero (suc n) pid s low wide = absurd (omega arith)
    enough (suc f) (suc g) zero pid s low wide = refl
    enough (suc f) (suc g) (suc n) pid s low wide =
        by (next_turn program_of pid s) refl
        (λ q is.
        let now = turn program_of (min slice (suc n)) q s in
        let some : 1 ≤ now.count = turn-some program_of (min slice (suc n)) q s (least n) (next-goes program_of pid s q is) in
        enough f g (suc n - now.count) q now.after (omega arith) (omega arith))
      where
        by : (o : Option ℕ) → next_turn program_of pid s ≡ o
            → ((q : ℕ) → next_turn program_of pid s ≡ Some q → let now = turn program_of (min slice (suc n)) q s in
            turns_within program_of slice f (suc n - now.count) q now.after ≡ turns_within program_of slice g (suc n - now.count) q now.after)
            → turn_then program_of slice (turns_within program_of slice f) (suc n) s o ≡ turn_then program_of slice (turns_within program_of slice g) (suc n) s o
        by None is rest = refl
        by (Some q) is rest = ap (λ (sch : Schedule). (q, (turn program_of (min slice (suc n)) q s).count) ∷ sch) (rest q is)

    pub turns-next : (left pid : ℕ) (s : State) (q : ℕ) → 1 ≤ left → next_turn program_of pid s ≡ Some q
        → let now = turn program_of (min slice left) q s in rest_of slice left pid s ≡ (q, now.count) ∷ rest_of slice (left - now.count) q now.after
    turns-next zero pid s q some is = absurd (omega arith)
    turns-next (suc n) pid s q some is =
        let now = turn program_of (min slice (suc n)) q s in
        let step : 1 ≤ now.count = turn-some program_of (min slice (suc n)) q s (least n) (next-goes program_of pid s q is) in
        ap (turn_then program_of slice (turns_within program_of slice n) (suc n) s) is
        ∙ ap (λ (sch : Schedule). (q, now.count) ∷ sch) (enough n (suc n - now.count) (suc n - now.count) q now.after (omega arith) (omega arith))
