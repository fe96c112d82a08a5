-- A schedule that is cut has the first steps.
use Rattle.std.proofs.Common.{◌≡◌, ◌≤◌, ◌∙◌, ap, sym, refl, arith, ℕ, zero, suc, ◌+◌, ◌-◌, Bool, true, false, if◌then◌else◌, List, [], ◌∷◌, ◌++◌, take, length}
use Rattle.std.specs.Prelude.{nat_le, replicate}
use Rattle.std.proofs.lemmas.Bool.{leb-false, leb-true}
use Rattle.std.proofs.lemmas.List.{append-nil, length-replicate, take-append-le, take-replicate}
use Rattle.std.proofs.Math.Seq.{take-append-add}
use Rattle.pv_model.specs.Machine.{Schedule, steps_of}
use Rattle.pv_questions.specs.Schedules.{first_steps}

module _ (n pid count : ℕ) (rest : List ℕ) where
  within : n ≤ count → replicate n pid ++ [] ≡ take n (replicate count pid ++ rest)
  within few =
      let long : n ≤ length (replicate count pid) = rw (length-replicate count pid) few in
      append-nil (replicate n pid) ∙ sym (take-append-le n (replicate count pid) rest long ∙ take-replicate n count pid few)

  beyond : count ≤ n → replicate count pid ++ take (n - count) rest ≡ take n (replicate count pid ++ rest)
  beyond more =
      let sum : length (replicate count pid) + (n - count) ≡ n = omega (arith, more, length-replicate count pid) in
      sym (take-append-add (replicate count pid) rest (n - count)) ∙ ap (λ k. take k (replicate count pid ++ rest)) sum

cut_turn : (n pid count : ℕ) (turns : Schedule) (b : Bool) → nat_le n count ≡ b → steps_of (first_steps (n - count) turns) ≡ take (n - count) (steps_of turns)
    → steps_of (if b then (pid, n) ∷ [] else (pid, count) ∷ first_steps (n - count) turns) ≡ take n (replicate count pid ++ steps_of turns)
cut_turn n pid count turns true is rest = within n pid count (steps_of turns) (omega (arith, leb-true n count is))
cut_turn n pid count turns false is rest = ap (λ xs. replicate count pid ++ xs) rest ∙ beyond n pid count (steps_of turns) (omega (arith, leb-false n count is))

pub cut_steps : (n : ℕ) (schedule : Schedule) → steps_of (first_steps n schedule) ≡ take n (steps_of schedule)
cut_steps zero [] = refl
cut_steps (suc n) [] = refl
cut_steps n ((pid, count) ∷ turns) = cut_turn n pid count turns (nat_le n count) refl (cut_steps (n - count) turns)
