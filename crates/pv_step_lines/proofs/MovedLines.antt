-- The lines of bytes that a call moved.
use Rattle.std.proofs.Common.{◌≡◌, sym, refl, ℕ, suc, true, false, arith, ◌==◌, List, [], ◌∷◌, length, codes, Option}
use Rattle.std.proofs.lemmas.Bool.{eqb-true, false≢true}
use Rattle.pv_model.specs.declared.call.Call.{Call}
use Rattle.pv_model.specs.Machine.{AnswerLine, answer_line, of_trace, Bytes, State, gio_word, line}
use Rattle.pv_model.specs.Trace.{Direction}
use Rattle.pv_step_lines.specs.Parts.{moved_by_call, moved_part}

module _ (pid : ℕ) (after : State) (file : Option ℕ) (call : Call) (direction : Direction) where
  abbrev reported : Bytes → AnswerLine
  reported bytes = of_trace (line pid (gio_word direction bytes))

  pub moved-none : (bytes : Bytes) → true ≡ (length bytes == 0) → moved_part pid after file call (gio_word direction bytes) ≡ reported bytes ∷ []
  moved-none [] is = refl
  moved-none (b ∷ bs) is =
      let zero : suc (length bs) ≡ 0 = eqb-true (suc (length bs)) 0 (sym is) in
      let none : ⊥ = omega (arith, zero) in
      absurd none

  pub moved-some : (bytes : Bytes) → false ≡ (length bytes == 0) → moved_part pid after file call (gio_word direction bytes) ≡ reported bytes ∷ answer_line pid (codes "TEXT") (moved_by_call after file call bytes) ∷ []
  moved-some [] is = absurd (false≢true is)
  moved-some (b ∷ bs) is = refl

  -- the GIO line comes first
  pub moved-first : (bytes : Bytes) → (rest : List AnswerLine) × (moved_part pid after file call (gio_word direction bytes) ≡ reported bytes ∷ rest)
  moved-first [] = ([], refl)
  moved-first (b ∷ bs) = (answer_line pid (codes "TEXT") (moved_by_call after file call (b ∷ bs)) ∷ [], refl)
