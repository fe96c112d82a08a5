-- Parsing a program line by line, for any line parser.
use Rattle.std.proofs.Common.{◌≡◌, ◌∙◌, ap, ℕ, suc, ◌+◌, true, false, eqb, [], ◌∷◌, ◌++◌, Result, Ok, Err, refl, sym, arith, append_assoc}
use Rattle.std.proofs.lemmas.Bool.{eq-eqb, ne_eqb}
use Rattle.std.proofs.lemmas.List.{append-nil}
use Rattle.pv_model.specs.declared.fault.ParseFault.{ParseFault}
use Rattle.pv_model.specs.declared.fault.ParseFault.TheVariants.{Line}
use Rattle.pv_model.specs.declared.fault.What.{What}
use Rattle.pv_model.specs.declared.fault.What.TheVariants.{TooMany}
use Rattle.pv_model.specs.declared.instruction.Instruction.{Instruction}
use Rattle.pv_model.specs.Machine.{Bytes, lines_of, Program}
use Rattle.pv_model.specs.Grammar.Programs.{onto_program, or_line, program_from}

-- a line parser
abbrev pub Reader : Type 0
Reader = Bytes → Result Instruction What

-- the instructions that were parsed, before those that remain
abbrev pub after_program : Program → Result Program ParseFault → Result Program ParseFault
after_program front (Ok program) = Ok (front ++ program)
after_program front (Err fault) = Err fault

onto_more : (front : Program) (i : Instruction) (rest : Result Program ParseFault) → after_program front (onto_program i rest) ≡ after_program (front ++ i ∷ []) rest
onto_more front i (Ok program) = ap (λ (p : Program). Ok p) (sym (append_assoc front (i ∷ []) program))
onto_more front i (Err fault) = refl

-- the invariant of a loop over the lines of a program
pub record IsProgramSoFar (read : Reader) (front : Program) (rest : Bytes) (n : ℕ) (whole : Result Program ParseFault) : Type 0 where
  pub is : after_program front (program_from read (lines_of rest) n) ≡ whole

pub IsProgramSoFar-start : (read : Reader) (bytes : Bytes) (whole : Result Program ParseFault) → program_from read (lines_of bytes) 1 ≡ whole → IsProgramSoFar read [] bytes 1 whole
IsProgramSoFar-start read bytes whole is = record { is = alone (program_from read (lines_of bytes) 1) ∙ is }
  where
    alone : (r : Result Program ParseFault) → after_program [] r ≡ r
    alone (Ok program) = refl
    alone (Err fault) = refl

module _ (read : Reader) (front : Program) (rest line following : Bytes) (n : ℕ) (whole : Result Program ParseFault) (split : lines_of rest ≡ line ∷ lines_of following)
    (preserved : IsProgramSoFar read front rest n whole) where
  at_line : (n ≡ 257 → ⊥) → after_program front (or_line n (read line) (program_from read (lines_of following) (suc n))) ≡ whole
  at_line few =
      let t : eqb n 257 ≡ false = ne_eqb n 257 few in
      let one : program_from read (lines_of rest) n ≡ or_line n (read line) (program_from read (lines_of following) (suc n)) =
      ap (λ ls. program_from read ls n) split ∙ rw t refl in
      ap (after_program front) (sym one) ∙ preserved.is

  pub IsProgramSoFar-step : (i : Instruction) → (n ≡ 257 → ⊥) → Ok i ≡ read line → IsProgramSoFar read (front ++ i ∷ []) following (n + 1) whole
  IsProgramSoFar-step i few is =
      let next : n + 1 ≡ suc n = omega arith in
      record {
        is = rw next (sym (onto_more front i (program_from read (lines_of following) (suc n)))
            ∙ ap (λ r. after_program front (or_line n r (program_from read (lines_of following) (suc n)))) is ∙ at_line few);
      }

  pub IsProgramSoFar-refused : (what : What) → (n ≡ 257 → ⊥) → Err what ≡ read line → whole ≡ Err (Line n what)
  IsProgramSoFar-refused what few is =
      sym (at_line few) ∙ ap (λ r. after_program front (or_line n r (program_from read (lines_of following) (suc n)))) (sym is)

  pub IsProgramSoFar-full : n ≡ 257 → whole ≡ Err (Line 257 TooMany)
  IsProgramSoFar-full full =
      let t : eqb n 257 ≡ true = eq-eqb n 257 full in
      let one : program_from read (lines_of rest) n ≡ Err (Line 257 TooMany) = ap (λ ls. program_from read ls n) split ∙ rw t refl in
      sym preserved.is ∙ ap (after_program front) one

pub IsProgramSoFar-end : (read : Reader) (front : Program) (rest : Bytes) (n : ℕ) (whole : Result Program ParseFault) → lines_of rest ≡ [] → IsProgramSoFar read front rest n whole → whole ≡ Ok front
IsProgramSoFar-end read front rest n whole none preserved =
    sym preserved.is ∙ ap (λ ls. after_program front (program_from read ls n)) none ∙ ap (λ (p : Program). Ok p) (append-nil front)
