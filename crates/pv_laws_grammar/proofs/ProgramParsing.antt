-- Programs, line by line.
use Rattle.std.proofs.Common.{◌≡◌, ◌≢◌, ◌⊎◌, inl, inr, ℕ, suc, min, ◌+◌, ◌≤◌, ◌==◌, List, [], ◌∷◌, ◌++◌, length, Some, Result, Ok, Err, ap, sym, ◌∙◌, refl, subst, arith, eqb-true, eq-eqb}
use Rattle.std.specs.Result.{result_ok}
use Rattle.std.proofs.lemmas.Bool.{cond_both, cond-true, cond-false, eqb-false, ne_eqb}
use Rattle.std.proofs.lemmas.Option.{same_Some}
use Rattle.pv_model.specs.declared.fault.ParseFault.{ParseFault}
use Rattle.pv_model.specs.declared.fault.ParseFault.TheVariants.{Line, Memory}
use Rattle.pv_model.specs.declared.fault.What.{What}
use Rattle.pv_model.specs.declared.fault.What.TheVariants.{TooMany}
use Rattle.pv_model.specs.declared.instruction.Instruction.{Instruction}
use Rattle.pv_model.specs.Machine.{Bytes, instruction_of, lines_of, read_program, program_of, Program}
use Rattle.pv_model.specs.Grammar.Forms.{EncodesLine, IsInvalid}
use Rattle.pv_model.specs.Grammar.Programs.{onto_program, or_line, program_from, program_of_lines}
use Rattle.pv_model.specs.Grammar.Texts.{HasLines, EncodeLines, EncodesProgram, reach, AreInstructions, IsFirstInvalid}
use Rattle.pv_laws_grammar.proofs.InstructionLines.{EncodesLine-instruction_of, instruction_of-EncodesLine, IsInvalid-instruction_of, instruction_of-IsInvalid}
use Rattle.pv_laws_grammar.proofs.TextLines.{lines_from_relation, HasLines-lines_of}

abbrev Outcome : Type 0
Outcome = Result Program ParseFault

onto_program_ok : (i : Instruction) (r : Outcome) (p : Program) → onto_program i r ≡ Ok p → (q : Program) × (r ≡ Ok q) × (i ∷ q ≡ p)
onto_program_ok i (Ok q) p e = (q, refl, let same : i ∷ q ≡ p = cc in same)
onto_program_ok i (Err f) p e = absurd (cc)

onto_program_err : (i : Instruction) (r : Outcome) (f : ParseFault) → onto_program i r ≡ Err f → r ≡ Err f
onto_program_err i (Ok q) f e = absurd (cc)
onto_program_err i (Err g) f e = e

-- ---- lines that are a program

module _ (count : ℕ) where
  line_ok : (n : ℕ) (line : Bytes) (lines : List Bytes) (r : Result Instruction What) (rest : Outcome) (p : Program) → instruction_of count line ≡ r → or_line n r rest ≡ Ok p
      → (i : Instruction) × (q : Program) × EncodesLine count line i × (rest ≡ Ok q) × (i ∷ q ≡ p)
  line_ok n line lines (Ok i) rest p is e =
      let more = onto_program_ok i rest p e in (i, more.0, EncodesLine-instruction_of count line i is, more.1, more.2)
  line_ok n line lines (Err what) rest p is e = absurd (cc)

  ok_found : (lines : List Bytes) (n : ℕ) (p : Program) → n ≤ 257 → program_from (instruction_of count) lines n ≡ Ok p → EncodeLines count lines p × (length lines + n ≤ 257)
  ok_found [] n p h e = (subst (EncodeLines count []) (let same : [] ≡ p = cc in same) tt, omega arith)
  ok_found (line ∷ lines) n p h e =
      cond_both (n == 257) (Err (Line 257 TooMany)) (or_line n (instruction_of count line) (program_from (instruction_of count) lines (suc n))) (λ r. r ≡ Ok p → EncodeLines count (line ∷ lines) p × (suc (length lines) + n ≤ 257))
      (λ is k. absurd (cc))
      (λ is k.
      let other = eqb-false n 257 is in
      let parts = line_ok n line lines (instruction_of count line) (program_from (instruction_of count) lines (suc n)) p refl k in
      let more = ok_found lines (suc n) parts.1 (omega arith) parts.3 in
      let bound = more.1 in
      (subst (EncodeLines count (line ∷ lines)) parts.4 (parts.2, more.0), omega arith)) e

  ok_again : (lines : List Bytes) (n : ℕ) (p : Program) → EncodeLines count lines p → length lines + n ≤ 257 → program_from (instruction_of count) lines n ≡ Ok p
  ok_again [] n [] h fits = refl
  ok_again [] n (i ∷ p) h fits = absurd h
  ok_again (line ∷ lines) n [] h fits = absurd h
  ok_again (line ∷ lines) n (i ∷ p) h fits =
      cond-false (n == 257) (Err (Line 257 TooMany)) (or_line n (instruction_of count line) (program_from (instruction_of count) lines (suc n))) (ne_eqb n 257 (λ e. omega arith))
      ∙ ap (λ r. or_line n r (program_from (instruction_of count) lines (suc n))) (instruction_of-EncodesLine count line i h.0)
      ∙ ap (onto_program i) (ok_again lines (suc n) p h.1 (omega arith))

  -- ---- the first invalid line

  abbrev IsError : ℕ → Bytes → What → Type 0
  IsError m line what = ((m ≤ 256) × IsInvalid count line what) ⊎ ((m ≡ 257) × (what ≡ TooMany))

  record FirstInvalid (lines : List Bytes) (n m : ℕ) (what : What) : Type 0 where
    front : List Bytes
    line : Bytes
    rest : List Bytes
    whole : lines ≡ front ++ line ∷ rest
    number : m ≡ length front + n
    before : AreInstructions count front
    fault : IsError m line what

  first_here : (line : Bytes) (lines : List Bytes) (n m : ℕ) (what : What) → m ≡ n → IsError m line what → FirstInvalid (line ∷ lines) n m what
  first_here line lines n m what is h = record { front = []; line = line; rest = lines; whole = refl; number = (omega arith); before = ([], tt); fault = h }

  first_later : (line : Bytes) (i : Instruction) (lines : List Bytes) (n m : ℕ) (what : What) → EncodesLine count line i → FirstInvalid lines (suc n) m what → FirstInvalid (line ∷ lines) n m what
  first_later line i lines n m what encodes w = record {
    front = line ∷ w.front;
    line = w.line;
    rest = w.rest;
    whole = ap (λ ls. line ∷ ls) w.whole;
    number = (let e = w.number in omega arith);
    before = (i ∷ w.before.0, (encodes, w.before.1));
    fault = w.fault;
  }

  line_err : (n m : ℕ) (what : What) (line : Bytes) (lines : List Bytes) → n ≤ 256 → (r : Result Instruction What) (rest : Outcome) → instruction_of count line ≡ r → or_line n r rest ≡ Err (Line m what)
      → (rest ≡ Err (Line m what) → FirstInvalid lines (suc n) m what) → FirstInvalid (line ∷ lines) n m what
  line_err n m what line lines h (Ok i) rest is e onward = first_later line i lines n m what (EncodesLine-instruction_of count line i is) (onward (onto_program_err i rest (Line m what) e))
  line_err n m what line lines h (Err w) rest is e onward =
      let same : w ≡ what = cc in
      let at : n ≡ m = cc in
      first_here line lines n m what (sym at) (inl (omega arith, IsInvalid-instruction_of count line what (is ∙ ap Err same)))

  err_found : (lines : List Bytes) (n m : ℕ) (what : What) → n ≤ 257 → program_from (instruction_of count) lines n ≡ Err (Line m what) → FirstInvalid lines n m what
  err_found [] n m what h e = absurd (cc)
  err_found (line ∷ lines) n m what h e =
      cond_both (n == 257) (Err (Line 257 TooMany)) (or_line n (instruction_of count line) (program_from (instruction_of count) lines (suc n))) (λ r. r ≡ Err (Line m what) → FirstInvalid (line ∷ lines) n m what)
      (λ is k.
      let at : 257 ≡ m = cc in
      let same : TooMany ≡ what = cc in
      let here : n ≡ 257 = eqb-true n 257 is in
      first_here line lines n m what (omega arith) (inr (sym at, sym same)))
      (λ is k.
      let other = eqb-false n 257 is in
      let small : n ≤ 256 = omega arith in
      line_err n m what line lines small (instruction_of count line) (program_from (instruction_of count) lines (suc n)) refl k (λ j. err_found lines (suc n) m what (omega arith) j)) e

  err_here : (line : Bytes) (rest : List Bytes) (n : ℕ) (what : What) → IsError n line what → program_from (instruction_of count) (line ∷ rest) n ≡ Err (Line n what)
  err_here line rest n what (inl h) =
      cond-false (n == 257) (Err (Line 257 TooMany)) (or_line n (instruction_of count line) (program_from (instruction_of count) rest (suc n))) (ne_eqb n 257 (λ e. let small = h.0 in omega arith))
      ∙ ap (λ r. or_line n r (program_from (instruction_of count) rest (suc n))) (instruction_of-IsInvalid count line what h.1)
  err_here line rest n what (inr h) =
      cond-true (n == 257) (Err (Line 257 TooMany)) (or_line n (instruction_of count line) (program_from (instruction_of count) rest (suc n))) (eq-eqb n 257 h.0)
      ∙ ap (λ k. Err (Line k TooMany)) (sym h.0) ∙ ap (λ w. Err (Line n w)) (sym h.1)

  err_again : (front : List Bytes) (line : Bytes) (rest : List Bytes) (n m : ℕ) (what : What) (p : Program) → EncodeLines count front p → m ≡ length front + n → m ≤ 257 → IsError m line what
      → program_from (instruction_of count) (front ++ line ∷ rest) n ≡ Err (Line m what)
  err_again [] line rest n m what p h is fits fault =
      let at : n ≡ m = omega arith in
      let here : program_from (instruction_of count) (line ∷ rest) m ≡ Err (Line m what) = err_here line rest m what fault in
      subst (λ k. program_from (instruction_of count) (line ∷ rest) k ≡ Err (Line m what)) (sym at) here
  err_again (f ∷ front) line rest n m what [] h is fits fault = absurd h
  err_again (f ∷ front) line rest n m what (i ∷ p) h is fits fault =
      cond-false (n == 257) (Err (Line 257 TooMany)) (or_line n (instruction_of count f) (program_from (instruction_of count) (front ++ line ∷ rest) (suc n))) (ne_eqb n 257 (λ e. omega arith))
      ∙ ap (λ r. or_line n r (program_from (instruction_of count) (front ++ line ∷ rest) (suc n))) (instruction_of-EncodesLine count f i h.0)
      ∙ ap (onto_program i) (err_again front line rest (suc n) m what p h.1 (omega arith) fits fault)

  or_line_memory : (n : ℕ) (r : Result Instruction What) (rest : Outcome) → rest ≢ Err Memory → or_line n r rest ≢ Err Memory
  or_line_memory n (Ok i) rest h e = h (onto_program_err i rest Memory e)
  or_line_memory n (Err what) rest h e = absurd (cc)

  no_memory_from : (lines : List Bytes) (n : ℕ) → program_from (instruction_of count) lines n ≢ Err Memory
  no_memory_from [] n e = absurd (cc)
  no_memory_from (line ∷ lines) n e = cond_both (n == 257) (Err (Line 257 TooMany)) (or_line n (instruction_of count line) (program_from (instruction_of count) lines (suc n))) (λ r. r ≡ Err Memory → ⊥)
      (λ is k. absurd (cc))
      (λ is k. or_line_memory n (instruction_of count line) (program_from (instruction_of count) lines (suc n)) (no_memory_from lines (suc n)) k) e

-- ---- texts

pub no_memory_program : (bytes : Bytes) → read_program bytes ≢ Err Memory
unfolding read_program
no_memory_program bytes e = no_memory_from (min (length (lines_of bytes)) 256) (lines_of bytes) 1 e

ok_of_result : (r : Outcome) (p : Program) → result_ok r ≡ Some p → r ≡ Ok p
ok_of_result (Ok q) p e = ap Ok (same_Some q p e)
ok_of_result (Err f) p e = absurd (cc)

read_ok : (lines : List Bytes) (p : Program) → program_of_lines lines ≡ Ok p → (length lines ≤ 256) × EncodeLines (length lines) lines p
read_ok lines p e =
    let found = ok_found (min (length lines) 256) lines 1 p (omega arith) e in
    let bound = found.1 in
    let fits : length lines ≤ 256 = omega arith in
    let all : min (length lines) 256 ≡ length lines = omega arith in
    (fits, subst (λ count. EncodeLines count lines p) all found.0)

pub EncodesProgram-program_of : (bytes : Bytes) (p : Program) → program_of bytes ≡ Some p → EncodesProgram bytes p
unfolding read_program
EncodesProgram-program_of bytes p e =
    let found = read_ok (lines_of bytes) p (ok_of_result (program_of_lines (lines_of bytes)) p e) in
    (lines_of bytes, HasLines-lines_of bytes, found.0, found.1)

pub program_of-EncodesProgram : (bytes : Bytes) (p : Program) → EncodesProgram bytes p → program_of bytes ≡ Some p
unfolding read_program
program_of-EncodesProgram bytes p h =
    let fits = h.2 in
    let all : min (length h.0) 256 ≡ length h.0 = omega arith in
    ap (λ ls. result_ok (program_of_lines ls)) (lines_from_relation bytes h.0 h.1)
    ∙ ap (λ count. result_ok (program_from (instruction_of count) h.0 1)) all
    ∙ ap result_ok (ok_again (length h.0) h.0 1 p h.3 (omega arith))

pub IsFirstInvalid-read_program : (bytes : Bytes) (n : ℕ) (what : What) → read_program bytes ≡ Err (Line n what) → IsFirstInvalid bytes n what
unfolding read_program
IsFirstInvalid-read_program bytes n what e =
    let count = min (length (lines_of bytes)) 256 in
    let w = err_found count (lines_of bytes) 1 n what (omega arith) e in
    let same : count ≡ reach w.front w.line w.rest = ap (λ ls. min (length ls) 256) w.whole in (
      w.front,
      w.line,
      w.rest,
      subst (HasLines bytes) w.whole (HasLines-lines_of bytes),
      w.number,
      subst (λ c. AreInstructions c w.front) same w.before,
      subst (λ c. IsError c n w.line what) same w.fault,
    )

error_within : (count m : ℕ) (line : Bytes) (what : What) → IsError count m line what → m ≤ 257
error_within count m line what (inl h) = let small = h.0 in omega arith
error_within count m line what (inr h) = let same = h.0 in omega arith

pub read_program-IsFirstInvalid : (bytes : Bytes) (n : ℕ) (what : What) → IsFirstInvalid bytes n what → read_program bytes ≡ Err (Line n what)
unfolding read_program
read_program-IsFirstInvalid bytes n what h =
    let count = reach h.0 h.1 h.2 in
    ap program_of_lines (lines_from_relation bytes (h.0 ++ h.1 ∷ h.2) h.3)
    ∙ err_again count h.0 h.1 h.2 1 n what h.5.0 h.5.1 h.4 (error_within count n h.1 what h.6) h.6
