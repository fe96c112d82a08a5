-- The lines of the instructions of a source.
use Rattle.std.proofs.Common.{◌≡◌, ◌≢◌, ◌∙◌, ap, ℕ, ◌+◌, true, List, [], ◌∷◌, ◌++◌, Option, None, Some, refl, sym, arith, append_assoc}
use Rattle.std.specs.List.{cons_option}
use Rattle.std.specs.Prelude.{drop, map}
use Rattle.std.proofs.lemmas.List.{append-nil, map-append}
use Rattle.pv_model.specs.Machine.{counted_from, spaced, Bytes, lines_of, ended, Block, single, taken, LabelledLine, program_line_of, program_lines, taken_lines, instructions_of, instruction_text, NumberedLine, between, words_from, written_lines}
use Rattle.pv_model.specs.Source.Blocks.{program, cut_off, schedule}
use Rattle.pv_model.specs.Source.Judged.{exec_path, is_exec_block}
use Rattle.pv_model.specs.Source.Programs.{ProgramLine, count_instruction, count_words, without_labels}
use Rattle.pv_model.specs.Source.Written.{bytes_of_lines}
use Rattle.pv_source.specs.declared.blocks.Block.{Block as ReadBlock}
use Rattle.pv_source.specs.declared.blocks.Kind.{Kind}
use Rattle.pv_source.specs.declared.blocks.Kind.TheVariants.{Single, Program, Taken, CutOff, Schedule}
use Rattle.pv_source.specs.Located.{LocatedInstruction, located_block, located_from, located_block_lines, located_instruction, located_text, located_texts, place_text}
use Rattle.pv_source.specs.Reading.{numbered_text}
use Rattle.pv_source.specs.ReadBlocks.{block_by, parsed_block}
use Rattle.pv_source.proofs.SourcePrograms.{counted_as_words, instruction_some}
use Rattle.pv_source.proofs.WrittenTexts.{ended_both, ended_one}

-- a block without the path of a program has no lines
pub no_path : (out : Bytes) (b : ReadBlock) → exec_path (words_from b.words.now between) ≡ None → out ≡ out ++ ended (located_block_lines (parsed_block b))
no_path out b none = by b.kind
  where
    nothing : (located : List LocatedInstruction) → out ≡ out ++ ended (located_texts (exec_path (words_from b.words.now between)) located)
    nothing located = sym (append-nil out) ∙ ap (λ path. out ++ ended (located_texts path located)) (sym none)

    by : (k : Kind) → out ≡ out ++ ended (located_block_lines (block_by k b.number (words_from b.words.now between) (numbered_text (b.number + 1) b.body.now)))
    by Single = sym (append-nil out)
    by Program = nothing (located_from 1 (program_lines (numbered_text (b.number + 1) b.body.now)))
    by Taken = nothing (located_from 1 (taken_lines (numbered_text (b.number + 1) b.body.now)))
    by CutOff = sym (append-nil out)
    by Schedule = sym (append-nil out)

-- the line of an instruction
pub instruction_line : (out path text : Bytes) (line number : ℕ) (a b c : Bytes) → a ≡ out ++ place_text path line number → b ≡ a ++ text → c ≡ b ++ 10 ∷ []
    → c ≡ out ++ ended (map (located_text path) (located_instruction line number (Some text)))
instruction_line out path text line number a b c place put last =
    let whole : b ≡ out ++ (place_text path line number ++ text) = put ∙ ap (λ bs. bs ++ text) place ∙ append_assoc out (place_text path line number) text in
    last ∙ ap (λ bs. bs ++ 10 ∷ []) whole ∙ ended_one out (place_text path line number ++ text)

pub labelled_line : (out path : Bytes) (labels : List (Bytes × ℕ)) (words : List Bytes) (line number : ℕ) (a b c : Bytes) → words ≢ [] → a ≡ out ++ place_text path line number
    → b ≡ a ++ spaced (without_labels labels words) → c ≡ b ++ 10 ∷ [] → c ≡ out ++ ended (map (located_text path) (located_instruction line number (instruction_text labels words)))
labelled_line out path labels words line number a b c some place put last =
    instruction_line out path (spaced (without_labels labels words)) line number a b c place put last
    ∙ ap (λ instruction. out ++ ended (map (located_text path) (located_instruction line number instruction))) (sym (instruction_some labels words some))

-- one step of a loop over the lines of a program
module _ (path out after all : Bytes) (number next : ℕ) where
  pub located_step : (lines following : List ProgramLine) (line : ProgramLine) → lines ≡ line ∷ following → next ≡ number + count_instruction line.instruction
      → after ≡ out ++ ended (map (located_text path) (located_instruction line.number number line.instruction))
      → out ++ ended (map (located_text path) (located_from number lines)) ≡ all → after ++ ended (map (located_text path) (located_from next following)) ≡ all
  located_step lines following line first counted pushed preserved =
      let own = located_instruction line.number number line.instruction in
      ap (λ bs. bs ++ ended (map (located_text path) (located_from next following))) pushed
      ∙ ended_both out (map (located_text path) own) (map (located_text path) (located_from next following))
      ∙ ap (λ ls. out ++ ended ls) (sym (map-append (located_text path) own (located_from next following)))
      ∙ ap (λ k. out ++ ended (map (located_text path) (own ++ located_from k following))) counted
      ∙ ap (λ ls. out ++ ended (map (located_text path) (located_from number ls))) (sym first)
      ∙ preserved

  pub labelled_step : (labels : List (Bytes × ℕ)) (lines following : List LabelledLine) (line : LabelledLine) → lines ≡ line ∷ following → next ≡ number + count_words line.words
      → after ≡ out ++ ended (map (located_text path) (located_instruction line.number number (instruction_text labels line.words)))
      → out ++ ended (map (located_text path) (located_from number (map (program_line_of labels) lines))) ≡ all
      → after ++ ended (map (located_text path) (located_from next (map (program_line_of labels) following))) ≡ all
  labelled_step labels lines following line first counted pushed preserved =
      located_step (map (program_line_of labels) lines) (map (program_line_of labels) following) (program_line_of labels line) (ap (map (program_line_of labels)) first)
      (counted ∙ ap (λ k. number + k) (sym (counted_as_words labels line.words))) pushed preserved

  pub copied_step : (n m : ℕ) (text line following : Bytes) → lines_of text ≡ line ∷ lines_of following → m ≡ n + 1 → next ≡ number + 1
      → after ≡ out ++ ended (map (located_text path) (located_instruction n number (Some line)))
      → out ++ ended (map (located_text path) (located_from number (taken_lines (numbered_text n text)))) ≡ all
      → after ++ ended (map (located_text path) (located_from next (taken_lines (numbered_text m following)))) ≡ all
  copied_step n m text line following first then counted pushed preserved =
      located_step (taken_lines (numbered_text n text)) (taken_lines (numbered_text m following)) (record { number = n; label = None; instruction = Some line })
      (ap (λ ls. taken_lines (counted_from n ls)) first ∙ ap (λ k. (record { number = n; label = None; instruction = Some line }) ∷ taken_lines (numbered_text k following)) (sym then))
      counted pushed preserved

-- the end of such a loop
pub located_end : (path out all : Bytes) (number : ℕ) (lines : List ProgramLine) → lines ≡ [] → out ++ ended (map (located_text path) (located_from number lines)) ≡ all → out ≡ all
located_end path out all number lines none preserved =
    sym (append-nil out) ∙ ap (λ ls. out ++ ended (map (located_text path) (located_from number ls))) (sym none) ∙ preserved

-- ---- the numbers of the instructions

abbrev pub number_and_text : LocatedInstruction → ℕ × Bytes
number_and_text located = (located.number, located.text)

pub numbers_from : (k : ℕ) (lines : List ProgramLine) → map number_and_text (located_from k lines) ≡ counted_from k (instructions_of lines)
numbers_from k [] = refl
numbers_from k (line ∷ lines) = by line.instruction (λ n. numbers_from n lines)
  where
    by : (instruction : Option Bytes) → ((n : ℕ) → map number_and_text (located_from n lines) ≡ counted_from n (instructions_of lines))
        → map number_and_text (located_instruction line.number k instruction ++ located_from (k + count_instruction instruction) lines) ≡ counted_from k (cons_option instruction (instructions_of lines))
    by None onward = let same : k + 0 ≡ k = omega arith in rw same (onward k)
    by (Some text) onward = ap (λ ls. (k, text) ∷ ls) (onward (k + 1))

taken_instructions : (body : List NumberedLine) → instructions_of (taken_lines body) ≡ bytes_of_lines body
taken_instructions [] = refl
taken_instructions (line ∷ body) = ap (λ ls. line.1 ∷ ls) (taken_instructions body)

pub numbers_of_block : (block : Block) → is_exec_block block ≡ true → map number_and_text (located_block block) ≡ counted_from 1 (drop 1 (written_lines block))
numbers_of_block (single n words) is = cc
numbers_of_block (program n words body) is = numbers_from 1 (program_lines body)
numbers_of_block (taken n words body) is = numbers_from 1 (taken_lines body) ∙ ap (counted_from 1) (taken_instructions body)
numbers_of_block (cut_off n) is = cc
numbers_of_block (schedule n words body) is = cc
