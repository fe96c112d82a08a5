-- The blocks of a source.
use Rattle.std.proofs.Common.{◌≡◌, ◌∙◌, ap, ℕ, zero, suc, ◌+◌, ◌<◌, true, false, List, [], ◌∷◌, length, drop, Option, None, Some, refl, sym, inl, inr, min, arith}
use Rattle.std.specs.Prelude.{codes, bytes_eq, nat_le, option_map}
use Rattle.std.proofs.lemmas.Bool.{cases_lt, le-leb, lt-leb}
use Rattle.pv_model.specs.Machine.{Bytes, lines_of, Block, single, taken, blocks_from, NumberedLine, NumberedWords, words_of}
use Rattle.pv_text.specs.Reading.{up_to_greatest}
use Rattle.pv_source.specs.declared.blocks.Block.{Block as ReadBlock}
use Rattle.pv_source.specs.declared.lines.Lines.{Lines}
use Rattle.pv_source.specs.Reading.{HasFirstWord, numbered_text, numbered_lines, if_words, first_that_counts, Ends, Takes}
use Rattle.pv_source.specs.ReadBlocks.{parsed_block, ReadsBlock}
use Rattle.pv_model.specs.Source.Blocks.{program, schedule, lines_up_to, exec_by, exec_block, or_cut_off, blocks_at}
use Rattle.pv_source.proofs.SourceLines.{length-counted}

-- lines that belong to the previous block are skipped
pub blocks_skip : (lines : List NumberedLine) (k : ℕ) → blocks_from lines k ≡ blocks_from (drop k lines) 0
blocks_skip [] zero = refl
blocks_skip [] (suc k) = refl
blocks_skip (line ∷ lines) zero = refl
blocks_skip (line ∷ lines) (suc k) = blocks_skip lines k

-- the blocks from the first line with a word on
abbrev pub blocks_then : Option (NumberedWords × List NumberedLine) → List Block
blocks_then None = []
blocks_then (Some p) = blocks_at p.0.0 p.0.1 p.1 (blocks_from p.1)

pub blocks_first : (lines : List NumberedLine) → blocks_from lines 0 ≡ blocks_then (first_that_counts lines)
blocks_first [] = refl
blocks_first (line ∷ lines) = by (words_of line.1) (blocks_first lines)
  where
    by : (words : List Bytes) → blocks_from lines 0 ≡ blocks_then (first_that_counts lines) → blocks_at line.0 words lines (blocks_from lines) ≡ blocks_then (if_words line.0 words lines (first_that_counts lines))
    by [] h = h
    by (word ∷ words) h = refl

module _ (n : ℕ) (word : Bytes) (words : List Bytes) (lines rest : List NumberedLine) (first : first_that_counts lines ≡ Some ((n, words), rest)) (begins : HasFirstWord word words) where
  from_first : blocks_from lines 0 ≡ blocks_at n (word ∷ begins.0) rest (blocks_from rest)
  from_first = blocks_first lines ∙ ap blocks_then first ∙ ap (λ ws. blocks_at n ws rest (blocks_from rest)) begins.1

  pub schedule_begins : bytes_eq word (codes "schedule") ≡ true → blocks_from lines 0 ≡ schedule n words rest ∷ []
  schedule_begins is = from_first ∙ rw is (ap (λ ws. schedule n ws rest ∷ []) (sym begins.1))

  pub single_begins : bytes_eq word (codes "schedule") ≡ false → bytes_eq word (codes "exec") ≡ false → blocks_from lines 0 ≡ single n words ∷ blocks_from rest 0
  single_begins not_schedule not_exec = from_first ∙ rw (not_schedule, not_exec) (ap (λ ws. single n ws ∷ blocks_from rest 0) (sym begins.1))

  pub exec_begins : bytes_eq word (codes "schedule") ≡ false → bytes_eq word (codes "exec") ≡ true → blocks_from lines 0 ≡ or_cut_off n (blocks_from rest) (exec_block n words rest)
  exec_begins not_schedule is = from_first ∙ rw (not_schedule, is) (ap (λ ws. or_cut_off n (blocks_from rest) (exec_block n ws rest)) (sym begins.1))

-- a number saturated to 32 bits selects the same lines, because there are fewer
pub taken_held : (n : ℕ) (words : List Bytes) (lines : List NumberedLine) (o : Option ℕ) (count : ℕ) → option_map up_to_greatest o ≡ Some count → length lines < 4294967295
    → exec_by n words lines None (Some count) ≡ exec_by n words lines None o
taken_held n words lines None count is few = cc
taken_held n words lines (Some k) count is few = elim (cases_lt k 4294967296) [
  | inl small ↦
      let held : min k 4294967295 ≡ k = omega arith in
      let same : count ≡ k = let both : Some (min k 4294967295) ≡ Some count = is in sym (cc) ∙ held in
      ap (λ c. exec_by n words lines None (Some c)) same
  | inr large ↦
      let held : min k 4294967295 ≡ 4294967295 = omega arith in
      let top : count ≡ 4294967295 = let both : Some (min k 4294967295) ≡ Some count = is in sym (cc) ∙ held in
      let less : nat_le count (length lines) ≡ false = lt-leb count (length lines) (omega arith) in
      let less' : nat_le k (length lines) ≡ false = lt-leb k (length lines) (omega arith) in
      rw (less, less') refl
]

pub none_held : (o : Option ℕ) → option_map up_to_greatest o ≡ None → o ≡ None
none_held None is = refl
none_held (Some k) is = cc

-- a parsed block, and the blocks after it
pub read_first : (n : ℕ) (lines : List NumberedLine) (expected : Option (Block × ℕ)) (p : ReadBlock × Lines) → ReadsBlock (Some p) expected lines
    → or_cut_off n (blocks_from lines) expected ≡ parsed_block p.0 ∷ blocks_from (numbered_lines p.1) 0
read_first n lines expected p reads =
    ap (or_cut_off n (blocks_from lines)) reads.1 ∙ ap (λ bs. parsed_block p.0 ∷ bs) (blocks_skip lines reads.0 ∙ ap (λ ls. blocks_from ls 0) reads.2)

-- ---- the block of an `exec` line

module _ (n : ℕ) (words : List Bytes) (lines : Lines) where
  pub up_to_mark : (mark body : Bytes) (rest : Lines) → lines.number ≡ n + 1 → Ends mark lines body rest
      → exec_by n words (numbered_lines lines) (Some mark) None ≡ Some (program n words (numbered_text (n + 1) body), suc (length (lines_of body)))
  up_to_mark mark body rest next ends =
      ap (λ o. option_map (λ b. (program n words b, suc (length b))) o) ends.before
      ∙ ap (λ k. Some (program n words (numbered_text lines.number body), suc k)) (length-counted lines.number (lines_of body))
      ∙ ap (λ k. Some (program n words (numbered_text k body), suc (length (lines_of body)))) next

  pub no_mark : (mark : Bytes) → lines_up_to mark (numbered_lines lines) ≡ None → exec_by n words (numbered_lines lines) (Some mark) None ≡ None
  no_mark mark none = ap (λ o. option_map (λ b. (program n words b, suc (length b))) o) none

  pub so_many : (count : ℕ) (body : Bytes) (rest : Lines) → lines.number ≡ n + 1 → Takes count lines body rest
      → exec_by n words (numbered_lines lines) None (Some count) ≡ Some (taken n words (numbered_text (n + 1) body), count)
  so_many count body rest next takes =
      let enough : nat_le count (length (numbered_lines lines)) ≡ true = le-leb count (length (numbered_lines lines)) (omega (arith, takes.enough, length-counted lines.number (lines_of lines.text.now))) in
      rw enough
      (ap (λ ls. Some (taken n words ls, count)) takes.first ∙ ap (λ k. Some (taken n words (numbered_text k body), count)) next)

  pub too_few : (count : ℕ) → length (lines_of lines.text.now) < count → exec_by n words (numbered_lines lines) None (Some count) ≡ None
  too_few count few =
      let less : nat_le count (length (numbered_lines lines)) ≡ false = lt-leb count (length (numbered_lines lines)) (omega (arith, few, length-counted lines.number (lines_of lines.text.now))) in
      rw less refl
