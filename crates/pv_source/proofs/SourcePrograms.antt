-- Labels and instructions of programs in a source.
use Rattle.std.proofs.Common.{◌≡◌, ◌≢◌, ◌∙◌, ap, ℕ, suc, ◌+◌, Bool, true, false, cond, List, [], ◌∷◌, ◌++◌, length, Option, None, Some, refl, sym, subst, arith, append_assoc}
use Rattle.std.specs.List.{cons_option}
use Rattle.std.specs.Prelude.{◌||◌, MatchBool, bytes_eq, not, map}
use Rattle.std.proofs.lemmas.List.{append-nil}
use Rattle.pv_model.specs.Machine.{Bytes, is_empty, LabelledLine, labelled_lines, labels_from, instruction_text, program_line_of, taken_lines, instructions_of, reported_if, invalid_lines, program_errors, spaced, counted_from, lines_of, NumberedLine, NumberedWords, words_of, lines_that_count}
use Rattle.pv_source.specs.declared.programs.Label.{Label}
use Rattle.pv_source.specs.Reading.{numbered_text, if_words, first_that_counts}
use Rattle.pv_source.specs.ReadPrograms.{label_value}
use Rattle.pv_model.specs.Source.Programs.{labelled_words, or_exit, with_exit, count_words, onto_labels, number_of_label, without_labels, is_set_in, and_label, count_instruction, is_invalid}
use Rattle.pv_model.specs.Source.Judged.{invalid_turn, invalid_turns}
use Rattle.pv_source.specs.Reporting.{ReportsLines}
use Rattle.pv_source.proofs.ReportedLines.{ReportedSoFar, ReportedSoFar-start, ReportedSoFar-step}

-- ---- optional words

pub some_words : (t : Bool) (words : List Bytes) → MatchBool t (words ≡ []) (words ≢ []) → t ≡ false → words ≢ []
some_words true words reports is = cc
some_words false words reports is = reports

pub no_words : (t : Bool) (words : List Bytes) → MatchBool t (words ≡ []) (words ≢ []) → t ≡ true → words ≡ []
no_words true words reports is = reports
no_words false words reports is = cc

-- ---- the lines of a program

-- lines with words, from the first of them on
abbrev pub counting_then : Option (NumberedWords × List NumberedLine) → List NumberedWords
counting_then None = []
counting_then (Some p) = p.0 ∷ lines_that_count p.1

pub counting_first : (lines : List NumberedLine) → lines_that_count lines ≡ counting_then (first_that_counts lines)
counting_first [] = refl
counting_first (line ∷ lines) = by (words_of line.1) (counting_first lines)
  where
    by : (words : List Bytes) → lines_that_count lines ≡ counting_then (first_that_counts lines) → cond (not (is_empty words)) ((line.0, words) ∷ lines_that_count lines) (lines_that_count lines) ≡ counting_then (if_words line.0 words lines (first_that_counts lines))
    by [] h = h
    by (word ∷ words) h = refl

abbrev pub to_labelled : NumberedWords → LabelledLine
to_labelled line = labelled_words line.0 line.1

-- the last line of a program, and one that is not the last
pub labelled_last : (lines rest : List NumberedLine) (line : NumberedWords) → first_that_counts lines ≡ Some (line, rest) → first_that_counts rest ≡ None
    → labelled_lines lines ≡ with_exit (to_labelled line ∷ [])
labelled_last lines rest line first none =
    ap (λ ls. with_exit (map to_labelled ls)) (counting_first lines ∙ ap counting_then first ∙ ap (λ ls. line ∷ ls) (counting_first rest ∙ ap counting_then none))

pub labelled_more : (lines rest : List NumberedLine) (line : NumberedWords) (next : NumberedWords × List NumberedLine) → first_that_counts lines ≡ Some (line, rest) → first_that_counts rest ≡ Some next
    → labelled_lines lines ≡ to_labelled line ∷ labelled_lines rest
labelled_more lines rest line next first more =
    let two : lines_that_count lines ≡ line ∷ next.0 ∷ lines_that_count next.1 =
    counting_first lines ∙ ap counting_then first ∙ ap (λ ls. line ∷ ls) (counting_first rest ∙ ap counting_then more) in
    let one : lines_that_count rest ≡ next.0 ∷ lines_that_count next.1 = counting_first rest ∙ ap counting_then more in
    ap (λ ls. with_exit (map to_labelled ls)) two ∙ ap (λ ls. to_labelled line ∷ with_exit (map to_labelled ls)) (sym one)

pub labelled_none : (lines : List NumberedLine) → first_that_counts lines ≡ None → labelled_lines lines ≡ []
labelled_none lines none = ap (λ ls. with_exit (map to_labelled ls)) (counting_first lines ∙ ap counting_then none)

-- a last line with an instruction does not change
pub exit_preserved : (line : LabelledLine) → line.words ≢ [] → with_exit (line ∷ []) ≡ line ∷ []
exit_preserved line some = by line.words some
  where
    by : (words : List Bytes) → words ≢ [] → record line { words = or_exit words } ∷ [] ≡ record line { words = words } ∷ []
    by [] some = absurd (some refl)
    by (word ∷ words) some = refl

-- a line with an instruction, whatever follows
pub labelled_preserved : (lines rest : List NumberedLine) (line : NumberedWords) → first_that_counts lines ≡ Some (line, rest) → (to_labelled line).words ≢ []
    → labelled_lines lines ≡ to_labelled line ∷ labelled_lines rest
labelled_preserved lines rest line first some = by (first_that_counts rest) refl
  where
    by : (o : Option (NumberedWords × List NumberedLine)) → first_that_counts rest ≡ o → labelled_lines lines ≡ to_labelled line ∷ labelled_lines rest
    by None none = labelled_last lines rest line first none ∙ exit_preserved (to_labelled line) some ∙ ap (λ ls. to_labelled line ∷ ls) (sym (labelled_none rest none))
    by (Some next) more = labelled_more lines rest line next first more

-- a last line without an instruction
pub labelled_exit : (lines rest : List NumberedLine) (line : NumberedWords) → first_that_counts lines ≡ Some (line, rest) → first_that_counts rest ≡ None → (to_labelled line).words ≡ []
    → labelled_lines lines ≡ record (to_labelled line) { words = or_exit [] } ∷ labelled_lines rest
labelled_exit lines rest line first none empty =
    labelled_last lines rest line first none
    ∙ ap (λ ws. record (to_labelled line) { words = or_exit ws } ∷ []) empty
    ∙ ap (λ ls. record (to_labelled line) { words = or_exit [] } ∷ ls) (sym (labelled_none rest none))

-- ---- labels

pub labels-more : (put later : List (Bytes × ℕ)) (label : Option Bytes) (k : ℕ) → (put ++ onto_labels label k []) ++ later ≡ put ++ onto_labels label k later
labels-more put later None k = ap (λ ls. ls ++ later) (append-nil put)
labels-more put later (Some name) k = append_assoc put ((name, k) ∷ []) later

-- a label that is found, and one that is skipped
pub label_found : (labels rest : List Label) (name : Bytes) (label : Label) → labels ≡ label ∷ rest → bytes_eq label.name.now name ≡ true → number_of_label name (map label_value labels) ≡ Some label.number
label_found labels rest name label first is = rw first (rw is refl)

pub label_passed : (labels rest : List Label) (name : Bytes) (label : Label) → labels ≡ label ∷ rest → bytes_eq label.name.now name ≡ false
    → number_of_label name (map label_value labels) ≡ number_of_label name (map label_value rest)
label_passed labels rest name label first is = rw first (rw is refl)

-- one step of a loop that collects the labels of a program
pub labels-step : (put more all : List (Bytes × ℕ)) (line : LabelledLine) (lines following : List LabelledLine) (count next : ℕ) → lines ≡ line ∷ following
    → put ++ labels_from (count + 1) lines ≡ all → more ≡ put ++ onto_labels line.label (count + 1) [] → next ≡ count + count_words line.words
    → more ++ labels_from (next + 1) following ≡ all
labels-step put more all line lines following count next first preserved pushed counted =
    let sum : next + 1 ≡ count + 1 + count_words line.words = omega (arith, counted) in
    ap (λ ls. ls ++ labels_from (next + 1) following) pushed ∙ labels-more put (labels_from (next + 1) following) line.label (count + 1)
    ∙ ap (λ k. put ++ onto_labels line.label (count + 1) (labels_from k following)) sum
    ∙ ap (λ ls. put ++ labels_from (count + 1) ls) (sym first) ∙ preserved

-- the number of instructions of lines
unfoldable pub count_lines : List LabelledLine → ℕ
count_lines [] = 0
count_lines (line ∷ lines) = count_words line.words + count_lines lines

pub instructions-count : (labels : List (Bytes × ℕ)) (lines : List LabelledLine) → length (instructions_of (map (program_line_of labels) lines)) ≡ count_lines lines
unfolding count_lines
instructions-count labels [] = refl
instructions-count labels (line ∷ lines) = by line.words (instructions-count labels lines)
  where
    by : (words : List Bytes) → length (instructions_of (map (program_line_of labels) lines)) ≡ count_lines lines → length (cons_option (instruction_text labels words) (instructions_of (map (program_line_of labels) lines))) ≡ count_words words + count_lines lines
    by [] h = let sum : 0 + count_lines lines ≡ count_lines lines = omega arith in rw sum h
    by (word ∷ words) h = let sum : 1 + count_lines lines ≡ suc (count_lines lines) = omega arith in rw sum (ap suc h)

pub count_step : (lines following : List LabelledLine) (line : LabelledLine) (count next all : ℕ) → lines ≡ line ∷ following → count + count_lines lines ≡ all → next ≡ count + count_words line.words → next + count_lines following ≡ all
unfolding count_lines
count_step lines following line count next all first preserved is = omega (arith, preserved, is, ap count_lines first)

-- the text of an instruction that has words
pub instruction_some : (labels : List (Bytes × ℕ)) (words : List Bytes) → words ≢ [] → instruction_text labels words ≡ Some (spaced (without_labels labels words))
instruction_some labels [] some = absurd (some refl)
instruction_some labels (word ∷ words) some = refl

pub counted_as_words : (labels : List (Bytes × ℕ)) (words : List Bytes) → count_instruction (instruction_text labels words) ≡ count_words words
counted_as_words labels [] = refl
counted_as_words labels (word ∷ words) = refl

-- one step of a loop that reports the lines of a program
module _ (first now after all : List ℕ) (count before next : ℕ) where
  pub program_step : (labels : List (Bytes × ℕ)) (names more : List Bytes) (lines following : List LabelledLine) (line : LabelledLine) → lines ≡ line ∷ following → more ≡ and_label line.label names → next ≡ before + count_words line.words
      → ReportsLines now after (reported_if (is_set_in line.label names || is_invalid count before (instruction_text labels line.words)) line.number [])
      → ReportedSoFar first now (invalid_lines count names before (map (program_line_of labels) lines)) all → ReportedSoFar first after (invalid_lines count more next (map (program_line_of labels) following)) all
  program_step labels names more lines following line read pushed counted reports preserved =
      let left = invalid_lines count (and_label line.label names) (before + count_instruction (instruction_text labels line.words)) (map (program_line_of labels) following) in
      let at : before + count_instruction (instruction_text labels line.words) ≡ next = ap (λ k. before + k) (counted_as_words labels line.words) ∙ sym counted in
      let step : ReportedSoFar first after left all =
      ReportedSoFar-step first now after left all (is_set_in line.label names || is_invalid count before (instruction_text labels line.words)) line.number reports
      (subst (λ ls. ReportedSoFar first now (invalid_lines count names before (map (program_line_of labels) ls)) all) read preserved) in
      subst (λ k. ReportedSoFar first after (invalid_lines count more k (map (program_line_of labels) following)) all) at
      (subst (λ ns. ReportedSoFar first after (invalid_lines count ns (before + count_instruction (instruction_text labels line.words)) (map (program_line_of labels) following)) all) (sym pushed) step)

  pub taken_step : (n m : ℕ) (rest line following : Bytes) → m ≡ n + 1 → lines_of rest ≡ line ∷ lines_of following → next ≡ before + 1 → ReportsLines now after (reported_if (is_invalid count before (Some line)) n [])
      → ReportedSoFar first now (invalid_lines count [] before (taken_lines (numbered_text n rest))) all → ReportedSoFar first after (invalid_lines count [] next (taken_lines (numbered_text m following))) all
  taken_step n m rest line following then read counted reports preserved =
      let left = invalid_lines count [] (before + 1) (taken_lines (numbered_text (n + 1) following)) in
      subst (λ k. ReportedSoFar first after (invalid_lines count [] next (taken_lines (numbered_text k following))) all) (sym then)
      (subst (λ k. ReportedSoFar first after (invalid_lines count [] k (taken_lines (numbered_text (n + 1) following))) all) (sym counted)
      (ReportedSoFar-step first now after left all (is_invalid count before (Some line)) n reports
      (subst (λ ls. ReportedSoFar first now (invalid_lines count [] before (taken_lines (counted_from n ls))) all) read preserved)))

  pub turns_step : (lines following : List NumberedWords) (line : NumberedWords) → lines ≡ line ∷ following → next ≡ before + 1 → ReportsLines now after (reported_if (invalid_turn before line.1) line.0 [])
      → ReportedSoFar first now (invalid_turns before lines) all → ReportedSoFar first after (invalid_turns next following) all
  turns_step lines following line read counted reports preserved =
      let is : suc before ≡ next = omega (arith, counted) in
      subst (λ k. ReportedSoFar first after (invalid_turns k following) all) is
      (ReportedSoFar-step first now after (invalid_turns (suc before) following) all (invalid_turn before line.1) line.0 reports (subst (λ ls. ReportedSoFar first now (invalid_turns before ls) all) read preserved))

-- the number of lines that are copied unchanged is the number of instructions
taken-count : (n : ℕ) (ls : List Bytes) → length (instructions_of (taken_lines (counted_from n ls))) ≡ length ls
taken-count n [] = refl
taken-count n (l ∷ ls) = ap suc (taken-count (n + 1) ls)

pub taken_start : (reported : List ℕ) (n : ℕ) (text : Bytes) (count : ℕ) → count ≡ length (lines_of text)
    → ReportedSoFar reported reported (invalid_lines count [] 0 (taken_lines (numbered_text (n + 0) text))) (program_errors (taken_lines (numbered_text n text)))
unfolding program_errors
taken_start reported n text count is =
    let all = taken_lines (numbered_text n text) in
    let at : n + 0 ≡ n = omega arith in
    let many : length (instructions_of all) ≡ count = taken-count n (lines_of text) ∙ sym is in
    rw at (subst (λ k. ReportedSoFar reported reported (invalid_lines count [] 0 all) (invalid_lines k [] 0 all)) (sym many) (ReportedSoFar-start reported (invalid_lines count [] 0 all)))
