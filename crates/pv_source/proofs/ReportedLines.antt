-- The lines that are reported.
use Rattle.std.proofs.Common.{◌≡◌, ◌≢◌, ◌∙◌, Ok, Err, ap, ℕ, suc, ◌+◌, ◌≤◌, Bool, true, false, List, [], ◌∷◌, ◌++◌, length, take, refl, sym, arith, append_assoc}
use Rattle.std.specs.Prelude.{map, IsTrue, ◌↔◌}
use Rattle.std.proofs.lemmas.List.{append-nil, length-map, map_push, take_all, take-append-le}
use Rattle.pv_model.specs.Machine.{Bytes, lines_of, Block, blocks_of, errors_of_blocks, read_source, between, words_from, text_of_blocks, reported_if}
use Rattle.pv_source.specs.declared.blocks.Block.{Block as ReadBlock}
use Rattle.pv_source.specs.declared.blocks.Kind.{Kind}
use Rattle.pv_source.specs.declared.blocks.Kind.TheVariants.{Single, Program, Taken, CutOff, Schedule}
use Rattle.pv_source.specs.Outcome.{line_and_message as reported_of_fault}
use Rattle.pv_source.specs.Reading.{numbered_text}
use Rattle.pv_source.specs.ReadBlocks.{block_by, parsed_block}
use Rattle.pv_model.specs.Source.Judged.{REPORTED, TreeSoFar, Judgement, line_of_block, errors_in, reported_of, checked_first, errors_from, or_errors}
use Rattle.pv_source.specs.declared.faults.Fault.{Fault}
use Rattle.pv_source.specs.Reporting.{ReportsLines, line_of_error}

pub reports_nothing : (reported : List ℕ) → ReportsLines reported reported []
reports_nothing reported = record { is = λ rest. refl }

pub reports_both : (a b c first second : List ℕ) → ReportsLines a b first → ReportsLines b c second → ReportsLines a c (first ++ second)
reports_both a b c first second one two = record {
  is = λ rest.
      two.is rest ∙ one.is (second ++ rest) ∙ ap (λ ls. take REPORTED (a ++ ls)) (sym (append_assoc first second rest));
}

-- if twenty lines are reported, no more are
full_from : (front more rest : List ℕ) → 20 ≤ length front → take REPORTED (front ++ rest) ≡ take REPORTED (front ++ (more ++ rest))
full_from front more rest full = take-append-le REPORTED front rest full ∙ sym (take-append-le REPORTED front (more ++ rest) full)

pub reports_full : (reported more : List ℕ) → 20 ≤ length reported → ReportsLines reported reported more
reports_full reported more full = record { is = λ rest. full_from reported more rest full }

-- the same, by the test of the code
pub reports_when_full : (reported more : List ℕ) (t : Bool) → (IsTrue t ↔ (length reported ≡ REPORTED)) → t ≡ true → ReportsLines reported reported more
reports_when_full reported more t reports is = reports_full reported more (omega (arith, reports.0 is))

pub reports_one : (reported after : List ℕ) (n : ℕ) → after ≡ reported ++ n ∷ [] → ReportsLines reported after (n ∷ [])
reports_one reported after n is = record { is = λ rest. ap (take REPORTED) (ap (λ ls. ls ++ rest) is ∙ append_assoc reported (n ∷ []) rest) }

pub reports_if_true : (a b more : List ℕ) (n : ℕ) (t : Bool) → t ≡ true → ReportsLines a b (n ∷ more) → ReportsLines a b (reported_if t n more)
reports_if_true a b more n true is reports = reports
reports_if_true a b more n false is reports = cc

pub reports_if_false : (a b more : List ℕ) (n : ℕ) (t : Bool) → t ≡ false → ReportsLines a b more → ReportsLines a b (reported_if t n more)
reports_if_false a b more n true is reports = cc
reports_if_false a b more n false is reports = reports

-- the invariant of a loop that reports lines, where some remain
pub record ReportedSoFar (before now left all : List ℕ) : Type 0 where
  pub is : (rest : List ℕ) → take REPORTED (now ++ (left ++ rest)) ≡ take REPORTED (before ++ (all ++ rest))

pub ReportedSoFar-start : (before all : List ℕ) → ReportedSoFar before before all all
ReportedSoFar-start before all = record { is = λ rest. refl }

-- a line is reported or skipped
pub ReportedSoFar-step : (before now after left all : List ℕ) (t : Bool) (n : ℕ) → ReportsLines now after (reported_if t n []) → ReportedSoFar before now (reported_if t n left) all → ReportedSoFar before after left all
ReportedSoFar-step before now after left all true n reports preserved = record { is = λ rest. reports.is (left ++ rest) ∙ preserved.is rest }
ReportedSoFar-step before now after left all false n reports preserved = record { is = λ rest. reports.is (left ++ rest) ∙ preserved.is rest }

-- some lines are reported
pub ReportedSoFar-more : (before now after some left all : List ℕ) → ReportsLines now after some → ReportedSoFar before now (some ++ left) all → ReportedSoFar before after left all
ReportedSoFar-more before now after some left all reports preserved = record {
  is = λ rest. reports.is (left ++ rest) ∙ ap (λ ls. take REPORTED (now ++ ls)) (sym (append_assoc some left rest)) ∙ preserved.is rest;
}

pub ReportedSoFar-end : (before now all : List ℕ) → ReportedSoFar before now [] all → ReportsLines before now all
ReportedSoFar-end before now all preserved = record { is = preserved.is }

-- a complete report
pub reported_complete : (before now all : List ℕ) → before ≡ [] → length now ≤ REPORTED → ReportsLines before now all → now ≡ take REPORTED all
reported_complete before now all none few reports =
    sym (take_all REPORTED now few) ∙ ap (take REPORTED) (sym (append-nil now)) ∙ reports.is [] ∙ ap (λ ls. take REPORTED (ls ++ (all ++ []))) none ∙ ap (take REPORTED) (append-nil all)

-- the same for errors
pub reported_full : (reported : List Fault) (more : List ℕ) → length reported ≡ REPORTED → ReportsLines (map line_of_error reported) (map line_of_error reported) more
reported_full reported more full = reports_full (map line_of_error reported) more (rw length-map (omega (arith, full)))

pub reported_one : (reported : List Fault) (fault : Fault) → ReportsLines (map line_of_error reported) (map line_of_error (reported ++ fault ∷ [])) (fault.line ∷ [])
reported_one reported fault = reports_one (map line_of_error reported) _ fault.line (map_push line_of_error reported fault)

-- ---- the lines of blocks

reported_all : (t : Bool) (n : ℕ) (first second rest : List ℕ) → reported_if t n first ++ (second ++ rest) ≡ reported_if t n (first ++ second) ++ rest
reported_all true n first second rest = ap (λ ls. n ∷ ls) (sym (append_assoc first second rest))
reported_all false n first second rest = sym (append_assoc first second rest)

pub number_is : (b : ReadBlock) → line_of_block (parsed_block b) ≡ b.number
number_is b = by b.kind
  where
    by : (k : Kind) → line_of_block (block_by k b.number (words_from b.words.now between) (numbered_text (b.number + 1) b.body.now)) ≡ b.number
    by Single = refl
    by Program = refl
    by Taken = refl
    by CutOff = refl
    by Schedule = refl

-- one step of a loop over blocks: the line of a block is reported, and those that belong to it
pub ReportedSoFar-block : (first now after all : List ℕ) (b : ReadBlock) (j : Judgement) (t : Bool) (s : TreeSoFar) (onward : TreeSoFar → List ℕ) → t ≡ j.0 → s ≡ j.1 → ReportsLines now after (reported_if t b.number (errors_in (parsed_block b)))
    → ReportedSoFar first now (reported_of (parsed_block b) j onward) all → ReportedSoFar first after (onward s) all
ReportedSoFar-block first now after all b j t s onward reported appears reports preserved = record {
  is = λ rest.
      reports.is (onward s ++ rest) ∙ ap (λ ls. take REPORTED (now ++ ls)) (reported_all t b.number (errors_in (parsed_block b)) (onward s) rest)
      ∙ ap (λ u. take REPORTED (now ++ (reported_if u b.number (errors_in (parsed_block b) ++ onward s) ++ rest))) reported
      ∙ ap (λ n. take REPORTED (now ++ (reported_if j.0 n (errors_in (parsed_block b) ++ onward s) ++ rest))) (sym (number_is b))
      ∙ ap (λ u. take REPORTED (now ++ (reported_if j.0 (line_of_block (parsed_block b)) (errors_in (parsed_block b) ++ onward u) ++ rest))) appears
      ∙ preserved.is rest;
}

pub first_reported : (source : Bytes) (last : ℕ) (b : ReadBlock) (blocks : List Block) → blocks_of source ≡ parsed_block b ∷ blocks → reported_of (parsed_block b) (checked_first (parsed_block b)) (errors_from blocks) ≡ errors_of_blocks last (blocks_of source)
unfolding errors_of_blocks
first_reported source last b blocks is = ap (errors_of_blocks last) (sym is)

pub none_reported : (source : Bytes) (last n : ℕ) → blocks_of source ≡ [] → n ≡ last → n ∷ [] ≡ errors_of_blocks last (blocks_of source)
unfolding errors_of_blocks
none_reported source last n none is = ap (λ m. m ∷ []) is ∙ ap (errors_of_blocks last) (sym none)

-- ---- the result for a source

pub read_right : (source text : Bytes) (reported : List ℕ) → reported ≡ take REPORTED (errors_of_blocks (suc (length (lines_of source))) (blocks_of source)) → reported ≡ [] → text ≡ text_of_blocks (blocks_of source) → read_source source ≡ Ok text
unfolding read_source
read_right source text reported is none text_is = ap (or_errors (blocks_of source)) (sym is ∙ none) ∙ ap (λ (bs : Bytes). Ok bs) (sym text_is)

pub read_invalid : (source : Bytes) (reported : List ℕ) → reported ≡ take REPORTED (errors_of_blocks (suc (length (lines_of source))) (blocks_of source)) → reported ≢ [] → read_source source ≡ Err reported
unfolding read_source
read_invalid source reported is some = ap (or_errors (blocks_of source)) (sym is) ∙ by reported some
  where
    by : (ls : List ℕ) → ls ≢ [] → or_errors (blocks_of source) ls ≡ Err ls
    by [] some = absurd (some refl)
    by (n ∷ ls) some = refl

-- the lines of errors
pub reported_errors : (reported : List Fault) → map (λ (t : ℕ × Bytes). t.0) (map reported_of_fault reported) ≡ map line_of_error reported
reported_errors [] = refl
reported_errors (fault ∷ reported) = ap (λ ls. fault.line ∷ ls) (reported_errors reported)

pub no_error : (t : Bool) (reported : List ℕ) → (IsTrue t ↔ (reported ≡ [])) → t ≡ true → reported ≡ []
no_error t reported reports is = reports.0 is

pub some_error : (t : Bool) (faults : List Fault) (reported : List ℕ) → (IsTrue t ↔ (reported ≡ [])) → t ≡ false → map line_of_error faults ≡ reported → map (λ (f : ℕ × Bytes). f.0) (map reported_of_fault faults) ≢ []
some_error t faults reported reports is same none =
    let invalid : t ≡ true = reports.1 (sym same ∙ sym (reported_errors faults) ∙ none) in
    let both : false ≡ true = sym is ∙ invalid in cc
