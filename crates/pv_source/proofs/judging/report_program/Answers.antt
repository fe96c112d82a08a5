use Rattle.std.proofs.Common.{◌+◌, ap, [], subst, arith}
use Rattle.std.specs.Prelude.{map, ◌||◌}
use Rattle.pv_source.specs.Reading.{numbered_lines}
use Rattle.pv_source.specs.ReadPrograms.{borrowed_bytes, name_value, label_value, labelled_value}
use Rattle.pv_model.specs.Machine.{instruction_text, reported_if, labelled_lines, program_line_of, program_lines, program_errors, invalid_lines, between, words_from}
use Rattle.pv_model.specs.Source.Programs.{is_set_in, is_invalid}
use Rattle.pv_source.specs.Reporting.{ReportsLines}
use Rattle.pv_source.proofs.SourcePrograms.{program_step}
use Rattle.pv_source.proofs.ReportedLines.{ReportedSoFar, ReportedSoFar-start, ReportedSoFar-end}
use Rattle.pv_source.proofs.judging.report_program.Goals as goal

pub loop-line-init : goal.loop-line-init
unfolding program_lines program_errors
loop-line-init c = record {
  reported = rw (c.new-names.ensures.items, c.in_ok-labels.ensures.labels, c.in_ok-labels.ensures.count) (ReportedSoFar-start _ _);
  room = omega arith;
  few = omega arith;
}

pub loop-line-preserved : goal.loop-line-preserved
loop-line-preserved c = record {
  reported =
      program_step _ _ _ _ c.in_ok-labels.count c.loop-line.before _ (map label_value c.in_ok-labels.labels.items) (map borrowed_bytes c.loop-line.names.items) _ (labelled_lines (numbered_lines c.loop-line.rest))
      (labelled_lines (numbered_lines c.in-Some.following)) (labelled_value c.in-Some.line) c.in-Some.ensures.line c.in_ok-push_name.ensures (ap (λ k. c.loop-line.before + k) c.instruction_count-before.ensures.value)
      (subst
      (λ names. ReportsLines c.loop-line.faults c.report_line.new.faults (reported_if (is_set_in (name_value c.in-Some.line.label) (map borrowed_bytes names) || is_invalid c.in_ok-labels.count c.loop-line.before
      (instruction_text (map label_value c.in_ok-labels.labels.items) (words_from c.in-Some.line.words.now between))) c.in-Some.line.number [])) c.deref.ensures.value c.in_ok-report_line.ensures)
      c.loop-line.invariant.reported;
  room = omega (arith, c.in-Some.ensures.room);
  few = omega (arith, c.instruction_count-before.ensures.few, c.in-Some.ensures.shorter);
}

pub returns : goal.returns
returns c =
    ReportedSoFar-end _ _ _
    (subst (λ ls. ReportedSoFar c.args.faults.now c.loop-line.faults (invalid_lines c.in_ok-labels.count (map borrowed_bytes c.loop-line.names.items) c.loop-line.before (map (program_line_of (map label_value c.in_ok-labels.labels.items)) ls)) (program_errors (program_lines (numbered_lines c.args.body))))
    c.in_default.ensures.line c.loop-line.invariant.reported)
