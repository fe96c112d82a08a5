use Rattle.std.proofs.Common.{◌+◌, [], refl, subst, arith}
use Rattle.pv_model.specs.Machine.{counted_from, taken_lines, program_errors, invalid_lines}
use Rattle.pv_source.specs.Reading.{numbered_lines}
use Rattle.pv_source.proofs.SourcePrograms.{taken_step, taken_start}
use Rattle.pv_source.proofs.ReportedLines.{ReportedSoFar, ReportedSoFar-end}
use Rattle.pv_source.proofs.judging.report_taken.Goals as goal

pub loop-line-init : goal.loop-line-init
loop-line-init c = record {
  reported = taken_start c.args.faults.now c.args.body.number c.args.body.text.now c.line_count-count.result c.line_count-count.ensures.value;
  few = omega arith;
}

pub loop-line-preserved : goal.loop-line-preserved
loop-line-preserved c = record {
  reported =
      taken_step _ _ _ _ c.line_count-count.result c.loop-line.before _ (c.args.body.number + c.loop-line.before) _ c.loop-line.rest.now c.in-Some.line.now c.in-Some.following.now (omega arith) c.in-Some.ensures.lines refl
      c.in_ok-report_taken_line.ensures c.loop-line.invariant.reported;
  few = omega (arith, c.in-Some.ensures.shorter);
}

pub returns : goal.returns
returns c =
    ReportedSoFar-end _ _ _
    (subst (λ ls. ReportedSoFar c.args.faults.now c.loop-line.faults (invalid_lines c.line_count-count.result [] c.loop-line.before (taken_lines (counted_from (c.args.body.number + c.loop-line.before) ls))) (program_errors (taken_lines (numbered_lines c.args.body))))
    c.in_default.ensures.lines c.loop-line.invariant.reported)
