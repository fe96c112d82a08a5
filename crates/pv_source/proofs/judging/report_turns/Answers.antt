use Rattle.std.proofs.Common.{◌∙◌, ap, refl, subst, arith}
use Rattle.pv_source.specs.Reading.{numbered_lines}
use Rattle.pv_model.specs.Source.Judged.{invalid_turns}
use Rattle.pv_model.specs.Machine.{lines_that_count}
use Rattle.pv_source.proofs.SourcePrograms.{counting_first, counting_then, turns_step}
use Rattle.pv_source.proofs.ReportedLines.{ReportedSoFar, ReportedSoFar-start, ReportedSoFar-end}
use Rattle.pv_source.proofs.judging.report_turns.Goals as goal

pub loop-line-init : goal.loop-line-init
loop-line-init c = record { reported = ReportedSoFar-start _ _; room = omega arith; few = omega arith }

pub loop-line-preserved : goal.loop-line-preserved
loop-line-preserved c = record {
  reported =
      turns_step _ _ _ _ 0 c.loop-line.before _ (lines_that_count (numbered_lines c.loop-line.rest)) (lines_that_count (numbered_lines c.in-Some.following)) _
      (counting_first (numbered_lines c.loop-line.rest) ∙ ap counting_then c.in-Some.ensures.counts) refl c.in_ok-report_turn.ensures c.loop-line.invariant.reported;
  room = omega (arith, c.in-Some.ensures.room);
  few = omega (arith, c.in-Some.ensures.shorter);
}

pub returns : goal.returns
returns c =
    ReportedSoFar-end _ _ _
    (subst (λ ls. ReportedSoFar c.args.faults.now c.loop-line.faults (invalid_turns c.loop-line.before ls) (invalid_turns 0 (lines_that_count (numbered_lines c.args.lines))))
    (counting_first (numbered_lines c.loop-line.rest) ∙ ap counting_then c.in_default.ensures.counts) c.loop-line.invariant.reported)
