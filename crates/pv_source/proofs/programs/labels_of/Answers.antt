use Rattle.std.proofs.Common.{◌≡◌, ◌∙◌, ◌+◌, ap, sym, arith}
use Rattle.pv_source.specs.ReadPrograms.{labelled_value}
use Rattle.pv_source.specs.Reading.{numbered_lines}
use Rattle.pv_model.specs.Machine.{labelled_lines, labels_from, program_lines}
use Rattle.pv_source.proofs.SourcePrograms.{labels-step, count_lines, count_step, instructions-count}
use Rattle.pv_source.proofs.programs.labels_of.Goals as goal

pub loop-line-preserved : goal.loop-line-preserved
loop-line-preserved c = record {
  labels =
      labels-step _ _ _ (labelled_value c.in-Some.line) (labelled_lines (numbered_lines c.loop-line.rest)) (labelled_lines (numbered_lines c.in-Some.following)) c.loop-line.count _ c.in-Some.ensures.line
      c.loop-line.invariant.labels c.in_ok-push_label.ensures (ap (λ k. c.loop-line.count + k) c.instruction_count-count.ensures.value);
  counted = count_step (labelled_lines (numbered_lines c.loop-line.rest)) (labelled_lines (numbered_lines c.in-Some.following)) (labelled_value c.in-Some.line) _ _ _ c.in-Some.ensures.line c.loop-line.invariant.counted (ap (λ k. c.loop-line.count + k) c.instruction_count-count.ensures.value);
  room = omega (arith, c.in-Some.ensures.room);
  few = omega (arith, c.instruction_count-count.ensures.few, c.in-Some.ensures.shorter);
}

pub returns-clause-count : goal.returns-clause-count
unfolding program_lines count_lines
returns-clause-count c =
    let all = labelled_lines (numbered_lines c.args.body) in
    let none : count_lines (labelled_lines (numbered_lines c.loop-line.rest)) ≡ 0 = ap count_lines c.in_default.ensures.line in
    let whole : c.loop-line.count ≡ count_lines all = omega (arith, c.loop-line.invariant.counted, none) in
    whole ∙ sym (instructions-count (labels_from 1 all) all)
