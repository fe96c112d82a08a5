use Rattle.std.proofs.Common.{◌≡◌, ◌∙◌, ◌++◌, ◌+◌, ap, subst, arith}
use Rattle.std.specs.Prelude.{map}
use Rattle.pv_model.specs.Machine.{ended, instruction_text, labelled_lines, program_line_of, program_lines, between, words_from}
use Rattle.pv_source.specs.Located.{located_from, located_instruction, located_text}
use Rattle.pv_source.specs.Reading.{numbered_lines}
use Rattle.pv_source.specs.ReadPrograms.{label_value, labelled_value}
use Rattle.pv_source.proofs.LocatedLines.{labelled_step, located_end}
use Rattle.pv_source.proofs.located.push_program_lines.Goals as goal

pub loop-line-preserved : goal.loop-line-preserved
loop-line-preserved c = record {
  put =
      labelled_step c.args.path.now _ _ _ c.loop-line.number _ (map label_value c.in_ok-labels.labels.items) (labelled_lines (numbered_lines c.loop-line.rest)) (labelled_lines (numbered_lines c.in-Some.following)) (labelled_value c.in-Some.line)
      c.in-Some.ensures.line (ap (λ k. c.loop-line.number + k) c.instruction_count-number.ensures.value)
      (subst (λ labels. c.push_labelled.new.out.items ≡ c.loop-line.out.items ++ ended (map (located_text c.args.path.now) (located_instruction c.in-Some.line.number c.loop-line.number (instruction_text (map label_value labels) (words_from c.in-Some.line.words.now between)))))
      c.deref.ensures.value c.in_ok-push_labelled.ensures)
      c.loop-line.invariant.put;
  room = omega (arith, c.in-Some.ensures.room);
  few = omega (arith, c.instruction_count-number.ensures.few, c.in-Some.ensures.shorter);
}

pub returns : goal.returns
unfolding program_lines
returns c =
    let all = labelled_lines (numbered_lines c.args.body) in
    located_end c.args.path.now c.loop-line.out.items _ c.loop-line.number _ (ap (map (program_line_of (map label_value c.in_ok-labels.labels.items))) c.in_default.ensures.line) c.loop-line.invariant.put
    ∙ ap (λ labels. c.args.out.now.items ++ ended (map (located_text c.args.path.now) (located_from 1 (map (program_line_of labels) all)))) c.in_ok-labels.ensures.labels
