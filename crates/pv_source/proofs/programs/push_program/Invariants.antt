use Rattle.std.proofs.Common.{◌≡◌, ◌≤◌, ◌+◌, ◌++◌, length}
use Rattle.std.specs.Prelude.{map}
use Rattle.pv_model.specs.Machine.{ended, labelled_lines, program_line_of, instructions_of}
use Rattle.pv_source.specs.Reading.{numbered_lines}
use Rattle.pv_source.specs.ReadPrograms.{label_value}
use Rattle.pv_source.proofs.programs.push_program.Given as goal

abbrev pub invariant-loop-line : goal.invariant-loop-line
invariant-loop-line l = record {
  put :
      l.out.items ++ ended (instructions_of (map (program_line_of (map label_value l.labels)) (labelled_lines (numbered_lines l.rest))))
      ≡ l.fn.out.items ++ ended (instructions_of (map (program_line_of (map label_value l.labels)) (labelled_lines (numbered_lines l.fn.body))));
  room : l.rest.number + length l.rest.text.now ≤ l.fn.body.number + length l.fn.body.text.now;
}

abbrev pub decreases-loop-line : goal.decreases-loop-line
decreases-loop-line l = length l.rest.text.now
