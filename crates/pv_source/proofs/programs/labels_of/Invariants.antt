use Rattle.std.proofs.Common.{◌≡◌, ◌≤◌, ◌+◌, ◌++◌, length}
use Rattle.std.specs.Prelude.{map}
use Rattle.pv_source.specs.Reading.{numbered_lines}
use Rattle.pv_source.specs.ReadPrograms.{label_value}
use Rattle.pv_model.specs.Machine.{labelled_lines, labels_from}
use Rattle.pv_source.proofs.SourcePrograms.{count_lines}
use Rattle.pv_source.proofs.programs.labels_of.Given as goal

abbrev pub invariant-loop-line : goal.invariant-loop-line
invariant-loop-line l = record {
  labels : map label_value l.labels.items ++ labels_from (l.count + 1) (labelled_lines (numbered_lines l.rest)) ≡ labels_from 1 (labelled_lines (numbered_lines l.fn.body));
  counted : l.count + count_lines (labelled_lines (numbered_lines l.rest)) ≡ count_lines (labelled_lines (numbered_lines l.fn.body));
  room : l.rest.number + length l.rest.text.now ≤ l.fn.body.number + length l.fn.body.text.now;
  few : l.count + length l.rest.text.now ≤ length l.fn.body.text.now;
}

abbrev pub decreases-loop-line : goal.decreases-loop-line
decreases-loop-line l = length l.rest.text.now
