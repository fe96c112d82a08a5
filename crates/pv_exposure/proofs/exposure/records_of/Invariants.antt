use Rattle.std.proofs.Common.{◌≡◌, [], flat_map, take}
use Rattle.pv_model.specs.Answers.Exposure.{located_at}
use Rattle.pv_named_files.specs.FirstPaths.{files_given, first_tree}
use Rattle.pv_exposure.specs.Collected.{exposed_after}
use Rattle.pv_exposure.proofs.exposure.records_of.Given as goal

abbrev pub invariant-loop-number : goal.invariant-loop-number
invariant-loop-number l = record {
  unchanged : l.states ≡ l.fn.states;
  records : l.records.items ≡ exposed_after (files_given l.paths) (first_tree l.paths) l.named [] (flat_map located_at (take l.number l.fn.states.found));
}
