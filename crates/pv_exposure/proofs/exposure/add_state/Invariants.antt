use Rattle.std.proofs.Common.{◌≡◌, length}
use Rattle.pv_programs.proofs.OfAnswers.ProcessSequence.{records_after}
use Rattle.pv_named_files.specs.FirstPaths.{files_given, first_tree}
use Rattle.pv_exposure.specs.Collected.{exposed_after}
use Rattle.pv_exposure.specs.Seen.{found_seen}
use Rattle.pv_exposure.proofs.FindingAddition.{located_among}
use Rattle.pv_exposure.proofs.exposure.add_state.Given as goal

abbrev pub invariant-loop-pid : goal.invariant-loop-pid
invariant-loop-pid l = record {
  unchanged : l.states ≡ l.fn.states;
  added : exposed_after (files_given l.seen.paths.now) (first_tree l.seen.paths.now) l.named l.records.items (located_among (found_seen l.seen) (records_after l.last l.seen.parts.now.processes))
      ≡ exposed_after (files_given l.seen.paths.now) (first_tree l.seen.paths.now) l.named l.fn.records.items (located_among (found_seen l.seen) l.seen.parts.now.processes);
}

abbrev pub decreases-loop-pid : goal.decreases-loop-pid
decreases-loop-pid l = length (records_after l.last l.seen.parts.now.processes)
