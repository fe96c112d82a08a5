use Rattle.std.proofs.Common.{drop}
use Rattle.pv_calls_state.specs.Releasing.{files_on, Releases}
use Rattle.pv_calls_state.proofs.parts.ending.release_all.Given as goal

abbrev pub invariant-loop-d : goal.invariant-loop-d
invariant-loop-d l = Releases (files_on l.descriptors) (files_on (drop l.d l.descriptors)) l.initial.tree l.initial.files l.tree l.files
