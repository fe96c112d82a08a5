use Rattle.std.proofs.Common.{drop}
use Rattle.pv_calls_state.specs.Releasing.{files_on, Shares}
use Rattle.pv_calls_state.proofs.parts.ending.share.Given as goal

abbrev pub invariant-loop-d : goal.invariant-loop-d
invariant-loop-d l = Shares (files_on l.descriptors) (files_on (drop l.d l.descriptors)) l.initial.files l.files
