use Rattle.pv_needs.specs.Worked
use Rattle.pv_needs.proofs.worked.worked_runs_are_as_they_are_written.Goals as goal

pub returns : goal.returns
returns c = record { refused_calls_are_left_out = Worked.refused_calls_are_left_out }
