use Rattle.std.proofs.Common.{◌∙◌, ap, w32}
use Rattle.std.proofs.lemmas.Int.{to_z-of_z}
use Rattle.pv_model.specs.Calls.Processes.{exit_status}
use Rattle.pv_calls.proofs.StatesAfterCalls.{exited}
use Rattle.pv_calls.proofs.calls.exit.Goals as goal

pub returns : goal.returns
returns c = record {
  performed = exited c.args.parts.now c.end.new.self c.args.pid c.args.code c.exit_status.result (c.exit_status.ensures ∙ ap exit_status (to_z-of_z w32 c.args.code c.ranges.code)) c.end.ensures;
}
