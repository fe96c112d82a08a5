use Rattle.std.proofs.Common.{arith}
use Rattle.pv_model.specs.Machine.{descriptor_numbers}
use Rattle.pv_state_encoding.proofs.MapNumbers.{added_at}
use Rattle.pv_state_encoding.proofs.processes.push_each_descriptor.Goals as goal

pub loop-number-preserved : goal.loop-number-preserved
loop-number-preserved c = added_at descriptor_numbers c.args.descriptors.now c.loop-number.number _ _ _ _ c.invariant.ensures (omega arith) c.loop-number.invariant c.in_ok-push_descriptor.ensures
