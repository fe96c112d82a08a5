use Rattle.std.proofs.Common.{arith}
use Rattle.pv_model.specs.Machine.{file_numbers}
use Rattle.pv_state_encoding.proofs.MapNumbers.{added_at}
use Rattle.pv_state_encoding.proofs.files.push_each_file.Goals as goal

pub loop-file-preserved : goal.loop-file-preserved
loop-file-preserved c =
    added_at file_numbers c.args.files.now.files c.loop-file.file _ _ _ _ c.invariant.ensures.slots (omega arith) c.loop-file.invariant c.in_ok-push_file.ensures
