use Rattle.pv_model.specs.Machine.{file_numbers, option_numbers, at_number}
use Rattle.pv_state_encoding.proofs.AppendedNumbers.{added_each}
use Rattle.pv_reduced.proofs.parts.push_files_in_order.Goals as goal

pub loop-file-preserved : goal.loop-file-preserved
loop-file-preserved c = added_each (λ n. option_numbers file_numbers (at_number c.args.files.now.files n)) c.args.order.now c.loop-file.file-index 0 _ _ _ c.loop-file-test.true c.loop-file.invariant c.in_ok-push_file.ensures
