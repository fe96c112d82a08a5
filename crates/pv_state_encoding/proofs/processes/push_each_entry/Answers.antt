use Rattle.std.proofs.Common.{arith}
use Rattle.pv_model.specs.Machine.{entry_numbers, entries_of_table}
use Rattle.pv_state_encoding.proofs.ProcessNumbers.{added_got, entry-there}
use Rattle.pv_state_encoding.proofs.processes.push_each_entry.Goals as goal

pub loop-number-preserved : goal.loop-number-preserved
loop-number-preserved c =
    let es = entries_of_table c.args.table.now.table in
    let e = entry-there es c.loop-number.number _ _ (omega (arith, c.len-number-end.ensures.value)) c.in_ok-push_entry.ensures in
    added_got entry_numbers es c.loop-number.number e.0 _ _ _ e.1 c.loop-number.invariant e.2
