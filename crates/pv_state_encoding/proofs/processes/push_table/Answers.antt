use Rattle.std.proofs.lemmas.Result.{on_ok_weaker}
use Rattle.pv_state_encoding.proofs.ProcessNumbers.{added_table}
use Rattle.pv_state_encoding.proofs.processes.push_table.Goals as goal

pub returns : goal.returns
returns c =
    on_ok_weaker c.push_each_entry.result
    (λ last. added_table c.args.table.now.table c.len.result _ _ _ _ (λ none. let full = c.is_empty.ensures.1 none in cc) c.len.ensures.value c.in_ok-push_number.ensures c.in_ok-push_number-2.ensures last)
    c.push_each_entry.ensures
