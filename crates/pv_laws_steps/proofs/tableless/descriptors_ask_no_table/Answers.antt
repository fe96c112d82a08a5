use Rattle.pv_laws_steps.proofs.CallsWithOtherTables.{descriptors-ask-no_table}
use Rattle.pv_laws_steps.proofs.tableless.descriptors_ask_no_table.Goals as goal

pub returns : goal.returns
returns c = λ program_of s pid p call table locked whole at comes is same. descriptors-ask-no_table pid table locked program_of s p call whole at comes is same
