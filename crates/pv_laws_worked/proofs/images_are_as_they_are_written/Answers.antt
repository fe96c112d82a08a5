use Rattle.pv_laws_worked.proofs.ExampleImage.{example_is_written}
use Rattle.pv_laws_worked.proofs.PastSlotImage.{past_slot_has_no_tree}
use Rattle.pv_laws_worked.proofs.SmallestImage.{smallest_is_written}
use Rattle.pv_laws_worked.proofs.images_are_as_they_are_written.Goals as goal

pub returns-clause-smallest : goal.returns-clause-smallest
returns-clause-smallest c = smallest_is_written

pub returns-clause-example : goal.returns-clause-example
returns-clause-example c = example_is_written

pub returns-clause-past_slot : goal.returns-clause-past_slot
returns-clause-past_slot c = past_slot_has_no_tree
