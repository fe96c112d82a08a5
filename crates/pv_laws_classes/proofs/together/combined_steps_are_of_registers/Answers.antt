use Rattle.pv_laws_classes.proofs.CombinedSteps.{is-combined}
use Rattle.pv_laws_classes.proofs.together.combined_steps_are_of_registers.Goals as goal

pub returns : goal.returns
returns c = is-combined
