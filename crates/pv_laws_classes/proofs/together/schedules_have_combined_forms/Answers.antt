use Rattle.pv_laws_classes.proofs.CombinedSteps.{combined-form}
use Rattle.pv_laws_classes.proofs.together.schedules_have_combined_forms.Goals as goal

pub returns : goal.returns
returns c = λ program_of most s pids encodes whole steps. combined-form program_of most encodes s pids whole steps
