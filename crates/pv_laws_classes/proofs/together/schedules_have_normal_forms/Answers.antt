use Rattle.pv_laws_classes.proofs.CombinedTurns.{normal-form}
use Rattle.pv_laws_classes.proofs.together.schedules_have_normal_forms.Goals as goal

pub returns : goal.returns
returns c = λ program_of s pids encodes whole steps. normal-form program_of encodes s pids whole steps
