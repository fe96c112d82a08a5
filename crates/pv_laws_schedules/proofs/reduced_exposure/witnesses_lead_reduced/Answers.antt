use Rattle.pv_laws_schedules.proofs.ReducedExposureLines.{witnesses-lead_reduced}
use Rattle.pv_laws_schedules.proofs.reduced_exposure.witnesses_lead_reduced.Goals as goal

pub returns : goal.returns
returns c = witnesses-lead_reduced
