use Rattle.pv_laws_schedules.proofs.ExposureLines.{witnesses-lead}
use Rattle.pv_laws_schedules.proofs.exposure.witnesses_lead.Goals as goal

pub returns : goal.returns
returns c = witnesses-lead
