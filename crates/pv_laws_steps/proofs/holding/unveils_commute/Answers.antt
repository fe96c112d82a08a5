use Rattle.pv_laws_steps.proofs.UnveilSteps.{unveils-commute}
use Rattle.pv_laws_steps.proofs.holding.unveils_commute.Goals as goal

pub returns : goal.returns
returns c = λ program_of encodes s j k p path permissions whole apart at comes alive way. unveils-commute program_of encodes s j k p path permissions whole apart at comes way alive
