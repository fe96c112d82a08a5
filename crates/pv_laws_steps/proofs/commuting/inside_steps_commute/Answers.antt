use Rattle.pv_laws_steps.proofs.CommutingSteps.{inside-commute}
use Rattle.pv_laws_steps.proofs.commuting.inside_steps_commute.Goals as goal

pub returns : goal.returns
returns c = λ program_of s j k whole apart one two. inside-commute program_of s whole j k apart one two
