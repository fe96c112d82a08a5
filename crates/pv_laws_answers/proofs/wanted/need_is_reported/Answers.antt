use Rattle.pv_laws_answers.proofs.RestraintLines.{want-reported}
use Rattle.pv_laws_answers.proofs.wanted.need_is_reported.Goals as goal

pub returns : goal.returns
returns c = λ program_of s pid p call at is. want-reported program_of s pid p call at is
