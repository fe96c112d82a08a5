use Rattle.pv_laws_answers.proofs.RestraintLines.{refusal-reported}
use Rattle.pv_laws_answers.proofs.wanted.refusal_is_reported.Goals as goal

pub returns : goal.returns
returns c = λ program_of s pid p call number walk place at is plain within found end. refusal-reported program_of s pid p call at plain number walk place found end is within
