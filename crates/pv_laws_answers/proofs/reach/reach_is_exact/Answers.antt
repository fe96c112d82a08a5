use Rattle.pv_laws_answers.proofs.AskingCalls.{reach-exact}
use Rattle.pv_laws_answers.proofs.reach.reach_is_exact.Goals as goal

pub returns : goal.returns
returns c = λ program_of s pid p call place asked at asks some. reach-exact program_of s pid p call place asked at asks some
