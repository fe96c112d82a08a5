use Rattle.pv_laws_answers.proofs.AskingCalls.{open-r}
use Rattle.pv_laws_answers.proofs.reach.open_shows_r.Goals as goal

pub returns : goal.returns
returns c = λ program_of s pid p path place at room leads. open-r program_of s pid p at path place room leads
