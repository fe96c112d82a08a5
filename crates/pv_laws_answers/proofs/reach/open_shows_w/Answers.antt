use Rattle.pv_laws_answers.proofs.AskingCalls.{open-w}
use Rattle.pv_laws_answers.proofs.reach.open_shows_w.Goals as goal

pub returns : goal.returns
returns c = λ program_of s pid p path place at room leads. open-w program_of s pid p at path place room leads
