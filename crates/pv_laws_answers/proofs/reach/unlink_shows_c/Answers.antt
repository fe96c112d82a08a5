use Rattle.pv_laws_answers.proofs.AskingCalls.{unlink-c}
use Rattle.pv_laws_answers.proofs.reach.unlink_shows_c.Goals as goal

pub returns : goal.returns
returns c = λ program_of s pid p path place at leads. unlink-c program_of s pid p at path place leads
