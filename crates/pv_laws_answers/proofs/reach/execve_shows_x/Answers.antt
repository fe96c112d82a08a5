use Rattle.pv_laws_answers.proofs.AskingCalls.{execve-x}
use Rattle.pv_laws_answers.proofs.reach.execve_shows_x.Goals as goal

pub returns : goal.returns
returns c = λ program_of s pid p path place at leads plain. execve-x program_of s pid p at path place leads plain
