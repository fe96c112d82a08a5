use Rattle.pv_laws_answers.proofs.AskingCalls.{rename-exact}
use Rattle.pv_laws_answers.proofs.reach.rename_is_exact.Goals as goal

pub returns : goal.returns
returns c = λ program_of s pid p path new from into at fits end last. rename-exact program_of s pid p at path new from into fits end last
