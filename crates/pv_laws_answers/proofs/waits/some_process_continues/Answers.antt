use Rattle.pv_laws_answers.proofs.WaitingProcesses.{some-continues}
use Rattle.pv_laws_answers.proofs.waits.some_process_continues.Goals as goal

pub returns : goal.returns
returns c = λ program_of s pid p whole all at. some-continues program_of s whole all pid p at
