use Rattle.pv_laws_answers.proofs.CompleteSearches.{all-endings}
use Rattle.pv_laws_answers.proofs.search.endings_are_all.Goals as goal

pub returns : goal.returns
returns c = λ program_of limit s pids it complete. all-endings program_of limit s it complete pids
