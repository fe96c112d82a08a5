use Rattle.pv_laws_answers.proofs.CompleteSearches.{all-found}
use Rattle.pv_laws_answers.proofs.search.complete_has_all.Goals as goal

pub returns : goal.returns
returns c = λ program_of limit s pids it complete. all-found program_of limit s it complete pids
