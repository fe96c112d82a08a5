use Rattle.pv_laws_answers.proofs.CompleteSearches.{all-reported}
use Rattle.pv_laws_answers.proofs.search.each_text_is_reported.Goals as goal

pub returns : goal.returns
returns c = λ program_of limit s pids pid it complete. all-reported program_of limit s it complete pids pid
