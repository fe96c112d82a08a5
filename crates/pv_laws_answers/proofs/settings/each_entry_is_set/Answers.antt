use Rattle.pv_laws_answers.proofs.EntrySettings.{settings-long}
use Rattle.pv_laws_answers.proofs.settings.each_entry_is_set.Goals as goal

pub returns : goal.returns
returns c = λ program_of encodes s pids k p whole bare at. settings-long program_of encodes s whole bare pids k p at
