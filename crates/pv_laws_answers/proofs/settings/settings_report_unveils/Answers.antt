use Rattle.pv_laws_answers.proofs.EntrySettings.{settings-report}
use Rattle.pv_laws_answers.proofs.settings.settings_report_unveils.Goals as goal

pub returns : goal.returns
returns c = λ program_of encodes s pids k p number setting whole bare at is. settings-report program_of encodes s whole bare pids k p number setting at is
