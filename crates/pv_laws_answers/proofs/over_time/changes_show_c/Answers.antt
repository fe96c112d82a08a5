use Rattle.pv_laws_answers.proofs.GoverningChanges.{changes-show}
use Rattle.pv_laws_answers.proofs.over_time.changes_show_c.Goals as goal

pub returns : goal.returns
returns c = changes-show
