use Rattle.pv_laws_answers.proofs.GoverningChanges.{come-by_changes}
use Rattle.pv_laws_answers.proofs.over_time.letters_come_by_changes.Goals as goal

pub returns : goal.returns
returns c = λ program_of encodes s pid p q table d name whole own dir comes. come-by_changes program_of encodes s pid p q table d name whole own dir comes
