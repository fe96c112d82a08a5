use Rattle.pv_laws_answers.proofs.GoverningChanges.{unchanged-go}
use Rattle.pv_laws_answers.proofs.over_time.without_change_letters_go.Goals as goal

pub returns : goal.returns
returns c = λ program_of encodes s pid p q table d name whole own dir none. unchanged-go program_of encodes s pid p q table d name whole own dir none
