use Rattle.pv_laws_answers.proofs.GoverningChanges.{no-c_go}
use Rattle.pv_laws_answers.proofs.over_time.without_c_letters_go.Goals as goal

pub returns : goal.returns
returns c = λ program_of encodes s pid p q table d name whole own dir lacks. no-c_go program_of encodes s pid p q table d name whole own dir lacks
