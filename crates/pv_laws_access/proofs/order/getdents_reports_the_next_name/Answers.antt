use Rattle.pv_laws_access.proofs.NextNames.{reports-next}
use Rattle.pv_laws_access.proofs.order.getdents_reports_the_next_name.Goals as goal

pub returns : goal.returns
returns c = λ program_of s pid me d k file whole made open_is directory. reports-next program_of s pid me d k file made open_is directory whole
