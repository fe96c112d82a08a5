use Rattle.pv_laws_access.proofs.TableLines.{lines-say}
use Rattle.pv_laws_access.proofs.table_refusals.lines_say_what_decided.Goals as goal

pub returns : goal.returns
returns c = lines-say
