use Rattle.pv_laws_classes.proofs.ShownLaws.{each-process}
use Rattle.pv_laws_classes.proofs.shown.each_process_is_seen.Goals as goal

pub returns : goal.returns
returns c = each-process
