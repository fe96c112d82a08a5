use Rattle.pv_laws_classes.proofs.ReducedSearch.{reduced-text}
use Rattle.pv_laws_classes.proofs.reduced.each_text_is_reported_reduced.Goals as goal

pub returns : goal.returns
returns c = reduced-text
