use Rattle.pv_laws_access.proofs.ProcessOrigins.{each-has_origin}
use Rattle.pv_laws_access.proofs.origins.each_has_an_origin.Goals as goal

pub returns : goal.returns
returns c = each-has_origin
