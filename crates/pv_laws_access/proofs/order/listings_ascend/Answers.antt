use Rattle.pv_laws_access.proofs.ListingOrder.{places, listed-by}
use Rattle.pv_laws_access.proofs.order.listings_ascend.Goals as goal

pub returns : goal.returns
returns c = λ t w. (places t w, listed-by t w)
