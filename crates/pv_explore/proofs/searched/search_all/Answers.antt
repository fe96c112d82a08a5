use Rattle.std.proofs.Common.{subst, sym}
use Rattle.pv_explore.specs.Searches.{AreAt}
use Rattle.pv_explore.proofs.CachedFollowing.{first-at}
use Rattle.pv_explore.proofs.searched.search_all.Goals as goal

pub search-end-requires : goal.search-end-requires
search-end-requires g c = subst (AreAt c.args.first_machine.now) (sym c.requires) (first-at c.args.first_machine.now)
