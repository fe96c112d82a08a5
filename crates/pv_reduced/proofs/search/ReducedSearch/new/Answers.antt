use Rattle.std.proofs.Common.{refl}
use Rattle.pv_reduced.proofs.ReducedSearchSteps.{first-is}
use Rattle.pv_reduced.proofs.search.ReducedSearch.new.Goals as goal

pub returns : goal.returns
returns g c =
    first-is c.args.first_machine.now c.machine-position.result.now _ _ _ _ _ _ c.machine-position.ensures c.in_ok-bounds.ensures c.in_ok-lists.ensures c.new.ensures c.new-2.ensures c.in_ok-endings.ensures refl
