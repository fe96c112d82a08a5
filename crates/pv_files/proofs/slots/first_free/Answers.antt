use Rattle.pv_files.proofs.ViewedMaps.{least_free_found}
use Rattle.pv_files.proofs.slots.first_free.Goals as goal

pub returns : goal.returns
returns g c = least_free_found c.args.slots.now c.first_empty.result c.first_empty.ensures
