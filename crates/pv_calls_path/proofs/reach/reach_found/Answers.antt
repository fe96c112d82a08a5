use Rattle.std.proofs.lemmas.Result.{err_from_is_err_and}
use Rattle.pv_model.specs.Machine.{demand, ◌>>=◌, node_of}
use Rattle.pv_model.specs.declared.errno.Errno.TheVariants.{ENOENT}
use Rattle.pv_calls_path.proofs.reach.reach_found.Goals as goal

pub returns-in_err-place-clause-missed : goal.returns-in_err-place-clause-missed
returns-in_err-place-clause-missed g c =
    let p = err_from_is_err_and c.from_residual.result c.from_residual.ensures.1 in
    rw (p.1, p.2) (λ me at rest. c.in_err-place.ensures.stops.stopped me at (λ place. demand ENOENT (node_of place) >>= rest place))
