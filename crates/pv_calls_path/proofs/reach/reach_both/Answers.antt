use Rattle.std.proofs.Common.{◌∙◌}
use Rattle.std.proofs.lemmas.Result.{err_from_is_err_and}
use Rattle.pv_model.specs.Machine.{walk_of}
use Rattle.pv_calls_path.proofs.CheckedWalks.{reached_then}
use Rattle.pv_calls_path.proofs.reach.reach_both.Goals as goal

pub returns-in_err-place-clause-missed : goal.returns-in_err-place-clause-missed
returns-in_err-place-clause-missed g c =
    let p = err_from_is_err_and c.from_residual.result c.from_residual.ensures.1 in
    rw (p.1, p.2) (λ me at rest. c.in_err-place.ensures.stops.stopped me at _)

pub returns-in_err-other-clause-missed : goal.returns-in_err-other-clause-missed
returns-in_err-other-clause-missed g c =
    let s = c.args.parts.now in
    let p = err_from_is_err_and c.from_residual-in_err-other.result c.from_residual-in_err-other.ensures.1 in
    rw (p.1, p.2) (λ me at rest. reached_then s me me.directory (walk_of c.args.first) c.in_ok-place.place (c.in_ok-place.ensures.reaches.reached me at) _
    ∙ c.in_err-other.ensures.stops me at _)
