use Rattle.std.proofs.Common.{length, ap, arith}
use Rattle.std.proofs.Math.ListN.{length-append}
use Rattle.std.proofs.lemmas.Result.{err_from_is_err_and}
use Rattle.pv_model.specs.Machine.{components, weight}
use Rattle.pv_namei.proofs.JoinedComponents.{weight-cons}
use Rattle.pv_namei.proofs.joined.push_components.Goals as goal

pub returns-in_err-push_bytes-clause-too_long : goal.returns-in_err-push_bytes-clause-too_long
returns-in_err-push_bytes-clause-too_long c =
    let p = err_from_is_err_and c.from_residual.result c.from_residual.ensures.1 in
    rw (p.1)
    (omega (arith, ap weight c.in-Some.ensures.parts, weight-cons c.in-Some.component.now (components c.in-Some.following.now), c.in_err-push_bytes.ensures.too_long))

pub returns-in_err-push_bytes-2-clause-too_long : goal.returns-in_err-push_bytes-2-clause-too_long
returns-in_err-push_bytes-2-clause-too_long c =
    let p = err_from_is_err_and c.from_residual-in_err-push_bytes-2.result c.from_residual-in_err-push_bytes-2.ensures.1 in
    rw (p.1)
    (omega (arith, ap weight c.in-Some.ensures.parts, weight-cons c.in-Some.component.now (components c.in-Some.following.now), ap length c.in_ok-push_bytes.ensures.ok, length-append c.loop-component.bytes.items c.in-Some.component.now, c.in_err-push_bytes-2.ensures.too_long))
