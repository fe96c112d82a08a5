use Rattle.std.proofs.Common.{◌≤◌, length, arith}
use Rattle.std.proofs.lemmas.List.{length-take-le}
use Rattle.pv_source.proofs.explaining.saying.say_excerpt.Goals as goal

pub slice_bounds-say-end : goal.slice_bounds-say-end
slice_bounds-say-end c =
    let long : 57 ≤ length c.args.bytes.now = omega (arith, c.if-bytes-le-EXCERPT.false) in
    omega (arith, length-take-le 57 c.args.bytes.now long)
