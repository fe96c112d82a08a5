use Rattle.std.proofs.Common.{◌≡◌, ◌∙◌, ap, get_or, slice_set}
use Rattle.pv_policy.specs.Noting.{noted_in}
use Rattle.pv_policy.specs.Usage.{promise_by}
use Rattle.pv_policy.proofs.MappedFronts.{mapped, mapped-get, mapped-set}
use Rattle.pv_policy.proofs.promises.add_to_each.Goals as goal

pub loop-k-preserved : goal.loop-k-preserved
loop-k-preserved c =
    let f = promise_by c.args.needed.now c.args.either (noted_in c.args.call.now) in
    let uses = c.args.uses.now in
    let k = c.loop-k.k in
    let x = c.index-uses-k.result in
    ap (slice_set c.loop-k.uses k) c.in_ok-add.ensures
    ∙ ap (λ us. slice_set us k (f (get_or us k x))) c.loop-k.invariant
    ∙ ap (λ u. slice_set (mapped f k uses) k (f u)) (mapped-get f k uses x)
    ∙ mapped-set f k uses x c.loop-k-test.true
