use Rattle.std.proofs.Common.{[], nat_le, subst, sym}
use Rattle.std.proofs.lemmas.Result.{on_ok_weaker}
use Rattle.pv_model.specs.declared.walk.Walks.{Walks}
use Rattle.pv_model.specs.Machine.{walk_of}
use Rattle.pv_model.specs.CallRef.{walks_in}
use Rattle.pv_needs.specs.Asking.{begun_walks, judged_if_begun}
use Rattle.pv_policy.specs.Asked.{Has}
use Rattle.pv_policy.proofs.asked.push_walks.Goals as goal

pub returns-in-One : goal.returns-in-One
returns-in-One c =
    let s = c.args.parts.now in
    let pid = c.args.pid in
    on_ok_weaker c.push_walk.result
    (λ e me lives has. subst (λ (ws : Walks). Has s pid me (begun_walks s pid me (walks_in ws) c.args.count) c.push_walk.new.asked) (sym c.in-One.is) (e me lives [] has))
    c.push_walk.ensures

pub returns-in_ok-push_walk-in-Two : goal.returns-in_ok-push_walk-in-Two
returns-in_ok-push_walk-in-Two c =
    let s = c.args.parts.now in
    let pid = c.args.pid in
    on_ok_weaker c.push_walk-in-Two-2.result
    (λ e me lives has. subst (λ (ws : Walks). Has s pid me (begun_walks s pid me (walks_in ws) c.args.count) c.push_walk-in-Two-2.new.asked) (sym c.in-Two.is)
    (e me lives (judged_if_begun s pid me (nat_le 1 c.args.count) (walk_of c.in-Two.first)) (c.in_ok-push_walk-in-Two.ensures me lives [] has)))
    c.push_walk-in-Two-2.ensures
