use Rattle.std.proofs.Common.{ap, sym, ◌∙◌}
use Rattle.pv_model.specs.Machine.{node_at}
use Rattle.pv_model.specs.Walk.{along}
use Rattle.pv_namei.specs.Onward.{following, entered}
use Rattle.pv_namei.proofs.NodeKinds.{directory-entered}
use Rattle.pv_namei.proofs.WalkSteps.{walk_with_links-along}
use Rattle.pv_namei.proofs.walk.WalkState.enter.Goals as goal

pub returns-in-Directory-2-clause-onward : goal.returns-in-Directory-2-clause-onward
returns-in-Directory-2-clause-onward c =
    let t = c.args.tree.now.tree in
    let w = c.args.self.now in
    let rest = c.args.rest.now in
    ap (entered t w rest c.args.component.now) c.in-Some.is
    ∙ directory-entered t w.last (following t w.last w.links) (along t w.last (following t w.last w.links) rest w.mark) w.at c.args.component.now rest w.mark c.in-Some.number (node_at t c.in-Some.number)
    c.in-Directory-2.ensures (sym c.is_empty-is_last.ensures ∙ c.if-is_last-2.false)
    ∙ sym (walk_with_links-along t w.last w.links rest w.mark c.in-Some.number)
