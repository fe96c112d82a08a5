use Rattle.std.proofs.Common.{◌∙◌, ap, IfSome, Option, subst, sym, ℕ}
use Rattle.std.specs.Global.{Vec}
use Rattle.pv_explore.specs.Plan.{live_at, state_at}
use Rattle.pv_explore.specs.Sides.{SideStates}
use Rattle.pv_explore.specs.VisitedStates.{AreLiveAt, HasNumber}
use Rattle.pv_explore.proofs.CachedFollowing.{valid-at}
use Rattle.pv_model.specs.Machine.{program_of}
use Rattle.pv_explore.proofs.side.Side.live.Goals as goal

pub returns-in-Some-clause-live : goal.returns-in-Some-clause-live
returns-in-Some-clause-live g c =
    let s = c.self.inside.checkpoints in
    let witness = c.args.witness.now in
    let live = subst (λ (o : Option (Vec ℕ)). IfSome o (λ pids. AreLiveAt c.self.inside.states c.args.number pids.items)) c.in-Some.is c.in_ok-pids.ensures in
    live (state_at program_of s witness) (valid-at s witness c.self.invariant)
    (subst (λ (x : SideStates). HasNumber x.keys c.args.number (state_at program_of x.first c.args.witness.now)) (sym c.self.view_is) c.requires.there)
    ∙ ap (λ (x : SideStates). live_at program_of x.first c.args.witness.now) c.self.view_is
