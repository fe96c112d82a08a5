use Rattle.std.proofs.Common.{IfSome, Option, subst, ℕ}
use Rattle.std.specs.Global.{Vec}
use Rattle.pv_explore.specs.VisitedStates.{AreLiveAt}
use Rattle.pv_explore.specs.Plan.{state_at}
use Rattle.pv_explore.specs.Searches.{visited_of, witness_at}
use Rattle.pv_explore.proofs.CachedFollowing.{valid-at}
use Rattle.pv_model.specs.Machine.{program_of}
use Rattle.pv_explore.proofs.search.Search.live.Goals as goal

pub returns-in-Some-clause-live : goal.returns-in-Some-clause-live
returns-in-Some-clause-live g c =
    let s = c.args.checkpoints.now in
    let witness = witness_at (visited_of c.args.self.now) c.args.number in
    let live = subst (λ (o : Option (Vec ℕ)). IfSome o (λ pids. AreLiveAt c.args.self.now.states c.args.number pids.items)) c.in-Some.is c.in_ok-pids.ensures in
    live (state_at program_of s witness) (valid-at s witness c.requires.whole) c.requires.there
