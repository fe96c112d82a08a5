use Rattle.pv_reduced.proofs.LivenessComputation.{live-past, live-there}
use Rattle.pv_reduced.proofs.liveness.live_at.Goals as goal

pub returns-in-Some : goal.returns-in-Some
returns-in-Some c = λ program is. live-there program c.args.lines.now c.from.result c.args.line c.in-Some.live.now c.in-Some.ensures.lookup.0 c.in-Some.ensures.lookup.1 c.from.ensures is

pub returns-in-None : goal.returns-in-None
returns-in-None c = λ program is. live-past program c.args.lines.now c.from.result c.args.line c.in-None.ensures.lookup.0 c.from.ensures is
