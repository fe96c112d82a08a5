use Rattle.std.proofs.Common.{◌∙◌, ap, sym}
use Rattle.pv_procs.specs.Slots.{adopted}
use Rattle.pv_procs.proofs.ElementSteps.{mapped_further}
use Rattle.pv_procs.proofs.ending.adopt_orphans.Goals as goal

pub loop-k-preserved : goal.loop-k-preserved
loop-k-preserved c =
    mapped_further (adopted c.args.old c.args.new) c.args.slots.now c.loop-k.slots c.loop-k.k c.index-slots-k.result c.adopt.new.slot
    c.loop-k-test.true c.loop-k.invariant c.index-slots-k.is
    (c.adopt.ensures ∙ ap (adopted c.args.old c.args.new) (sym c.index-slots-k.is))
