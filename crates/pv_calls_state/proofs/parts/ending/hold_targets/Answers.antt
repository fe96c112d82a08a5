-- The directory of each target exists and gets one more reference.
use Rattle.std.proofs.Common.{◌∙◌}
use Rattle.pv_calls_state.proofs.TargetDirectories.{hold-there, hold-few, hold-next}
use Rattle.pv_calls_state.proofs.parts.ending.hold_targets.Goals as goal

pub hold-requires-clause-node : goal.hold-requires-clause-node
hold-requires-clause-node c =
    hold-there c.args.table.now.table c.loop-k.k c.target.result.now c.directory_of.result c.target.ensures c.directory_of.ensures c.args.tree.now c.loop-k.tree
    c.loop-k.invariant.nodes c.loop-k.invariant.holds c.requires.there

pub hold-requires-clause-few : goal.hold-requires-clause-few
hold-requires-clause-few c =
    hold-few c.args.table.now.table c.loop-k.k c.target.result.now c.directory_of.result c.target.ensures c.directory_of.ensures c.args.tree.now c.loop-k.tree
    c.loop-k.invariant.nodes c.loop-k.invariant.holds c.requires.room

pub loop-k-preserved : goal.loop-k-preserved
loop-k-preserved c = record {
  nodes = c.hold.ensures.tree ∙ c.loop-k.invariant.nodes;
  holds = hold-next c.args.table.now.table c.loop-k.k c.target.result.now c.directory_of.result c.target.ensures c.directory_of.ensures c.args.tree.now c.loop-k.tree
      c.loop-k.invariant.nodes c.loop-k.invariant.holds c.hold.new.self c.hold.ensures.more c.hold.ensures.others;
}
