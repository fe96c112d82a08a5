-- The directory of each target has a reference, which is removed.
use Rattle.std.proofs.Common.{◌∙◌, ap, sym}
use Rattle.pv_procs.specs.OfTree.Holding.{collected}
use Rattle.pv_calls_state.proofs.TargetDirectories.{go-held, go-next, go-nodes}
use Rattle.pv_calls_state.proofs.parts.ending.unreference_targets.Goals as goal

pub unreference-requires : goal.unreference-requires
unreference-requires c =
    go-held c.args.table.now.table c.loop-k.k c.target.result.now c.directory_of.result c.target.ensures c.directory_of.ensures c.args.tree.now c.loop-k.tree
    c.loop-k.invariant.nodes c.loop-k.invariant.holds c.requires

pub loop-k-preserved : goal.loop-k-preserved
loop-k-preserved c = record {
  nodes = go-nodes c.args.table.now.table c.loop-k.k c.target.result.now c.directory_of.result c.target.ensures c.directory_of.ensures c.args.tree.now c.loop-k.tree
      c.loop-k.invariant.nodes c.loop-k.invariant.holds c.unreference.new.self c.unreference.ensures.less c.unreference.ensures.others c.invariant.ensures
      (c.unreference.ensures.tree ∙ ap (λ hs. collected c.loop-k.tree.tree hs) (sym c.unreference.ensures.holds));
  holds = go-next c.args.table.now.table c.loop-k.k c.target.result.now c.directory_of.result c.target.ensures c.directory_of.ensures c.args.tree.now c.loop-k.tree
      c.loop-k.invariant.nodes c.loop-k.invariant.holds c.unreference.new.self c.unreference.ensures.less c.unreference.ensures.others;
}
