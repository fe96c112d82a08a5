use Rattle.std.proofs.Common.{arith}
use Rattle.pv_image_write.specs.OfDirs.Trees.{node_bytes_at}
use Rattle.pv_model.specs.Machine.{node_at}
use Rattle.pv_state_encoding.proofs.TreeNumbers.{added_run, added_runs}
use Rattle.pv_state_encoding.proofs.trees.push_runs.Goals as goal

pub loop-at-preserved : goal.loop-at-preserved
loop-at-preserved c = record {
  within = omega (arith, c.lend-part.ensures.within);
  added = added_run (node_bytes_at c.args.tree.now.tree c.args.node) c.lend-part.result.now c.loop-at.at _ _ _ c.lend-part.ensures.run c.loop-at.invariant.added c.in_ok-push_items.ensures;
}

pub returns : goal.returns
returns c = added_runs (node_at c.args.tree.now.tree c.args.node) c.size-size.result c.loop-at.at _ _ c.requires.other c.size-size.ensures.value (omega arith) c.loop-at.invariant.added
