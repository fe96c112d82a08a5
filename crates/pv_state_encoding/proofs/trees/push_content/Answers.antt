use Rattle.std.proofs.lemmas.Result.{on_ok_weaker}
use Rattle.pv_model.specs.Machine.{node_at}
use Rattle.pv_state_encoding.proofs.TreeNumbers.{added_content}
use Rattle.pv_state_encoding.proofs.trees.push_content.Goals as goal

pub returns : goal.returns
returns c =
    on_ok_weaker c.push_runs.result
    (λ last. added_content (node_at c.args.tree.now.tree c.args.node) c.size.result _ _ _ c.requires.other c.size.ensures.value (rw c.from.ensures at c.in_ok-push_number.ensures) last) c.push_runs.ensures
