use Rattle.std.proofs.Common.{◌≡◌, ◌≤◌, ◌<◌, true, ap, map, length, ℕ, arith}
use Rattle.std.specs.Global.{Vec}
use Rattle.pv_state_encoding.proofs.StateGroups.{parts-end, parts-start, parts-unused, parts-used}
use Rattle.pv_state_encoding.proofs.trees.group_of_nodes.Goals as goal
use Rattle.pv_state_encoding.proofs.trees.group_of_nodes.Goals.{then-is_used+in_ok-push_used+in_ok-push_part, else-is_used+in_ok-push_number}

pub loop-node-init : goal.loop-node-init
loop-node-init c = parts-start c.args.tree.now.tree.nodes _ _ (ap (map (λ (p : Vec ℕ). p.items)) c.new-group.ensures.items) c.new-part.ensures.items

pub loop-node-preserved : goal.loop-node-preserved
loop-node-preserved c =
    let nodes = c.args.tree.now.tree.nodes in
    let inside : c.loop-node.node < length c.args.tree.now.tree.nodes = omega (arith, c.loop-node-test.true, c.sizes-sizes.ensures.inodes, c.sizes-sizes.ensures.present.well_formed.numbers) in
    elim c.if-is_used.branch [
      | then-is_used+in_ok-push_used+in_ok-push_part w ↦
          rw (w.group-is, w.part-is) (parts-used nodes c.loop-node.node _ _ _ _ _ inside (c.is_used.ensures.0 w.if-is_used.true) w.in_ok-push_used.ensures w.in_ok-push_part.ensures w.new-part-then-is_used.ensures.items c.loop-node.invariant)
      | else-is_used+in_ok-push_number w ↦
          rw (w.group-is, w.part-is) (parts-unused nodes c.loop-node.node _ _ _ inside (λ some. let used : c.is_used.result ≡ true = c.is_used.ensures.1 some in let unused = w.if-is_used.false in cc) w.in_ok-push_number.ensures c.loop-node.invariant)
    ]

pub returns : goal.returns
returns c =
    let past : length c.args.tree.now.tree.nodes ≤ c.loop-node.node = omega (arith, c.loop-node-test.false, c.sizes-sizes.ensures.inodes, c.sizes-sizes.ensures.present.well_formed.numbers) in
    parts-end c.args.tree.now.tree.nodes c.loop-node.node _ _ _ past c.in_ok-push_part-2.ensures c.loop-node.invariant
