use Rattle.std.proofs.Common.{◌≡◌, ◌++◌, ◌-◌, ◌∙◌, ap, sym, subst, drop, take, length, codes, arith, ℕ, Option, Some}
use Rattle.std.proofs.lemmas.List.{take_all, drop_all}
use Rattle.pv_listing.specs.Lines.{entries_after, last_name, IsNextChild}
use Rattle.pv_listing.proofs.DirectoryNames.{past-none, last-is, front-is, length-path}
use Rattle.pv_model.specs.Machine.{Bytes, entries_at, node_at}
use Rattle.pv_host_copy.specs.declared.target.TargetFault.TheVariants.{Memory}
use Rattle.pv_host_copy.specs.Exported.{CreatesEntries, StopsExport}
use Rattle.pv_host_copy.specs.Encoded.{encodes_node, encodes_within}
use Rattle.pv_host_copy.proofs.ExportSteps.{none-within, refused, encodes_on-start, encodes_on-step, encodes_on-end, encodes_on-memory, encodes_on-node, encodes_on-within, stops-within}
use Rattle.pv_host_copy.proofs.exporting.+export_within.Goals as goal
use Rattle.pv_host_copy.proofs.exporting.+export_within.Goals.{then-depth-eq0-via-then-depth-eq0, then-depth-eq0-via-else-depth-eq0+then-not-is_directory}

pub returns-then-depth-eq0-clause-made : goal.returns-then-depth-eq0-clause-made
returns-then-depth-eq0-clause-made g t c =
    let tree = c.args.tree.now.tree in
    elim c.then-depth-eq0.branch [
      | then-depth-eq0-via-then-depth-eq0 w ↦ λ start s h. rw w.if-depth-eq0.true h
      | then-depth-eq0-via-else-depth-eq0+then-not-is_directory w ↦ λ start s h.
          rw (none-within tree c.args.depth c.args.path.now.items c.args.node s (sym w.is_directory.ensures ∙ w.if-not-is_directory.true)) h
    ]

pub loop-child-init : goal.loop-child-init
loop-child-init g t c =
    let tree = c.args.tree.now.tree in
    let path = c.args.path.now.items in
    let es = entries_at tree c.args.node in
    let all : entries_after (last_name (drop c.len-base.result path)) es ≡ es =
    ap (λ bs. entries_after (last_name bs) es) (drop_all c.len-base.result path (omega arith)) ∙ past-none es in
    record {
      within = omega (arith, c.len-base.ensures);
      front = take_all c.len-base.result path (omega arith);
      encoded = encodes_on-start tree (c.args.depth - 1) path _ es c.args.firsts.now.items (g.T.HostTarget.made c.args.target.now) all;
    }

pub returns-in_err-child-clause-made : goal.returns-in_err-child-clause-made
returns-in_err-child-clause-made g t c =
    let tree = c.args.tree.now.tree in
    let path = c.args.path.now.items in
    let firsts = c.args.firsts.now.items in
    let made = g.T.HostTarget.made c.args.target.now in
    let made1 = g.T.HostTarget.made c.loop-child.target in
    let at = c.next_child.new.path.items in
    let left = entries_after (last_name (drop c.len-base.result c.loop-child.path.items)) (entries_at tree c.args.node) in
    refused firsts c.loop-child.firsts.items made made1 (encodes_within tree c.args.depth path c.args.node) at c.from_residual.result Memory c.from_residual.ensures.1
    (encodes_on-memory tree c.args.depth path c.args.node left firsts c.loop-child.firsts.items made made1 at (omega arith) c.loop-child.invariant.encoded)

pub returns-in_err-export_node-clause-made : goal.returns-in_err-export_node-clause-made
returns-in_err-export_node-clause-made g t c =
    let tree = c.args.tree.now.tree in
    let path = c.args.path.now.items in
    let firsts = c.args.firsts.now.items in
    let es = entries_at tree c.args.node in
    let base = c.len-base.result in
    let last = last_name (drop base c.loop-child.path.items) in
    let made = g.T.HostTarget.made c.args.target.now in
    let made1 = g.T.HostTarget.made c.loop-child.target in
    let made2 = g.T.HostTarget.made c.export_node.new.target in
    let child = c.in-Some.child in
    let fault = c.in_err-export_node.field-0.0 in
    let at = c.next_child.new.path.items in
    let next = subst (λ (o : Option ℕ). IsNextChild es last (take base c.loop-child.path.items) o at) c.in-Some.is c.in_ok-child.ensures in
    let ends : at ≡ path ++ codes "/" ++ next.0 = next.2 ∙ ap (λ d. d ++ codes "/" ++ next.0) c.loop-child.invariant.front in
    let stops : StopsExport (encodes_node at child (node_at tree child)) c.loop-child.firsts.items made1 made2 at fault =
    subst (λ (bs : Bytes). StopsExport (encodes_node bs child (node_at tree child)) c.loop-child.firsts.items made1 made2 bs fault) c.deref.ensures.value c.in_err-export_node.ensures in
    refused firsts c.export_node.new.firsts.items made made2 (encodes_within tree c.args.depth path c.args.node) at c.from_residual-in_err-export_node.result fault
    c.from_residual-in_err-export_node.ensures.1
    (stops-within tree c.args.depth path c.args.node firsts made made2 at fault (omega arith)
    (encodes_on-node tree (c.args.depth - 1) path at next.0 child (entries_after last es) (entries_after (Some next.0) es) es firsts c.loop-child.firsts.items firsts firsts made made1 made2 made
    c.loop-child.invariant.encoded next.1 ends at fault stops))

pub returns-in_err-export_within-clause-made : goal.returns-in_err-export_within-clause-made
returns-in_err-export_within-clause-made g t c =
    let tree = c.args.tree.now.tree in
    let path = c.args.path.now.items in
    let firsts = c.args.firsts.now.items in
    let es = entries_at tree c.args.node in
    let base = c.len-base.result in
    let last = last_name (drop base c.loop-child.path.items) in
    let made = g.T.HostTarget.made c.args.target.now in
    let made1 = g.T.HostTarget.made c.loop-child.target in
    let made2 = g.T.HostTarget.made c.export_node.new.target in
    let made3 = g.T.HostTarget.made c.export_within.new.target in
    let child = c.in-Some.child in
    let fault = c.in_err-export_within.field-0.0 in
    let at = c.next_child.new.path.items in
    let next = subst (λ (o : Option ℕ). IsNextChild es last (take base c.loop-child.path.items) o at) c.in-Some.is c.in_ok-child.ensures in
    let ends : at ≡ path ++ codes "/" ++ next.0 = next.2 ∙ ap (λ d. d ++ codes "/" ++ next.0) c.loop-child.invariant.front in
    let node : CreatesEntries (encodes_node at child (node_at tree child)) c.loop-child.firsts.items made1 c.export_node.new.firsts.items made2 =
    subst (λ (bs : Bytes). CreatesEntries (encodes_node bs child (node_at tree child)) c.loop-child.firsts.items made1 c.export_node.new.firsts.items made2) c.deref.ensures.value
    c.in_ok-export_node.ensures in
    refused firsts c.export_within.new.firsts.items made made3 (encodes_within tree c.args.depth path c.args.node) c.export_within.new.path.items
    c.from_residual-in_err-export_within.result fault c.from_residual-in_err-export_within.ensures.1
    (stops-within tree c.args.depth path c.args.node firsts made made3 c.export_within.new.path.items fault (omega arith)
    (encodes_on-within tree (c.args.depth - 1) path at next.0 child (entries_after last es) (entries_after (Some next.0) es) es firsts c.loop-child.firsts.items c.export_node.new.firsts.items firsts
    made made1 made2 made3 c.loop-child.invariant.encoded next.1 ends c.export_within.new.path.items fault node c.in_err-export_within.ensures.made))

pub loop-child-preserved : goal.loop-child-preserved
loop-child-preserved g t c =
    let tree = c.args.tree.now.tree in
    let path = c.args.path.now.items in
    let firsts = c.args.firsts.now.items in
    let es = entries_at tree c.args.node in
    let base = c.len-base.result in
    let last = last_name (drop base c.loop-child.path.items) in
    let made = g.T.HostTarget.made c.args.target.now in
    let made1 = g.T.HostTarget.made c.loop-child.target in
    let made2 = g.T.HostTarget.made c.export_node.new.target in
    let made3 = g.T.HostTarget.made c.export_within.new.target in
    let child = c.in-Some.child in
    let at = c.next_child.new.path.items in
    let long : length path ≡ base = omega (arith, c.len-base.ensures) in
    let next = subst (λ (o : Option ℕ). IsNextChild es last (take base c.loop-child.path.items) o at) c.in-Some.is c.in_ok-child.ensures in
    let name = next.0 in
    let ends : at ≡ path ++ codes "/" ++ name = next.2 ∙ ap (λ d. d ++ codes "/" ++ name) c.loop-child.invariant.front in
    let after : c.export_within.new.path.items ≡ path ++ codes "/" ++ name = c.in_ok-export_within.ensures.path ∙ ends in
    let node : CreatesEntries (encodes_node at child (node_at tree child)) c.loop-child.firsts.items made1 c.export_node.new.firsts.items made2 =
    subst (λ (bs : Bytes). CreatesEntries (encodes_node bs child (node_at tree child)) c.loop-child.firsts.items made1 c.export_node.new.firsts.items made2) c.deref.ensures.value
    c.in_ok-export_node.ensures in
    record {
      within = omega (arith, length-path path name c.export_within.new.path.items after);
      front = front-is path name c.export_within.new.path.items base long after;
      encoded =
          rw (last-is path name c.export_within.new.path.items base long after)
          (encodes_on-step tree (c.args.depth - 1) path at name child (entries_after last es) (entries_after (Some name) es) es firsts c.loop-child.firsts.items c.export_node.new.firsts.items
          c.export_within.new.firsts.items made made1 made2 made3 c.loop-child.invariant.encoded next.1 ends node c.in_ok-export_within.ensures.made);
    }

pub returns-clause-made : goal.returns-clause-made
returns-clause-made g t c =
    let tree = c.args.tree.now.tree in
    let es = entries_at tree c.args.node in
    let base = c.len-base.result in
    let last = last_name (drop base c.loop-child.path.items) in
    let next = subst (λ (o : Option ℕ). IsNextChild es last (take base c.loop-child.path.items) o c.next_child.new.path.items) c.in_default.is c.in_ok-child.ensures in
    encodes_on-end tree c.args.depth c.args.path.now.items c.args.node _ c.args.firsts.now.items c.loop-child.firsts.items (g.T.HostTarget.made c.args.target.now)
    (g.T.HostTarget.made c.loop-child.target) (omega arith) next.0 c.loop-child.invariant.encoded
