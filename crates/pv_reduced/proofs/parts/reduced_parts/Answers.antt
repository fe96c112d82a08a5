use Rattle.std.proofs.Common.{◌∙◌, ◌++◌, List, ap, map, ℕ}
use Rattle.std.specs.Global.{Vec}
use Rattle.pv_laws_classes.specs.Canonical.{index_in}
use Rattle.pv_reduced.specs.Keys.{ordered_files}
use Rattle.pv_reduced.proofs.StateKeys.{all_parts, all_under}
use Rattle.pv_state_encoding.specs.Groups.{files_part, parts_of}
use Rattle.pv_reduced.proofs.parts.reduced_parts.Goals as goal

pub returns : goal.returns
returns c =
    let processes = c.processes-processes.result.now in
    let same = c.processes-processes.ensures in
    let two = parts_of c.push_part-2.new.parts in
    let records = c.in_ok-push_processes.ensures ∙ ap (λ (ns : List ℕ). parts_of c.push_part-2.new.parts ++ all_under (index_in ns) c.processes-processes.result.now.processes) c.deref.ensures.value in
    let files = c.in_ok-part_of_files.ensures ∙ ap (λ (ns : List ℕ). files_part (ordered_files c.files.result.now.files ns)) c.deref-2.ensures.value in
    all_parts c.args.bound c.args.state.now processes processes processes c.files.result.now.files c.tree.result.now.tree c.tree-2.result.now.tree c.in_ok-order.order.items
    (parts_of c.new-parts.result) (parts_of c.push_part.new.parts) two (parts_of c.push_processes.new.parts) (parts_of c.push_part-3.new.parts) (parts_of c.push_part-4.new.parts) (parts_of c.push_parts.new.parts)
    _ _ _ _ _ (ap (map (λ (p : Vec ℕ). p.items)) c.new-parts.ensures.items) c.in_ok-push_part.ensures c.in_ok-push_part-2.ensures records c.in_ok-push_part-3.ensures c.in_ok-push_part-4.ensures c.in_ok-push_parts.ensures
    c.in_ok-part_of_bound.ensures c.in_ok-part_of_counts.ensures files c.in_ok-part_of_sizes.ensures c.in_ok-group_of_nodes.ensures c.in_ok-order.ensures same same same c.files.ensures c.tree.ensures c.tree-2.ensures
