use Rattle.std.proofs.Common.{◌∙◌, ◌∷◌, ◌++◌, [], ap, ap₂, length, map, ℕ}
use Rattle.pv_model.specs.Machine.{Tree}
use Rattle.pv_answers.specs.OfProcs.ProcessTable.{ProcessTable}
use Rattle.pv_state_encoding.specs.Groups.{counts_part, groups_of, node_parts, record_parts}
use Rattle.pv_state_encoding.proofs.StateGroups.{all-grouped}
use Rattle.pv_state_encoding.proofs.states.state_groups.Goals as goal

pub returns : goal.returns
returns c =
    let one = groups_of c.push_group.new.groups.items in
    all-grouped c.args.parts.now _ _ _ _ _ _ _ _ (ap groups_of c.new-groups.ensures.items) c.in_ok-push_group.ensures
    (c.in_ok-push_process_groups.ensures ∙ ap (λ (t : ProcessTable). one ++ map record_parts t.processes) c.processes-2.ensures)
    c.in_ok-push_group-2.ensures c.in_ok-push_group-3.ensures
    (c.in_ok-group_of_counts.ensures ∙ ap₂ (λ (n : ℕ) (t : ProcessTable). counts_part n (length t.processes) ∷ []) c.requires c.processes.ensures)
    c.in_ok-group_of_files.ensures (c.in_ok-group_of_nodes.ensures ∙ ap (λ (t : Tree). node_parts [] t.nodes) c.tree.ensures)
