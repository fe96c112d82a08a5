use Rattle.std.proofs.Common.{◌∙◌, ap, ap₂, ℕ, List, [], ◌∷◌, ◌++◌, length, map}
use Rattle.pv_model.specs.Machine.{Bytes}
use Rattle.pv_answers.specs.OfProcs.ProcessTable.{ProcessTable}
use Rattle.pv_state_encoding.specs.Groups.{counts_part}
use Rattle.pv_state_encoding.specs.Encoded.{OwnedGroup, encoded, encoded_all, encoded_record, plain, tree_groups}
use Rattle.pv_state_encoding.proofs.states.encoded_state.Goals as goal

pub returns : goal.returns
unfolding encoded
returns c =
    let counts = c.in_ok-group_of_counts.ensures ∙ ap₂ (λ (n : ℕ) (t : ProcessTable). counts_part n (length t.processes) ∷ []) c.requires c.processes.ensures in
    let first = c.in_ok-push_plain.ensures ∙ ap₂ (λ (all : List OwnedGroup) (g : List Bytes). all ++ plain g ∷ []) (ap encoded_all c.new-encoded.ensures.items) counts in
    let second = c.in_ok-push_encoded_processes.ensures ∙ ap₂ (λ (all : List OwnedGroup) (t : ProcessTable). all ++ map encoded_record t.processes) first c.processes-2.ensures in
    c.in_ok-push_trees.ensures ∙ ap (λ (all : List OwnedGroup). all ++ map plain (tree_groups c.args.parts.now)) second
