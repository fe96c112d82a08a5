use Rattle.std.proofs.Common.{◌∙◌, ap, ap₂, append_assoc, List, [], ◌∷◌, ◌++◌}
use Rattle.std.proofs.lemmas.Result.{on_ok_weaker}
use Rattle.pv_model.specs.Machine.{Bytes, Tree}
use Rattle.pv_state_encoding.specs.Groups.{files_part, tree_part, node_parts}
use Rattle.pv_state_encoding.specs.Encoded.{OwnedGroup, encoded_all, plain}
use Rattle.pv_state_encoding.proofs.states.push_trees.Goals as goal

pub returns : goal.returns
returns c =
    let old = encoded_all c.args.encoded.now.items in
    let files = plain (files_part c.args.parts.now.files ∷ tree_part c.args.parts.now.tree ∷ []) in
    let first = c.in_ok-push_plain.ensures ∙ ap (λ (g : List Bytes). encoded_all c.args.encoded.now.items ++ plain g ∷ []) c.in_ok-group_of_files.ensures in
    let nodes = c.in_ok-group_of_nodes.ensures ∙ ap (λ (t : Tree). node_parts [] t.nodes) c.tree.ensures in
    on_ok_weaker c.push_plain-2.result
    (λ last. last ∙ ap₂ (λ (all : List OwnedGroup) (g : List Bytes). all ++ plain g ∷ []) first nodes ∙ append_assoc old (files ∷ []) (plain (node_parts [] c.args.parts.now.tree.nodes) ∷ []))
    c.push_plain-2.ensures
