use Rattle.std.proofs.Common.{◌∙◌, ◌++◌, ◌∷◌, [], ℕ, Bool, List, ap, filter, get_or, sym, take}
use Rattle.std.proofs.lemmas.List.{take_more}
use Rattle.std.proofs.lemmas.List.Elements.{filter-append}
use Rattle.pv_model_questions.specs.AboutFiles.{keeps_node}
use Rattle.pv_named_files.specs.FirstPaths.{files_given, first_tree}
use Rattle.pv_named_files.proofs.GivenFiles.{take-past}
use Rattle.pv_named_files.proofs.first_paths.FirstPaths.kept.Goals as goal

pub loop-node-preserved : goal.loop-node-preserved
loop-node-preserved c =
    let ns = c.args.nodes.now in
    let i = c.loop-node.node-index in
    let keeps : ℕ → Bool = keeps_node (files_given c.args.self.now) (first_tree c.args.self.now) c.args.tree.now.tree in
    c.in_ok-push_kept.ensures
    ∙ ap (λ (ms : List ℕ). ms ++ filter keeps (get_or ns i 0 ∷ [])) c.loop-node.invariant
    ∙ sym (ap (filter keeps) (take_more ns i 0 c.loop-node-test.true) ∙ filter-append keeps (take i ns) (get_or ns i 0 ∷ []))

pub returns : goal.returns
returns c =
    let keeps : ℕ → Bool = keeps_node (files_given c.args.self.now) (first_tree c.args.self.now) c.args.tree.now.tree in
    c.loop-node.invariant ∙ ap (filter keeps) (take-past c.args.nodes.now c.loop-node.node-index c.loop-node-test.false)
