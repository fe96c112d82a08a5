use Rattle.std.proofs.Common.{◌≡◌, ◌∙◌, ◌++◌, ◌∷◌, [], ℕ, List, ap, get_or, map, sym, take}
use Rattle.std.proofs.lemmas.List.{map-append, take_more}
use Rattle.pv_model.specs.Machine.{Bytes}
use Rattle.pv_named_files.specs.FirstPaths.{first_tree}
use Rattle.pv_exposure.specs.StateFiles.{described_file}
use Rattle.pv_exposure.proofs.ListTexts.{take-past}
use Rattle.pv_exposure.proofs.files.describe.Goals as goal

pub loop-node-preserved : goal.loop-node-preserved
loop-node-preserved c =
    let ns = c.args.nodes.now in
    let i = c.loop-node.node-index in
    let one = described_file (first_tree c.args.paths.now) c.args.tree.now.tree in
    c.in_ok-push_described.ensures
    ∙ ap (λ (xs : List (ℕ × Bytes)). xs ++ one (get_or ns i 0) ∷ []) c.loop-node.invariant
    ∙ sym (ap (map one) (take_more ns i 0 c.loop-node-test.true) ∙ map-append one (take i ns) (get_or ns i 0 ∷ []))

pub returns : goal.returns
returns c =
    let one = described_file (first_tree c.args.paths.now) c.args.tree.now.tree in
    c.loop-node.invariant ∙ ap (map one) (take-past c.args.nodes.now c.loop-node.node-index c.loop-node-test.false)
