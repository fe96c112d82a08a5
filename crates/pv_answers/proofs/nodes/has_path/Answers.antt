use Rattle.std.proofs.Common.{◌∙◌, ap, sym}
use Rattle.std.specs.Prelude.{is_some, nat_lt}
use Rattle.std.proofs.lemmas.Bool.{eq-eqb}
use Rattle.pv_model.specs.Machine.{node_path}
use Rattle.pv_answers.proofs.NodePaths.{counted-path, root-path, unused-path, unused-by}
use Rattle.pv_answers.proofs.nodes.has_path.Goals as goal

pub returns-then-node-eq-ROOT : goal.returns-then-node-eq-ROOT
returns-then-node-eq-ROOT c =
    let t = c.args.tree.now.tree in
    eq-eqb c.args.node 1 c.if-node-eq-ROOT.true
    ∙ sym (ap (λ n. is_some (node_path t n)) c.if-node-eq-ROOT.true ∙ root-path t c.sizes.ensures.present.well_formed)

pub returns-then-is_used : goal.returns-then-is_used
returns-then-is_used c =
    ap (nat_lt 0) c.names.ensures ∙ sym (counted-path c.args.tree.now.tree c.sizes.ensures.present.well_formed c.args.node c.if-node-eq-ROOT.false)

pub returns-else-is_used : goal.returns-else-is_used
returns-else-is_used c =
    let t = c.args.tree.now.tree in
    c.if-is_used.false ∙ sym (unused-path t c.sizes.ensures.present.well_formed c.args.node c.if-node-eq-ROOT.false (unused-by t c.args.node c.is_used.result c.if-is_used.false c.is_used.ensures.1))
