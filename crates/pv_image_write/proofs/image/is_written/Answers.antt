use Rattle.std.proofs.Common.{◌≡◌, Bool, true, false, Option, None, Some, is_some, refl, sym, ap, ◌∙◌, arith}
use Rattle.std.proofs.lemmas.Bool.{ltb-true, ltb-false}
use Rattle.pv_image_write.specs.Placed.{written_at}
use Rattle.pv_model.specs.Machine.{Node, root, node_at}
use Rattle.pv_image_write.proofs.NamedTrees.{as_written-root, as_written-named, as_written-none, as_written-free}
use Rattle.pv_image_write.proofs.image.is_written.Goals as goal

pub returns-then-node-eq-ROOT-clause-as_written : goal.returns-then-node-eq-ROOT-clause-as_written
returns-then-node-eq-ROOT-clause-as_written c is =
    let t = c.args.tree.now.tree in
    let top : c.args.node ≡ root = c.if-node-eq-ROOT.true in
    ap (written_at t) top ∙ as_written-root t ∙ ap (node_at t) (sym top)

pub returns-else-node-eq-ROOT-clause-as_written : goal.returns-else-node-eq-ROOT-clause-as_written
returns-else-node-eq-ROOT-clause-as_written c is =
    as_written-named c.args.tree.now.tree c.args.node (omega (arith, c.names.ensures, ltb-true 0 c.names.result is))

pub returns-else-node-eq-ROOT-clause-free : goal.returns-else-node-eq-ROOT-clause-free
returns-else-node-eq-ROOT-clause-free c is =
    as_written-none c.args.tree.now.tree c.args.node c.if-node-eq-ROOT.false (omega (arith, c.names.ensures, ltb-false 0 c.names.result is))

unused : (o : Option Node) (b : Bool) → (is_some o ≡ true → b ≡ true) → b ≡ false → o ≡ None
unused None b written is = refl
unused (Some node) b written is = let used = written refl in cc

pub returns-else-is_used-clause-free : goal.returns-else-is_used-clause-free
returns-else-is_used-clause-free c is =
    let t = c.args.tree.now.tree in
    as_written-free t c.args.node (unused (node_at t c.args.node) c.is_used.result c.is_used.ensures.1 is)
