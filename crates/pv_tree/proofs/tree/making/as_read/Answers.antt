use Rattle.pv_laws_trees.proofs.TreeBytes.{bytes-all}
use Rattle.pv_tree.proofs.tree.making.as_read.Goals as goal

pub returns-clause-bytes : goal.returns-clause-bytes
returns-clause-bytes c = bytes-all c.args.text.now (λ i. (c.type_inv.text i).fits)
