use Rattle.pv_laws_trees.proofs.Ancestors.{parents-lead}
use Rattle.pv_laws_trees.proofs.tree.parents_lead_to_root.Goals as goal

pub returns : goal.returns
returns c = parents-lead
