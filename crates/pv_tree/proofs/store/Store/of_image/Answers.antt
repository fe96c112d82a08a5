use Rattle.std.proofs.Common.{ap, ◌∙◌}
use Rattle.std.specs.Prelude.{slice_index}
use Rattle.pv_tree.specs.Holding.{HeldTree}
use Rattle.pv_tree.proofs.RootTree.{zeros-at}
use Rattle.pv_tree.proofs.store.Store.of_image.Goals as goal

pub invariant_of-result : goal.invariant_of-result
invariant_of-result c = λ n. ap (λ (t : HeldTree). slice_index t.holds n) c.in_ok-new.ensures.ok ∙ ap (λ holds. slice_index holds n) c.in_ok-tree.ensures.holds ∙ zeros-at 4097 n

pub returns : goal.returns
returns c = λ t is. ap (λ (h : HeldTree). h.tree) c.in_ok-new.ensures.ok ∙ c.in_ok-tree.ensures.tree t is
