use Rattle.std.proofs.Common.{◌≡◌, ap, subst, sym, ◌∙◌}
use Rattle.pv_model.specs.Machine.{Tree}
use Rattle.pv_dirs.specs.Trees.{IsHolding}
use Rattle.pv_dirs.proofs.FileTrees.{blocks-tree_of_files}
use Rattle.pv_dirs.proofs.directories.Directories.sort_slots.Goals as goal

pub invariant_of-self : goal.invariant_of-self
invariant_of-self c =
    let old = c.self.inside.inodes in
    let new = c.sort_all.new.inodes in
    let blocks : new.blocks ≡ c.self.inside.block_count = sym (blocks-tree_of_files new) ∙ ap (λ (t : Tree). t.blocks) c.sort_all.ensures.tree ∙ blocks-tree_of_files old ∙ c.self.invariant.holding.sized in
    record {
      holding = subst (IsHolding new) blocks c.sort_all.ensures.preserved;
      indexed = c.add_all.ensures;
    }
