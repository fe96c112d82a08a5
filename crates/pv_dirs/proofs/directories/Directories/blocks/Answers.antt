use Rattle.std.proofs.Common.{◌+◌, ◌≤◌, sym, ap, subst, ◌∙◌}
use Rattle.pv_model.specs.Machine.{inode_blocks, greatest_blocks, Tree}
use Rattle.pv_dirs.proofs.FileTrees.{blocks-tree_of_files, sizes-tree_of_files}
use Rattle.pv_dirs.proofs.directories.Directories.blocks.Goals as goal

pub returns-clause-value : goal.returns-clause-value
returns-clause-value c = sym c.self.invariant.holding.sized ∙ sym (blocks-tree_of_files c.self.inside.inodes) ∙ ap (λ (t : Tree). t.blocks) c.self.view_is

pub returns-clause-allowed : goal.returns-clause-allowed
returns-clause-allowed c =
    subst (λ (t : Tree). inode_blocks t.version t.inodes + 1 + c.self.inside.block_count ≤ greatest_blocks t.version) c.self.view_is
    (sizes-tree_of_files c.self.inside.inodes c.self.inside.block_count c.self.invariant.holding)
