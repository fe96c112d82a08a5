use Rattle.std.proofs.Common.{◌≡◌, ◌+◌, subst, arith}
use Rattle.pv_model.specs.Machine.{Tree}
use Rattle.pv_dirs.specs.Trees.{total_need}
use Rattle.pv_dirs.proofs.FileTrees.{blocks-tree_of_files, total_need-tree_of_files}
use Rattle.pv_dirs.proofs.directories.Directories.free.Goals as goal

pub returns : goal.returns
returns c =
    subst (λ (t : Tree). c.free.result + total_need t ≡ t.blocks) c.self.view_is
    (omega (arith, total_need-tree_of_files c.self.inside.inodes c.self.inside.block_count c.self.invariant.holding, blocks-tree_of_files c.self.inside.inodes, c.free.ensures))
