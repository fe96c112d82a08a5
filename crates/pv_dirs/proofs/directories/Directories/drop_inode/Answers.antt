use Rattle.std.proofs.Common.{ap, ◌∙◌}
use Rattle.pv_model.specs.Machine.{Tree}
use Rattle.pv_dirs.specs.Trees.{tree_of_files, without_node}
use Rattle.pv_dirs.proofs.ChangedIndex.{indexed-without}
use Rattle.pv_dirs.proofs.FileTrees.{tree_of_files-without, holding-without}
use Rattle.pv_dirs.proofs.TreeViews.{viewed_used}
use Rattle.pv_dirs.proofs.directories.Directories.drop_inode.Goals as goal

pub drop_inode-requires : goal.drop_inode-requires
drop_inode-requires c = viewed_used c.self.inside.inodes c.args.self.now c.args.inode c.self.view_is c.requires

pub invariant_of-self : goal.invariant_of-self
invariant_of-self c =
    rw c.drop_inode.ensures record {
      holding = holding-without c.self.inside.inodes c.self.inside.block_count c.args.inode c.self.invariant.holding;
      indexed = indexed-without c.self.inside.inodes c.args.inode c.self.inside.index.value c.self.invariant.indexed;
    }

pub returns : goal.returns
returns c = ap tree_of_files c.drop_inode.ensures ∙ tree_of_files-without c.self.inside.inodes c.args.inode ∙ ap (λ (t : Tree). without_node t c.args.inode) c.self.view_is
