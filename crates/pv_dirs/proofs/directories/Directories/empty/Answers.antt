use Rattle.std.proofs.Common.{◌+◌, ◌≤◌, ap, sym, subst, ◌∙◌}
use Rattle.pv_model.specs.Machine.{inode_blocks, greatest_blocks}
use Rattle.pv_dirs.proofs.EmptyTrees.{holding-empty, nodes-empty, inodes-empty}
use Rattle.pv_dirs.proofs.ChangedIndex.{indexed-empty}
use Rattle.pv_dirs.proofs.FileTrees.{blocks-tree_of_files, version-tree_of_files}
use Rattle.pv_dirs.proofs.directories.Directories.empty.Goals as goal

pub invariant_of-result : goal.invariant_of-result
invariant_of-result c =
    let version = c.empty-inodes.ensures.version in
    record {
      holding = holding-empty c.empty-inodes.result c.args.inodes c.empty-inodes.ensures.nodes c.free-block_count.result c.args.blocks c.free-block_count.ensures
          (ap (λ v. c.empty-inodes.result.blocks + inode_blocks v c.args.inodes + 1) version ∙ c.empty-inodes.ensures.blocks)
          (subst (λ v. c.args.blocks ≤ greatest_blocks v) (sym version) c.requires.sizes.few_blocks);
      indexed = indexed-empty c.empty-inodes.result c.args.inodes c.in_ok-index.index.value c.empty-inodes.ensures.nodes;
    }

pub returns-clause-nodes : goal.returns-clause-nodes
returns-clause-nodes c = nodes-empty c.empty-inodes.result c.args.inodes c.empty-inodes.ensures.nodes

pub returns-clause-blocks : goal.returns-clause-blocks
returns-clause-blocks c = ap (λ n. n + inode_blocks c.args.version c.args.inodes + 1) (blocks-tree_of_files c.empty-inodes.result) ∙ c.empty-inodes.ensures.blocks

pub returns-clause-inodes : goal.returns-clause-inodes
returns-clause-inodes c = inodes-empty c.empty-inodes.result c.args.inodes c.empty-inodes.ensures.nodes

pub returns-clause-version : goal.returns-clause-version
returns-clause-version c = version-tree_of_files c.empty-inodes.result ∙ c.empty-inodes.ensures.version
