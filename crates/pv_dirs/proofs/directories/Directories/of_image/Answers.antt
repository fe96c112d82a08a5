use Rattle.std.proofs.Common.{◌≡◌, ◌-◌, ◌/◌, ap, sym, subst, ◌∙◌, refl, arith}
use Rattle.pv_dirs.specs.Trees.{tree_of_files, IsHolding}
use Rattle.pv_dirs.proofs.ImageTrees.{image-inodes, image-sizes, image-holding, image-tree}
use Rattle.pv_dirs.proofs.directories.Directories.of_image.Goals as goal
use Rattle.pv_dirs.proofs.directories.Directories.of_image.Goals.{After-of_image-inodes}

pub of_image-inodes-requires-clause-inodes : goal.of_image-inodes-requires-clause-inodes
of_image-inodes-requires-clause-inodes c = image-inodes c.args.version c.args.inodes c.args.bytes.items c.requires

-- the files of the image satisfy the invariant
held : (c : After-of_image-inodes) → IsHolding c.of_image-inodes.result c.requires.tree.blocks
held c = rw c.of_image-inodes.ensures (image-holding c.args.version c.args.inodes c.args.bytes.items c.requires c.requires.tree.blocks refl)

pub invariant_of-result : goal.invariant_of-result
invariant_of-result c =
    let sizes = image-sizes c.args.version c.args.inodes c.args.bytes.items c.requires in
    let table = rw c.layout.ensures.inode_length at c.div_ceil.ensures in
    let counted : c.len.result / 512 - c.div_ceil.result - 1 ≡ c.requires.tree.blocks = omega (arith, table, c.len.ensures, sizes.whole, sizes.data_blocks) in
    record {
      holding = subst (IsHolding c.of_image-inodes.result) (sym counted) (held (goal.at.invariant_of-result c).After-of_image-inodes);
      indexed = c.add_all.ensures;
    }

pub returns : goal.returns
returns c = λ t is. ap tree_of_files c.of_image-inodes.ensures ∙ image-tree c.args.version c.args.inodes c.args.bytes.items c.requires t is
