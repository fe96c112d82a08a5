-- The tree in an image that is written.
use Rattle.std.specs.Prelude.{ℕ, suc, ◌+◌, ◌-◌, ◌*◌, ◌++◌, length, replicate, sum_by, Option, None}
use Rattle.pv_model.specs.declared.limits.TheConstants.{BLOCK}
use Rattle.pv_model.specs.declared.version.Version.{Version}
use Rattle.pv_model.specs.Machine.{Bytes, named_tree, inode_blocks, Numbered, present, node_length, need, Node, Tree, node_at}
use Rattle.pv_image_write.specs.Encoding.{all_contents, padded}

-- a map extended to n numbers without values
abbrev pub lengthened : {X : Type 0} → ℕ → Numbered X → Numbered X
lengthened n xs = xs ++ replicate (n - length xs) None

-- the root and the named nodes of a tree under their numbers, in an image with this version and these numbers of blocks
-- and inodes
unfoldable pub placed : Tree → Version → ℕ → ℕ → Tree
placed t v blocks inodes = record {
  nodes = lengthened (suc inodes) (named_tree t).nodes;
  blocks = blocks - (inode_blocks v inodes + 1);
  inodes = inodes;
  version = v;
}

-- the contents of the nodes of this tree, padded with zeros to the end of its image
abbrev pub placed_contents : Tree → Version → ℕ → ℕ → Bytes
placed_contents t v blocks inodes = padded (BLOCK * (blocks - (inode_blocks v inodes + 1))) (all_contents (placed t v blocks inodes) inodes)

-- the number of data blocks that the root and the named nodes of a tree need in an image of this version
unfoldable pub named_need : Tree → Version → ℕ
named_need t v = sum_by (λ node. need v (node_length v node)) (present (named_tree t).nodes)

-- the node of a number in the image: the root, or a named node
unfoldable pub written_at : Tree → ℕ → Option Node
written_at t n = node_at (named_tree t) n
