-- The tree in files, and its changes.
use Rattle.std.specs.Prelude.{◌≡◌, ℕ, ◌+◌, ◌*◌, ◌-◌, ◌<◌, ◌≤◌, suc, true, false, map, length, sum_by, [], ◌∷◌, Option, None, Some, option_map}
use Rattle.pv_model.specs.declared.kind.Kind.{Kind}
use Rattle.pv_model.specs.declared.kind.Kind.TheVariants.{Directory, File, Executable, Symlink}
use Rattle.pv_model.specs.declared.version.Version.{Version}
use Rattle.pv_model.specs.Machine.{Bytes, overwrite, resize, inode_blocks, greatest_blocks, without_number, present, entry_length, node_length, need, Node, directory_node, file_node, link_node, Tree, node_at, entries_at, with_node}
use Rattle.pv_inodes.specs.Files.{Contained, Files, held}
use Rattle.pv_dirs.specs.Slots.{slot_entries, in_order, IsSlotted}

-- the node of an inode with this kind and contents
unfoldable pub node_from : Version → Kind → Bytes → Node
node_from v Directory bytes = directory_node (in_order (slot_entries v bytes))
node_from v File bytes = file_node false bytes
node_from v Executable bytes = file_node true bytes
node_from v Symlink bytes = link_node bytes

abbrev pub node_of_contained : Version → Contained → Node
node_of_contained v c = node_from v c.sort c.bytes

-- the tree of an image with these files
unfoldable pub tree_of_files : Files → Tree
tree_of_files f = record { nodes = map (option_map (node_of_contained f.version)) f.nodes; blocks = f.blocks; inodes = length f.nodes - 1; version = f.version }

-- the contents of each directory are valid, and the number of data blocks is one that an image can have
pub record IsHolding (f : Files) (blocks : ℕ) : Type 0 where
  pub sized : f.blocks ≡ blocks
  pub allowed : inode_blocks f.version (length f.nodes - 1) + 1 + blocks ≤ greatest_blocks f.version
  pub slotted : (n : ℕ) (c : Contained) → held f n ≡ Some c → c.sort ≡ Directory → IsSlotted f.version c.bytes

-- the kind of a node
abbrev pub kind_of_node : Node → Kind
kind_of_node (directory_node entries) = Directory
kind_of_node (file_node false bytes) = File
kind_of_node (file_node true bytes) = Executable
kind_of_node (link_node text) = Symlink

-- an empty node of this kind
abbrev pub empty_node : Kind → Node
empty_node Directory = directory_node []
empty_node File = file_node false []
empty_node Executable = file_node true []
empty_node Symlink = link_node []

abbrev pub stored_bytes_of : Option Node → Bytes
stored_bytes_of (Some (file_node executable bytes)) = bytes
stored_bytes_of (Some (link_node text)) = text
stored_bytes_of _ = []

-- the bytes of a file, or the target of a symbolic link
abbrev pub node_bytes_at : Tree → ℕ → Bytes
node_bytes_at t n = stored_bytes_of (node_at t n)

-- a node with other bytes; a directory does not change
abbrev pub node_with_bytes : Node → Bytes → Node
node_with_bytes (directory_node entries) bytes = directory_node entries
node_with_bytes (file_node executable old) bytes = file_node executable bytes
node_with_bytes (link_node old) bytes = link_node bytes

abbrev pub with_node_replaced : Tree → ℕ → Option Node → Bytes → Tree
with_node_replaced t n None bytes = t
with_node_replaced t n (Some node) bytes = with_node t n (node_with_bytes node bytes)

-- the tree with other bytes in a file or symbolic link
abbrev pub with_bytes_at : Tree → ℕ → Bytes → Tree
with_bytes_at t n bytes = with_node_replaced t n (node_at t n) bytes

-- the tree after a write to a file or symbolic link; a write of zero bytes changes nothing
abbrev pub written_tree : Tree → ℕ → ℕ → Bytes → Tree
written_tree t n at [] = t
written_tree t n at (b ∷ bytes) = with_bytes_at t n (overwrite (node_bytes_at t n) at (b ∷ bytes))

-- the tree after a truncation of a file or symbolic link, or an extension with zeros
abbrev pub truncated_tree : Tree → ℕ → ℕ → Tree
truncated_tree t n size = with_bytes_at t n (resize (node_bytes_at t n) size)

-- the tree without node n
abbrev pub without_node : Tree → ℕ → Tree
without_node t n = record t { nodes = without_number t.nodes n }

-- the number of data blocks that all nodes need
abbrev pub total_need : Tree → ℕ
total_need t = sum_by (λ node. need t.version (node_length t.version node)) (present t.nodes)

abbrev pub LacksRoomForTree : Tree → Type 0
LacksRoomForTree t = t.blocks < total_need t

-- the length of a directory with one more entry
abbrev pub grown_length : Tree → ℕ → ℕ
grown_length t d = entry_length t.version * suc (length (entries_at t d))
