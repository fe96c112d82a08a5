-- The tree of a host directory.
use Rattle.std.specs.Prelude.{◌≡◌, ◌+◌, ◌-◌, Ok}
use Rattle.pv_model.specs.declared.limits.TheConstants.{INODES}
use Rattle.pv_model.specs.declared.version.Version.{Version}
use Rattle.pv_model.specs.Machine.{add_entries, inode_blocks, greatest_blocks, Tree}
use Rattle.pv_tree.specs.Changes.{root_alone}
use Rattle.pv_host_copy.specs.Gathered.{host_entries_of}
use Rattle.pv_host_copy.specs.Hosts.{HostEntries}

-- a tree with only a root, in an image of the maximum size of a version
abbrev pub greatest_tree : Version → Tree
greatest_tree v = root_alone v (greatest_blocks v - (inode_blocks v INODES + 1)) INODES

-- a tree is that of the manifest of a host directory
abbrev pub IsTreeOf : Version → HostEntries → Tree → Type 0
IsTreeOf v host t = add_entries (host_entries_of v host) (greatest_tree v) ≡ Ok t
