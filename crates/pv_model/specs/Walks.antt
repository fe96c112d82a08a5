-- The walks of each call, and the permissions that it needs at their ends. Calls, trace lines and touches all use this
-- table.
use Rattle.std.specs.Prelude.{ℕ, zero, suc, ◌&&◌, ◌||◌, if◌then◌else◌, List, [], ◌∷◌, slice_get, Option, None, Some}
use Rattle.pv_model.specs.declared.call.Call.{Call}
use Rattle.pv_model.specs.declared.call.Call.TheVariants.{Unveil, Execve, Open, OpenAt, Chdir, Stat, Lstat, Readlink, Mkdir, Symlink, Link, Unlink, Rmdir, Rename}
use Rattle.pv_model.specs.declared.call.Start.{Start}
use Rattle.pv_model.specs.declared.call.Start.TheVariants.{WorkingDirectory}
use Rattle.pv_model.specs.declared.follow.Follow.{Follow}
use Rattle.pv_model.specs.declared.follow.Follow.TheVariants.{Last, Keep, KeepTrimmed}
use Rattle.pv_model.specs.declared.open_flags.OpenFlags.{OpenFlags}
use Rattle.pv_model.specs.declared.perms.Perms.{Perms}
use Rattle.pv_model.specs.Bytes.{Bytes}
use Rattle.pv_model.specs.Needs.{permissions_of_open}
use Rattle.pv_model.specs.Perms.{no_permissions, permission_r, permission_x, permission_c, read_permissions}

-- a walk of a call: the starting directory, the treatment of a final link, the path, and the permissions needed at the
-- end
pub record Walk : Type 0 where
  pub start : Start
  pub follow : Follow
  pub path : Bytes
  pub needed : Perms

abbrev pub from_here : Follow → Bytes → Perms → Walk
from_here follow path needed = record { start = WorkingDirectory; follow = follow; path = path; needed = needed }

-- how an open treats a final link
abbrev pub follow_of : OpenFlags → Follow
follow_of f = if f.no_follow || (f.create && f.exclusive) then Keep else Last

abbrev pub open_walk : Start → Bytes → OpenFlags → Walk
open_walk start path f = record { start = start; follow = follow_of f; path = path; needed = permissions_of_open f }

abbrev pub execve_walk : Bytes → Walk
execve_walk path = from_here Last path permission_x

abbrev pub chdir_walk : Bytes → Walk
chdir_walk path = from_here Last path permission_r

abbrev pub stat_walk : Bytes → Walk
stat_walk path = from_here Last path permission_r

abbrev pub lstat_walk : Bytes → Walk
lstat_walk path = from_here Keep path permission_r

abbrev pub readlink_walk : Bytes → Walk
readlink_walk path = from_here Keep path permission_r

abbrev pub mkdir_walk : Bytes → Walk
mkdir_walk path = from_here KeepTrimmed path permission_c

abbrev pub symlink_walk : Bytes → Walk
symlink_walk path = from_here Keep path permission_c

-- link first walks to the existing file, and then to the new name
abbrev pub linked_walk : Bytes → Walk
linked_walk path = from_here Last path permission_r

abbrev pub new_link_walk : Bytes → Walk
new_link_walk path = from_here Keep path permission_c

abbrev pub unlink_walk : Bytes → Walk
unlink_walk path = from_here Keep path permission_c

abbrev pub rmdir_walk : Bytes → Walk
rmdir_walk path = from_here Keep path permission_c

-- the same walk for both paths of rename
abbrev pub rename_walk : Bytes → Walk
rename_walk path = from_here Keep path permission_c

-- unveil walks with the permissions of the new entry; its place is not checked against them
abbrev pub unveil_walk : Bytes → Perms → Walk
unveil_walk path permissions = from_here Last path permissions

abbrev pub permissions_or_none : Option Perms → Perms
permissions_or_none None = no_permissions
permissions_or_none (Some permissions) = permissions

abbrev pub walks_of : Call → List Walk
walks_of (Unveil (Some path) (Some text)) = unveil_walk path (permissions_or_none (read_permissions text)) ∷ []
walks_of (Execve path) = execve_walk path ∷ []
walks_of (Open path flags) = open_walk WorkingDirectory path flags ∷ []
walks_of (OpenAt start path flags) = open_walk start path flags ∷ []
walks_of (Chdir path) = chdir_walk path ∷ []
walks_of (Stat path) = stat_walk path ∷ []
walks_of (Lstat path) = lstat_walk path ∷ []
walks_of (Readlink path) = readlink_walk path ∷ []
walks_of (Mkdir path) = mkdir_walk path ∷ []
walks_of (Symlink text path) = symlink_walk path ∷ []
walks_of (Link path new) = linked_walk path ∷ new_link_walk new ∷ []
walks_of (Unlink path) = unlink_walk path ∷ []
walks_of (Rmdir path) = rmdir_walk path ∷ []
walks_of (Rename path new) = rename_walk path ∷ rename_walk new ∷ []
walks_of _ = []

-- the walk with a number; walks are numbered from 1
abbrev pub walk_number : List Walk → ℕ → Option Walk
walk_number walks zero = None
walk_number walks (suc k) = slice_get walks k
