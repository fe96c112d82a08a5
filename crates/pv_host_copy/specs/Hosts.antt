-- Host directories: names in byte order, with the object that each refers to.
use Rattle.std.specs.Prelude.{Bool, true, ◌&&◌, ◌==◌, Option, None, Some}
use Rattle.pv_model.specs.Machine.{Bytes, is_past}
use Rattle.pv_host_copy.specs.declared.entry.Identity.{Identity}
use Rattle.pv_host_copy.specs.declared.fault.SkipReason.{SkipReason}

-- the entries of a directory: a directory with its own entries, a file, a symbolic link, something that is not copied,
-- with the reason, or something whose place another entry takes
pub data HostEntries : Type 0 where
  no_more : HostEntries
  with_directory : (name : Bytes) (inside rest : HostEntries) → HostEntries
  with_file_entry : (name : Bytes) (identity : Identity) (executable : Bool) (bytes : Bytes) (rest : HostEntries) → HostEntries
  with_link : (name : Bytes) (identity : Identity) (text : Bytes) (rest : HostEntries) → HostEntries
  with_other : (name : Bytes) (why : SkipReason) (rest : HostEntries) → HostEntries
  with_replaced : (name : Bytes) (rest : HostEntries) → HostEntries

-- whether two names refer to one file or symbolic link
abbrev pub same_identity : Identity → Identity → Bool
same_identity a b = (a.device == b.device) && (a.inode == b.inode)

-- whether the names of a directory, and of each directory in it, ascend in the order of bytes; these are the names after
-- the last one
abbrev pub is_ordered : Option Bytes → HostEntries → Bool
is_ordered last no_more = true
is_ordered last (with_directory name inside rest) = is_past last name && is_ordered None inside && is_ordered (Some name) rest
is_ordered last (with_file_entry name identity executable bytes rest) = is_past last name && is_ordered (Some name) rest
is_ordered last (with_link name identity text rest) = is_past last name && is_ordered (Some name) rest
is_ordered last (with_other name why rest) = is_past last name && is_ordered (Some name) rest
is_ordered last (with_replaced name rest) = is_past last name && is_ordered (Some name) rest
