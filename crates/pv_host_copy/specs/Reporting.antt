-- The next entry of a host directory.
use Rattle.std.specs.Prelude.{◌≡◌, ⊤, ℕ, ◌+◌, ◌<◌, Bool, Option, None, Some, IsTrue}
use Rattle.pv_model.specs.Machine.{Bytes, is_past}
use Rattle.pv_host_copy.specs.declared.entry.Identity.{Identity}
use Rattle.pv_host_copy.specs.declared.entry.HostEntry.{HostEntry}
use Rattle.pv_host_copy.specs.declared.entry.HostNode.{HostNode}
use Rattle.pv_host_copy.specs.declared.entry.HostNode.TheVariants.{Directory, File, Link, Other, Replaced}
use Rattle.pv_host_copy.specs.declared.fault.SkipReason.{SkipReason}
use Rattle.pv_host_copy.specs.Hosts.{HostEntries, no_more, with_directory, with_file_entry, with_link, with_other, with_replaced}

-- a directory is its remaining entries, and a reader is its remaining bytes
module _ {D R : Type 0} (entries_of : D → Option HostEntries) (bytes_of : R → Option Bytes) where
  -- the node is a directory with these entries
  abbrev pub IsDirectory : HostEntries → HostNode D R → Type 0
  IsDirectory inside (Directory d) = entries_of d ≡ Some inside
  IsDirectory inside _ = ⊥

  -- the node is this file
  abbrev pub IsFile : Identity → Bool → Bytes → HostNode D R → Type 0
  IsFile identity executable bytes (File i x r) = (i ≡ identity) × (x ≡ executable) × (bytes_of r ≡ Some bytes)
  IsFile identity executable bytes _ = ⊥

  -- the node is this symbolic link
  abbrev pub IsLink : Identity → Bytes → HostNode D R → Type 0
  IsLink identity text (Link i t) = (i ≡ identity) × (t.items ≡ text)
  IsLink identity text _ = ⊥

  -- the node is something that is not copied, for this reason
  abbrev pub IsOther : SkipReason → HostNode D R → Type 0
  IsOther why (Other reason) = reason ≡ why
  IsOther why _ = ⊥

  -- another entry takes the place of the node
  abbrev pub IsReplaced : HostNode D R → Type 0
  IsReplaced Replaced = ⊤
  IsReplaced _ = ⊥

  -- the reported entry is the first, and the others remain
  abbrev pub ReportsEntry : HostEntries → Option (HostEntry D R) → Option HostEntries → Type 0
  ReportsEntry no_more None after = Unit {0}
  ReportsEntry (with_directory name inside rest) (Some e) after = (e.name.items ≡ name) × IsDirectory inside e.node × (after ≡ Some rest)
  ReportsEntry (with_file_entry name identity executable bytes rest) (Some e) after = (e.name.items ≡ name) × IsFile identity executable bytes e.node × (after ≡ Some rest)
  ReportsEntry (with_link name identity text rest) (Some e) after = (e.name.items ≡ name) × IsLink identity text e.node × (after ≡ Some rest)
  ReportsEntry (with_other name why rest) (Some e) after = (e.name.items ≡ name) × IsOther why e.node × (after ≡ Some rest)
  ReportsEntry (with_replaced name rest) (Some e) after = (e.name.items ≡ name) × IsReplaced e.node × (after ≡ Some rest)
  ReportsEntry _ _ after = ⊥

-- the number of entries in a reported directory is at most this
abbrev pub left_below : {D R : Type 0} → (D → ℕ) → HostNode D R → ℕ
left_below left (Directory d) = left d
left_below left _ = 0

-- fewer entries remain, with those of the reported directory
abbrev pub IsFewer : {D R : Type 0} → (D → ℕ) → ℕ → Option (HostEntry D R) → ℕ → Type 0
IsFewer left before None after = ⊤
IsFewer left before (Some e) after = after + left_below left e.node < before

-- the reported name comes after the previous one, in the order of bytes, and is the last one now
abbrev pub IsNextReportedName : {D R : Type 0} → Option Bytes → Option (HostEntry D R) → Option Bytes → Type 0
IsNextReportedName last None now = now ≡ last
IsNextReportedName last (Some e) now = IsTrue (is_past last e.name.items) × (now ≡ Some e.name.items)
