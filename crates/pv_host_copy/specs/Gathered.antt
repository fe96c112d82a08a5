-- The manifest of a host directory: its entries in the order of their names, each directory before its entries. Entries
-- that an image cannot contain are skipped and reported.
use Rattle.std.specs.Prelude.{ℕ, ◌+◌, Bool, List, [], ◌∷◌, ◌++◌, length, if◌then◌else◌, nat_le, Option, None, Some}
use Rattle.pv_model.specs.declared.version.Version.{Version}
use Rattle.pv_model.specs.Machine.{Bytes, Entry, make, further_name, greatest_length, Node, directory_node, file_node, link_node, is_link_text}
use Rattle.pv_host_copy.specs.declared.entry.Identity.{Identity}
use Rattle.pv_host_copy.specs.declared.fault.SkipReason.{SkipReason}
use Rattle.pv_host_copy.specs.declared.fault.SkipReason.TheVariants.{Name, Size, Text}
use Rattle.pv_host_copy.specs.Hosts.{HostEntries, no_more, with_directory, with_file_entry, with_link, with_other, with_replaced, same_identity}
use Rattle.pv_image_manifest.specs.Paths.{is_path}
use Rattle.pv_host_copy.specs.Paths.{path_under}

-- the entries so far, numbered from 1, the first path of each file and symbolic link among them, and the skipped paths
pub record Gathered : Type 0 where
  pub entries : List (ℕ × Entry)
  pub firsts : List (Identity × Bytes)
  pub reported : List (Bytes × SkipReason)

abbrev pub nothing_gathered : Gathered
nothing_gathered = record { entries = []; firsts = []; reported = [] }

-- with one more entry
abbrev pub and_entry : Entry → Gathered → Gathered
and_entry entry g = record g { entries = g.entries ++ (length g.entries + 1, entry) ∷ [] }

-- with one more skipped path
abbrev pub and_skipped : Bytes → SkipReason → Gathered → Gathered
and_skipped path why g = record g { reported = g.reported ++ (path, why) ∷ [] }

-- with the entry of a file or symbolic link at its first path
abbrev pub and_first_entry : Bytes → Identity → Entry → Gathered → Gathered
and_first_entry path identity entry g = record (and_entry entry g) { firsts = g.firsts ++ (identity, path) ∷ [] }

-- the first path of a file or symbolic link, if there is one
abbrev pub first_path_of : Identity → List (Identity × Bytes) → Option Bytes
first_path_of identity [] = None
first_path_of identity (first ∷ firsts) = if same_identity first.0 identity then Some first.1 else first_path_of identity firsts

-- a file or symbolic link with another path gets this name too; otherwise it is created, or skipped if an image cannot
-- contain it
abbrev pub and_node : Bytes → Identity → Node → Bool → SkipReason → Gathered → Option Bytes → Gathered
and_node path identity node has_place why g (Some first) = and_entry (further_name path first) g
and_node path identity node has_place why g None = if has_place then and_first_entry path identity (make path node) g else and_skipped path why g

module _ (v : Version) where
  -- with a file or symbolic link at a path, if the path is valid
  abbrev pub and_linked : Bytes → Identity → Node → Bool → SkipReason → Gathered → Gathered
  and_linked path identity node has_place why g =
      if is_path v path then and_node path identity node has_place why g (first_path_of identity g.firsts) else and_skipped path Name g

  abbrev pub and_file : Bytes → Identity → Bool → Bytes → Gathered → Gathered
  and_file path identity executable bytes g =
      and_linked path identity (file_node executable bytes) (nat_le (length bytes) (greatest_length v)) Size g

  abbrev pub and_link : Bytes → Identity → Bytes → Gathered → Gathered
  and_link path identity text g = and_linked path identity (link_node text) (is_link_text text) Text g

  -- a directory, and then its entries
  abbrev pub and_directory : Bytes → (Gathered → Gathered) → Gathered → Gathered
  and_directory path inside g = if is_path v path then inside (and_entry (make path (directory_node [])) g) else and_skipped path Name g

  -- with the entries of the directory at a path
  abbrev pub gather : Bytes → HostEntries → Gathered → Gathered
  gather path no_more g = g
  gather path (with_directory name inside rest) g = gather path rest (and_directory (path_under path name) (gather (path_under path name) inside) g)
  gather path (with_file_entry name identity executable bytes rest) g = gather path rest (and_file (path_under path name) identity executable bytes g)
  gather path (with_link name identity text rest) g = gather path rest (and_link (path_under path name) identity text g)
  gather path (with_other name why rest) g = gather path rest (and_skipped (path_under path name) why g)
  gather path (with_replaced name rest) g = gather path rest g

  -- the entries of a host directory
  abbrev pub host_entries_of : HostEntries → List (ℕ × Entry)
  host_entries_of host = (gather [] host nothing_gathered).entries

  -- the skipped paths of a host directory
  abbrev pub left_out : HostEntries → List (Bytes × SkipReason)
  left_out host = (gather [] host nothing_gathered).reported
