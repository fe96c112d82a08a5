-- The tree of a host directory and of a source's entries. If both have a path, the source's entry replaces the host's,
-- except that a directory of both is one directory.
use Rattle.std.specs.Prelude.{◌≡◌, ◌++◌, ℕ, Bool, true, false, not, ◌&&◌, bytes_eq, drop, List, [], ◌∷◌, if◌then◌else◌, Option, None, Some, Result, Ok, Err}
use Rattle.std.specs.List.{list_any}
use Rattle.pv_model.specs.declared.fault.ManifestFault.{ManifestFault}
use Rattle.pv_model.specs.declared.version.Version.{Version}
use Rattle.pv_model.specs.Grammar.Manifests.{and_entries}
use Rattle.pv_model.specs.Machine.{Bytes, add_entries, add_entry, path_of, Entry, make, further_name, directory_node, file_node, link_node, Tree, root, find_entry, is_directory_at, split_slashes}
use Rattle.pv_host_copy.specs.Gathered.{host_entries_of}
use Rattle.pv_host_copy.specs.Hosts.{HostEntries, no_more, with_directory, with_file_entry, with_link, with_other, with_replaced}
use Rattle.pv_host_copy.specs.Imported.{greatest_tree}
use Rattle.pv_host_copy.specs.Paths.{path_under}

-- ---- the host's entries

abbrev pub makes_directory : Entry → Bool
makes_directory (make path (directory_node entries)) = true
makes_directory (make path (file_node executable bytes)) = false
makes_directory (make path (link_node text)) = false
makes_directory (further_name path source) = false

-- whether an entry replaces the host's node at a path: any node except a directory of both
abbrev pub takes_place : (is_directory : Bool) → Bytes → Entry → Bool
takes_place is_directory path entry = bytes_eq (path_of entry) path && not (is_directory && makes_directory entry)

module _ (given : List (ℕ × Entry)) where
  abbrev pub is_taken : (is_directory : Bool) → Bytes → Bool
  is_taken is_directory path = list_any (λ e. takes_place is_directory path e.1) given

  -- the entries of the directory at a path, of which the source's entries replace some
  abbrev pub merged_entries : Bytes → HostEntries → HostEntries
  merged_entries path no_more = no_more
  merged_entries path (with_directory name inside rest) =
      if is_taken true (path_under path name) then with_replaced name (merged_entries path rest) else with_directory name (merged_entries (path_under path name) inside) (merged_entries path rest)
  merged_entries path (with_file_entry name identity executable bytes rest) =
      if is_taken false (path_under path name) then with_replaced name (merged_entries path rest) else with_file_entry name identity executable bytes (merged_entries path rest)
  merged_entries path (with_link name identity text rest) =
      if is_taken false (path_under path name) then with_replaced name (merged_entries path rest) else with_link name identity text (merged_entries path rest)
  merged_entries path (with_other name why rest) = if is_taken false (path_under path name) then with_replaced name (merged_entries path rest) else with_other name why (merged_entries path rest)
  merged_entries path (with_replaced name rest) = with_replaced name (merged_entries path rest)

-- ---- the source's entries

-- whether the number of a name is that of a directory, in which the rest is found
abbrev pub leads_into : Tree → (ℕ → Bool) → Option ℕ → Bool
leads_into t onward None = false
leads_into t onward (Some n) = if is_directory_at t n then onward n else false

-- whether a directory has directories with these names, each in the one before
abbrev pub has_directories : Tree → List Bytes → ℕ → Bool
has_directories t [] d = true
has_directories t (name ∷ names) d = leads_into t (has_directories t names) (find_entry t d name)

abbrev pub has_directory : Tree → Bytes → Bool
has_directory t path = has_directories t (split_slashes (drop 1 path)) root

-- whether a tree has the directory that an entry makes
abbrev pub is_present : Tree → Entry → Bool
is_present t entry = makes_directory entry && has_directory t (path_of entry)

-- the tree with the entries added in order, without the directories that it has; or the first error
abbrev pub add_missing : List (ℕ × Entry) → Tree → Result Tree ManifestFault
add_missing [] t = Ok t
add_missing (e ∷ es) t = if is_present t e.1 then add_missing es t else and_entries (add_entry e.0 t e.1) (add_missing es)

-- ---- both

-- the tree of a host directory and of a source's entries, in an image of the maximum size; or the first error
abbrev pub merged_tree : Version → List (ℕ × Entry) → HostEntries → Result Tree ManifestFault
merged_tree v given host = and_entries (add_entries (host_entries_of v (merged_entries given [] host)) (greatest_tree v)) (add_missing given)

-- a tree is that of a host directory and of a source's entries
abbrev pub IsMergedTree : Version → List (ℕ × Entry) → HostEntries → Tree → Type 0
IsMergedTree v given host t = merged_tree v given host ≡ Ok t

-- without a source, it is the tree of the manifest of the host directory
abbrev pub NeedsNoSource : Type 0
NeedsNoSource = (v : Version) (host : HostEntries) → merged_tree v [] host ≡ add_entries (host_entries_of v host) (greatest_tree v)
