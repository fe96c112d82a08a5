-- The host directory that an export makes of a tree, and its import.
use Rattle.std.specs.Prelude.{◌≡◌, ℕ, zero, suc, ◌+◌, ◌≤◌, ◌==◌, Bool, List, [], ◌∷◌, length, Option, None, Some, IsTrue}
use Rattle.pv_model.specs.declared.version.Version.{Version}
use Rattle.pv_model.specs.Machine.{Bytes, Entry, greatest_length, Entries, Node, directory_node, file_node, link_node, Tree, root, node_at, entries_at, is_node}
use Rattle.pv_host_copy.specs.declared.entry.Identity.{Identity}
use Rattle.pv_host_copy.specs.Encoded.{encoded_entries}
use Rattle.pv_host_copy.specs.Gathered.{host_entries_of, left_out}
use Rattle.pv_host_copy.specs.Hosts.{HostEntries, no_more, with_directory, with_file_entry, with_link, same_identity}

module _ (identity : ℕ → Identity) (t : Tree) where
  -- a name of a node before the rest of a directory; a directory has the entries inside
  abbrev pub and_shown : Bytes → ℕ → Option Node → (inside rest : HostEntries) → HostEntries
  and_shown name n None inside rest = rest
  and_shown name n (Some (directory_node es)) inside rest = with_directory name inside rest
  and_shown name n (Some (file_node executable bytes)) inside rest = with_file_entry name (identity n) executable bytes rest
  and_shown name n (Some (link_node text)) inside rest = with_link name (identity n) text rest

  abbrev pub shown_entries : (ℕ → HostEntries) → Entries → HostEntries
  shown_entries inside [] = no_more
  shown_entries inside (e ∷ es) = and_shown e.0 e.1 (node_at t e.1) (inside e.1) (shown_entries inside es)

  -- the entries of a directory, up to a depth
  abbrev pub shown_within : ℕ → ℕ → HostEntries
  shown_within zero d = no_more
  shown_within (suc depth) d = shown_entries (shown_within depth) (entries_at t d)

  -- the host directory of the tree, in which each node has an identity
  abbrev pub shown : HostEntries
  shown = shown_within (length t.nodes) root

-- the host gives different identities to different nodes
abbrev pub AreDistinct : (ℕ → Identity) → Type 0
AreDistinct identity = (m n : ℕ) → same_identity (identity m) (identity n) ≡ (m == n)

-- an image of a version can contain each node of a tree
pub record IsContainedIn (v : Version) (t : Tree) : Type 0 where
  pub each_node : (n : ℕ) (node : Node) → node_at t n ≡ Some node → IsTrue (is_node v node)
  pub each_file : (n : ℕ) (executable : Bool) (bytes : Bytes) → node_at t n ≡ Some (file_node executable bytes) → length bytes ≤ greatest_length v

-- entries with their line numbers, from this one on
abbrev pub lines_from : ℕ → List Entry → List (ℕ × Entry)
lines_from line [] = []
lines_from line (entry ∷ entries) = (line, entry) ∷ lines_from (line + 1) entries

-- the directory that an export makes is imported as the manifest that the export created, and nothing is skipped
abbrev pub ExportIsImported : Type 0
ExportIsImported =
    (v : Version) (t : Tree) (identity : ℕ → Identity) → IsContainedIn v t → AreDistinct identity
    → (host_entries_of v (shown identity t) ≡ lines_from 1 (encoded_entries t)) × (left_out v (shown identity t) ≡ [])
