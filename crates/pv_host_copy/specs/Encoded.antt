-- The manifest of an image's tree: an entry for each name, in the order of the listing. A file or symbolic link is
-- created at its first name, and its other names are added to it.
use Rattle.std.specs.Prelude.{ℕ, zero, suc, List, [], ◌∷◌, ◌++◌, length, fold, if◌then◌else◌, ◌==◌, Option, None, Some, option_map}
use Rattle.pv_model.specs.Machine.{Bytes, Entry, make, further_name, Node, directory_node, file_node, link_node, Tree, root, node_at, entries_at}
use Rattle.pv_host_copy.specs.Paths.{path_under}

-- with one more created entry
abbrev pub and_made : Option (List Entry) → Entry → Option (List Entry)
and_made made entry = option_map (λ entries. entries ++ entry ∷ []) made

-- with all of these entries created
abbrev pub and_all_made : Option (List Entry) → List Entry → Option (List Entry)
and_all_made made more = option_map (λ entries. entries ++ more) made

-- the entries so far, and the first path of each file and symbolic link among them, by node number
pub record EncodedEntries : Type 0 where
  pub entries : List Entry
  pub firsts : List (ℕ × Bytes)

abbrev pub encodes : Entry → EncodedEntries → EncodedEntries
encodes entry s = record s { entries = s.entries ++ entry ∷ [] }

abbrev pub encodes_first : Bytes → ℕ → Node → EncodedEntries → EncodedEntries
encodes_first path n node s = record { entries = s.entries ++ make path node ∷ []; firsts = s.firsts ++ (n, path) ∷ [] }

-- the first path of a node, if there is one
abbrev pub first_path : ℕ → List (ℕ × Bytes) → Option Bytes
first_path n [] = None
first_path n (first ∷ firsts) = if first.0 == n then Some first.1 else first_path n firsts

abbrev pub encodes_again : Bytes → ℕ → Node → EncodedEntries → Option Bytes → EncodedEntries
encodes_again path n node s None = encodes_first path n node s
encodes_again path n node s (Some first) = encodes (further_name path first) s

-- with a name of a node
abbrev pub encodes_node : Bytes → ℕ → Option Node → EncodedEntries → EncodedEntries
encodes_node path n None s = s
encodes_node path n (Some (directory_node entries)) s = encodes (make path (directory_node [])) s
encodes_node path n (Some (file_node executable bytes)) s = encodes_again path n (file_node executable bytes) s (first_path n s.firsts)
encodes_node path n (Some (link_node text)) s = encodes_again path n (link_node text) s (first_path n s.firsts)

module _ (t : Tree) where
  -- with all entries of a directory, up to a depth
  abbrev pub encodes_within : ℕ → Bytes → ℕ → EncodedEntries → EncodedEntries
  encodes_within zero path d s = s
  encodes_within (suc depth) path d s =
      fold (λ so_far e. encodes_within depth (path_under path e.0) e.1 (encodes_node (path_under path e.0) e.1 (node_at t e.1) so_far)) s (entries_at t d)

  -- the manifest of the tree
  abbrev pub encoded_entries : List Entry
  encoded_entries = (encodes_within (length t.nodes) [] root (record { entries = []; firsts = [] })).entries
