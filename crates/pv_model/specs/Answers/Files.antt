-- The files of a tree in the order of the listing, and the description of a node by its path alone.
use Rattle.std.specs.Prelude.{ℕ, Bool, ◌&&◌, List, [], ◌++◌, map, filter, codes, Option, None, Some}
use Rattle.std.specs.Fmt.{decimal}
use Rattle.pv_model.specs.Answers.Explore.{elements_with_new_keys}
use Rattle.pv_model.specs.Answers.Nodes.{node_path}
use Rattle.pv_model.specs.Answers.Numbers.{number_numbers}
use Rattle.pv_model.specs.Answers.Reach.{listed_names}
use Rattle.pv_model.specs.Bytes.{Bytes, is_empty}
use Rattle.pv_model.specs.Listing.{listed_path}
use Rattle.pv_model.specs.Numbered.{numbered}
use Rattle.pv_model.specs.Sealed.{is_file}
use Rattle.pv_model.specs.Trace.{quote}
use Rattle.pv_model.specs.Tree.{Tree, node_at, names_of}

module _ (t : Tree) where
  abbrev pub brief_by : ℕ → Option Bytes → Bytes
  brief_by n None = codes "node " ++ decimal n
  brief_by n (Some path) = quote (listed_path path)

  -- the brief description of a node: its path, or its number if it has no path
  abbrev pub node_brief : ℕ → Bytes
  node_brief n = brief_by n (node_path t n)

  abbrev pub is_file_at : ℕ → Bool
  is_file_at n = is_file (node_at t n)

  -- the files with names, in the order of the listing, each once
  abbrev pub named_files : List ℕ
  named_files = elements_with_new_keys number_numbers [] (filter is_file_at (map (λ l. l.node) (listed_names t)))

  -- the files without names, by number
  abbrev pub unnamed_files : List ℕ
  unnamed_files = filter (λ n. is_file_at n && is_empty (names_of t n)) (map (λ node. node.0) (numbered t.nodes))

  abbrev pub files_of_tree : List ℕ
  files_of_tree = named_files ++ unnamed_files
