-- The files of a tree, in the order of a listing.
use Rattle.std.specs.Prelude.{ℕ, zero, suc, not, ◌&&◌, ◌==◌, if◌then◌else◌, List, [], ◌∷◌, ◌++◌, length, flat_map}
use Rattle.std.specs.List.{list_any}
use Rattle.pv_model.specs.Machine.{is_file_at, Tree, root, entries_at}

module _ (t : Tree) where
  -- the nodes of the names from a node downwards, to a depth, in the order of the listing
  abbrev pub nodes_within : ℕ → ℕ → List ℕ
  nodes_within zero n = []
  nodes_within (suc depth) n = n ∷ flat_map (λ e. nodes_within depth e.1) (entries_at t n)

  -- the nodes of all names
  abbrev pub listed_nodes : List ℕ
  listed_nodes = nodes_within (length t.nodes) root

  -- the files with a node appended, if it is a file and new
  abbrev pub files_with_node : List ℕ → ℕ → List ℕ
  files_with_node files n = if is_file_at t n && not (list_any (λ m. m == n) files) then files ++ n ∷ [] else files

  abbrev pub with_files : List ℕ → List ℕ → List ℕ
  with_files files [] = files
  with_files files (n ∷ ns) = with_files (files_with_node files n) ns
