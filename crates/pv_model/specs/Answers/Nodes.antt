-- Descriptions of nodes: paths, nodes and targets.
use Rattle.std.specs.Prelude.{ℕ, zero, suc, if◌then◌else◌, ◌==◌, List, [], ◌∷◌, ◌++◌, length, codes, Option, None, Some, option_map}
use Rattle.std.specs.Fmt.{decimal}
use Rattle.pv_model.specs.declared.target.Target.{Target}
use Rattle.pv_model.specs.declared.target.Target.TheVariants.{Directory, Name}
use Rattle.pv_model.specs.Bytes.{Bytes}
use Rattle.pv_model.specs.Listing.{listed_path}
use Rattle.pv_model.specs.Trace.{quote}
use Rattle.pv_model.specs.Tree.{Tree, root, names_of}

abbrev pub first_of : {X : Type 0} → List X → Option X
first_of [] = None
first_of (x ∷ xs) = Some x

-- a path with a name appended
abbrev pub with_name : Bytes → Bytes → Bytes
with_name name path = path ++ codes "/" ++ name

-- the path of a name, given the paths of directories
abbrev pub path_by : (ℕ → Option Bytes) → Option (ℕ × Bytes) → Option Bytes
path_by path None = None
path_by path (Some (d, name)) = option_map (with_name name) (path d)

module _ (t : Tree) where
  -- the least name of a node, by directory and then by name
  abbrev pub least_name : ℕ → Option (ℕ × Bytes)
  least_name n = first_of (names_of t n)

  -- the path of a node, which is at most `depth` names long
  abbrev pub path_within : ℕ → ℕ → Option Bytes
  path_within zero n = None
  path_within (suc depth) n = if n == root then Some [] else path_by (path_within depth) (least_name n)

  -- the path of a node by its least name; the root's is empty, and a node without a name has none
  unfoldable pub node_path : ℕ → Option Bytes
  node_path n = path_within (length t.nodes) n

  -- the path of a name in a directory, or None if the directory is removed
  abbrev pub name_path : ℕ → Bytes → Option Bytes
  name_path d name = path_by node_path (Some (d, name))

  abbrev pub node_words_by : ℕ → Option Bytes → Bytes
  node_words_by n None = codes "node " ++ decimal n
  node_words_by n (Some path) = codes "node " ++ decimal n ++ codes " " ++ quote (listed_path path)

  -- the description of a node: its number, and its path if it has one
  abbrev pub node_words : ℕ → Bytes
  node_words n = node_words_by n (node_path n)

  abbrev pub name_words_by : ℕ → Bytes → Option Bytes → Bytes
  name_words_by d name None = quote name ++ codes " in node " ++ decimal d
  name_words_by d name (Some path) = quote path

  -- the description of a name: its path, or the name alone if its directory is removed
  abbrev pub name_words : ℕ → Bytes → Bytes
  name_words d name = name_words_by d name (name_path d name)

  abbrev pub target_words : Target → Bytes
  target_words (Directory n) = node_words n
  target_words (Name d name) = name_words d name
