-- The lines that are about given files. A file is given by the text of its path; if no file is given, all lines are kept.
use Rattle.std.specs.Prelude.{ℕ, Bool, ◌||◌, List, ◌∷◌, map, bytes_eq}
use Rattle.std.specs.List.{list_any}
use Rattle.pv_model.specs.Answers.Access.{Access, reads, executes, writes, changes_name, reports, opens}
use Rattle.pv_model.specs.Answers.Files.{node_brief}
use Rattle.pv_model.specs.Answers.Nodes.{name_words}
use Rattle.pv_model.specs.Bytes.{Bytes, is_empty}
use Rattle.pv_model.specs.Tree.{Tree, names_of}

-- the description of a node, and those of its names: a node with several names has several paths
abbrev pub name_texts : Tree → ℕ → List Bytes
name_texts t n = node_brief t n ∷ map (λ name. name_words t name.0 name.1) (names_of t n)

module _ (files : List Bytes) where
  -- the text of a path is given
  abbrev pub is_given_path : Bytes → Bool
  is_given_path text = list_any (bytes_eq text) files

  -- a path of a node is given
  abbrev pub is_given_node : Tree → ℕ → Bool
  is_given_node t n = list_any is_given_path (name_texts t n)

  -- a line about a node is kept if a path of the node is given: one in the first tree, or one in the tree of the line
  abbrev pub keeps_node : Tree → Tree → ℕ → Bool
  keeps_node first t n = is_empty files || (is_given_node first n || is_given_node t n)

  -- a line about a name is kept if its path is given
  abbrev pub keeps_name : Tree → ℕ → Bytes → Bool
  keeps_name t d name = is_empty files || is_given_path (name_words t d name)

  -- whether the line of an access is kept, given the first tree and the trees before and after the call
  abbrev pub keeps_access : (first before after : Tree) → Access → Bool
  keeps_access first before after (reads f) = keeps_node first before f
  keeps_access first before after (executes f) = keeps_node first before f
  keeps_access first before after (writes f) = keeps_node first before f
  keeps_access first before after (changes_name d name) = keeps_name before d name
  keeps_access first before after (reports n) = keeps_node first before n
  keeps_access first before after (opens n mode) = keeps_node first after n
