-- The listing of a tree, with one line per name and the contents of each directory directly after it, and the report of
-- a state in the same order.
use Rattle.std.specs.Prelude.{ℕ, zero, suc, true, false, [], ◌∷◌, ◌++◌, length, flat_map, codes, Option, None, Some, Result, Ok, Err}
use Rattle.std.specs.Fmt.{decimal}
use Rattle.pv_model.specs.declared.verdict.AuditFault.{AuditFault}
use Rattle.pv_model.specs.declared.verdict.Verdict.{Verdict}
use Rattle.pv_model.specs.Bytes.{Bytes}
use Rattle.pv_model.specs.Effect.{size_of}
use Rattle.pv_model.specs.Sealed.{audit_node, verdict_line}
use Rattle.pv_model.specs.State.{State}
use Rattle.pv_model.specs.Trace.{quote}
use Rattle.pv_model.specs.Tree.{Node, directory_node, file_node, link_node, Tree, root, node_at, entries_at}

-- the letter for the kind of a node
abbrev pub kind_letter : Node → Bytes
kind_letter (directory_node es) = codes "d"
kind_letter (file_node false bytes) = codes "f"
kind_letter (file_node true bytes) = codes "x"
kind_letter (link_node text) = codes "l"

-- a path as a listing writes it: the empty path of the root is a slash
abbrev pub listed_path : Bytes → Bytes
listed_path [] = codes "/"
listed_path (b ∷ bs) = b ∷ bs

-- the line for a node at a path: its letter, its number, its size as in stat(2), and the path
abbrev pub node_line : Bytes → ℕ → Option Node → Bytes
node_line path n None = []
node_line path n (Some node) =
    kind_letter node ++ codes " " ++ decimal n ++ codes " " ++ decimal (size_of node) ++ codes " " ++ quote (listed_path path) ++ 10 ∷ []

-- the lines of a tree, given the line for each node at a path
module _ (t : Tree) (line : Bytes → ℕ → Bytes) where
  -- the lines of a node at a path and of everything below it, to a depth
  abbrev pub lines_within : ℕ → Bytes → ℕ → Bytes
  lines_within zero path n = []
  lines_within (suc depth) path n =
      line path n ++ flat_map (λ e. lines_within depth (path ++ codes "/" ++ e.0) e.1) (entries_at t n)

  -- the lines of all names, from the root, with names in byte order
  abbrev pub lines_of_all : Bytes
  lines_of_all = lines_within (length t.nodes) [] root

unfoldable pub listing : Tree → Bytes
listing t = lines_of_all t (λ path n. node_line path n (node_at t n))

-- the line of a report for a node at a path: for a file, its path and its verdict
abbrev pub found_line : Bytes → Result Verdict AuditFault → Bytes
found_line path (Ok found) = quote (listed_path path) ++ codes " " ++ verdict_line found
found_line path (Err fault) = []

-- the report of a state: one line for each name of a file, in the order of the listing
unfoldable pub report : State → Bytes
report s = lines_of_all s.tree (λ path n. found_line path (audit_node s (Some n)))
