-- The brief description of a node that was renamed since the first tree.
use Rattle.std.specs.Prelude.{ℕ, if◌then◌else◌, ◌++◌, bytes_eq, codes, Option, None, Some, option_map}
use Rattle.pv_model.specs.Answers.Files.{node_brief}
use Rattle.pv_model.specs.Answers.Nodes.{node_path}
use Rattle.pv_model.specs.Bytes.{Bytes}
use Rattle.pv_model.specs.Listing.{listed_path}
use Rattle.pv_model.specs.Trace.{quote}
use Rattle.pv_model.specs.Tree.{Tree}

-- the path of a node as a quoted text, if it has one
abbrev pub node_path_text : Tree → ℕ → Option Bytes
node_path_text t n = option_map (λ path. quote (listed_path path)) (node_path t n)

-- a description and the first path, unless they are the same
abbrev pub with_first : Bytes → Option Bytes → Bytes
with_first brief None = brief
with_first brief (Some path) = if bytes_eq path brief then brief else brief ++ codes ", first " ++ path

-- the brief description of a node, and the path of its number in the first tree if that is another text
abbrev pub brief_since : Tree → Tree → ℕ → Bytes
brief_since first t n = with_first (node_brief t n) (node_path_text first n)
