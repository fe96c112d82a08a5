-- Trees whose names and contents are bytes. The definitions use unbounded numbers, so this is a separate condition.
use Rattle.std.specs.Prelude.{◌≡◌, ℕ, Bool, IsTrue, nat_lt, Some}
use Rattle.std.specs.List.{list_all}
use Rattle.pv_model.specs.Machine.{Bytes, Node, directory_node, file_node, link_node, Tree, node_at}

abbrev pub is_byte : ℕ → Bool
is_byte b = nat_lt b 256

abbrev pub are_bytes : Bytes → Bool
are_bytes bs = list_all is_byte bs

-- all names or contents of a node are bytes
abbrev pub has_bytes : Node → Bool
has_bytes (directory_node es) = list_all (λ e. are_bytes e.0) es
has_bytes (file_node executable bytes) = are_bytes bytes
has_bytes (link_node text) = are_bytes text

-- all names and contents of a tree are bytes
abbrev pub AllBytes : Tree → Type 0
AllBytes t = (n : ℕ) (node : Node) → node_at t n ≡ Some node → IsTrue (has_bytes node)
