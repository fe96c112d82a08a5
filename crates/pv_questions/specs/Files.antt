-- The bytes of the file at a path.
use Rattle.std.specs.Prelude.{◌≡◌, ℕ, Bool, Option, None, Some, Result, Ok, Err}
use Rattle.pv_model.specs.declared.errno.Errno.{Errno}
use Rattle.pv_model.specs.declared.errno.Errno.TheVariants.{ENOENT}
use Rattle.pv_model.specs.declared.follow.Follow.TheVariants.{Last}
use Rattle.pv_model.specs.declared.place.Place.{Place}
use Rattle.pv_model.specs.declared.verdict.AuditFault.{AuditFault}
use Rattle.pv_model.specs.declared.verdict.AuditFault.TheVariants.{Walk, NotFile}
use Rattle.pv_model.specs.Machine.{Bytes, node_of, Node, file_node, Tree, root, node_at, resolve}

abbrev pub bytes_of_file : Option Node → Result Bytes AuditFault
bytes_of_file (Some (file_node executable bytes)) = Ok bytes
bytes_of_file _ = Err NotFile

abbrev pub bytes_of_node : Tree → Option ℕ → Result Bytes AuditFault
bytes_of_node t None = Err (Walk ENOENT)
bytes_of_node t (Some n) = bytes_of_file (node_at t n)

abbrev pub bytes_of_place : Tree → Result Place Errno → Result Bytes AuditFault
bytes_of_place t (Err e) = Err (Walk e)
bytes_of_place t (Ok place) = bytes_of_node t (node_of place)

-- the path is walked from the root; links are followed, and no unveil table applies
abbrev pub cat_of : Tree → Bytes → Result Bytes AuditFault
cat_of t path = bytes_of_place t (resolve t Last root path)

-- the node is a file
pub record IsFileAt (t : Tree) (n : ℕ) : Type 0 where
  pub executable : Bool
  pub bytes : Bytes
  pub is : node_at t n ≡ Some (file_node executable bytes)
