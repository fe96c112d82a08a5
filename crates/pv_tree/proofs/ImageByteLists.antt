-- The names and contents in an image of bytes consist of bytes.
use Rattle.std.proofs.Common.{◌≡◌, ℕ, ◌<◌, Bool, true, length, inl, inr, arith}
use Rattle.std.specs.Prelude.{slice_index}
use Rattle.std.proofs.lemmas.Bool.{cases_lt}
use Rattle.std.proofs.lemmas.List.{get_or_past}
use Rattle.pv_model.specs.Machine.{Bytes, IsImageOf, Tree}
use Rattle.pv_laws_trees.specs.Encoded.{are_bytes, AllBytes}
use Rattle.pv_laws_trees.proofs.TreeBytes.{bytes-all}
use Rattle.pv_laws_trees.proofs.ImageBytes.{node-bytes}
use Rattle.pv_tree.proofs.GatheredNames.{node_inode}

-- the code's numbers below 256 are bytes
pub bytes-within : (bytes : Bytes) → ((i : ℕ) → i < length bytes → slice_index bytes i < 256) → are_bytes bytes ≡ true
bytes-within bytes each = bytes-all bytes (λ i. elim (cases_lt i (length bytes)) [
  | inl within ↦ each i within
  | inr past ↦ let none : slice_index bytes i ≡ 0 = get_or_past bytes i 0 past in omega arith
])

pub image-bytes : (bytes : Bytes) (t : Tree) → IsImageOf bytes t → are_bytes bytes ≡ true → AllBytes t
image-bytes bytes t is all n node at = node-bytes t.version bytes n node (node_inode bytes t is n node at).has_content all
