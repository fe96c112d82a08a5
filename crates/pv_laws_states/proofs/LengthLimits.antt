-- A length that the early tests of write and ftruncate refuse is too long.
use Rattle.std.proofs.Common.{◌≡◌, ℕ, true, List, length, Option, None, Some, refl, ◌∙◌}
use Rattle.pv_model.specs.Machine.{Bytes, with_content, with_content_of, is_past_greatest, among, is_too_long, is_file, Node, directory_node, file_node, link_node, Tree, node_at, with_node}
use Rattle.pv_laws_trees.specs.Preserved.{numbers_wanted, preserved}
use Rattle.pv_laws_trees.proofs.NumberedMaps.{at_number-below, keep-passes, with_number-same}
use Rattle.pv_laws_trees.proofs.Collection.{wanted-held}
use Rattle.pv_laws_trees.proofs.NodeRoom.{too_long-at}

far_in : (t : Tree) (f : ℕ) (bytes : Bytes) (held : List ℕ) (o : Option Node) → node_at t f ≡ o → is_file o ≡ true → among held f ≡ true
    → is_past_greatest t (length bytes) ≡ true → is_too_long (preserved (with_content_of t f o bytes) held) ≡ true
far_in t f bytes held None at is in' far = cc
far_in t f bytes held (Some (directory_node es)) at is in' far = cc
far_in t f bytes held (Some (link_node text)) at is in' far = cc
far_in t f bytes held (Some (file_node executable old)) at is in' far =
    let u : Tree = with_node t f (file_node executable bytes) in
    too_long-at (preserved u held) f (file_node executable bytes)
    (keep-passes (among (numbers_wanted u held)) u.nodes f (wanted-held u held f in')
    ∙ with_number-same t.nodes f (file_node executable bytes) (at_number-below t.nodes f (file_node executable old) at))
    far

pub far-too_long : (t : Tree) (f : ℕ) (bytes : Bytes) (held : List ℕ) → is_file (node_at t f) ≡ true → among held f ≡ true
    → is_past_greatest t (length bytes) ≡ true → is_too_long (preserved (with_content t f bytes) held) ≡ true
far-too_long t f bytes held = far_in t f bytes held (node_at t f) refl
