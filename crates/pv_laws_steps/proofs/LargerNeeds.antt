-- The blocks that nodes need in a larger image.
use Rattle.std.proofs.Common.{◌≡◌, ℕ, ◌+◌, ◌*◌, ◌≤◌, Bool, true, false, nat_le, length, refl, cond, arith}
use Rattle.std.proofs.lemmas.Bool.{leb-true, leb-false}
use Rattle.pv_model.specs.declared.version.Version.{Version}
use Rattle.pv_model.specs.declared.version.Version.TheVariants.{V1, V2}
use Rattle.pv_model.specs.Machine.{entry_length, node_length, rounded_up, need, Node, directory_node, file_node, link_node}
use Rattle.pv_model.specs.Room.{index_blocks}

need-content : (v : Version) (n : ℕ) → need V2 n ≤ 5 * need v n
unfolding need
need-content V1 n = by (nat_le (rounded_up n 512) 10) refl
  where
    by : (b : Bool) → nat_le (rounded_up n 512) 10 ≡ b → rounded_up n 512 + index_blocks V2 (rounded_up n 512) ≤ 5 * (rounded_up n 512 + cond b 0 1)
    by true few = omega (arith, leb-true (rounded_up n 512) 10 few)
    by false many = omega (arith, leb-false (rounded_up n 512) 10 many)
need-content V2 n = omega arith

-- a number of entries
need-entries : (v : Version) (n : ℕ) → need V2 (260 * n) ≤ 5 * need v (entry_length v * n)
unfolding need
need-entries V1 n = by (nat_le (rounded_up (64 * n) 512) 10) refl
  where
    by : (b : Bool) → nat_le (rounded_up (64 * n) 512) 10 ≡ b → rounded_up (260 * n) 512 + index_blocks V2 (rounded_up (260 * n) 512) ≤ 5 * (rounded_up (64 * n) 512 + cond b 0 1)
    by true few = omega (arith, leb-true (rounded_up (64 * n) 512) 10 few)
    by false many = omega (arith, leb-false (rounded_up (64 * n) 512) 10 many)
need-entries V2 n = omega arith

pub needs-five_times : (v : Version) (node : Node) → need V2 (node_length V2 node) ≤ 5 * need v (node_length v node)
needs-five_times v (directory_node es) = need-entries v (length es)
needs-five_times v (file_node executable bytes) = need-content v (length bytes)
needs-five_times v (link_node text) = need-content v (length text)
