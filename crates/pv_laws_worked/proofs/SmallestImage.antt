-- The smallest image holds the tree of the root alone.
use Rattle.std.proofs.Common.{◌≡◌, ℕ, zero, suc, ◌==◌, ◌≤◌, length, [], None, refl, arith}
use Rattle.std.specs.Prelude.{IsTrue, is_some}
use Rattle.std.specs.List.{IsDistinct}
use Rattle.pv_model.specs.declared.version.Version.TheVariants.{V1}
use Rattle.pv_model.specs.Machine.{Holds, HoldsAny, used_blocks, IsImageOf, IsWrittenImageOf, directory_node, root, node_at, entries_at, is_node, names_of, parent, by_entry, IsReached, IsWellFormed}
use Rattle.pv_model.specs.Image.{no_slot}
use Rattle.pv_laws_worked.specs.Images.{smallest, smallest_tree}
use Rattle.pv_laws_worked.proofs.ConcreteTrees.{below, each, each_entry, each_directory}

whole : IsWellFormed smallest_tree
whole =
    let few : 0 ≤ 1 = omega arith in
    record {
      numbers = refl;
      no_zero = refl;
      each_node = each (λ n node. IsTrue (is_node V1 node)) smallest_tree.nodes (refl, tt);
      root_is_directory = refl;
      root_is_unnamed = refl;
      entries_are_nodes = λ d name n is. each_entry smallest_tree (λ e m. IsTrue (is_some (node_at smallest_tree m))) (tt, tt) d name n is;
      directories_once = each_directory smallest_tree (λ n. length (names_of smallest_tree n) ≤ 1) ((λ is. few), tt);
      named_are_reached = λ d name n is. by_entry d name n (each_entry smallest_tree (λ e m. IsReached smallest_tree e) (tt, tt) d name n is) is;
      removed_are_empty = each_directory smallest_tree (λ d. parent smallest_tree d ≡ None → entries_at smallest_tree d ≡ []) ((λ is none. refl), tt);
    }

held : Holds V1 smallest smallest_tree 1 (directory_node [])
held =
    let allowed : 0 ≤ 136192 = omega arith in
    record { kind = refl; length_stored = refl; length_allowed = allowed; count = refl; has_content = ([], no_slot, record { moves = []; below = tt; is = refl }) }

inode_held : (n : ℕ) → 1 ≤ n → n ≤ 1 → HoldsAny V1 smallest smallest_tree n (node_at smallest_tree n)
inode_held zero low high = absurd (omega arith)
inode_held (suc n) low high = below (λ m. HoldsAny V1 smallest smallest_tree (suc m) (node_at smallest_tree (suc m))) 1 (held, tt) n (omega arith)

distinct : IsDistinct ◌==◌ (used_blocks smallest smallest_tree)
unfolding IsDistinct
distinct = tt

smallest_is_image : IsImageOf smallest smallest_tree
smallest_is_image =
    let one : 1 ≤ 1 = omega arith in
    let few : 1 ≤ 4096 = omega arith in
    let some : 2 ≤ 2 = omega arith in
    let small : 2 ≤ 8192 = omega arith in
    record {
      has_magic = refl;
      all_blocks = refl;
      all_inodes = refl;
      inodes_allowed = (one, few);
      blocks_allowed = (some, small);
      data_blocks = refl;
      each_inode = inode_held;
      in_data = tt;
      used_once = distinct;
      well_formed = whole;
      each_named = each (λ n node. names_of smallest_tree n ≡ [] → n ≡ root) smallest_tree.nodes ((λ none. refl), tt);
    }

pub smallest_is_written : IsWrittenImageOf smallest smallest_tree
smallest_is_written = record { is_image = smallest_is_image; zeros = refl }
