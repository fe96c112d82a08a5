-- The image of the run that reads one file holds its tree.
use Rattle.std.proofs.Common.{◌≡◌, ℕ, zero, suc, ◌==◌, ◌<◌, ◌≤◌, true, false, length, [], ◌∷◌, ◌++◌, replicate, codes, None, refl, arith}
use Rattle.std.specs.Prelude.{IsTrue, IsPermutation, is_some}
use Rattle.std.specs.List.{IsDistinct}
use Rattle.pv_model.specs.declared.version.Version.TheVariants.{V1}
use Rattle.pv_model.specs.Machine.{Bytes, AreSlots, Holds, HoldsAny, content, used_blocks, IsImageOf, IsWrittenImageOf, machine_on_literals, directory_node, file_node, root, node_at, entries_at, is_directory_at, is_node, names_of, parent, IsReached, from_root, by_entry, IsWellFormed}
use Rattle.pv_model.specs.Image.{IsSlot, no_slot, another_slot}
use Rattle.pv_laws_worked.specs.Images.{slot_bytes, example_program, example, example_tree}
use Rattle.pv_laws_worked.proofs.ConcreteTrees.{below, each, each_entry, each_directory, some_is_none, cons_is_nil}

reached_2 : IsReached example_tree 2
reached_2 = by_entry root (codes "etc") 2 from_root refl

empty : (d : ℕ) → IsTrue (is_directory_at example_tree d) → parent example_tree d ≡ None → entries_at example_tree d ≡ []
unfolding machine_on_literals
empty = each_directory example_tree (λ d. parent example_tree d ≡ None → entries_at example_tree d ≡ [])
    ((λ is none. absurd (some_is_none 1 none)), ((λ is none. absurd (some_is_none 1 none)), ((λ is none. refl), ((λ is none. refl), tt))))

once : (n : ℕ) → IsTrue (is_directory_at example_tree n) → length (names_of example_tree n) ≤ 1
once =
    let one : 1 ≤ 1 = omega arith in
    let zero_names : 0 ≤ 1 = omega arith in
    each_directory example_tree (λ n. length (names_of example_tree n) ≤ 1) ((λ is. zero_names), ((λ is. one), ((λ is. one), ((λ is. one), tt))))

whole : IsWellFormed example_tree
whole = record {
  numbers = refl;
  no_zero = refl;
  each_node = each (λ n node. IsTrue (is_node V1 node)) example_tree.nodes (refl, (refl, (refl, (refl, tt))));
  root_is_directory = refl;
  root_is_unnamed = refl;
  entries_are_nodes = λ d name n is.
      each_entry example_tree (λ e m. IsTrue (is_some (node_at example_tree m))) ((refl, (refl, tt)), ((refl, tt), (tt, (tt, tt)))) d name n is;
  directories_once = once;
  named_are_reached = λ d name n is.
      by_entry d name n (each_entry example_tree (λ e m. IsReached example_tree e) ((from_root, (from_root, tt)), ((reached_2, tt), (tt, (tt, tt)))) d name n is) is;
  removed_are_empty = empty;
}

slot_1 : IsSlot V1 (slot_bytes 4 (codes "init")) (codes "init") 4
slot_1 = record { number = 4 ∷ 0 ∷ []; unread = 0; left = replicate 56 0; is_encoded = refl; two_bytes = refl; is_number = refl; is_whole = refl }

slot_2 : IsSlot V1 (slot_bytes 2 (codes "etc")) (codes "etc") 2
slot_2 = record { number = 2 ∷ 0 ∷ []; unread = 0; left = replicate 57 0; is_encoded = refl; two_bytes = refl; is_number = refl; is_whole = refl }

slot_3 : IsSlot V1 (slot_bytes 3 (codes "motd")) (codes "motd") 3
slot_3 = record { number = 3 ∷ 0 ∷ []; unread = 0; left = replicate 56 0; is_encoded = refl; two_bytes = refl; is_number = refl; is_whole = refl }

root_slots : AreSlots V1 (content V1 example 1) ((codes "init", 4) ∷ (codes "etc", 2) ∷ [])
root_slots =
    another_slot (slot_bytes 4 (codes "init")) (slot_bytes 2 (codes "etc") ++ []) (codes "init") 4 ((codes "etc", 2) ∷ []) slot_1
    (another_slot (slot_bytes 2 (codes "etc")) [] (codes "etc") 2 [] slot_2 no_slot)

exchanged : IsPermutation {X = Bytes × ℕ} ((codes "init", 4) ∷ (codes "etc", 2) ∷ []) ((codes "etc", 2) ∷ (codes "init", 4) ∷ [])
exchanged =
    let first : 0 < 2 = omega arith in
    let second : 1 < 2 = omega arith in
    record { moves = (0, 1) ∷ []; below = (first, second, tt); is = refl }

root_held : Holds V1 example example_tree 1 (directory_node ((codes "etc", 2) ∷ (codes "init", 4) ∷ []))
root_held =
    let allowed : 128 ≤ 136192 = omega arith in
    record { kind = refl; length_stored = refl; length_allowed = allowed; count = refl; has_content = (((codes "init", 4) ∷ (codes "etc", 2) ∷ []), root_slots, exchanged) }

etc_slots : AreSlots V1 (content V1 example 2) ((codes "motd", 3) ∷ [])
etc_slots = another_slot (slot_bytes 3 (codes "motd")) [] (codes "motd") 3 [] slot_3 no_slot

etc_held : Holds V1 example example_tree 2 (directory_node ((codes "motd", 3) ∷ []))
etc_held =
    let allowed : 64 ≤ 136192 = omega arith in
    record { kind = refl; length_stored = refl; length_allowed = allowed; count = refl; has_content = (((codes "motd", 3) ∷ []), etc_slots, record { moves = []; below = tt; is = refl }) }

motd_held : Holds V1 example example_tree 3 (file_node false (codes "hello"))
motd_held =
    let allowed : 5 ≤ 136192 = omega arith in
    record { kind = refl; length_stored = refl; length_allowed = allowed; count = refl; has_content = refl }

init_held : Holds V1 example example_tree 4 (file_node true example_program)
init_held =
    let allowed : 72 ≤ 136192 = omega arith in
    record { kind = refl; length_stored = refl; length_allowed = allowed; count = refl; has_content = refl }

inode_held : (n : ℕ) → 1 ≤ n → n ≤ 16 → HoldsAny V1 example example_tree n (node_at example_tree n)
inode_held zero low high = absurd (omega arith)
inode_held (suc n) low high =
    below (λ m. HoldsAny V1 example example_tree (suc m) (node_at example_tree (suc m))) 16
    (root_held, (etc_held, (motd_held, (init_held, (refl, (refl, (refl, (refl, (refl, (refl, (refl, (refl, (refl, (refl, (refl, (refl, tt)))))))))))))))) n (omega arith)

distinct : IsDistinct ◌==◌ (used_blocks example example_tree)
unfolding IsDistinct
distinct = ((refl, (refl, (refl, tt))), ((refl, (refl, tt)), ((refl, tt), (tt, tt))))

pub example_is_image : IsImageOf example example_tree
example_is_image =
    let one : 1 ≤ 16 = omega arith in
    let few : 16 ≤ 4096 = omega arith in
    let some : 2 ≤ 16 = omega arith in
    let small : 16 ≤ 8192 = omega arith in
    let after_2 : 1 < 2 = omega arith in
    let after_3 : 1 < 3 = omega arith in
    let after_4 : 1 < 4 = omega arith in
    let after_5 : 1 < 5 = omega arith in
    let within_2 : 2 < 16 = omega arith in
    let within_3 : 3 < 16 = omega arith in
    let within_4 : 4 < 16 = omega arith in
    let within_5 : 5 < 16 = omega arith in
    record {
      has_magic = refl;
      all_blocks = refl;
      all_inodes = refl;
      inodes_allowed = (one, few);
      blocks_allowed = (some, small);
      data_blocks = refl;
      each_inode = inode_held;
      in_data = ((after_2, within_2), ((after_3, within_3), ((after_4, within_4), ((after_5, within_5), tt))));
      used_once = distinct;
      well_formed = whole;
      each_named = each (λ n node. names_of example_tree n ≡ [] → n ≡ root) example_tree.nodes
          ((λ none. refl), ((λ none. absurd (cons_is_nil (1, codes "etc") [] none)), ((λ none. absurd (cons_is_nil (2, codes "motd") [] none)), ((λ none. absurd (cons_is_nil (1, codes "init") [] none)), tt))));
    }

pub example_is_written : IsWrittenImageOf example example_tree
example_is_written = record { is_image = example_is_image; zeros = refl }
