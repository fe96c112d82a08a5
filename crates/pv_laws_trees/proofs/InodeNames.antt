-- The names and places of the nodes in inodes, if no directory contains a name twice.
use Rattle.std.proofs.Common.{◌≡◌, ℕ, zero, suc, ◌+◌, ◌<◌, ◌≤◌, Bool, true, ◌&&◌, ◌||◌, ◌==◌, map, filter, flat_map, length, Option, None, Some, ap, sym, subst, ◌∙◌, refl, arith, ⊎_elim}
use Rattle.std.specs.FinMap.Entries.{find}
use Rattle.std.specs.List.{list_any, range_with_len}
use Rattle.std.proofs.lemmas.Bool.{and_parts, or_cases, eqb-true}
use Rattle.std.proofs.lemmas.List.Sorted.{list_any-IsPermutation}
use Rattle.pv_model.specs.declared.version.Version.{Version}
use Rattle.pv_model.specs.Machine.{Bytes, slot_number, inode_number, slots_at, name_count, is_reached_within, tree_in, Node, Tree, root, node_at, entries_of, find_entry, names_in, names_of, IsReached, from_root, by_entry}
use Rattle.pv_model.specs.Mount.{has_slot_for, entries_in, node_in}
use Rattle.pv_model.specs.Tree.{names_node}
use Rattle.pv_laws_trees.specs.Inodes.{EachOnce}
use Rattle.pv_laws_trees.specs.Slots.{entry_in_slot}
use Rattle.pv_laws_trees.proofs.DirectoryEntries.{by_name, find-names_node, names_node-find}
use Rattle.pv_laws_trees.proofs.Directories.{sorted-put_all, permuted, named-put_all}
use Rattle.pv_laws_trees.proofs.InodeNodes.{node-there, entries-node, entries_at-in}
use Rattle.pv_laws_trees.proofs.Ranges.{each_in_range, flat-made, as_many_flat, any_map, any_filter, any_in_range, some_left, any_flat}

-- a node with entries exists
some-entries : (o : Option Node) (name : Bytes) (n : ℕ) → find by_name name (entries_of o) ≡ Some n → (node : Node) × (o ≡ Some node)
some-entries None name n is = cc is
some-entries (Some node) name n is = (node, refl)

module _ (v : Version) (bytes : Bytes) (is : EachOnce v bytes) where
  abbrev t : Tree
  t = tree_in v bytes

  abbrev last : ℕ
  last = inode_number bytes

  pub as_many_names : (n : ℕ) → length (names_of t n) ≡ name_count v bytes n
  as_many_names n =
      ap length (flat-made (node_in v bytes) (λ d. names_in n (entries_of (Some d.1)) d.0) (λ d. names_in n (entries_in v bytes (slots_at v bytes d)) d) 1 last
      (λ d low high none. ap (λ es. names_in n es d) (sym (entries-node v bytes d) ∙ ap entries_of none))
      (λ d node some. ap (λ es. names_in n es d) (ap entries_of (sym some) ∙ entries-node v bytes d)))
      ∙ as_many_flat (λ d. names_in n (entries_in v bytes (slots_at v bytes d)) d) (slots_at v bytes) (λ slot. slot_number slot == n) (range_with_len 1 last)
      (each_in_range (λ d. length (names_in n (entries_in v bytes (slots_at v bytes d)) d) ≡ length (filter (λ slot. slot_number slot == n) (slots_at v bytes d))) 1 last
      (λ d low high. named-put_all v bytes n d (slots_at v bytes d) (is.once d low (omega (arith, high)))))

  -- a slot is an entry
  named-slot : (n d : ℕ) → 1 ≤ d → d ≤ last → names_node n (entries_in v bytes (slots_at v bytes d)) ≡ has_slot_for v bytes n d
  named-slot n d low high =
      sym (list_any-IsPermutation (λ (e : Bytes × ℕ). e.1 == n) (map entry_in_slot (slots_at v bytes d)) (entries_in v bytes (slots_at v bytes d)) (permuted v bytes (slots_at v bytes d) (is.once d low high)))
      ∙ any_map entry_in_slot (λ (e : Bytes × ℕ). e.1 == n) (slots_at v bytes d)

  pub slot-entry : (n d : ℕ) → 1 ≤ d → d ≤ last → has_slot_for v bytes n d ≡ true → (name : Bytes) × (find_entry t d name ≡ Some n)
  slot-entry n d low high has =
      let found = names_node-find n (entries_in v bytes (slots_at v bytes d)) (sorted-put_all v bytes (slots_at v bytes d)) (named-slot n d low high ∙ has) in
      (found.0, ap (find by_name found.0) (entries_at-in v bytes d low high) ∙ found.1)

  pub entry-within : (n d : ℕ) (name : Bytes) → find_entry t d name ≡ Some n → (1 ≤ d) × (d ≤ last)
  entry-within n d name found = let node = some-entries (node_at t d) name n found in let at = node-there v bytes d node.0 node.1 in (at.0, at.1)

  pub entry-slot : (n d : ℕ) (name : Bytes) → find_entry t d name ≡ Some n → has_slot_for v bytes n d ≡ true
  entry-slot n d name found =
      let within = entry-within n d name found in
      sym (named-slot n d within.0 within.1)
      ∙ find-names_node n name (entries_in v bytes (slots_at v bytes d)) (ap (find by_name name) (sym (entries_at-in v bytes d within.0 within.1)) ∙ found)

  -- a node with a name has an entry
  pub counted-entry : (n : ℕ) → 1 ≤ name_count v bytes n → (d : ℕ) × (name : Bytes) × (find_entry t d name ≡ Some n)
  counted-entry n some =
      let found = any_in_range (has_slot_for v bytes n) 1 last
      (sym (any_flat (λ slot. slot_number slot == n) (slots_at v bytes) (range_with_len 1 last)) ∙ some_left (λ slot. slot_number slot == n) (flat_map (slots_at v bytes) (range_with_len 1 last)) some) in
      let high : found.0 < 1 + last = found.2 in
      let entry = slot-entry n found.0 found.1 (omega (arith, high)) found.3 in
      (found.0, entry.0, entry.1)

  -- ---- reachable nodes

  -- one step from a reachable node
  abbrev pub steps_to : ℕ → ℕ → ℕ → Bool
  steps_to steps n d = has_slot_for v bytes n d && is_reached_within v bytes steps d

  pub further : (steps n : ℕ) → is_reached_within v bytes (suc steps) n ≡ ((n == root) || list_any (steps_to steps n) (range_with_len 1 last))
  further steps n = ap (λ b. (n == root) || b) (any_filter (has_slot_for v bytes n) (is_reached_within v bytes steps) (range_with_len 1 last))

  pub within-reached : (steps n : ℕ) → is_reached_within v bytes steps n ≡ true → IsReached t n
  within-reached zero n here = subst (IsReached t) (sym (eqb-true n root here)) from_root
  within-reached (suc steps) n here =
      ⊎_elim (λ same. subst (IsReached t) (sym (eqb-true n root same)) from_root)
      (λ following.
      let found = any_in_range (steps_to steps n) 1 last following in
      let high : found.0 < 1 + last = found.2 in
      let parts = and_parts (has_slot_for v bytes n found.0) (is_reached_within v bytes steps found.0) found.3 in
      let entry = slot-entry n found.0 found.1 (omega (arith, high)) parts.0 in
      by_entry found.0 entry.0 n (within-reached steps found.0 parts.1) entry.1)
      (or_cases (n == root) (list_any (steps_to steps n) (range_with_len 1 last)) (sym (further steps n) ∙ here))
