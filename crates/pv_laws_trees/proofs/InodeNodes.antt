-- The nodes in inodes, by the kinds of the inodes.
use Rattle.std.proofs.Common.{◌≡◌, ◌≢◌, ℕ, zero, suc, ◌+◌, ◌/◌, ◌<◌, ◌≤◌, Bool, true, false, not, ◌&&◌, ◌||◌, ◌==◌, nat_lt, nat_le, List, [], map, Option, None, Some, bytes_eq, ap, sym, ◌∙◌, refl, arith, ⊎_elim, ◌⊎◌, inl, inr}
use Rattle.std.specs.Prelude.{if◌then◌else◌}
use Rattle.std.specs.List.{list_any}
use Rattle.std.proofs.lemmas.Bool.{and_parts, and_from, or_parts, or_from, eq-eqb, ne_eqb, ltb-true, ltb-false, le-ltb, leb-true, le-leb}
use Rattle.pv_model.specs.declared.version.Version.{Version}
use Rattle.pv_model.specs.Machine.{Bytes, size, content, slots_of, slot_number, slot_length, slot_name, appears_twice, inode_number, kind, is_free, slots_at, is_bad_slot, has_bad_content, tree_in, entry_length, Entries, Node, directory_node, file_node, link_node, node_at, entries_of, entries_at, is_name, greatest_name}
use Rattle.pv_model.specs.Mount.{entries_in, node_in}
use Rattle.pv_laws_trees.specs.Inodes.{IsFineContent, IsFineSlot}
use Rattle.pv_laws_trees.proofs.Inodes.{under_false, over_false}
use Rattle.pv_laws_trees.proofs.Ranges.{at-made, past-made, none_any, any_none, each_weaker}

-- a property of the five kinds
pub by_kind : (P : ℕ → Type 0) → P 0 → P 1 → P 2 → P 3 → P 4 → (k : ℕ) → k ≤ 4 → P k
by_kind P a b c d e zero low = a
by_kind P a b c d e (suc zero) low = b
by_kind P a b c d e (suc (suc zero)) low = c
by_kind P a b c d e (suc (suc (suc zero))) low = d
by_kind P a b c d e (suc (suc (suc (suc zero)))) low = e
by_kind P a b c d e (suc (suc (suc (suc (suc k))))) low = absurd (omega (arith, low))

abbrev pub node_of : ℕ → Entries → Bytes → Option Node
node_of k es contained =
    if k == 1 then Some (directory_node es)
    else if k == 2 then Some (file_node false contained)
    else if k == 3 then Some (file_node true contained)
    else if k == 4 then Some (link_node contained)
    else None

no_entries : (a b c : Bool) (contained : Bytes)
    → entries_of (if a then Some (file_node false contained) else if b then Some (file_node true contained) else if c then Some (link_node contained) else None) ≡ []
no_entries true b c contained = refl
no_entries false true c contained = refl
no_entries false false true contained = refl
no_entries false false false contained = refl

module _ (v : Version) (bytes : Bytes) where
  -- ---- the nodes by their numbers

  pub node_at-in : (n : ℕ) → 1 ≤ n → n ≤ inode_number bytes → node_at (tree_in v bytes) n ≡ node_in v bytes n
  node_at-in zero low high = absurd (omega (arith, low))
  node_at-in (suc i) low high = at-made (node_in v bytes) 1 (inode_number bytes) i (omega (arith, high)) ∙ ap (node_in v bytes) (let e : 1 + i ≡ suc i = omega arith in e)

  pub node-there : (n : ℕ) (node : Node) → node_at (tree_in v bytes) n ≡ Some node → (1 ≤ n) × (n ≤ inode_number bytes) × (node_in v bytes n ≡ Some node)
  node-there zero node is = cc is
  node-there (suc i) node is =
      ⊎_elim
      (λ below. let low : 1 ≤ suc i = omega arith in let high : suc i ≤ inode_number bytes = omega (arith, below) in
      (low, high, sym (node_at-in (suc i) low high) ∙ is))
      (λ past. let none = past-made (node_in v bytes) 1 (inode_number bytes) i past in let both : None ≡ Some node = sym none ∙ is in cc both)
      (below_or_not i (inode_number bytes))
    where
      below_or_not : (a b : ℕ) → (a < b) ⊎ (b ≤ a)
      below_or_not a b = elim (nat_lt a b) as (λ c. nat_lt a b ≡ c → (a < b) ⊎ (b ≤ a)) [
        | true ↦ λ is. inl (ltb-true a b is)
        | false ↦ λ is. inr (ltb-false a b is)
      ] refl

  -- ---- the entries of a directory

  abbrev pub own_slots : ℕ → List Bytes
  own_slots n = slots_of v (size v bytes n / entry_length v) (content v bytes n)

  pub slots-directory : (n : ℕ) → kind v bytes n ≡ 1 → slots_at v bytes n ≡ own_slots n
  slots-directory n is = ap (λ b. if b then own_slots n else []) (eq-eqb (kind v bytes n) 1 is)

  pub slots-other : (n : ℕ) → kind v bytes n ≢ 1 → slots_at v bytes n ≡ []
  slots-other n other = ap (λ b. if b then own_slots n else []) (ne_eqb (kind v bytes n) 1 other)

  pub entries-node : (n : ℕ) → entries_of (node_in v bytes n) ≡ entries_in v bytes (slots_at v bytes n)
  entries-node n =
      elim (kind v bytes n == 1) as (λ b. entries_of (if b then Some (directory_node (entries_in v bytes (if b then own_slots n else [])))
      else if kind v bytes n == 2 then Some (file_node false (content v bytes n))
      else if kind v bytes n == 3 then Some (file_node true (content v bytes n))
      else if kind v bytes n == 4 then Some (link_node (content v bytes n))
      else None) ≡ entries_in v bytes (if b then own_slots n else [])) [
        | true ↦ refl
        | false ↦ no_entries (kind v bytes n == 2) (kind v bytes n == 3) (kind v bytes n == 4) (content v bytes n)
      ]

  pub entries_at-in : (d : ℕ) → 1 ≤ d → d ≤ inode_number bytes → entries_at (tree_in v bytes) d ≡ entries_in v bytes (slots_at v bytes d)
  entries_at-in d low high = ap entries_of (node_at-in d low high) ∙ entries-node d

  -- ---- slots without errors

  abbrev numbered_test : Bytes → Bool
  numbered_test slot = nat_le 1 (slot_number slot) && nat_le (slot_number slot) (inode_number bytes)

  is_not : (b : Bool) → not b ≡ false → b ≡ true
  is_not true is = refl
  is_not false is = cc is

  slot-fine : (slot : Bytes) → is_bad_slot v bytes slot ≡ false → IsFineSlot v bytes slot
  slot-fine slot none =
      let a = or_parts (not (numbered_test slot) || is_free v bytes (slot_number slot) || nat_lt (greatest_name v) (slot_length slot)) (not (is_name v (slot_name slot))) none in
      let b = or_parts (not (numbered_test slot) || is_free v bytes (slot_number slot)) (nat_lt (greatest_name v) (slot_length slot)) a.0 in
      let c = or_parts (not (numbered_test slot)) (is_free v bytes (slot_number slot)) b.0 in
      let d = and_parts (nat_le 1 (slot_number slot)) (nat_le (slot_number slot) (inode_number bytes)) (is_not (numbered_test slot) c.0) in
      record {
        from_one = leb-true 1 (slot_number slot) d.0;
        in_table = leb-true (slot_number slot) (inode_number bytes) d.1;
        used = c.1;
        short = ltb-false (greatest_name v) (slot_length slot) b.1;
        named = is_not (is_name v (slot_name slot)) a.1;
      }

  fine-slot : (slot : Bytes) → IsFineSlot v bytes slot → is_bad_slot v bytes slot ≡ false
  fine-slot slot is =
      or_from (not (numbered_test slot) || is_free v bytes (slot_number slot) || nat_lt (greatest_name v) (slot_length slot)) (not (is_name v (slot_name slot)))
      (or_from (not (numbered_test slot) || is_free v bytes (slot_number slot)) (nat_lt (greatest_name v) (slot_length slot))
      (or_from (not (numbered_test slot)) (is_free v bytes (slot_number slot))
      (ap not (and_from (nat_le 1 (slot_number slot)) (nat_le (slot_number slot) (inode_number bytes)) (le-leb 1 (slot_number slot) is.from_one) (le-leb (slot_number slot) (inode_number bytes) is.in_table)))
      is.used)
      (le-ltb (greatest_name v) (slot_length slot) is.short))
      (ap not is.named)

  pub content-fine : (n : ℕ) → has_bad_content v bytes n ≡ false → IsFineContent v bytes n
  unfolding has_bad_content
  content-fine n none =
      let a = or_parts (list_any (is_bad_slot v bytes) (slots_at v bytes n) || appears_twice bytes_eq (map slot_name (slots_at v bytes n))) ((kind v bytes n == 4) && list_any (λ b. b == 0) (content v bytes n)) none in
      let b = or_parts (list_any (is_bad_slot v bytes) (slots_at v bytes n)) (appears_twice bytes_eq (map slot_name (slots_at v bytes n))) a.0 in
      record {
        slots = each_weaker (λ slot. is_bad_slot v bytes slot ≡ false) (IsFineSlot v bytes) slot-fine (slots_at v bytes n) (none_any (is_bad_slot v bytes) (slots_at v bytes n) b.0);
        once = b.1;
        text = under_false (kind v bytes n == 4) (list_any (λ b. b == 0) (content v bytes n)) a.1;
      }

  pub fine-content : (n : ℕ) → IsFineContent v bytes n → has_bad_content v bytes n ≡ false
  unfolding has_bad_content
  fine-content n is =
      or_from (list_any (is_bad_slot v bytes) (slots_at v bytes n) || appears_twice bytes_eq (map slot_name (slots_at v bytes n))) ((kind v bytes n == 4) && list_any (λ b. b == 0) (content v bytes n))
      (or_from (list_any (is_bad_slot v bytes) (slots_at v bytes n)) (appears_twice bytes_eq (map slot_name (slots_at v bytes n)))
      (any_none (is_bad_slot v bytes) (slots_at v bytes n) (each_weaker (IsFineSlot v bytes) (λ slot. is_bad_slot v bytes slot ≡ false) fine-slot (slots_at v bytes n) is.slots)) is.once)
      (over_false (kind v bytes n == 4) (list_any (λ b. b == 0) (content v bytes n)) is.text)
