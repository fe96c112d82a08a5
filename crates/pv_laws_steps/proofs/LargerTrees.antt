-- The tree in a larger image.
use Rattle.std.proofs.Common.{◌≡◌, ℕ, suc, ◌-◌, Bool, true, false, if◌then◌else◌, List, map, flat_map, Option, None, Some, refl, ap, sym, ◌∙◌}
use Rattle.std.specs.FinMap.Entries.{find}
use Rattle.std.specs.Option.{option_or}
use Rattle.pv_model.specs.declared.perms.Perms.{Perms}
use Rattle.pv_model.specs.declared.place.Place.{Place}
use Rattle.pv_model.specs.declared.place.Place.TheVariants.{At, Node as Unnamed}
use Rattle.pv_model.specs.declared.target.Target.TheVariants.{Directory, Name}
use Rattle.pv_model.specs.declared.version.Version.TheVariants.{V2}
use Rattle.pv_model.specs.Machine.{Bytes, contains_directory, status, numbered, Node, Tree, node_at, entries_of, entries_at, is_directory, is_directory_at, find_entry, parent, named_numbers, new_number, IsWellFormed, IsAtOrAbove, Table, entry_for, target_of, Governs, own, from_above, directory_rights, governing_entry, judge_entry, judgement}
use Rattle.pv_model.specs.Effect.{status_of}
use Rattle.pv_model.specs.Tree.{itself, above as is_above}
use Rattle.pv_model.proofs.GoverningEntries.{rights_agree}
use Rattle.pv_laws_trees.proofs.Ancestors.{ancestors-above}
use Rattle.pv_laws_trees.proofs.DirectoryEntries.{by_name}
use Rattle.pv_laws_trees.proofs.WalkPlaces.{parent-alike}
use Rattle.pv_laws_steps.proofs.PaddedMaps.{padded, at-padded, numbered-padded, free-dropped}

-- two options that have the same values are equal
same-options : (a b : Option ℕ) → ((k : ℕ) → a ≡ Some k → b ≡ Some k) → ((k : ℕ) → b ≡ Some k → a ≡ Some k) → b ≡ a
same-options None None one two = refl
same-options None (Some k) one two = sym (two k refl)
same-options (Some k) b one two = one k refl

same-tests : (a b : Bool) → (a ≡ true → b ≡ true) → (b ≡ true → a ≡ true) → b ≡ a
same-tests true b one two = one refl
same-tests false true one two = sym (two refl)
same-tests false false one two = refl

-- two trees have the same parents
module _ (t u : Tree) (up : (n : ℕ) → parent u n ≡ parent t n) where
  governs-alike : (table : Table) (d k : ℕ) → Governs t table d k → Governs u table d k
  governs-alike table _ _ (own d k is) = own d k is
  governs-alike table _ _ (from_above d above k other none is more) = from_above d above k other none (up d ∙ is) (governs-alike table above k more)

  above-alike : (e d : ℕ) → IsAtOrAbove t e d → IsAtOrAbove u e d
  above-alike e _ itself = itself
  above-alike e _ (is_above d above other is more) = is_above d above other (up d ∙ is) (above-alike e above more)

pub rights-alike : (t u : Tree) → ((n : ℕ) → parent u n ≡ parent t n) → (table : Table) (d : ℕ) → directory_rights u table d ≡ directory_rights t table d
rights-alike t u up table d =
    same-options (directory_rights t table d) (directory_rights u table d)
    (λ k is. (rights_agree u table d k).0 (governs-alike t u up table d k ((rights_agree t table d k).1 is)))
    (λ k is. (rights_agree t table d k).0 (governs-alike u t (λ n. sym (up n)) table d k ((rights_agree u table d k).1 is)))

pub contains-alike : (t u : Tree) → IsWellFormed t → IsWellFormed u → ((n : ℕ) → parent u n ≡ parent t n) → (e d : ℕ) → contains_directory u e d ≡ contains_directory t e d
contains-alike t u fine fine' up e d =
    same-tests (contains_directory t e d) (contains_directory u e d)
    (λ is. (ancestors-above u fine' d e).1 (above-alike t u up e d ((ancestors-above t fine d e).0 is)))
    (λ is. (ancestors-above t fine d e).1 (above-alike u t (λ n. sym (up n)) e d ((ancestors-above u fine' d e).0 is)))

module _ (blocks inodes : ℕ) where
  -- the tree with the same nodes, in an image of version 2 of these sizes
  abbrev pub enlarged : Tree → Tree
  enlarged t = record { nodes = padded (inodes - t.inodes) t.nodes; blocks = blocks; inodes = inodes; version = V2 }

  module _ (t : Tree) where
    abbrev u : Tree
    u = enlarged t

    pub node-enlarged : (n : ℕ) → node_at u n ≡ node_at t n
    node-enlarged n = at-padded (inodes - t.inodes) t.nodes n

    pub entries-enlarged : (d : ℕ) → entries_at u d ≡ entries_at t d
    entries-enlarged d = ap entries_of (node-enlarged d)

    pub directory-enlarged : (n : ℕ) → is_directory_at u n ≡ is_directory_at t n
    directory-enlarged n = ap is_directory (node-enlarged n)

    pub found-enlarged : (d : ℕ) (name : Bytes) → find_entry u d name ≡ find_entry t d name
    found-enlarged d name = ap (find by_name name) (entries-enlarged d)

    pub parent-enlarged : (n : ℕ) → parent u n ≡ parent t n
    parent-enlarged = parent-alike t u entries-enlarged

    pub numbered-enlarged : numbered u.nodes ≡ numbered t.nodes
    numbered-enlarged = numbered-padded 0 (inodes - t.inodes) t.nodes

    pub named-enlarged : named_numbers u ≡ named_numbers t
    named-enlarged = ap (λ (ds : List (ℕ × Node)). flat_map (λ (d : ℕ × Node). map (λ e. e.1) (entries_of (Some d.1))) ds) numbered-enlarged

    pub new-enlarged : new_number u ≡ new_number t
    new-enlarged = ap suc (free-dropped (inodes - t.inodes) t.nodes)

    -- ---- unveil tables

    rights-enlarged : (table : Table) (d : ℕ) → directory_rights u table d ≡ directory_rights t table d
    rights-enlarged = rights-alike t u parent-enlarged

    governing-enlarged : (table : Table) (place : Place) → governing_entry u table place ≡ governing_entry t table place
    unfolding governing_entry
    governing-enlarged table (Unnamed n) = rights-enlarged table n
    governing-enlarged table (At d name None) = ap (option_or (entry_for table (Name d name))) (rights-enlarged table d)
    governing-enlarged table (At d name (Some n)) =
        let dir = directory-enlarged n in
        let inside = rights-enlarged table n in
        let above = rights-enlarged table d in
        λ i. if dir i then inside i else option_or (entry_for table (Name d name)) (above i)

    pub judgement-enlarged : (table : Option Table) (place : Place) (needed : Perms) → judgement u table place needed ≡ judgement t table place needed
    unfolding judgement
    judgement-enlarged None place needed = refl
    judgement-enlarged (Some table) place needed = ap (judge_entry table needed) (governing-enlarged table place)

    pub target-enlarged : (place : Place) → target_of u place ≡ target_of t place
    target-enlarged (Unnamed n) = refl
    target-enlarged (At d name None) = refl
    target-enlarged (At d name (Some n)) = ap (λ b. if b then Directory n else Name d name) (directory-enlarged n)

    pub status-enlarged : (n : ℕ) → status u n ≡ status t n
    status-enlarged n = ap (status_of n) (node-enlarged n)
