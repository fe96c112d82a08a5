-- The tree of files.
use Rattle.std.proofs.Common.{◌≡◌, ℕ, suc, ◌+◌, ◌-◌, ◌*◌, ◌<◌, ◌≤◌, true, length, drop, map, Option, None, Some, is_some, refl, sym, ap, subst, ◌∙◌, arith}
use Rattle.std.specs.Prelude.{option_map, IsSome}
use Rattle.std.specs.FinMap.Entries.{find}
use Rattle.std.proofs.lemmas.List.{length-map, drop-map}
use Rattle.pv_model.specs.declared.kind.Kind.{Kind}
use Rattle.pv_model.specs.declared.kind.Kind.TheVariants.{Directory, File, Executable, Symlink}
use Rattle.pv_model.specs.declared.version.Version.{Version}
use Rattle.pv_model.specs.Machine.{Bytes, inode_blocks, greatest_blocks, Numbered, with_number, without_number, least_free, entry_length, node_length, need, Node, entries_of, node_at, is_directory, is_directory_at, entries_at, find_entry, with_node, new_number as new_number_in}
use Rattle.pv_inodes.specs.Files.{contained_bytes, Contained, Files, held, IsUsed, inode_bytes_at, room_of, total_room, files_with_bytes, without, new_inode}
use Rattle.pv_inodes.proofs.EditedFiles.{files_with_bytes-is}
use Rattle.pv_inodes.proofs.NumberMaps.{at_number-within}
use Rattle.pv_dirs.specs.Slots.{slot_count, slot_entries, in_order, IsSlotted}
use Rattle.pv_dirs.specs.Trees.{node_from, node_of_contained, tree_of_files, IsHolding, without_node, total_need}
use Rattle.pv_dirs.proofs.SortedEntries.{by_name, length-in_order, find-in_order}
use Rattle.pv_dirs.proofs.MappedNumbers.{at_number-map, map-with_number, map-without_number, least_free-map, sum_by-present-map, length-with_number, length-without_number, each-with_number, each-without_number}
use Rattle.pv_dirs.proofs.EqualParts.{slot_some, whole_is}
use Rattle.pv_dirs.proofs.SlotBytes.{length-slot_entries}

pub nodes-tree_of_files : (f : Files) → (tree_of_files f).nodes ≡ map (option_map (node_of_contained f.version)) f.nodes
unfolding tree_of_files
nodes-tree_of_files f = refl

pub blocks-tree_of_files : (f : Files) → (tree_of_files f).blocks ≡ f.blocks
unfolding tree_of_files
blocks-tree_of_files f = refl

pub inodes-tree_of_files : (f : Files) (n : ℕ) → length f.nodes ≡ suc n → (tree_of_files f).inodes ≡ n
unfolding tree_of_files
inodes-tree_of_files f n long = omega arith

pub version-tree_of_files : (f : Files) → (tree_of_files f).version ≡ f.version
unfolding tree_of_files
version-tree_of_files f = refl

pub sizes-tree_of_files : (f : Files) (b : ℕ) → IsHolding f b → inode_blocks (tree_of_files f).version (tree_of_files f).inodes + 1 + b ≤ greatest_blocks (tree_of_files f).version
unfolding tree_of_files
sizes-tree_of_files f b h = h.allowed

pub length-tree_of_files : (f : Files) → length (tree_of_files f).nodes ≡ length f.nodes
length-tree_of_files f = ap length (nodes-tree_of_files f) ∙ length-map f.nodes (option_map (node_of_contained f.version))

pub node_at-tree_of_files : (f : Files) (n : ℕ) → node_at (tree_of_files f) n ≡ option_map (node_of_contained f.version) (held f n)
unfolding tree_of_files
node_at-tree_of_files f n = at_number-map (node_of_contained f.version) f.nodes n

pub is_some-option_map : {X Y : Type 0} (g : X → Y) (o : Option X) → is_some (option_map g o) ≡ is_some o
is_some-option_map g None = refl
is_some-option_map g (Some x) = refl

pub is_some-tree_of_files : (f : Files) (n : ℕ) → is_some (node_at (tree_of_files f) n) ≡ is_some (held f n)
is_some-tree_of_files f n = ap is_some (node_at-tree_of_files f n) ∙ is_some-option_map (node_of_contained f.version) (held f n)

pub used_in : (f : Files) (n : ℕ) → IsSome (node_at (tree_of_files f) n) → IsUsed f n
used_in f n used = sym (is_some-tree_of_files f n) ∙ used

pub new_inode-tree_of_files : (f : Files) → new_number_in (tree_of_files f) ≡ new_inode f
unfolding tree_of_files
new_inode-tree_of_files f = ap (λ (xs : Numbered Node). suc (least_free xs)) (drop-map (option_map (node_of_contained f.version)) 1 f.nodes) ∙ ap suc (least_free-map (node_of_contained f.version) (drop 1 f.nodes))

-- ---- changes

pub tree_of_files-with_number : (f : Files) (n : ℕ) (c : Contained) → n < length f.nodes → tree_of_files (record f { nodes = with_number f.nodes n c }) ≡ with_node (tree_of_files f) n (node_of_contained f.version c)
unfolding tree_of_files
tree_of_files-with_number f n c within =
    let nodes = map-with_number (node_of_contained f.version) f.nodes n c in
    let long = length-with_number f.nodes n c within in
    λ i. record { nodes = nodes i; blocks = f.blocks; inodes = long i - 1; version = f.version }

pub tree_of_files-without : (f : Files) (n : ℕ) → tree_of_files (without f n) ≡ without_node (tree_of_files f) n
unfolding tree_of_files
tree_of_files-without f n =
    let nodes = map-without_number (node_of_contained f.version) f.nodes n in
    let long = length-without_number f.nodes n in
    λ i. record { nodes = nodes i; blocks = f.blocks; inodes = long i - 1; version = f.version }

pub tree_of_files-files_with_bytes : (f : Files) (n : ℕ) (c : Contained) (xs : Bytes) → held f n ≡ Some c → tree_of_files (files_with_bytes f n xs) ≡ with_node (tree_of_files f) n (node_from f.version c.sort xs)
tree_of_files-files_with_bytes f n c xs there = ap tree_of_files (files_with_bytes-is f n c xs there) ∙ tree_of_files-with_number f n (record c { bytes = xs }) (at_number-within f.nodes n c there)

-- the same number of inodes takes the same number of blocks
allowed-alike : (f : Files) (b : ℕ) (xs : Numbered Contained) → length xs ≡ length f.nodes → IsHolding f b → inode_blocks f.version (length xs - 1) + 1 + b ≤ greatest_blocks f.version
allowed-alike f b xs long h = subst (λ k. inode_blocks f.version (k - 1) + 1 + b ≤ greatest_blocks f.version) (sym long) h.allowed

-- an inode satisfies the invariant of directories
HoldsWell : Version → Contained → Type 0
HoldsWell v c = c.sort ≡ Directory → IsSlotted v c.bytes

pub holding-with_number : (f : Files) (b n : ℕ) (c : Contained) → n < length f.nodes → IsHolding f b → (c.sort ≡ Directory → IsSlotted f.version c.bytes) → IsHolding (record f { nodes = with_number f.nodes n c }) b
unfolding HoldsWell
holding-with_number f b n c within h new = record {
  sized = h.sized;
  allowed = allowed-alike f b (with_number f.nodes n c) (length-with_number f.nodes n c within) h;
  slotted = each-with_number (λ _. HoldsWell f.version) f.nodes n c within (λ m y _ at. h.slotted m y at) (λ y is. let same : c ≡ y = cc in subst (HoldsWell f.version) same new);
}

pub holding-without : (f : Files) (b n : ℕ) → IsHolding f b → IsHolding (without f n) b
unfolding HoldsWell
holding-without f b n h = record {
  sized = h.sized;
  allowed = allowed-alike f b (without_number f.nodes n) (length-without_number f.nodes n) h;
  slotted = each-without_number (λ _. HoldsWell f.version) f.nodes n h.slotted;
}

pub holding-files_with_bytes : (f : Files) (b n : ℕ) (c : Contained) (xs : Bytes) → IsHolding f b → held f n ≡ Some c → (c.sort ≡ Directory → IsSlotted f.version xs) → IsHolding (files_with_bytes f n xs) b
holding-files_with_bytes f b n c xs h there new = rw (files_with_bytes-is f n c xs there) (holding-with_number f b n (record c { bytes = xs }) (at_number-within f.nodes n c there) h new)

-- ---- room

pub node_length-node_from : (v : Version) (sort : Kind) (bytes : Bytes) → (sort ≡ Directory → IsSlotted v bytes) → node_length v (node_from v sort bytes) ≡ length bytes
unfolding node_from
node_length-node_from v Directory bytes slotted =
    let s : IsSlotted v bytes = slotted refl in
    ap (λ n. entry_length v * n) (length-in_order (slot_entries v bytes) s.distinct ∙ length-slot_entries v bytes) ∙ sym (whole_is (entry_length v) (slot_some v) (length bytes) s.whole)
node_length-node_from v File bytes slotted = refl
node_length-node_from v Executable bytes slotted = refl
node_length-node_from v Symlink bytes slotted = refl

pub total_need-tree_of_files : (f : Files) (b : ℕ) → IsHolding f b → total_need (tree_of_files f) ≡ total_room f
unfolding tree_of_files
total_need-tree_of_files f b h = sum_by-present-map (node_of_contained f.version) (λ node. need f.version (node_length f.version node)) (room_of f.version) f.nodes (λ n c there. ap (need f.version) (node_length-node_from f.version c.sort c.bytes (h.slotted n c there)))

-- ---- directories

is_directory-node_from : (v : Version) (sort : Kind) (bytes : Bytes) → is_directory (Some (node_from v sort bytes)) ≡ true → sort ≡ Directory
unfolding node_from
is_directory-node_from v Directory bytes is = refl
is_directory-node_from v File bytes is = cc
is_directory-node_from v Executable bytes is = cc
is_directory-node_from v Symlink bytes is = cc

from_held : (f : Files) (d : ℕ) (o : Option Contained) → held f d ≡ o → is_directory (option_map (node_of_contained f.version) o) ≡ true → held f d ≡ Some (record { sort = Directory; bytes = inode_bytes_at f d })
from_held f d None there is = cc
from_held f d (Some c) there is =
    let sort = is_directory-node_from f.version c.sort c.bytes is in
    let bytes : c.bytes ≡ inode_bytes_at f d = ap contained_bytes (sym there) in
    there ∙ (λ i. Some (record { sort = sort i; bytes = bytes i }))

-- a directory is an inode in use, with its contents
pub directory_held : (f : Files) (d : ℕ) → is_directory_at (tree_of_files f) d ≡ true → held f d ≡ Some (record { sort = Directory; bytes = inode_bytes_at f d })
directory_held f d is = from_held f d (held f d) refl (ap is_directory (sym (node_at-tree_of_files f d)) ∙ is)

pub directory_used : (f : Files) (d : ℕ) → is_directory_at (tree_of_files f) d ≡ true → IsUsed f d
directory_used f d is = ap is_some (directory_held f d is)

pub directory_slotted : (f : Files) (b d : ℕ) → IsHolding f b → is_directory_at (tree_of_files f) d ≡ true → IsSlotted f.version (inode_bytes_at f d)
directory_slotted f b d h is = h.slotted d (record { sort = Directory; bytes = inode_bytes_at f d }) (directory_held f d is) refl

pub entries_at-tree_of_files : (f : Files) (d : ℕ) → is_directory_at (tree_of_files f) d ≡ true → entries_at (tree_of_files f) d ≡ in_order (slot_entries f.version (inode_bytes_at f d))
unfolding node_from
entries_at-tree_of_files f d is = ap entries_of (node_at-tree_of_files f d ∙ ap (option_map (node_of_contained f.version)) (directory_held f d is))

pub find_entry-tree_of_files : (f : Files) (d : ℕ) (name : Bytes) → is_directory_at (tree_of_files f) d ≡ true → find_entry (tree_of_files f) d name ≡ find by_name name (slot_entries f.version (inode_bytes_at f d))
find_entry-tree_of_files f d name is = ap (find by_name name) (entries_at-tree_of_files f d is) ∙ find-in_order name (slot_entries f.version (inode_bytes_at f d))

pub length-entries_at : (f : Files) (b d : ℕ) → IsHolding f b → is_directory_at (tree_of_files f) d ≡ true → length (entries_at (tree_of_files f) d) ≡ slot_count f.version (inode_bytes_at f d)
length-entries_at f b d h is =
    ap length (entries_at-tree_of_files f d is) ∙ length-in_order (slot_entries f.version (inode_bytes_at f d)) (directory_slotted f b d h is).distinct ∙ length-slot_entries f.version (inode_bytes_at f d)
