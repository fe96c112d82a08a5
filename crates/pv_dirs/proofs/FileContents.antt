-- The contents of files and symbolic links in the tree of files.
use Rattle.std.proofs.Common.{◌≡◌, ◌≢◌, ℕ, ◌<◌, true, false, [], ◌∷◌, length, Option, None, Some, is_some, refl, sym, ap, ◌∙◌, arith}
use Rattle.std.specs.Prelude.{option_map, IsSome}
use Rattle.pv_model.specs.declared.kind.Kind.{Kind}
use Rattle.pv_model.specs.declared.kind.Kind.TheVariants.{Directory, File, Executable, Symlink}
use Rattle.pv_model.specs.declared.version.Version.{Version}
use Rattle.pv_model.specs.declared.version.Version.TheVariants.{V1, V2}
use Rattle.pv_model.specs.Machine.{Bytes, overwrite, resize, size_of, Node, node_at, is_directory, is_directory_at, with_node}
use Rattle.pv_inodes.specs.Files.{Contained, Files, held, IsUsed, inode_bytes_at, contained_bytes, sort_at, LacksRoomForFiles, files_with_bytes, written_files, truncated_files, with_new}
use Rattle.pv_inodes.proofs.EditedFiles.{some_is}
use Rattle.pv_dirs.specs.Slots.{slot_count, slot_entries, in_order, IsDistinct, IsSlotted}
use Rattle.pv_dirs.specs.Trees.{node_from, node_of_contained, tree_of_files, IsHolding, kind_of_node, empty_node, node_bytes_at as bytes_in, stored_bytes_of as bytes_of_node, node_with_bytes, with_bytes_at, written_tree as tree_written, truncated_tree as tree_cut, LacksRoomForTree as TreeLacksRoom, with_node_replaced}
use Rattle.pv_dirs.proofs.SortedEntries.{length-in_order}
use Rattle.pv_dirs.proofs.EqualParts.{no_entries, none_counted, none_left}
use Rattle.pv_dirs.proofs.SlotBytes.{length-slot_entries}
use Rattle.pv_dirs.proofs.FileTrees.{node_at-tree_of_files, used_in, blocks-tree_of_files, total_need-tree_of_files, tree_of_files-files_with_bytes, tree_of_files-with_number, holding-files_with_bytes, holding-with_number}

-- ---- kinds and sizes

kind_of_node-node_from : (v : Version) (sort : Kind) (bytes : Bytes) → kind_of_node (node_from v sort bytes) ≡ sort
unfolding node_from
kind_of_node-node_from v Directory bytes = refl
kind_of_node-node_from v File bytes = refl
kind_of_node-node_from v Executable bytes = refl
kind_of_node-node_from v Symlink bytes = refl

sort_held : (v : Version) (o : Option Contained) → option_map kind_of_node (option_map (node_of_contained v) o) ≡ option_map (λ c. c.sort) o
sort_held v None = refl
sort_held v (Some c) = ap Some (kind_of_node-node_from v c.sort c.bytes)

pub sort_at-tree_of_files : (f : Files) (n : ℕ) → option_map kind_of_node (node_at (tree_of_files f) n) ≡ sort_at f n
sort_at-tree_of_files f n = ap (option_map kind_of_node) (node_at-tree_of_files f n) ∙ sort_held f.version (held f n)

size_of-directory : (v : Version) (bytes : Bytes) → IsSlotted v bytes → size_of (node_from v Directory bytes) ≡ slot_count v bytes
unfolding node_from
size_of-directory v bytes s = length-in_order (slot_entries v bytes) s.distinct ∙ length-slot_entries v bytes

size_of-other : (v : Version) (sort : Kind) (bytes : Bytes) → sort ≢ Directory → size_of (node_from v sort bytes) ≡ length bytes
unfolding node_from
size_of-other v Directory bytes other = absurd (other refl)
size_of-other v File bytes other = refl
size_of-other v Executable bytes other = refl
size_of-other v Symlink bytes other = refl

size_held : (v : Version) (o : Option Contained) (sort : Kind) → option_map (λ c. c.sort) o ≡ Some sort → (sort ≡ Directory → IsSlotted v (contained_bytes o)) → option_map size_of (option_map (node_of_contained v) o) ≡ Some (size_of (node_from v sort (contained_bytes o)))
size_held v None sort is slotted = cc
size_held v (Some c) sort is slotted = let same : c.sort ≡ sort = cc in ap (λ (s : Kind). Some (size_of (node_from v s c.bytes))) same

slotted_held : (f : Files) (b n : ℕ) → IsHolding f b → (o : Option Contained) → held f n ≡ o → option_map (λ c. c.sort) o ≡ Some Directory → IsSlotted f.version (contained_bytes o)
slotted_held f b n h None there is = cc
slotted_held f b n h (Some c) there is = let same : c.sort ≡ Directory = cc in h.slotted n c there same

pub size_directory : (f : Files) (b n : ℕ) → IsHolding f b → sort_at f n ≡ Some Directory → option_map size_of (node_at (tree_of_files f) n) ≡ Some (slot_count f.version (inode_bytes_at f n))
size_directory f b n h is =
    let slotted = slotted_held f b n h (held f n) refl is in
    ap (option_map size_of) (node_at-tree_of_files f n) ∙ size_held f.version (held f n) Directory is (λ _. slotted) ∙ ap Some (size_of-directory f.version (inode_bytes_at f n) slotted)

pub size_other : (f : Files) (n : ℕ) (sort : Kind) → sort_at f n ≡ Some sort → sort ≢ Directory → option_map size_of (node_at (tree_of_files f) n) ≡ Some (length (inode_bytes_at f n))
size_other f n sort is other =
    ap (option_map size_of) (node_at-tree_of_files f n) ∙ size_held f.version (held f n) sort is (λ e. absurd (other e)) ∙ ap Some (size_of-other f.version sort (inode_bytes_at f n) other)

is_directory-sort : (v : Version) (sort : Kind) (o : Option Contained) → option_map (λ c. c.sort) o ≡ Some sort → is_directory (option_map (node_of_contained v) o) ≡ is_directory (Some (node_from v sort (contained_bytes o)))
is_directory-sort v sort None is = cc
is_directory-sort v sort (Some c) is = let same : c.sort ≡ sort = cc in ap (λ (s : Kind). is_directory (Some (node_from v s c.bytes))) same

is_directory-directory : (v : Version) (bytes : Bytes) → is_directory (Some (node_from v Directory bytes)) ≡ true
unfolding node_from
is_directory-directory v bytes = refl

is_directory-other : (v : Version) (sort : Kind) (bytes : Bytes) → sort ≢ Directory → is_directory (Some (node_from v sort bytes)) ≡ false
unfolding node_from
is_directory-other v Directory bytes other = absurd (other refl)
is_directory-other v File bytes other = refl
is_directory-other v Executable bytes other = refl
is_directory-other v Symlink bytes other = refl

pub is_directory_by_sort : (f : Files) (n : ℕ) → sort_at f n ≡ Some Directory → is_directory_at (tree_of_files f) n ≡ true
is_directory_by_sort f n is = ap is_directory (node_at-tree_of_files f n) ∙ is_directory-sort f.version Directory (held f n) is ∙ is_directory-directory f.version (inode_bytes_at f n)

pub no_directory_by_sort : (f : Files) (n : ℕ) (sort : Kind) → sort_at f n ≡ Some sort → sort ≢ Directory → is_directory_at (tree_of_files f) n ≡ false
no_directory_by_sort f n sort is other = ap is_directory (node_at-tree_of_files f n) ∙ is_directory-sort f.version sort (held f n) is ∙ is_directory-other f.version sort (inode_bytes_at f n) other

no_directory_none : (v : Version) (o : Option Contained) → (is_some o ≡ true → ⊥) → is_directory (option_map (node_of_contained v) o) ≡ false
no_directory_none v None none = refl
no_directory_none v (Some c) none = absurd (none refl)

pub no_directory_unused : (f : Files) (n : ℕ) → (IsUsed f n → ⊥) → is_directory_at (tree_of_files f) n ≡ false
no_directory_unused f n unused = ap is_directory (node_at-tree_of_files f n) ∙ no_directory_none f.version (held f n) unused

-- ---- bytes

sort_other : (v : Version) (sort : Kind) (bytes : Bytes) → is_directory (Some (node_from v sort bytes)) ≡ false → sort ≢ Directory
sort_other v sort bytes is same = let no = sym is ∙ ap (λ (s : Kind). is_directory (Some (node_from v s bytes))) same ∙ is_directory-directory v bytes in cc

bytes_other : (v : Version) (sort : Kind) (bytes : Bytes) → sort ≢ Directory → bytes_of_node (Some (node_from v sort bytes)) ≡ bytes
unfolding node_from
bytes_other v Directory bytes other = absurd (other refl)
bytes_other v File bytes other = refl
bytes_other v Executable bytes other = refl
bytes_other v Symlink bytes other = refl

with_bytes_other : (v : Version) (sort : Kind) (xs ys : Bytes) → sort ≢ Directory → node_with_bytes (node_from v sort xs) ys ≡ node_from v sort ys
unfolding node_from
with_bytes_other v Directory xs ys other = absurd (other refl)
with_bytes_other v File xs ys other = refl
with_bytes_other v Executable xs ys other = refl
with_bytes_other v Symlink xs ys other = refl

-- a file or a symbolic link
pub record IsContent (f : Files) (n : ℕ) (c : Contained) : Type 0 where
  pub there : held f n ≡ Some c
  pub other : c.sort ≢ Directory

pub content : (f : Files) (n : ℕ) → IsSome (node_at (tree_of_files f) n) → is_directory_at (tree_of_files f) n ≡ false → (c : Contained) × IsContent f n c
content f n used other =
    let some = some_is (held f n) (used_in f n used) in
    let no : is_directory (Some (node_of_contained f.version some.0)) ≡ false = ap is_directory (sym (node_at-tree_of_files f n ∙ ap (option_map (node_of_contained f.version)) some.1)) ∙ other in
    (some.0, record { there = some.1; other = sort_other f.version some.0.sort some.0.bytes no })

module _ (f : Files) (n : ℕ) (c : Contained) (is : IsContent f n c) where
  node_there : node_at (tree_of_files f) n ≡ Some (node_of_contained f.version c)
  node_there = node_at-tree_of_files f n ∙ ap (option_map (node_of_contained f.version)) is.there

  pub inode_bytes_at-tree_of_files : bytes_in (tree_of_files f) n ≡ inode_bytes_at f n
  inode_bytes_at-tree_of_files = ap bytes_of_node node_there ∙ bytes_other f.version c.sort c.bytes is.other ∙ ap contained_bytes (sym is.there)

  pub with_bytes_at-tree_of_files : (xs : Bytes) → with_bytes_at (tree_of_files f) n xs ≡ tree_of_files (files_with_bytes f n xs)
  with_bytes_at-tree_of_files xs =
      ap (λ (o : Option Node). with_node_replaced (tree_of_files f) n o xs) node_there
      ∙ ap (with_node (tree_of_files f) n) (with_bytes_other f.version c.sort c.bytes xs is.other)
      ∙ sym (tree_of_files-files_with_bytes f n c xs is.there)

  pub holding-content : (b : ℕ) (xs : Bytes) → IsHolding f b → IsHolding (files_with_bytes f n xs) b
  holding-content b xs h = holding-files_with_bytes f b n c xs h is.there (λ e. absurd (is.other e))

  pub written_files-tree_of_files : (at : ℕ) (bytes : Bytes) → tree_written (tree_of_files f) n at bytes ≡ tree_of_files (written_files f n at bytes)
  written_files-tree_of_files at [] = refl
  written_files-tree_of_files at (x ∷ bytes) = ap (λ (old : Bytes). with_bytes_at (tree_of_files f) n (overwrite old at (x ∷ bytes))) inode_bytes_at-tree_of_files ∙ with_bytes_at-tree_of_files (overwrite (inode_bytes_at f n) at (x ∷ bytes))

  pub truncated_files-tree_of_files : (size : ℕ) → tree_cut (tree_of_files f) n size ≡ tree_of_files (truncated_files f n size)
  truncated_files-tree_of_files size = ap (λ (old : Bytes). with_bytes_at (tree_of_files f) n (resize old size)) inode_bytes_at-tree_of_files ∙ with_bytes_at-tree_of_files (resize (inode_bytes_at f n) size)

  pub holding-written_files : (b at : ℕ) (bytes : Bytes) → IsHolding f b → IsHolding (written_files f n at bytes) b
  holding-written_files b at [] h = h
  holding-written_files b at (x ∷ bytes) h = holding-content b (overwrite (inode_bytes_at f n) at (x ∷ bytes)) h

-- ---- room

module _ (f : Files) (b : ℕ) (h : IsHolding f b) where
  pub lacks_room : LacksRoomForFiles f → TreeLacksRoom (tree_of_files f)
  lacks_room lacks = omega (arith, total_need-tree_of_files f b h, blocks-tree_of_files f)

  pub lacks_room_back : TreeLacksRoom (tree_of_files f) → LacksRoomForFiles f
  lacks_room_back lacks = omega (arith, total_need-tree_of_files f b h, blocks-tree_of_files f)

-- ---- new nodes

is_new : (v : Version) (sort : Kind) → node_from v sort [] ≡ empty_node sort
unfolding node_from slot_entries in_order
is_new V1 Directory = refl
is_new V2 Directory = refl
is_new v File = refl
is_new v Executable = refl
is_new v Symlink = refl

no_slots : (v : Version) → IsSlotted v []
unfolding IsDistinct
no_slots v = record {
  whole = none_left v;
  named = λ k within. absurd (omega (arith, none_counted v));
  measured = λ k within. absurd (omega (arith, none_counted v));
  distinct = rw (no_entries v) tt;
}

pub tree_of_files-with_new : (f : Files) (n : ℕ) (sort : Kind) → n < length f.nodes → tree_of_files (with_new f n sort) ≡ with_node (tree_of_files f) n (empty_node sort)
tree_of_files-with_new f n sort within = tree_of_files-with_number f n (record { sort = sort; bytes = [] }) within ∙ ap (with_node (tree_of_files f) n) (is_new f.version sort)

pub holding-with_new : (f : Files) (b n : ℕ) (sort : Kind) → n < length f.nodes → IsHolding f b → IsHolding (with_new f n sort) b
holding-with_new f b n sort within h = holding-with_number f b n (record { sort = sort; bytes = [] }) within h (λ e. no_slots f.version)
