-- Statements about the tree as statements about its files.
use Rattle.std.proofs.Common.{◌≡◌, ℕ, true, false, length, refl, sym, ap, subst, ◌∙◌, [], ◌∷◌, arith}
use Rattle.std.specs.Prelude.{IsSome}
use Rattle.std.specs.FinMap.Entries.{find}
use Rattle.pv_model.specs.Machine.{Bytes, Entries, Tree, node_at, is_directory_at, entries_at, find_entry}
use Rattle.pv_inodes.specs.Files.{Contained, Files, IsUsed, inode_bytes_at}
use Rattle.pv_dirs.specs.Slots.{slot_count, slot_entries, in_order}
use Rattle.pv_dirs.specs.Trees.{tree_of_files, IsHolding, node_bytes_at as bytes_in}
use Rattle.pv_dirs.proofs.FileContents.{IsContent, content, inode_bytes_at-tree_of_files}
use Rattle.pv_dirs.proofs.SortedEntries.{by_name}
use Rattle.pv_dirs.proofs.FileTrees.{used_in, directory_used, entries_at-tree_of_files, find_entry-tree_of_files, length-entries_at, version-tree_of_files}

nothing_in : (es : Entries) → length es ≡ 0 → es ≡ []
nothing_in [] none = refl
nothing_in (e ∷ es) none = absurd (omega arith)

-- the version of the tree is that of the files
pub viewed_version : (f : Files) (t : Tree) → tree_of_files f ≡ t → t.version ≡ f.version
viewed_version f t view = ap (λ (u : Tree). u.version) (sym view) ∙ version-tree_of_files f

module _ (f : Files) (t : Tree) (n : ℕ) (view : tree_of_files f ≡ t) where
  pub viewed_used : IsSome (node_at t n) → IsUsed f n
  viewed_used used = used_in f n (subst (λ (u : Tree). IsSome (node_at u n)) (sym view) used)

  pub viewed_directory : is_directory_at t n ≡ true → is_directory_at (tree_of_files f) n ≡ true
  viewed_directory is = subst (λ (u : Tree). is_directory_at u n ≡ true) (sym view) is

  pub viewed_directory_used : is_directory_at t n ≡ true → IsUsed f n
  viewed_directory_used is = directory_used f n (viewed_directory is)

  pub viewed_content : IsSome (node_at t n) → is_directory_at t n ≡ false → (c : Contained) × IsContent f n c
  viewed_content used other = content f n (subst (λ (u : Tree). IsSome (node_at u n)) (sym view) used) (subst (λ (u : Tree). is_directory_at u n ≡ false) (sym view) other)

  pub viewed_bytes : IsSome (node_at t n) → is_directory_at t n ≡ false → bytes_in t n ≡ inode_bytes_at f n
  viewed_bytes used other = let c = viewed_content used other in ap (λ (u : Tree). bytes_in u n) (sym view) ∙ inode_bytes_at-tree_of_files f n c.0 c.1

  pub viewed_entries : is_directory_at t n ≡ true → entries_at t n ≡ in_order (slot_entries f.version (inode_bytes_at f n))
  viewed_entries is = ap (λ (u : Tree). entries_at u n) (sym view) ∙ entries_at-tree_of_files f n (viewed_directory is)

  pub viewed_find : (name : Bytes) → is_directory_at t n ≡ true → find_entry t n name ≡ find by_name name (slot_entries f.version (inode_bytes_at f n))
  viewed_find name is = ap (λ (u : Tree). find_entry u n name) (sym view) ∙ find_entry-tree_of_files f n name (viewed_directory is)

  pub viewed_length : (b : ℕ) → IsHolding f b → is_directory_at t n ≡ true → length (entries_at t n) ≡ slot_count f.version (inode_bytes_at f n)
  viewed_length b h is = ap (λ (u : Tree). length (entries_at u n)) (sym view) ∙ length-entries_at f b n h (viewed_directory is)

  pub viewed_empty : (b : ℕ) → IsHolding f b → is_directory_at t n ≡ true → slot_count f.version (inode_bytes_at f n) ≡ 0 → entries_at t n ≡ []
  viewed_empty b h is none = nothing_in (entries_at t n) (viewed_length b h is ∙ none)

  pub viewed_none : (b : ℕ) → IsHolding f b → is_directory_at t n ≡ true → entries_at t n ≡ [] → slot_count f.version (inode_bytes_at f n) ≡ 0
  viewed_none b h is none = sym (viewed_length b h is) ∙ ap (λ (es : Entries). length es) none
