-- Adding an entry to a directory.
use Rattle.std.proofs.Common.{◌≡◌, ℕ, suc, ◌*◌, ◌+◌, IsTrue, true, [], ◌∷◌, ◌++◌, length, get_or, None, refl, sym, ap, ◌∙◌, arith}
use Rattle.std.specs.FinMap.Entries.{find, put}
use Rattle.pv_model.specs.declared.kind.Kind.TheVariants.{Directory}
use Rattle.pv_model.specs.declared.version.Version.{Version}
use Rattle.pv_model.specs.Machine.{Bytes, entry_length, directory_node, is_directory_at, entries_at, find_entry, is_name, with_node, with_entry}
use Rattle.pv_inodes.specs.Files.{Files, inode_bytes_at, files_with_bytes, written_files}
use Rattle.pv_inodes.proofs.EditedFiles.{written_files-some}
use Rattle.pv_dirs.specs.Slots.{inode_in_slot, name_in_slot, slot_entries, in_order}
use Rattle.pv_dirs.specs.Trees.{node_from, tree_of_files, IsHolding, grown_length}
use Rattle.pv_dirs.proofs.SortedEntries.{by_name, in_order-append}
use Rattle.pv_dirs.proofs.EqualParts.{slot_some, whole_is}
use Rattle.pv_dirs.proofs.SlotBytes.{slot_entries-append, slotted-append, overwrite-end}
use Rattle.pv_dirs.proofs.FileTrees.{directory_held, directory_slotted, entries_at-tree_of_files, length-entries_at, find_entry-tree_of_files, tree_of_files-files_with_bytes, holding-files_with_bytes}

-- a directory by its slots
pub node_from-directory : (v : Version) (bytes : Bytes) → node_from v Directory bytes ≡ directory_node (in_order (slot_entries v bytes))
unfolding node_from
node_from-directory v bytes = refl

-- writing a slot after the last appends it
pub written_end : (f : Files) (d : ℕ) (slot : Bytes) → length slot ≡ entry_length f.version → written_files f d (length (inode_bytes_at f d)) slot ≡ files_with_bytes f d (inode_bytes_at f d ++ slot)
written_end f d slot long = written_files-some f d (length (inode_bytes_at f d)) slot (omega (arith, slot_some f.version)) ∙ ap (files_with_bytes f d) (overwrite-end (inode_bytes_at f d) slot)

module _ (f : Files) (b d : ℕ) (h : IsHolding f b) (is : is_directory_at (tree_of_files f) d ≡ true) where
  pub grown_length-tree_of_files : grown_length (tree_of_files f) d ≡ length (inode_bytes_at f d) + entry_length f.version
  unfolding tree_of_files
  grown_length-tree_of_files =
      let s = directory_slotted f b d h is in
      let count = length-entries_at f b d h is in
      let whole = whole_is (entry_length f.version) (slot_some f.version) (length (inode_bytes_at f d)) s.whole in
      ap (λ n. entry_length f.version * suc n) count ∙ omega arith

  module _ (name : Bytes) (n : ℕ) (slot : Bytes) (good : IsTrue (is_name f.version name)) (absent : find_entry (tree_of_files f) d name ≡ None) (long : length slot ≡ entry_length f.version)
      (named : name_in_slot slot ≡ name) (numbered : inode_in_slot slot ≡ n) (measured : get_or slot 2 0 ≡ length name) where
    entries_added : in_order (slot_entries f.version (inode_bytes_at f d ++ slot)) ≡ put by_name name n (entries_at (tree_of_files f) d)
    entries_added =
        let s = directory_slotted f b d h is in
        ap in_order (slot_entries-append f.version (inode_bytes_at f d) slot s.whole long ∙ (λ i. slot_entries f.version (inode_bytes_at f d) ++ (named i, numbered i) ∷ []))
        ∙ in_order-append (slot_entries f.version (inode_bytes_at f d)) name n (sym (find_entry-tree_of_files f d name is) ∙ absent)
        ∙ ap (put by_name name n) (sym (entries_at-tree_of_files f d is))

    pub tree_of_files-added : tree_of_files (written_files f d (length (inode_bytes_at f d)) slot) ≡ with_entry (tree_of_files f) d name n
    tree_of_files-added =
        ap tree_of_files (written_end f d slot long)
        ∙ tree_of_files-files_with_bytes f d (record { sort = Directory; bytes = inode_bytes_at f d }) (inode_bytes_at f d ++ slot) (directory_held f d is)
        ∙ ap (with_node (tree_of_files f) d) (node_from-directory f.version (inode_bytes_at f d ++ slot) ∙ ap directory_node entries_added)

    pub holding-added : IsHolding (written_files f d (length (inode_bytes_at f d)) slot) b
    holding-added =
        rw (written_end f d slot long)
        (holding-files_with_bytes f b d (record { sort = Directory; bytes = inode_bytes_at f d }) (inode_bytes_at f d ++ slot) h (directory_held f d is)
        (λ e. slotted-append f.version (inode_bytes_at f d) slot (directory_slotted f b d h is) long (rw named good) (rw named measured) (ap (λ (q : Bytes). find by_name q (slot_entries f.version (inode_bytes_at f d))) named ∙ sym (find_entry-tree_of_files f d name is) ∙ absent)))
