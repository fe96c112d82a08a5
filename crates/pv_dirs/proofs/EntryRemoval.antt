-- Removing an entry from a directory.
use Rattle.std.proofs.Common.{◌≡◌, ℕ, suc, ◌+◌, ◌*◌, ◌≤◌, true, not, bytes_eq, length, sym, ap, ◌∙◌}
use Rattle.std.specs.FinMap.Entries.{where_key}
use Rattle.pv_model.specs.declared.kind.Kind.TheVariants.{Directory}
use Rattle.pv_model.specs.Machine.{Bytes, overwrite, resize, entry_length, directory_node, is_directory_at, with_node, without_entry}
use Rattle.pv_inodes.specs.Files.{Files, inode_bytes_at, files_with_bytes}
use Rattle.pv_inodes.proofs.ByteLists.{length-overwrite}
use Rattle.pv_inodes.proofs.EditedFiles.{files_with_bytes-files_with_bytes, inode_bytes_at-files_with_bytes}
use Rattle.pv_dirs.specs.Slots.{slot_at, name_in_slot}
use Rattle.pv_dirs.specs.Trees.{tree_of_files, IsHolding}
use Rattle.pv_dirs.proofs.EntryAddition.{node_from-directory}
use Rattle.pv_dirs.proofs.SortedEntries.{by_name}
use Rattle.pv_dirs.proofs.SlotBytes.{closed_bytes, slotted-closed, in_order-closed_bytes}
use Rattle.pv_dirs.proofs.FileTrees.{directory_held, directory_used, directory_slotted, entries_at-tree_of_files, tree_of_files-files_with_bytes, holding-files_with_bytes}

-- the same, if the hole starts at an offset
abbrev pub shortened_from : Files → ℕ → ℕ → Bytes → ℕ → Files
shortened_from f d at moved last =
    files_with_bytes (files_with_bytes f d (overwrite (inode_bytes_at f d) at moved)) d (resize (inode_bytes_at (files_with_bytes f d (overwrite (inode_bytes_at f d) at moved)) d) (entry_length f.version * last))

-- the files after the hole is filled with the last slot, and the end is truncated
abbrev pub filled : Files → ℕ → ℕ → Bytes → Files
filled f d hole moved = files_with_bytes f d (overwrite (inode_bytes_at f d) (entry_length f.version * hole) moved)

abbrev pub shortened : Files → ℕ → ℕ → Bytes → ℕ → Files
shortened f d hole moved last = files_with_bytes (filled f d hole moved) d (resize (inode_bytes_at (filled f d hole moved) d) (entry_length f.version * last))

module _ (f : Files) (b d : ℕ) (h : IsHolding f b) (is : is_directory_at (tree_of_files f) d ≡ true) (hole last : ℕ) (long : length (inode_bytes_at f d) ≡ entry_length f.version * suc last) (within : hole ≤ last) where
  pub shortened_is : shortened f d hole (slot_at f.version (inode_bytes_at f d) last) last ≡ files_with_bytes f d (closed_bytes f.version (inode_bytes_at f d) hole last)
  shortened_is =
      let used = directory_used f d is in
      let now = overwrite (inode_bytes_at f d) (entry_length f.version * hole) (slot_at f.version (inode_bytes_at f d) last) in
      ap (λ (xs : Bytes). files_with_bytes (files_with_bytes f d now) d (resize xs (entry_length f.version * last))) (inode_bytes_at-files_with_bytes f d now used)
      ∙ files_with_bytes-files_with_bytes f d now (resize now (entry_length f.version * last)) used

  pub holding-removed : IsHolding (shortened f d hole (slot_at f.version (inode_bytes_at f d) last) last) b
  holding-removed =
      rw shortened_is
      (holding-files_with_bytes f b d (record { sort = Directory; bytes = inode_bytes_at f d }) (closed_bytes f.version (inode_bytes_at f d) hole last) h (directory_held f d is)
      (λ e. slotted-closed f.version (inode_bytes_at f d) hole last long within (directory_slotted f b d h is)))

  pub tree_of_files-removed : (name : Bytes) → name_in_slot (slot_at f.version (inode_bytes_at f d) hole) ≡ name → tree_of_files (shortened f d hole (slot_at f.version (inode_bytes_at f d) last) last) ≡ without_entry (tree_of_files f) d name
  tree_of_files-removed name named =
      let s = directory_slotted f b d h is in
      ap tree_of_files shortened_is
      ∙ tree_of_files-files_with_bytes f d (record { sort = Directory; bytes = inode_bytes_at f d }) (closed_bytes f.version (inode_bytes_at f d) hole last) (directory_held f d is)
      ∙ ap (with_node (tree_of_files f) d) (node_from-directory f.version (closed_bytes f.version (inode_bytes_at f d) hole last)
      ∙ ap directory_node (in_order-closed_bytes f.version (inode_bytes_at f d) hole last long within s.distinct name named
      ∙ ap (where_key by_name (λ other. not (bytes_eq other name))) (sym (entries_at-tree_of_files f d is))))

-- filling the hole does not change the length
pub length-filled : (f : Files) (d hole : ℕ) (moved : Bytes) → is_directory_at (tree_of_files f) d ≡ true → entry_length f.version * hole + length moved ≤ length (inode_bytes_at f d) → length (inode_bytes_at (filled f d hole moved) d) ≡ length (inode_bytes_at f d)
length-filled f d hole moved is fits = ap length (inode_bytes_at-files_with_bytes f d (overwrite (inode_bytes_at f d) (entry_length f.version * hole) moved) (directory_used f d is)) ∙ length-overwrite (inode_bytes_at f d) (entry_length f.version * hole) moved fits
