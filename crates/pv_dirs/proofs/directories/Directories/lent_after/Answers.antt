use Rattle.std.proofs.Common.{◌≡◌, ℕ, Bor, Some, ap, ◌∙◌}
use Rattle.std.proofs.lemmas.Option.{IfSome_then}
use Rattle.std.specs.FinMap.Entries.{find}
use Rattle.std.specs.Option.{option_copied}
use Rattle.pv_model.specs.Machine.{Bytes, next_name, entries_at, find_entry}
use Rattle.pv_inodes.specs.Files.{inode_bytes_at}
use Rattle.pv_dirs.specs.Slots.{slot_entries, in_order}
use Rattle.pv_dirs.proofs.SortedEntries.{by_name}
use Rattle.pv_dirs.proofs.FileTrees.{directory_slotted}
use Rattle.pv_dirs.proofs.TreeViews.{viewed_directory, viewed_directory_used, viewed_entries, viewed_find}
use Rattle.pv_dirs.proofs.directories.Directories.lent_after.Goals as goal

pub invariant_of-dir : goal.invariant_of-dir
invariant_of-dir c = record { used = viewed_directory_used c.self.inside.inodes c.args.self.now c.args.directory c.self.view_is c.requires }

pub lent_after-requires : goal.lent_after-requires
lent_after-requires c = record {
  distinct = (directory_slotted c.self.inside.inodes c.self.inside.block_count c.args.directory c.self.invariant.holding (viewed_directory c.self.inside.inodes c.args.self.now c.args.directory c.self.view_is c.requires)).distinct;
}

pub returns-clause-name : goal.returns-clause-name
returns-clause-name c =
    let last = option_copied c.args.last in
    let entries = slot_entries c.self.inside.inodes.version (inode_bytes_at c.self.inside.inodes c.args.directory) in
    IfSome_then c.lent_after.result {P = λ (e : Bor Bytes × ℕ). next_name last (in_order entries) ≡ Some e.0.now} {Q = λ (e : Bor Bytes × ℕ). next_name last (entries_at c.args.self.now c.args.directory) ≡ Some e.0.now}
    c.lent_after.ensures.name (λ e there. ap (next_name last) (viewed_entries c.self.inside.inodes c.args.self.now c.args.directory c.self.view_is c.requires) ∙ there)

pub returns-clause-node : goal.returns-clause-node
returns-clause-node c =
    let entries = slot_entries c.self.inside.inodes.version (inode_bytes_at c.self.inside.inodes c.args.directory) in
    IfSome_then c.lent_after.result {P = λ (e : Bor Bytes × ℕ). find by_name e.0.now entries ≡ Some e.1} {Q = λ (e : Bor Bytes × ℕ). find_entry c.args.self.now c.args.directory e.0.now ≡ Some e.1}
    c.lent_after.ensures.node (λ e there. viewed_find c.self.inside.inodes c.args.self.now c.args.directory c.self.view_is e.0.now c.requires ∙ there)
