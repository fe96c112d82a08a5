use Rattle.std.proofs.Common.{◌≡◌, ℕ, Some, sym, ap, subst, ◌∙◌}
use Rattle.std.proofs.lemmas.Option.{IfSome_then}
use Rattle.std.specs.FinMap.Entries.{find}
use Rattle.std.specs.Option.{option_copied}
use Rattle.std.specs.Prelude.{option_map}
use Rattle.pv_model.specs.Machine.{Bytes, next_name, Entries, find_entry}
use Rattle.pv_inodes.specs.Files.{inode_bytes_at}
use Rattle.pv_dirs.specs.Listing.{IsNextName}
use Rattle.pv_dirs.specs.Slots.{slot_entries, in_order}
use Rattle.pv_dirs.proofs.SortedEntries.{by_name}
use Rattle.pv_dirs.proofs.ChangedIndex.{directory_led}
use Rattle.pv_dirs.proofs.NextNames.{next_name_in_order}
use Rattle.pv_dirs.proofs.FileTrees.{directory_slotted}
use Rattle.pv_dirs.proofs.TreeViews.{viewed_directory, viewed_directory_used, viewed_entries, viewed_find}
use Rattle.pv_dirs.proofs.directories.Directories.next_entry.Goals as goal

pub invariant_of-dir : goal.invariant_of-dir
invariant_of-dir c = record { used = viewed_directory_used c.self.inside.inodes c.args.self.now c.args.directory c.self.view_is c.requires }

pub next_entry-requires-clause-led : goal.next_entry-requires-clause-led
next_entry-requires-clause-led c =
    rw c.deref.ensures
    (directory_led c.self.inside.inodes c.args.directory c.self.inside.index.value c.self.invariant.indexed (viewed_directory c.self.inside.inodes c.args.self.now c.args.directory c.self.view_is c.requires))

pub next_entry-requires-clause-distinct : goal.next_entry-requires-clause-distinct
next_entry-requires-clause-distinct c =
    (directory_slotted c.self.inside.inodes c.self.inside.block_count c.args.directory c.self.invariant.holding (viewed_directory c.self.inside.inodes c.args.self.now c.args.directory c.self.view_is c.requires)).distinct

pub returns-clause-value : goal.returns-clause-value
returns-clause-value c = c.next_entry.ensures.value ∙ ap (next_name (option_copied c.args.last)) (sym (viewed_entries c.self.inside.inodes c.args.self.now c.args.directory c.self.view_is c.requires))

pub returns-clause-least : goal.returns-clause-least
returns-clause-least c =
    let last = option_copied c.args.last in
    let entries = slot_entries c.self.inside.inodes.version (inode_bytes_at c.self.inside.inodes c.args.directory) in
    subst (λ (es : Entries). IsNextName last es (option_map (λ e. e.0) c.next_entry.result)) (sym (viewed_entries c.self.inside.inodes c.args.self.now c.args.directory c.self.view_is c.requires))
    (subst (IsNextName last (in_order entries)) (sym c.next_entry.ensures.value) (next_name_in_order last entries))

pub returns-clause-node : goal.returns-clause-node
returns-clause-node c =
    let entries = slot_entries c.self.inside.inodes.version (inode_bytes_at c.self.inside.inodes c.args.directory) in
    IfSome_then c.next_entry.result {P = λ (e : Bytes × ℕ). find by_name e.0 entries ≡ Some e.1} {Q = λ (e : Bytes × ℕ). find_entry c.args.self.now c.args.directory e.0 ≡ Some e.1}
    c.next_entry.ensures.node (λ e there. viewed_find c.self.inside.inodes c.args.self.now c.args.directory c.self.view_is e.0 c.requires ∙ there)
