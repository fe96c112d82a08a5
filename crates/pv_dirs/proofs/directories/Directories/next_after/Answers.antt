use Rattle.std.proofs.Common.{sym, ap, subst, ◌∙◌}
use Rattle.std.specs.Option.{option_copied}
use Rattle.pv_model.specs.Machine.{next_name, Entries}
use Rattle.pv_inodes.specs.Files.{inode_bytes_at}
use Rattle.pv_dirs.specs.Listing.{IsNextName}
use Rattle.pv_dirs.specs.Slots.{slot_entries, in_order}
use Rattle.pv_dirs.proofs.ChangedIndex.{directory_led}
use Rattle.pv_dirs.proofs.NextNames.{next_name_in_order}
use Rattle.pv_dirs.proofs.FileTrees.{directory_slotted}
use Rattle.pv_dirs.proofs.TreeViews.{viewed_directory, viewed_directory_used, viewed_entries}
use Rattle.pv_dirs.proofs.directories.Directories.next_after.Goals as goal

pub invariant_of-dir : goal.invariant_of-dir
invariant_of-dir c = record { used = viewed_directory_used c.self.inside.inodes c.args.self.now c.args.directory c.self.view_is c.requires }

pub next_name-requires-clause-led : goal.next_name-requires-clause-led
next_name-requires-clause-led c =
    rw c.deref.ensures
    (directory_led c.self.inside.inodes c.args.directory c.self.inside.index.value c.self.invariant.indexed (viewed_directory c.self.inside.inodes c.args.self.now c.args.directory c.self.view_is c.requires))

pub next_name-requires-clause-distinct : goal.next_name-requires-clause-distinct
next_name-requires-clause-distinct c =
    (directory_slotted c.self.inside.inodes c.self.inside.block_count c.args.directory c.self.invariant.holding (viewed_directory c.self.inside.inodes c.args.self.now c.args.directory c.self.view_is c.requires)).distinct

pub returns-clause-value : goal.returns-clause-value
returns-clause-value c = c.next_name.ensures ∙ ap (next_name (option_copied c.args.last)) (sym (viewed_entries c.self.inside.inodes c.args.self.now c.args.directory c.self.view_is c.requires))

pub returns-clause-least : goal.returns-clause-least
returns-clause-least c =
    let entries = slot_entries c.self.inside.inodes.version (inode_bytes_at c.self.inside.inodes c.args.directory) in
    subst (λ (es : Entries). IsNextName (option_copied c.args.last) es c.next_name.result) (sym (viewed_entries c.self.inside.inodes c.args.self.now c.args.directory c.self.view_is c.requires))
    (subst (IsNextName (option_copied c.args.last) (in_order entries)) (sym c.next_name.ensures) (next_name_in_order (option_copied c.args.last) entries))
