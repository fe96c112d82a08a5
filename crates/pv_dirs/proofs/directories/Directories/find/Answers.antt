use Rattle.std.proofs.Common.{◌≡◌, true, Some, None, subst, sym, ap, ◌∙◌}
use Rattle.std.specs.FinMap.Entries.{find}
use Rattle.pv_model.specs.Machine.{Tree, is_directory_at, find_entry}
use Rattle.pv_inodes.specs.Files.{inode_bytes_at}
use Rattle.pv_dirs.specs.Slots.{slot_entries}
use Rattle.pv_dirs.specs.Trees.{tree_of_files}
use Rattle.pv_dirs.proofs.SortedEntries.{by_name}
use Rattle.pv_dirs.proofs.ChangedIndex.{directory_led}
use Rattle.pv_dirs.proofs.SlotBytes.{find-slot_entries}
use Rattle.pv_dirs.proofs.FileTrees.{directory_used, directory_slotted, find_entry-tree_of_files}
use Rattle.pv_dirs.proofs.directories.Directories.find.Goals as goal
use Rattle.pv_dirs.proofs.directories.Directories.find.Goals.{After-self}

is_directory : (c : After-self) → is_directory_at (tree_of_files c.self.inside.inodes) c.args.directory ≡ true
is_directory c = subst (λ (t : Tree). is_directory_at t c.args.directory ≡ true) (sym c.self.view_is) c.requires

found : (c : After-self) → find_entry c.args.self.now c.args.directory c.args.name.now ≡ find by_name c.args.name.now (slot_entries c.self.inside.inodes.version (inode_bytes_at c.self.inside.inodes c.args.directory))
found c = ap (λ (t : Tree). find_entry t c.args.directory c.args.name.now) (sym c.self.view_is) ∙ find_entry-tree_of_files c.self.inside.inodes c.args.directory c.args.name.now (is_directory c)

pub invariant_of-dir : goal.invariant_of-dir
invariant_of-dir c = record { used = directory_used c.self.inside.inodes c.args.directory (is_directory (goal.at.invariant_of-dir c).After-self) }

pub find-requires : goal.find-requires
find-requires c = record { led = rw c.deref.ensures (directory_led c.self.inside.inodes c.args.directory c.self.inside.index.value c.self.invariant.indexed (is_directory (goal.at.find-requires c).After-self)) }

pub returns-in_err-k : goal.returns-in_err-k
returns-in_err-k c =
    let none : find by_name c.args.name.now (slot_entries c.self.inside.inodes.version (inode_bytes_at c.self.inside.inodes c.args.directory)) ≡ None = c.in_err-k.ensures.absent in
    c.from_residual.ensures ∙ sym (found (goal.at.returns-in_err-k c).After-self ∙ none)

pub returns : goal.returns
returns c =
    let start = (goal.at.returns c).After-self in
    ap Some c.number.ensures
    ∙ sym (found start ∙ find-slot_entries c.self.inside.inodes.version (inode_bytes_at c.self.inside.inodes c.args.directory) c.in_ok-k.k c.args.name.now
    (directory_slotted c.self.inside.inodes c.self.inside.block_count c.args.directory c.self.invariant.holding (is_directory start)).distinct c.in_ok-k.ensures.within c.in_ok-k.ensures.named)
