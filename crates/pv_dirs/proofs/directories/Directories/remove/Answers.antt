use Rattle.std.proofs.Common.{◌≡◌, ◌+◌, ◌-◌, ◌*◌, ◌/◌, ◌≤◌, suc, mul-le-mul_left, Some, None, length, sym, ap, subst, ◌∙◌, arith}
use Rattle.std.specs.FinMap.Entries.{find}
use Rattle.pv_model.specs.Machine.{Bytes, overwrite, resize, entry_length, Tree, find_entry, without_entry}
use Rattle.pv_inodes.specs.Files.{Files, inode_bytes_at, files_with_bytes}
use Rattle.pv_inodes.proofs.EditedFiles.{used-files_with_bytes}
use Rattle.pv_dirs.specs.Index.{LeadsToSlot, IsIndexed}
use Rattle.pv_dirs.specs.Slots.{slot_at, name_in_slot, slot_entries}
use Rattle.pv_dirs.specs.Trees.{tree_of_files}
use Rattle.pv_dirs.proofs.SortedEntries.{by_name}
use Rattle.pv_dirs.proofs.ChangedIndex.{directory_led, indexed-removed}
use Rattle.pv_dirs.proofs.EntryRemoval.{shortened_from, shortened, holding-removed, tree_of_files-removed, length-filled}
use Rattle.pv_dirs.proofs.EqualParts.{slot_some, whole_is}
use Rattle.pv_dirs.proofs.SlotBytes.{length-slot_at, find-slot_entries}
use Rattle.pv_dirs.proofs.FileTrees.{directory_slotted, find_entry-tree_of_files}
use Rattle.pv_dirs.proofs.TreeViews.{viewed_directory, viewed_directory_used}
use Rattle.pv_dirs.proofs.directories.Directories.remove.Goals as goal
use Rattle.pv_dirs.proofs.directories.Directories.remove.Goals.{After-self, After-slot-moved, After-as_bytes, After-shrink}

pub invariant_of-dir : goal.invariant_of-dir
invariant_of-dir c = record { used = viewed_directory_used c.self.inside.inodes c.args.self.now c.args.directory c.self.view_is c.requires }

pub find-requires : goal.find-requires
find-requires c = record { led = rw c.deref.ensures (directory_led c.self.inside.inodes c.args.directory c.self.inside.index.value c.self.invariant.indexed (viewed_directory c.self.inside.inodes c.args.self.now c.args.directory c.self.view_is c.requires)) }

found : (c : After-self) → find_entry c.args.self.now c.args.directory c.args.name.now ≡ find by_name c.args.name.now (slot_entries c.self.inside.inodes.version (inode_bytes_at c.self.inside.inodes c.args.directory))
found c =
    ap (λ (t : Tree). find_entry t c.args.directory c.args.name.now) (sym c.self.view_is)
    ∙ find_entry-tree_of_files c.self.inside.inodes c.args.directory c.args.name.now (viewed_directory c.self.inside.inodes c.args.self.now c.args.directory c.self.view_is c.requires)

-- the slots are those up to the last
long : (c : After-slot-moved) → length (inode_bytes_at c.self.inside.inodes c.args.directory) ≡ entry_length c.self.inside.inodes.version * suc (c.count-last.result - 1)
long c =
    let is = viewed_directory c.self.inside.inodes c.args.self.now c.args.directory c.self.view_is c.requires in
    let slotted = directory_slotted c.self.inside.inodes c.self.inside.block_count c.args.directory c.self.invariant.holding is in
    let count : length (inode_bytes_at c.self.inside.inodes c.args.directory) / entry_length c.self.inside.inodes.version ≡ suc (c.count-last.result - 1) = omega (arith, c.count-last.ensures.value, c.in_ok-hole.ensures.within) in
    whole_is (entry_length c.self.inside.inodes.version) (slot_some c.self.inside.inodes.version) (length (inode_bytes_at c.self.inside.inodes c.args.directory)) slotted.whole
    ∙ ap (λ n. entry_length c.self.inside.inodes.version * n) count

within : (c : After-slot-moved) → c.in_ok-hole.hole ≤ c.count-last.result - 1
within c = omega (arith, c.count-last.ensures.value, c.in_ok-hole.ensures.within)

-- the slot that is moved
moved : (c : After-as_bytes) → c.as_bytes.result.now ≡ slot_at c.self.inside.inodes.version (inode_bytes_at c.self.inside.inodes c.args.directory) (c.count-last.result - 1)
moved c = c.as_bytes.ensures.value ∙ c.slot-moved.ensures

fits : (c : After-as_bytes) → entry_length c.self.inside.inodes.version * c.in_ok-hole.hole + length c.as_bytes.result.now ≤ length (inode_bytes_at c.self.inside.inodes c.args.directory)
fits c =
    let start = (goal.at.After-as_bytes c).After-slot-moved in
    let before = mul-le-mul_left (entry_length c.self.inside.inodes.version) (within start) in
    let whole = ap length (moved c) ∙ length-slot_at c.self.inside.inodes.version (inode_bytes_at c.self.inside.inodes c.args.directory) (c.count-last.result - 1) (omega (arith, long start)) in
    omega (arith, whole, long start)

pub overwrite-requires-clause-within : goal.overwrite-requires-clause-within
overwrite-requires-clause-within c = omega (arith, c.start-at.ensures, fits c)

pub overwrite-requires-clause-allowed : goal.overwrite-requires-clause-allowed
overwrite-requires-clause-allowed c = omega (arith, c.start-at.ensures, fits c, c.count-last.ensures.allowed)

pub shrink-requires-clause-used : goal.shrink-requires-clause-used
shrink-requires-clause-used c =
    rw c.overwrite.ensures
    (used-files_with_bytes c.self.inside.inodes c.args.directory (overwrite (inode_bytes_at c.self.inside.inodes c.args.directory) c.start-at.result c.as_bytes.result.now)
    (viewed_directory_used c.self.inside.inodes c.args.self.now c.args.directory c.self.view_is c.requires))

pub shrink-requires-clause-shorter : goal.shrink-requires-clause-shorter
shrink-requires-clause-shorter c =
    let start = (goal.at.shrink-requires-clause-shorter c).After-slot-moved in
    let is = viewed_directory c.self.inside.inodes c.args.self.now c.args.directory c.self.view_is c.requires in
    let preserved = ap (λ (f : Files). length (inode_bytes_at f c.args.directory))
    (c.overwrite.ensures ∙ ap (λ n. files_with_bytes c.self.inside.inodes c.args.directory (overwrite (inode_bytes_at c.self.inside.inodes c.args.directory) n c.as_bytes.result.now)) c.start-at.ensures)
    ∙ length-filled c.self.inside.inodes c.args.directory c.in_ok-hole.hole c.as_bytes.result.now is (fits (goal.at.shrink-requires-clause-shorter c).After-as_bytes) in
    omega (arith, preserved, c.start-end.ensures, long start)

shortened_is : (c : After-shrink) → c.shrink.new.self ≡ shortened c.self.inside.inodes c.args.directory c.in_ok-hole.hole (slot_at c.self.inside.inodes.version (inode_bytes_at c.self.inside.inodes c.args.directory) (c.count-last.result - 1)) (c.count-last.result - 1)
shortened_is c =
    c.shrink.ensures
    ∙ ap (λ n. files_with_bytes c.overwrite.new.self c.args.directory (resize (inode_bytes_at c.overwrite.new.self c.args.directory) n)) c.start-end.ensures
    ∙ ap (λ (f : Files). files_with_bytes f c.args.directory (resize (inode_bytes_at f c.args.directory) (entry_length c.self.inside.inodes.version * (c.count-last.result - 1)))) c.overwrite.ensures
    ∙ ap (λ n. shortened_from c.self.inside.inodes c.args.directory n c.as_bytes.result.now (c.count-last.result - 1)) c.start-at.ensures
    ∙ ap (λ (slot : Bytes). shortened c.self.inside.inodes c.args.directory c.in_ok-hole.hole slot (c.count-last.result - 1)) (c.as_bytes.ensures.value ∙ c.slot-moved.ensures)

pub invariant_of-self : goal.invariant_of-self
invariant_of-self c =
    let start = (goal.at.invariant_of-self c).After-slot-moved in
    let done = (goal.at.invariant_of-self c).After-shrink in
    let is = viewed_directory c.self.inside.inodes c.args.self.now c.args.directory c.self.view_is c.requires in
    let named : c.name.result.now ≡ name_in_slot (slot_at c.self.inside.inodes.version (inode_bytes_at c.self.inside.inodes c.args.directory) (c.count-last.result - 1)) = c.name.ensures.value ∙ ap name_in_slot c.slot-moved.ensures in
    record {
      holding = rw (shortened_is done) (holding-removed c.self.inside.inodes c.self.inside.block_count c.args.directory c.self.invariant.holding is c.in_ok-hole.hole (c.count-last.result - 1) (long start) (within start));
      indexed = rw (shortened_is done)
          (indexed-removed c.self.inside.inodes c.self.inside.block_count c.args.directory c.self.invariant.holding is c.deref_mut-index.result.now (subst (IsIndexed c.self.inside.inodes) (sym c.deref_mut-index.ensures.value) c.self.invariant.indexed) c.in_ok-hole.hole (c.count-last.result - 1) (long start) (within start)
          c.remove.new.self c.change.new.self c.remove.ensures.others c.remove.ensures.known
          (subst (λ (q : Bytes). LeadsToSlot c.remove.new.self c.args.directory q (c.count-last.result - 1) → LeadsToSlot c.change.new.self c.args.directory q c.in_ok-hole.hole) named c.change.ensures.this)
          c.change.ensures.others c.change.ensures.stays c.change.ensures.known);
    }

pub returns-in_err-hole-clause-gone : goal.returns-in_err-hole-clause-gone
returns-in_err-hole-clause-gone c =
    let none : find by_name c.args.name.now (slot_entries c.self.inside.inodes.version (inode_bytes_at c.self.inside.inodes c.args.directory)) ≡ None = c.in_err-hole.ensures.absent in
    c.from_residual.ensures ∙ sym (found (goal.at.returns-in_err-hole-clause-gone c).After-self ∙ none)

pub returns-clause-gone : goal.returns-clause-gone
returns-clause-gone c =
    let start = (goal.at.returns-clause-gone c).After-self in
    let is = viewed_directory c.self.inside.inodes c.args.self.now c.args.directory c.self.view_is c.requires in
    ap Some c.number-gone.ensures
    ∙ sym (found start ∙ find-slot_entries c.self.inside.inodes.version (inode_bytes_at c.self.inside.inodes c.args.directory) c.in_ok-hole.hole c.args.name.now
    (directory_slotted c.self.inside.inodes c.self.inside.block_count c.args.directory c.self.invariant.holding is).distinct c.in_ok-hole.ensures.within c.in_ok-hole.ensures.named)

pub returns-clause-left : goal.returns-clause-left
returns-clause-left c =
    let start = (goal.at.returns-clause-left c).After-slot-moved in
    let is = viewed_directory c.self.inside.inodes c.args.self.now c.args.directory c.self.view_is c.requires in
    ap tree_of_files (shortened_is (goal.at.returns-clause-left c).After-shrink)
    ∙ tree_of_files-removed c.self.inside.inodes c.self.inside.block_count c.args.directory c.self.invariant.holding is c.in_ok-hole.hole (c.count-last.result - 1) (long start) (within start) c.args.name.now c.in_ok-hole.ensures.named
    ∙ ap (λ (t : Tree). without_entry t c.args.directory c.args.name.now) c.self.view_is
