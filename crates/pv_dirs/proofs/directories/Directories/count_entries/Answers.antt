use Rattle.std.proofs.Common.{◌≡◌, ◌≤◌, ◌<◌, ℕ, true, cond, ltb, length, take, subst, sym, ap, ◌∙◌, arith}
use Rattle.std.specs.Prelude.{slice_index}
use Rattle.std.proofs.lemmas.List.{take_all}
use Rattle.pv_model.specs.Machine.{Tree, is_directory_at, entries_at, find_entry}
use Rattle.pv_inodes.specs.Files.{inode_bytes_at}
use Rattle.pv_dirs.specs.Counts.{count_in}
use Rattle.pv_dirs.specs.Slots.{slot_at, slot_count, name_in_slot, inode_in_slot, slot_entry, slot_entries, IsSlotted}
use Rattle.pv_dirs.specs.Trees.{tree_of_files}
use Rattle.pv_dirs.proofs.EntryCounts.{counted_none, counted_more, count_fits, count-in_order}
use Rattle.pv_dirs.proofs.SlotBytes.{length-slot_entries, get_or-slot_entries, find-slot_entries}
use Rattle.pv_dirs.proofs.FileTrees.{directory_used, directory_slotted, find_entry-tree_of_files}
use Rattle.pv_dirs.proofs.TreeViews.{viewed_entries}
use Rattle.pv_dirs.proofs.directories.Directories.count_entries.Goals as goal
use Rattle.pv_dirs.proofs.directories.Directories.count_entries.Goals.{After-self}

is_directory : (c : After-self) → is_directory_at (tree_of_files c.self.inside.inodes) c.args.directory ≡ true
is_directory c = subst (λ (t : Tree). is_directory_at t c.args.directory ≡ true) (sym c.self.view_is) c.requires.directory

slotted : (c : After-self) → IsSlotted c.self.inside.inodes.version (inode_bytes_at c.self.inside.inodes c.args.directory)
slotted c = directory_slotted c.self.inside.inodes c.self.inside.block_count c.args.directory c.self.invariant.holding (is_directory c)

-- the node of a slot's entry is within the arrays
placed : (c : After-self) (k : ℕ) → k < slot_count c.self.inside.inodes.version (inode_bytes_at c.self.inside.inodes c.args.directory)
    → inode_in_slot (slot_at c.self.inside.inodes.version (inode_bytes_at c.self.inside.inodes c.args.directory) k) < length c.args.counts.now
placed c k within =
    let v = c.self.inside.inodes.version in
    let bytes = inode_bytes_at c.self.inside.inodes c.args.directory in
    let name = name_in_slot (slot_at v bytes k) in
    c.requires.nodes name (inode_in_slot (slot_at v bytes k))
    (ap (λ (t : Tree). find_entry t c.args.directory name) (sym c.self.view_is) ∙ find_entry-tree_of_files c.self.inside.inodes c.args.directory name (is_directory c)
    ∙ find-slot_entries v bytes k name (slotted c).distinct within (λ i. name))

pub invariant_of-dir : goal.invariant_of-dir
invariant_of-dir c = record { used = directory_used c.self.inside.inodes c.args.directory (is_directory (goal.at.invariant_of-dir c).After-self) }

pub loop-k-init : goal.loop-k-init
loop-k-init c = counted_none _ _ _ _

pub bounds-counts-node : goal.bounds-counts-node
bounds-counts-node c =
    let place = placed (goal.at.bounds-counts-node c).After-self c.loop-k.k (omega (arith, c.count-k-end.ensures.value, c.loop-k-test.true)) in
    omega (arith, place, c.number-node.ensures, c.loop-k.auto.counts)

pub overflow_add-counts : goal.overflow_add-counts
overflow_add-counts c =
    let es = slot_entries c.self.inside.inodes.version (inode_bytes_at c.self.inside.inodes c.args.directory) in
    let all = length-slot_entries c.self.inside.inodes.version (inode_bytes_at c.self.inside.inodes c.args.directory) in
    omega (
      arith,
      count_fits es c.args.directory c.loop-k.k c.loop-k.counts c.loop-k.parents c.args.counts.now c.args.parents.now c.loop-k.invariant c.number-node.result 4294967295
          (omega (arith, c.count-k-end.ensures.value, c.loop-k-test.true, all)) (omega (arith, c.count-k-end.ensures.value, c.count-k-end.ensures.few, all)) (c.requires.room c.number-node.result),
    )

pub bounds-counts-node-in-loop-k : goal.bounds-counts-node-in-loop-k
bounds-counts-node-in-loop-k c =
    let place = placed (goal.at.bounds-counts-node-in-loop-k c).After-self c.loop-k.k (omega (arith, c.count-k-end.ensures.value, c.loop-k-test.true)) in
    omega (arith, place, c.number-node.ensures, c.loop-k.auto.counts)

pub bounds-parents-node : goal.bounds-parents-node
bounds-parents-node c =
    let place = placed (goal.at.bounds-parents-node c).After-self c.loop-k.k (omega (arith, c.count-k-end.ensures.value, c.loop-k-test.true)) in
    omega (arith, place, c.number-node.ensures, c.loop-k.auto.parents, c.requires.places)

pub loop-k-preserved : goal.loop-k-preserved
loop-k-preserved c =
    let v = c.self.inside.inodes.version in
    let bytes = inode_bytes_at c.self.inside.inodes c.args.directory in
    let node = c.number-node.ensures in
    let less : c.loop-k.k < slot_count v bytes = omega (arith, c.count-k-end.ensures.value, c.loop-k-test.true) in
    let place = placed (goal.at.loop-k-preserved c).After-self c.loop-k.k less in
    rw node (counted_more (slot_entries v bytes) c.args.directory c.loop-k.k c.loop-k.counts c.loop-k.parents c.args.counts.now c.args.parents.now c.loop-k.invariant (slot_entry v bytes c.loop-k.k)
    (omega (arith, less, length-slot_entries v bytes)) (get_or-slot_entries v bytes c.loop-k.k (slot_entry v bytes c.loop-k.k) less) (omega (arith, place, c.loop-k.auto.counts))
    (omega (arith, c.loop-k.auto.counts, c.loop-k.auto.parents, c.requires.places)))

-- after the last slot, all entries are counted
all_counted : (c : After-self) (k n : ℕ) → slot_count c.self.inside.inodes.version (inode_bytes_at c.self.inside.inodes c.args.directory) ≤ k
    → count_in n (take k (slot_entries c.self.inside.inodes.version (inode_bytes_at c.self.inside.inodes c.args.directory))) ≡ count_in n (entries_at c.args.self.now c.args.directory)
all_counted c k n at_end =
    let v = c.self.inside.inodes.version in
    let bytes = inode_bytes_at c.self.inside.inodes c.args.directory in
    ap (count_in n) (take_all k (slot_entries v bytes) (omega (arith, length-slot_entries v bytes, at_end)))
    ∙ sym (ap (count_in n) (viewed_entries c.self.inside.inodes c.args.self.now c.args.directory c.self.view_is c.requires.directory) ∙ count-in_order n (slot_entries v bytes) (slotted c).distinct)

pub returns-clause-counts : goal.returns-clause-counts
returns-clause-counts c = λ n.
    let all = all_counted (goal.at.returns-clause-counts c).After-self c.loop-k.k n (omega (arith, c.count-k-end.ensures.value, c.loop-k-test.false)) in
    omega (arith, c.loop-k.invariant.counted n, all)

pub returns-clause-parents : goal.returns-clause-parents
returns-clause-parents c = λ n.
    let all = all_counted (goal.at.returns-clause-parents c).After-self c.loop-k.k n (omega (arith, c.count-k-end.ensures.value, c.loop-k-test.false)) in
    c.loop-k.invariant.above n ∙ ap (λ i. cond (ltb 0 i) c.args.directory (slice_index c.args.parents.now n)) all
