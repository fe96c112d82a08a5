use Rattle.std.proofs.Common.{◌≡◌, ◌↔◌, ◌+◌, ◌<◌, ◌≤◌, true, None, Err, length, sym, ap, subst, ◌∙◌, arith}
use Rattle.std.specs.Prelude.{slice_index}
use Rattle.pv_model.specs.Machine.{Bytes, entry_length, greatest_length, is_name, Tree, find_entry, with_entry}
use Rattle.pv_inodes.specs.declared.space.Space.TheVariants.{TooBig, Full}
use Rattle.pv_inodes.specs.Files.{Files, inode_bytes_at, written_files}
use Rattle.pv_dirs.specs.Index.{Ascend, IsIndexed, known}
use Rattle.pv_dirs.specs.Slots.{name_in_slot, inode_in_slot}
use Rattle.pv_dirs.specs.Trees.{tree_of_files, IsHolding, LacksRoomForTree, grown_length}
use Rattle.pv_dirs.proofs.EntryAddition.{grown_length-tree_of_files, tree_of_files-added, holding-added}
use Rattle.pv_dirs.proofs.FileContents.{lacks_room, lacks_room_back}
use Rattle.pv_dirs.proofs.ChangedIndex.{directory_led, indexed-added}
use Rattle.pv_dirs.proofs.CallResults.{on_ok, ok_is}
use Rattle.pv_dirs.proofs.EqualParts.{name_length, slot_some}
use Rattle.pv_dirs.proofs.TreeViews.{viewed_version, viewed_directory, viewed_directory_used}
use Rattle.pv_dirs.proofs.directories.Directories.add.Goals as goal
use Rattle.pv_dirs.proofs.directories.Directories.add.Goals.{After-write_at-added, After-add}

pub invariant_of-dir : goal.invariant_of-dir
invariant_of-dir c = record { used = viewed_directory_used c.self.inside.inodes c.args.self.now c.args.directory c.self.view_is c.requires.directory }

pub size-end-requires : goal.size-end-requires
size-end-requires c = viewed_directory_used c.self.inside.inodes c.args.self.now c.args.directory c.self.view_is c.requires.directory

pub ascends-ascends-requires-clause-ordered : goal.ascends-ascends-requires-clause-ordered
ascends-ascends-requires-clause-ordered c =
    let is = viewed_directory c.self.inside.inodes c.args.self.now c.args.directory c.self.view_is c.requires.directory in
    let led = directory_led c.self.inside.inodes c.args.directory c.self.inside.index.value c.self.invariant.indexed is in
    λ ordered. subst (Ascend c.self.inside.inodes.version (inode_bytes_at c.self.inside.inodes c.args.directory)) (sym c.count-number.ensures.value) (led.ordered (ap (λ ix. known ix c.args.directory) (sym c.deref.ensures) ∙ ordered))

pub write_at-added-requires : goal.write_at-added-requires
write_at-added-requires c = viewed_directory_used c.self.inside.inodes c.args.self.now c.args.directory c.self.view_is c.requires.directory

absent : (c : After-write_at-added) → find_entry (tree_of_files c.self.inside.inodes) c.args.directory c.args.name.now ≡ None
absent c = ap (λ (t : Tree). find_entry t c.args.directory c.args.name.now) c.self.view_is ∙ c.requires.absent

version : (c : After-write_at-added) → c.args.self.now.version ≡ c.self.inside.inodes.version
version c = viewed_version c.self.inside.inodes c.args.self.now c.self.view_is

good : (c : After-write_at-added) → is_name c.self.inside.inodes.version c.args.name.now ≡ true
good c = ap (λ v. is_name v c.args.name.now) (sym (version c)) ∙ c.requires.name

whole : (c : After-write_at-added) → length c.as_bytes.result.now ≡ entry_length c.self.inside.inodes.version
whole c = ap length c.as_bytes.ensures.value ∙ c.new-slot.ensures.whole ∙ ap entry_length c.version.ensures

at_end : (c : After-write_at-added) → written_files c.self.inside.inodes c.args.directory (length (inode_bytes_at c.self.inside.inodes c.args.directory)) c.as_bytes.result.now ≡ written_files c.self.inside.inodes c.args.directory c.size-end.result c.as_bytes.result.now
at_end c = ap (λ n. written_files c.self.inside.inodes c.args.directory n c.as_bytes.result.now) (sym c.size-end.ensures.value)

holding : (c : After-write_at-added) → IsHolding (written_files c.self.inside.inodes c.args.directory c.size-end.result c.as_bytes.result.now) c.self.inside.block_count
holding c =
    subst (λ (f : Files). IsHolding f c.self.inside.block_count) (at_end c)
    (holding-added c.self.inside.inodes c.self.inside.block_count c.args.directory c.self.invariant.holding
    (viewed_directory c.self.inside.inodes c.args.self.now c.args.directory c.self.view_is c.requires.directory)
    c.args.name.now c.args.inode c.as_bytes.result.now (good c) (absent c) (whole c)
    (ap name_in_slot c.as_bytes.ensures.value ∙ c.new-slot.ensures.name) (ap inode_in_slot c.as_bytes.ensures.value ∙ c.new-slot.ensures.number) (ap (λ (s : Bytes). slice_index s 2) c.as_bytes.ensures.value ∙ c.new-slot.ensures.measured))

after : (c : After-write_at-added) → tree_of_files (written_files c.self.inside.inodes c.args.directory c.size-end.result c.as_bytes.result.now) ≡ with_entry c.args.self.now c.args.directory c.args.name.now c.args.inode
after c =
    ap tree_of_files (sym (at_end c))
    ∙ tree_of_files-added c.self.inside.inodes c.self.inside.block_count c.args.directory c.self.invariant.holding
    (viewed_directory c.self.inside.inodes c.args.self.now c.args.directory c.self.view_is c.requires.directory)
    c.args.name.now c.args.inode c.as_bytes.result.now (good c) (absent c) (whole c)
    (ap name_in_slot c.as_bytes.ensures.value ∙ c.new-slot.ensures.name) (ap inode_in_slot c.as_bytes.ensures.value ∙ c.new-slot.ensures.number) (ap (λ (s : Bytes). slice_index s 2) c.as_bytes.ensures.value ∙ c.new-slot.ensures.measured)
    ∙ ap (λ (t : Tree). with_entry t c.args.directory c.args.name.now c.args.inode) c.self.view_is

grown : (c : After-write_at-added) → grown_length c.args.self.now c.args.directory ≡ c.size-end.result + length c.as_bytes.result.now
grown c =
    ap (λ (t : Tree). grown_length t c.args.directory) (sym c.self.view_is)
    ∙ grown_length-tree_of_files c.self.inside.inodes c.self.inside.block_count c.args.directory c.self.invariant.holding (viewed_directory c.self.inside.inodes c.args.self.now c.args.directory c.self.view_is c.requires.directory)
    ∙ (λ i. sym c.size-end.ensures.value i + sym (whole c) i)

-- the slot was written
is_written : (c : After-add) → c.write_at-added.new.self ≡ written_files c.self.inside.inodes c.args.directory c.size-end.result c.as_bytes.result.now
is_written c = ok_is c.write_at-added.result (sym c.is_ok.ensures.value ∙ c.if-is_ok.true) c.write_at-added.ensures.ok

pub invariant_of-self : goal.invariant_of-self
invariant_of-self c =
    let start = (goal.at.invariant_of-self c).After-write_at-added in
    let is = viewed_directory c.self.inside.inodes c.args.self.now c.args.directory c.self.view_is c.requires.directory in
    record {
      holding = rw (is_written (goal.at.invariant_of-self c).After-add) (holding start);
      indexed = rw (is_written (goal.at.invariant_of-self c).After-add ∙ sym (at_end start))
          (indexed-added c.self.inside.inodes c.self.inside.block_count c.args.directory c.self.invariant.holding is c.deref_mut.result.now (subst (IsIndexed c.self.inside.inodes) (sym c.deref_mut.ensures.value) c.self.invariant.indexed)
          c.as_bytes.result.now c.args.name.now c.count-number.result c.add.new.self c.ascends-ascends.result (whole start) (ap name_in_slot c.as_bytes.ensures.value ∙ c.new-slot.ensures.name) c.count-number.ensures.value
          c.add.ensures.this c.add.ensures.others c.ascends-ascends.ensures c.add.ensures.ascends c.add.ensures.known);
    }

pub returns-then-is_ok-clause-ok : goal.returns-then-is_ok-clause-ok
returns-then-is_ok-clause-ok c = on_ok c.write_at-added.result c.write_at-added.ensures.ok (λ is. ap tree_of_files is ∙ after (goal.at.returns-then-is_ok-clause-ok c).After-write_at-added)

pub new-slot-requires : goal.new-slot-requires
new-slot-requires c =
    rw c.version.ensures
    (name_length c.self.inside.inodes.version c.args.name.now
    (ap (λ v. is_name v c.args.name.now) (sym (viewed_version c.self.inside.inodes c.args.self.now c.self.view_is)) ∙ c.requires.name))

too_big : (c : After-write_at-added) → (c.write_at-added.result ≡ Err TooBig) ↔ (greatest_length c.args.self.now.version < grown_length c.args.self.now c.args.directory)
too_big c =
    let greatest = ap greatest_length (version c) in
    let some = slot_some c.self.inside.inodes.version in (
      λ is. let past = (c.write_at-added.ensures.too_big.0 is).1 in omega (arith, grown c, greatest),
      λ past. c.write_at-added.ensures.too_big.1 (omega (arith, whole c), omega (arith, grown c, greatest)),
    )

full : (c : After-write_at-added) → (c.write_at-added.result ≡ Err Full) ↔ ((grown_length c.args.self.now c.args.directory ≤ greatest_length c.args.self.now.version) × LacksRoomForTree (with_entry c.args.self.now c.args.directory c.args.name.now c.args.inode))
full c =
    let greatest = ap greatest_length (version c) in
    let some = slot_some c.self.inside.inodes.version in
    let room = written_files c.self.inside.inodes c.args.directory c.size-end.result c.as_bytes.result.now in (
      λ is. let both = c.write_at-added.ensures.full.0 is in
          (let few = both.1 in omega (arith, grown c, greatest), subst LacksRoomForTree (after c) (lacks_room room c.self.inside.block_count (holding c) both.2)),
      λ both. c.write_at-added.ensures.full.1
          (omega (arith, whole c), let few = both.0 in omega (arith, grown c, greatest), lacks_room_back room c.self.inside.block_count (holding c) (subst LacksRoomForTree (sym (after c)) both.1)),
    )

pub returns-then-is_ok-clause-too_big : goal.returns-then-is_ok-clause-too_big
returns-then-is_ok-clause-too_big c = too_big (goal.at.returns-then-is_ok-clause-too_big c).After-write_at-added

pub returns-then-is_ok-clause-full : goal.returns-then-is_ok-clause-full
returns-then-is_ok-clause-full c = full (goal.at.returns-then-is_ok-clause-full c).After-write_at-added

pub returns-else-is_ok-clause-too_big : goal.returns-else-is_ok-clause-too_big
returns-else-is_ok-clause-too_big c = too_big (goal.at.returns-else-is_ok-clause-too_big c).After-write_at-added

pub returns-else-is_ok-clause-full : goal.returns-else-is_ok-clause-full
returns-else-is_ok-clause-full c = full (goal.at.returns-else-is_ok-clause-full c).After-write_at-added
