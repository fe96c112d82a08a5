use Rattle.std.proofs.Common.{◌≡◌, sym, ap, subst, ◌∙◌, arith}
use Rattle.pv_model.specs.Machine.{greatest_length, Tree}
use Rattle.pv_inodes.specs.Files.{Files, written_files}
use Rattle.pv_dirs.specs.Index.{IsConsistentIndex}
use Rattle.pv_dirs.specs.Trees.{tree_of_files, IsHolding, LacksRoomForTree, written_tree as tree_written}
use Rattle.pv_dirs.proofs.FileContents.{written_files-tree_of_files, holding-written_files, lacks_room, lacks_room_back}
use Rattle.pv_dirs.proofs.ChangedIndex.{indexed-written_files}
use Rattle.pv_dirs.proofs.CallResults.{either_way, on_ok}
use Rattle.pv_dirs.proofs.TreeViews.{viewed_version, viewed_used, viewed_content}
use Rattle.pv_dirs.proofs.directories.Directories.write_at.Goals as goal
use Rattle.pv_dirs.proofs.directories.Directories.write_at.Goals.{After-write_at}

pub write_at-requires : goal.write_at-requires
write_at-requires c = viewed_used c.self.inside.inodes c.args.self.now c.args.inode c.self.view_is c.requires.used

holding : (c : After-write_at) → IsHolding (written_files c.self.inside.inodes c.args.inode c.args.at c.args.bytes.now) c.self.inside.block_count
holding c =
    let k = viewed_content c.self.inside.inodes c.args.self.now c.args.inode c.self.view_is c.requires.used c.requires.other in
    holding-written_files c.self.inside.inodes c.args.inode k.0 k.1 c.self.inside.block_count c.args.at c.args.bytes.now c.self.invariant.holding

after : (c : After-write_at) → tree_of_files (written_files c.self.inside.inodes c.args.inode c.args.at c.args.bytes.now) ≡ tree_written c.args.self.now c.args.inode c.args.at c.args.bytes.now
after c =
    let k = viewed_content c.self.inside.inodes c.args.self.now c.args.inode c.self.view_is c.requires.used c.requires.other in
    sym (written_files-tree_of_files c.self.inside.inodes c.args.inode k.0 k.1 c.args.at c.args.bytes.now) ∙ ap (λ (t : Tree). tree_written t c.args.inode c.args.at c.args.bytes.now) c.self.view_is

pub invariant_of-self : goal.invariant_of-self
invariant_of-self c =
    let k = viewed_content c.self.inside.inodes c.args.self.now c.args.inode c.self.view_is c.requires.used c.requires.other in
    either_way (λ (f : Files). IsConsistentIndex f c.self.inside.block_count c.self.inside.index.value) c.write_at.result c.self.inside.inodes (written_files c.self.inside.inodes c.args.inode c.args.at c.args.bytes.now) c.write_at.new.self
    c.write_at.ensures.ok c.write_at.ensures.err record {
      holding = holding c;
      indexed = indexed-written_files c.self.inside.inodes c.args.inode k.0 k.1 c.self.inside.index.value c.self.invariant.indexed c.args.at c.args.bytes.now;
    } c.self.invariant

pub returns-clause-ok : goal.returns-clause-ok
returns-clause-ok c = on_ok c.write_at.result c.write_at.ensures.ok (λ is. ap tree_of_files is ∙ after c)

pub returns-clause-too_big : goal.returns-clause-too_big
returns-clause-too_big c =
    let greatest = ap greatest_length (viewed_version c.self.inside.inodes c.args.self.now c.self.view_is) in (
      λ is. let past = c.write_at.ensures.too_big.0 is in (past.0, let long = past.1 in omega arith),
      λ past. c.write_at.ensures.too_big.1 (past.0, let long = past.1 in omega arith),
    )

pub returns-clause-full : goal.returns-clause-full
returns-clause-full c =
    let greatest = ap greatest_length (viewed_version c.self.inside.inodes c.args.self.now c.self.view_is) in
    let room = written_files c.self.inside.inodes c.args.inode c.args.at c.args.bytes.now in (
      λ is. let full = c.write_at.ensures.full.0 is in (full.0, let few = full.1 in omega arith, subst LacksRoomForTree (after c) (lacks_room room c.self.inside.block_count (holding c) full.2)),
      λ full. c.write_at.ensures.full.1 (full.0, let few = full.1 in omega arith, lacks_room_back room c.self.inside.block_count (holding c) (subst LacksRoomForTree (sym (after c)) full.2)),
    )
