use Rattle.std.proofs.Common.{◌≡◌, sym, ap, subst, ◌∙◌, arith}
use Rattle.pv_model.specs.Machine.{resize, greatest_length, Tree}
use Rattle.pv_inodes.specs.Files.{Files, inode_bytes_at, truncated_files}
use Rattle.pv_dirs.specs.Index.{IsConsistentIndex}
use Rattle.pv_dirs.specs.Trees.{tree_of_files, IsHolding, LacksRoomForTree, truncated_tree as tree_cut}
use Rattle.pv_dirs.proofs.FileContents.{truncated_files-tree_of_files, holding-content, lacks_room, lacks_room_back}
use Rattle.pv_dirs.proofs.ChangedIndex.{indexed-content}
use Rattle.pv_dirs.proofs.CallResults.{either_way, on_ok}
use Rattle.pv_dirs.proofs.TreeViews.{viewed_version, viewed_used, viewed_content}
use Rattle.pv_dirs.proofs.directories.Directories.cut.Goals as goal
use Rattle.pv_dirs.proofs.directories.Directories.cut.Goals.{After-cut}

pub cut-requires : goal.cut-requires
cut-requires c = viewed_used c.self.inside.inodes c.args.self.now c.args.inode c.self.view_is c.requires.used

holding : (c : After-cut) → IsHolding (truncated_files c.self.inside.inodes c.args.inode c.args.size) c.self.inside.block_count
holding c =
    let k = viewed_content c.self.inside.inodes c.args.self.now c.args.inode c.self.view_is c.requires.used c.requires.other in
    holding-content c.self.inside.inodes c.args.inode k.0 k.1 c.self.inside.block_count (resize (inode_bytes_at c.self.inside.inodes c.args.inode) c.args.size) c.self.invariant.holding

after : (c : After-cut) → tree_of_files (truncated_files c.self.inside.inodes c.args.inode c.args.size) ≡ tree_cut c.args.self.now c.args.inode c.args.size
after c =
    let k = viewed_content c.self.inside.inodes c.args.self.now c.args.inode c.self.view_is c.requires.used c.requires.other in
    sym (truncated_files-tree_of_files c.self.inside.inodes c.args.inode k.0 k.1 c.args.size) ∙ ap (λ (t : Tree). tree_cut t c.args.inode c.args.size) c.self.view_is

pub invariant_of-self : goal.invariant_of-self
invariant_of-self c =
    let k = viewed_content c.self.inside.inodes c.args.self.now c.args.inode c.self.view_is c.requires.used c.requires.other in
    either_way (λ (f : Files). IsConsistentIndex f c.self.inside.block_count c.self.inside.index.value) c.cut.result c.self.inside.inodes (truncated_files c.self.inside.inodes c.args.inode c.args.size) c.cut.new.self
    c.cut.ensures.ok c.cut.ensures.err record {
      holding = holding c;
      indexed = indexed-content c.self.inside.inodes c.args.inode k.0 k.1 c.self.inside.index.value c.self.invariant.indexed (resize (inode_bytes_at c.self.inside.inodes c.args.inode) c.args.size);
    } c.self.invariant

pub returns-clause-ok : goal.returns-clause-ok
returns-clause-ok c = on_ok c.cut.result c.cut.ensures.ok (λ is. ap tree_of_files is ∙ after c)

pub returns-clause-too_big : goal.returns-clause-too_big
returns-clause-too_big c =
    let greatest = ap greatest_length (viewed_version c.self.inside.inodes c.args.self.now c.self.view_is) in (
      λ is. let past = c.cut.ensures.too_big.0 is in omega arith,
      λ past. c.cut.ensures.too_big.1 (omega arith),
    )

pub returns-clause-full : goal.returns-clause-full
returns-clause-full c =
    let greatest = ap greatest_length (viewed_version c.self.inside.inodes c.args.self.now c.self.view_is) in
    let room = truncated_files c.self.inside.inodes c.args.inode c.args.size in (
      λ is. let full = c.cut.ensures.full.0 is in (let few = full.0 in omega arith, subst LacksRoomForTree (after c) (lacks_room room c.self.inside.block_count (holding c) full.1)),
      λ full. c.cut.ensures.full.1 (let few = full.0 in omega arith, lacks_room_back room c.self.inside.block_count (holding c) (subst LacksRoomForTree (sym (after c)) full.1)),
    )
