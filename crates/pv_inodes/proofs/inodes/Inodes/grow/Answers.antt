use Rattle.std.proofs.Common.{◌≤◌, ap, sym, ◌∙◌, arith}
use Rattle.pv_model.specs.Machine.{resize}
use Rattle.pv_inodes.specs.Files.{inode_bytes_at, files_with_bytes}
use Rattle.pv_inodes.proofs.ByteLists.{resize-itself}
use Rattle.pv_inodes.proofs.EditedFiles.{files_with_bytes-itself, used-grown, length-grown, grown-more, room-shorter}
use Rattle.pv_inodes.proofs.inodes.Inodes.grow.Goals as goal

pub loop-length-init : goal.loop-length-init
loop-length-init c =
    let same = ap (resize (inode_bytes_at c.args.self.now c.args.inode)) c.size-length.ensures.value ∙ resize-itself (inode_bytes_at c.args.self.now c.args.inode) in
    record {
      longer = omega (arith, c.size-length.ensures.value);
      within = omega (arith, c.size-length.ensures.value, c.requires.longer);
      grown = sym (ap (files_with_bytes c.args.self.now c.args.inode) same ∙ files_with_bytes-itself c.args.self.now c.args.inode c.requires.used);
    }

pub grow_step-requires-clause-used : goal.grow_step-requires-clause-used
grow_step-requires-clause-used c =
    used-grown c.args.self.now c.loop-length.self c.args.inode c.loop-length.length c.requires.used c.loop-length.invariant.longer c.loop-length.invariant.grown

pub grow_step-requires-clause-longer : goal.grow_step-requires-clause-longer
grow_step-requires-clause-longer c =
    let long = length-grown c.args.self.now c.loop-length.self c.args.inode c.loop-length.length c.requires.used c.loop-length.invariant.longer c.loop-length.invariant.grown in
    rw long (omega arith)

pub grow_step-requires-clause-within : goal.grow_step-requires-clause-within
grow_step-requires-clause-within c =
    let long = length-grown c.args.self.now c.loop-length.self c.args.inode c.loop-length.length c.requires.used c.loop-length.invariant.longer c.loop-length.invariant.grown in
    rw long (omega arith)

pub grow_step-requires-clause-room : goal.grow_step-requires-clause-room
grow_step-requires-clause-room c =
    let more : c.loop-length.length ≤ c.min-next.result = omega arith in
    let step = grown-more c.args.self.now c.loop-length.self c.args.inode c.loop-length.length c.requires.used c.loop-length.invariant.longer c.loop-length.invariant.grown c.min-next.result more in
    rw step (room-shorter c.args.self.now c.args.inode c.min-next.result c.args.size c.requires.used (omega arith) c.requires.room)

pub loop-length-preserved : goal.loop-length-preserved
loop-length-preserved c =
    let more : c.loop-length.length ≤ c.min-next.result = omega arith in
    record {
      longer = omega (arith, c.loop-length.invariant.longer);
      within = omega arith;
      grown = c.grow_step.ensures ∙ grown-more c.args.self.now c.loop-length.self c.args.inode c.loop-length.length c.requires.used c.loop-length.invariant.longer c.loop-length.invariant.grown c.min-next.result more;
    }
