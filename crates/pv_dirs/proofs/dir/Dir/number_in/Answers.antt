use Rattle.std.proofs.Common.{◌∙◌, arith}
use Rattle.pv_dirs.specs.Dirs.{directory_bytes}
use Rattle.pv_dirs.specs.Slots.{inode_in_slot}
use Rattle.pv_dirs.proofs.SlotRuns.{run_number}
use Rattle.pv_dirs.proofs.dir.Dir.number_in.Goals as goal

pub returns : goal.returns
unfolding inode_in_slot
returns c = c.read_u16.ensures ∙ run_number c.args.self.now.inodes.now.version (directory_bytes c.args.self.now) c.args.run.now c.args.k c.requires.run (omega (arith, c.if-run-lt2.false))
