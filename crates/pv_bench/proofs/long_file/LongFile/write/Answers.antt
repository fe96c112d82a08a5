use Rattle.pv_inodes.specs.Files.{written_files}
use Rattle.pv_bench.proofs.InodesInUse.{used-after, used-written_files}
use Rattle.pv_bench.proofs.long_file.LongFile.write.Goals as goal

pub invariant_of-self-clause-used : goal.invariant_of-self-clause-used
invariant_of-self-clause-used c =
    used-after c.write_at.result c.args.self.now.inodes c.write_at.new.self (written_files c.args.self.now.inodes c.args.self.now.number c.args.at c.args.bytes.now) c.args.self.now.number
    c.write_at.ensures.ok c.write_at.ensures.err c.args.self.now.used (used-written_files c.args.self.now.inodes c.args.self.now.number c.args.at c.args.bytes.now c.args.self.now.used)
