use Rattle.std.proofs.Common.{◌+◌, ◌/◌, sym, ◌∙◌, arith}
use Rattle.pv_dirs.specs.Dirs.{directory_bytes}
use Rattle.pv_dirs.proofs.AscendingNames.{before_until, not_before_from}
use Rattle.pv_dirs.proofs.NextNames.{less_from}
use Rattle.pv_dirs.proofs.dir.Dir.count_before.Goals as goal

pub loop-from-preserved-then-is_less : goal.loop-from-preserved-then-is_less
loop-from-preserved-then-is_less c =
    let l = c.loop-from.invariant in
    record {
      ordered = omega arith;
      within = l.within;
      few = l.few;
      before = before_until c.args.self.now.inodes.now.version (directory_bytes c.args.self.now) c.requires.ascend c.args.name.now ((c.loop-from.from + c.loop-from.to) / 2) (omega arith) (less_from _ (sym c.is_less.ensures ∙ c.if-is_less.true));
      past = l.past;
    }

pub loop-from-preserved : goal.loop-from-preserved
loop-from-preserved c =
    let l = c.loop-from.invariant in
    record {
      ordered = omega arith;
      within = omega arith;
      few = omega arith;
      before = l.before;
      past = not_before_from c.args.self.now.inodes.now.version (directory_bytes c.args.self.now) c.requires.ascend c.args.name.now ((c.loop-from.from + c.loop-from.to) / 2) (omega arith) (sym c.is_less.ensures ∙ c.if-is_less.false);
    }
