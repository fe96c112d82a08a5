use Rattle.std.proofs.Common.{sym, ◌∙◌, arith}
use Rattle.pv_dirs.specs.Dirs.{directory_bytes}
use Rattle.pv_dirs.proofs.AscendingNames.{ascend_to}
use Rattle.pv_dirs.proofs.NextNames.{less_from}
use Rattle.pv_dirs.proofs.indexing.ascends.Goals as goal

pub returns-then-ascends : goal.returns-then-ascends
returns-then-ascends c = λ is.
    ascend_to c.args.dir.now.inodes.now.version (directory_bytes c.args.dir.now) c.args.count c.args.name.now (omega (arith, c.if-count-eq0.false))
    (c.requires.ordered (sym c.ascends.ensures ∙ c.if-ascends.true)) (less_from _ (sym c.is_less.ensures ∙ is))
