use Rattle.std.proofs.Common.{sym, refl, ◌∙◌, arith}
use Rattle.std.proofs.lemmas.Bool.{false≢true}
use Rattle.pv_dirs.proofs.IndexedEntries.{known-here, known-there, known-past}
use Rattle.pv_dirs.proofs.index.Index.know.Goals as goal

pub returns-then-at-recorded_count-clause-this : goal.returns-then-at-recorded_count-clause-this
returns-then-at-recorded_count-clause-this c = λ is.
    sym (known-here c.args.self.now _ c.args.directory c.args.ascends refl refl (omega (arith, c.recorded_count.ensures)) (omega (arith, c.recorded_count.ensures))) ∙ is

pub returns-then-at-recorded_count-clause-others :
    goal.returns-then-at-recorded_count-clause-others
returns-then-at-recorded_count-clause-others c = λ d other. known-there c.args.self.now _ c.args.directory c.args.ascends refl refl d other

pub returns-else-at-recorded_count-clause-this : goal.returns-else-at-recorded_count-clause-this
returns-else-at-recorded_count-clause-this c = λ is. absurd (false≢true (sym (known-past c.args.self.now c.args.directory (omega (arith, c.recorded_count.ensures))) ∙ is))
