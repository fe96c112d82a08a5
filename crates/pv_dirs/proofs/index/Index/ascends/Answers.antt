use Rattle.std.proofs.Common.{sym, ◌∙◌, arith}
use Rattle.std.proofs.lemmas.Bool.{le-ltb}
use Rattle.pv_dirs.proofs.IndexedEntries.{known-within, known-past}
use Rattle.pv_dirs.proofs.index.Index.ascends.Goals as goal

pub returns-then-at-recorded_count : goal.returns-then-at-recorded_count
returns-then-at-recorded_count c = sym (known-within c.args.self.now c.args.directory _ (omega (arith, c.recorded_count.ensures)) (omega (arith, c.recorded_count.ensures)))

pub returns-else-at-recorded_count : goal.returns-else-at-recorded_count
returns-else-at-recorded_count c =
    le-ltb c.args.directory c.recorded_count.result c.if-at-recorded_count.false ∙ sym (known-past c.args.self.now c.args.directory (omega (arith, c.recorded_count.ensures)))
