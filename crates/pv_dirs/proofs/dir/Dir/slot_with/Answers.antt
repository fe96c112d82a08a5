use Rattle.std.proofs.Common.{sym, ◌∙◌}
use Rattle.std.proofs.lemmas.Bool.{false≢true}
use Rattle.pv_dirs.proofs.dir.Dir.slot_with.Goals as goal

pub returns-else-has_name-clause-other : goal.returns-else-has_name-clause-other
returns-else-has_name-clause-other c = λ below same. false≢true (sym c.if-has_name.false ∙ c.has_name.ensures.1 same)
