use Rattle.std.proofs.Common.{sym, ap, ◌∙◌}
use Rattle.pv_model.specs.Machine.{at_number}
use Rattle.pv_files.specs.Counted.{Counted}
use Rattle.pv_files.proofs.RecordKeys.{none_from}
use Rattle.pv_files.proofs.open_files.OpenFiles.bound.Goals as goal

pub returns-clause-none : goal.returns-clause-none
returns-clause-none c = λ k past.
    ap (λ (v : Counted). at_number v.files k) (sym c.self.view_is)
    ∙ none_from c.self.inside.records c.self.inside.keys c.self.inside.first c.self.inside.most c.self.invariant k past
