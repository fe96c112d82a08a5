use Rattle.std.proofs.Common.{◌∙◌, Option, List, None, ℕ, ap, get_or}
use Rattle.pv_model.specs.declared.verdict.Why.{Why}
use Rattle.pv_exposure.proofs.FileDescriptions.{leak-at}
use Rattle.pv_exposure.proofs.files.StateFiles.leak.Goals as goal

pub returns : goal.returns
returns c = λ given first s are. c.leak_at.ensures ∙ ap (λ (os : List (Option (ℕ × Why))). get_or os c.args.node None) c.deref.ensures.value ∙ leak-at s c.args.node c.args.self.now.leaks.items are.leaks
