use Rattle.std.proofs.Common.{◌++◌, ◌∙◌, ap, codes, decimal, sym}
use Rattle.pv_model_questions.specs.Fixed.{edit_text}
use Rattle.pv_streams.proofs.WriterContracts.{writes_as}
use Rattle.pv_exposure.proofs.reasons.EditTextFragment.write.Goals as goal

pub returns-in-Writes : goal.returns-in-Writes
returns-in-Writes g c =
    let is = ap (λ n. codes "writes descriptor " ++ decimal n) c.from.ensures ∙ sym (ap edit_text c.in-Writes.is) in
    writes_as is c.write.ensures
