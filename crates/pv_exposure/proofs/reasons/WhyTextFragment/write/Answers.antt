use Rattle.std.proofs.Common.{◌++◌, ◌∙◌, ap, codes, decimal, sym}
use Rattle.pv_model.specs.Sealed.{why_text}
use Rattle.pv_streams.proofs.WriterContracts.{writes_as}
use Rattle.pv_exposure.proofs.reasons.WhyTextFragment.write.Goals as goal

pub returns-in-Reads : goal.returns-in-Reads
returns-in-Reads g c =
    let is = ap (λ n. codes "reads descriptor " ++ decimal n) c.from.ensures ∙ sym (ap why_text c.in-Reads.is) in
    writes_as is c.write.ensures
