use Rattle.std.proofs.Common.{◌∙◌, ◌∷◌, [], map}
use Rattle.pv_exposure.specs.Stored.{recorded_in, recorded_of_file}
use Rattle.pv_exposure.proofs.ListTexts.{all-done, lines-flat}
use Rattle.pv_exposure.proofs.text.lines_of_file.Goals as goal

pub returns : goal.returns
returns c =
    all-done (λ x. map (λ k. k.line) (recorded_of_file c.args.file.now (recorded_in x ∷ []))) c.args.findings.now [] c.loop-finding.finding-index c.loop-finding.lines.items c.loop-finding-test.false c.loop-finding.invariant
    ∙ lines-flat c.args.file.now c.args.findings.now
