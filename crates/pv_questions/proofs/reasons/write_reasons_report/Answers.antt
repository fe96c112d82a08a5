use Rattle.std.proofs.Common.{◌∙◌, Some, ap, subst}
use Rattle.pv_model.specs.Listing.{lines_of_all}
use Rattle.pv_model.specs.Machine.{State, Tree, audit_node}
use Rattle.pv_questions.specs.Reasons.{file_lines, reasons_report}
use Rattle.pv_streams.specs.Sinks.{FailsBy, WritesOr}
use Rattle.pv_questions.proofs.reasons.write_reasons_report.Goals as goal

pub returns : goal.returns
unfolding reasons_report
returns g c =
    let s = c.args.session.now in
    subst (λ (t : Tree). WritesOr g.W.Sink FailsBy (lines_of_all t (λ path n. file_lines s path n (audit_node s (Some n)))) c.args.out.now c.write_lines.new.out c.write_lines.result)
    (c.tree.ensures ∙ ap (λ (x : State). x.tree) c.parts.ensures.value) c.write_lines.ensures
