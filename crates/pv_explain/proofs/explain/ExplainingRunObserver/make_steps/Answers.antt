use Rattle.std.proofs.Common.{refl}
use Rattle.pv_step_lines.specs.OfSession.Observing.{observed}
use Rattle.pv_streams.proofs.WriterContracts.{or_written}
use Rattle.pv_explain.specs.declared.explain.Explaining.{Explaining}
use Rattle.pv_explain.proofs.explain.ExplainingRunObserver.make_steps.Goals as goal

pub returns-clause-made : goal.returns-clause-made
returns-clause-made g c =
    let ok = c.in_ok-explain_step.ensures in
    let left : Explaining = record { explainer = c.explain_step.new.self; extra = c.args.self.now.extra; number = c.saturating_add-self.result } in (
      observed c.explain_step.new.session left c.explain_step.new.out,
      record {
        whole = c.parts.ensures.whole;
        after = ok.after;
        written = or_written ok.written;
        keeps = ok.keeps;
        same = refl;
        number = c.saturating_add-self.ensures;
      },
      refl,
    )
