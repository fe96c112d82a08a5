use Rattle.std.proofs.Common.{◌∙◌, ◌+◌, List, None, Option, ap, drop, get_or, option_map, rules}
use Rattle.std.proofs.lemmas.List.{drop_more}
use Rattle.pv_run.specs.OfAudit.Reasons.{present_reasons}
use Rattle.pv_streams.proofs.TextRemainders.{rest_after, rest_begins}
use Rattle.pv_model.specs.declared.verdict.Why.{Why}
use Rattle.pv_streams.proofs.OutputTexts.{on_err}
use Rattle.pv_questions.specs.Reasons.{reason_lines}
use Rattle.pv_questions.proofs.ReasonRows.{why-next}
use Rattle.pv_questions.proofs.reasons.write_whys.Goals as goal

pub returns-in_err-write_why : goal.returns-in_err-write_why
returns-in_err-write_why g c =
    let path = option_map (λ p. p.now) c.args.path in
    let whys = c.args.whys.now in
    let i = c.loop-why.why-index in
    let next =
    ap (λ (ws : List (Option Why)). reason_lines path c.args.pid (present_reasons ws)) (drop_more whys i None c.loop-why-test.true)
    ∙ why-next path c.args.pid (get_or whys i None) (drop (i + 1) whys) in
    record {
      whole = search rules;
      prefix = on_err c.from_residual.result (rest_begins _ _ _ _ _ _ _ c.loop-why.invariant.left next c.in_err-write_why.ensures.prefix);
      failed = on_err c.from_residual.result (rw (← c.loop-why.invariant.quiet) c.in_err-write_why.ensures.failed);
      quiet = search rules;
    }

pub loop-why-preserved : goal.loop-why-preserved
loop-why-preserved g c =
    let path = option_map (λ p. p.now) c.args.path in
    let whys = c.args.whys.now in
    let i = c.loop-why.why-index in
    let next =
    ap (λ (ws : List (Option Why)). reason_lines path c.args.pid (present_reasons ws)) (drop_more whys i None c.loop-why-test.true)
    ∙ why-next path c.args.pid (get_or whys i None) (drop (i + 1) whys) in
    record {
      left = rest_after _ _ _ _ _ _ _ c.loop-why.invariant.left next c.in_ok-write_why.ensures.whole;
      quiet = c.in_ok-write_why.ensures.quiet ∙ c.loop-why.invariant.quiet;
    }
