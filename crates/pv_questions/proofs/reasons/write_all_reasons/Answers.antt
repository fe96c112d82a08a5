use Rattle.std.proofs.Common.{◌∙◌, ap, option_map, refl, sym, subst, rules}
use Rattle.pv_policy.proofs.OfAnswers.ProcessSequence.{all-after, fewer-after, next-record, none-after}
use Rattle.pv_streams.proofs.TextRemainders.{LeavesRest, rest_all, rest_after, rest_begins, written_text}
use Rattle.pv_model.specs.Machine.{Bytes}
use Rattle.pv_policy.specs.OfProcs.ProcessTable.{ProcessTable, number_after}
use Rattle.pv_streams.proofs.OutputTexts.{on_err}
use Rattle.pv_questions.specs.Reasons.{all_reasons}
use Rattle.pv_questions.proofs.ReasonRows.{rows, rows-all, rows-next}
use Rattle.pv_questions.proofs.reasons.write_all_reasons.Goals as goal

pub loop-pid-init : goal.loop-pid-init
loop-pid-init g c =
    let s = c.args.parts.now in
    let path = option_map (λ p. p.now) c.args.path in
    let text = all_reasons path s c.args.node in
    let all = ap (rows path s c.args.node) (all-after s.last_process s.processes c.invariant.ensures.processes.numbers) ∙ rows-all path s c.args.node in
    record {
      left = subst (λ (bs : Bytes). LeavesRest bs text (g.W.Sink.written c.args.out.now) (g.W.Sink.written c.args.out.now)) (sym all) (rest_all text (g.W.Sink.written c.args.out.now));
      quiet = refl;
    }

pub returns-in_err-write_reasons_of : goal.returns-in_err-write_reasons_of
returns-in_err-write_reasons_of g c = record {
  whole = search rules;
  prefix =
      (let s = c.args.parts.now in
      let path = option_map (λ p. p.now) c.args.path in
      let is = ap (λ (ps : ProcessTable). number_after c.loop-pid.last ps.processes) (sym c.processes.ensures) ∙ sym c.next_number.ensures ∙ c.in-Some.is in
      let next = next-record c.loop-pid.last c.in-Some.pid s.processes c.invariant.ensures.processes.ascending is in
      on_err c.from_residual.result (rest_begins _ _ _ _ _ _ _ c.loop-pid.invariant.left (rows-next path s c.args.node c.loop-pid.last c.in-Some.pid next) c.in_err-write_reasons_of.ensures.prefix));
  failed = search rules;
  quiet = search rules;
}

pub loop-pid-smaller : goal.loop-pid-smaller
loop-pid-smaller g c =
    let s = c.args.parts.now in
    let is = ap (λ (ps : ProcessTable). number_after c.loop-pid.last ps.processes) (sym c.processes.ensures) ∙ sym c.next_number.ensures ∙ c.in-Some.is in
    let next = next-record c.loop-pid.last c.in-Some.pid s.processes c.invariant.ensures.processes.ascending is in
    fewer-after c.loop-pid.last c.in-Some.pid s.processes next

pub loop-pid-preserved : goal.loop-pid-preserved
loop-pid-preserved g c =
    let s = c.args.parts.now in
    let path = option_map (λ p. p.now) c.args.path in
    let is = ap (λ (ps : ProcessTable). number_after c.loop-pid.last ps.processes) (sym c.processes.ensures) ∙ sym c.next_number.ensures ∙ c.in-Some.is in
    let next = next-record c.loop-pid.last c.in-Some.pid s.processes c.invariant.ensures.processes.ascending is in
    record {
      left = rest_after _ _ _ _ _ _ _ c.loop-pid.invariant.left (rows-next path s c.args.node c.loop-pid.last c.in-Some.pid next) c.in_ok-write_reasons_of.ensures.whole;
      quiet = c.in_ok-write_reasons_of.ensures.quiet ∙ c.loop-pid.invariant.quiet;
    }

pub returns : goal.returns
returns g c = record {
  whole =
      (let s = c.args.parts.now in
      let path = option_map (λ p. p.now) c.args.path in
      let text = all_reasons path s c.args.node in
      let is = ap (λ (ps : ProcessTable). number_after c.loop-pid.last ps.processes) (sym c.processes.ensures) ∙ sym c.next_number.ensures ∙ c.in_default.is in
      let none = ap (rows path s c.args.node) (none-after c.loop-pid.last s.processes is) in
      written_text text _ _ (subst (λ (bs : Bytes). LeavesRest bs text (g.W.Sink.written c.args.out.now) (g.W.Sink.written c.loop-pid.out)) none c.loop-pid.invariant.left));
  prefix = search rules;
  failed = search rules;
  quiet = search rules;
}
