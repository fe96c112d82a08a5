use Rattle.std.proofs.Common.{◌∙◌, ap, refl, sym, subst, rules}
use Rattle.pv_model.specs.Machine.{answer_bytes, reach_lines, Bytes}
use Rattle.pv_streams.proofs.OutputTexts.{on_err}
use Rattle.pv_streams.proofs.TextRemainders.{LeavesRest, rest_all, rest_after, rest_begins, written_text}
use Rattle.pv_calls_state.specs.OfProcs.ProcessTable.{ProcessTable, number_after}
use Rattle.pv_answers.proofs.ProcessSequence.{all-after, fewer-after, next-record, none-after}
use Rattle.pv_answers.proofs.PermissionLines.{rows, rows-all, rows-next}
use Rattle.pv_answers.proofs.reach.write_reach.Goals as goal

pub loop-pid-init : goal.loop-pid-init
loop-pid-init g c =
    let s = c.args.parts.now in
    let text = answer_bytes (reach_lines s) in
    let all = ap (rows s) (all-after s.last_process s.processes c.invariant.ensures.processes.numbers) ∙ rows-all s in
    record {
      left = subst (λ (bs : Bytes). LeavesRest bs text (g.W.Sink.written c.args.out.now) (g.W.Sink.written c.args.out.now)) (sym all) (rest_all text (g.W.Sink.written c.args.out.now));
      quiet = refl;
    }

pub returns-in_err-write_reach_of : goal.returns-in_err-write_reach_of
returns-in_err-write_reach_of g c = record {
  whole = search rules;
  prefix =
      (let s = c.args.parts.now in
      let is = ap (λ (ps : ProcessTable). number_after c.loop-pid.last ps.processes) (sym c.processes.ensures) ∙ sym c.next_number.ensures ∙ c.in-Some.is in
      let next = next-record c.loop-pid.last c.in-Some.pid s.processes c.invariant.ensures.processes.ascending is in
      on_err c.from_residual.result (rest_begins _ _ _ _ _ _ _ c.loop-pid.invariant.left (rows-next s c.loop-pid.last c.in-Some.pid next) c.in_err-write_reach_of.ensures.prefix));
  failed = search rules;
  quiet = search rules;
}

pub loop-pid-smaller : goal.loop-pid-smaller
loop-pid-smaller g c =
    let s = c.args.parts.now in
    let is = ap (λ (ps : ProcessTable). number_after c.loop-pid.last ps.processes) (sym c.processes.ensures) ∙ sym c.next_number.ensures ∙ c.in-Some.is in
    let next = next-record c.loop-pid.last c.in-Some.pid s.processes c.invariant.ensures.processes.ascending is in
    fewer-after c.loop-pid.last c.in-Some.pid s.processes next

pub loop-pid-preserved : goal.loop-pid-preserved
loop-pid-preserved g c =
    let s = c.args.parts.now in
    let is = ap (λ (ps : ProcessTable). number_after c.loop-pid.last ps.processes) (sym c.processes.ensures) ∙ sym c.next_number.ensures ∙ c.in-Some.is in
    let next = next-record c.loop-pid.last c.in-Some.pid s.processes c.invariant.ensures.processes.ascending is in
    record {
      left = rest_after _ _ _ _ _ _ _ c.loop-pid.invariant.left (rows-next s c.loop-pid.last c.in-Some.pid next) c.in_ok-write_reach_of.ensures.whole;
      quiet = c.in_ok-write_reach_of.ensures.quiet ∙ c.loop-pid.invariant.quiet;
    }

pub returns : goal.returns
returns g c = record {
  whole =
      (let s = c.args.parts.now in
      let text = answer_bytes (reach_lines s) in
      let is = ap (λ (ps : ProcessTable). number_after c.loop-pid.last ps.processes) (sym c.processes.ensures) ∙ sym c.next_number.ensures ∙ c.in_default.is in
      let none = ap (rows s) (none-after c.loop-pid.last s.processes is) in
      written_text text _ _ (subst (λ (bs : Bytes). LeavesRest bs text (g.W.Sink.written c.args.out.now) (g.W.Sink.written c.loop-pid.out)) none c.loop-pid.invariant.left));
  prefix = search rules;
  failed = search rules;
  quiet = search rules;
}
