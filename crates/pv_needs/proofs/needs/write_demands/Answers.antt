use Rattle.std.proofs.Common.{◌∙◌, ◌*◌, ◌≤◌, ap, arith, length, subst, rules}
use Rattle.pv_model.specs.Machine.{answer_bytes, steps_of}
use Rattle.pv_streams.proofs.OutputTexts.{on_err}
use Rattle.pv_streams.specs.Sinks.{WritesPrefix, and_all}
use Rattle.pv_needs.specs.declared.process_images.TheConstants.{MANY}
use Rattle.pv_needs.proofs.NeedsText.{needs-reported}
use Rattle.pv_needs.proofs.needs.write_demands.Goals as goal

pub returns-in_err-write_recorded-clause-written : goal.returns-in_err-write_recorded-clause-written
returns-in_err-write_recorded-clause-written g c = record {
  whole = search rules;
  prefix =
      (let pids = steps_of c.args.schedule.now in
      let short : 2 * length pids ≤ MANY = omega (arith, c.in_ok-recorded.ensures.few, c.requires) in
      let same = needs-reported c.args.granted pids c.args.session.now c.in_ok-recorded.recorded c.parts.ensures.whole short c.in_ok-recorded.ensures.recorded in
      on_err c.from_residual-in_err-write_recorded.result
      (subst (λ ls. WritesPrefix (answer_bytes ls) (g.W.Sink.written c.args.out.now) (g.W.Sink.written c.write_recorded.new.out)) same c.in_err-write_recorded.ensures.prefix));
  failed = search rules;
  quiet = search rules;
}

pub returns-clause-written : goal.returns-clause-written
returns-clause-written g c = record {
  whole =
      (let pids = steps_of c.args.schedule.now in
      let short : 2 * length pids ≤ MANY = omega (arith, c.in_ok-recorded.ensures.few, c.requires) in
      let same = needs-reported c.args.granted pids c.args.session.now c.in_ok-recorded.recorded c.parts.ensures.whole short c.in_ok-recorded.ensures.recorded in
      c.in_ok-write_recorded.ensures.whole ∙ ap (λ ls. and_all (g.W.Sink.written c.args.out.now) (answer_bytes ls)) same);
  prefix = search rules;
  failed = search rules;
  quiet = search rules;
}
