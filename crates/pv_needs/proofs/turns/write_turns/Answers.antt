use Rattle.std.proofs.Common.{◌∙◌, arith, refl, rules}
use Rattle.pv_streams.proofs.OutputTexts.{on_err}
use Rattle.pv_needs.proofs.TurnsLines.{all-idle, all-over, begun-next, begun-so-far, count-fits, count-some, lines-so-far, written-next, written-none}
use Rattle.pv_needs.proofs.TurnLoops.{taken-as}
use Rattle.pv_needs.proofs.turns.write_turns.Goals as goal

pub loop-left-init : goal.loop-left-init
loop-left-init g c = record { lines = written-none c.args.slice c.args.steps c.args.session.now (g.W.Sink.written c.args.out.now); quiet = refl }

pub returns-in_err-pid-clause-written : goal.returns-in_err-pid-clause-written
returns-in_err-pid-clause-written g c = record {
  whole = search rules;
  prefix = (on_err c.from_residual.result (begun-so-far c.args.slice c.requires c.args.steps c.args.session.now _ _ _ _ _ c.loop-left.invariant.lines));
  failed = search rules;
  quiet = search rules;
}

pub returns-in_err-pid-clause-lines : goal.returns-in_err-pid-clause-lines
returns-in_err-pid-clause-lines g c = λ is. lines-so-far c.args.slice c.requires c.args.steps c.args.session.now _ _ _ _ _ c.loop-left.invariant.lines

pub returns-in_err-write-clause-written : goal.returns-in_err-write-clause-written
returns-in_err-write-clause-written g c = record {
  whole = search rules;
  prefix =
      (on_err c.from_residual-in_err-write.result
      (begun-next c.args.slice c.requires c.args.steps c.args.session.now _ _ _ _ _ c.loop-left.invariant.lines c.loop-left-test.true c.in-Some.pid c.in-Some.count c.take_turn.new.session
      (taken-as _ _ _ _ _ _ _ c.min.ensures c.in-Some.is c.in_ok-pid.ensures.taken) _ c.in_err-write.ensures.prefix));
  failed = search rules;
  quiet = search rules;
}

pub overflow_sub-left : goal.overflow_sub-left
overflow_sub-left g c =
    count-fits c.args.slice c.requires c.args.steps c.args.session.now _ _ _ _ _ c.loop-left.invariant.lines c.loop-left-test.true c.in-Some.pid c.in-Some.count c.take_turn.new.session
    (taken-as _ _ _ _ _ _ _ c.min.ensures c.in-Some.is c.in_ok-pid.ensures.taken)

pub loop-left-smaller : goal.loop-left-smaller
loop-left-smaller g c =
    let some = count-some c.args.slice c.requires c.args.steps c.args.session.now _ _ _ _ _ c.loop-left.invariant.lines c.loop-left-test.true c.in-Some.pid c.in-Some.count c.take_turn.new.session
    (taken-as _ _ _ _ _ _ _ c.min.ensures c.in-Some.is c.in_ok-pid.ensures.taken) in
    let more = c.loop-left-test.true in omega (arith, some, more)

pub loop-left-preserved : goal.loop-left-preserved
loop-left-preserved g c = record {
  lines = written-next c.args.slice c.requires c.args.steps c.args.session.now _ _ _ _ _ c.loop-left.invariant.lines c.loop-left-test.true c.in-Some.pid c.in-Some.count c.take_turn.new.session
      (taken-as _ _ _ _ _ _ _ c.min.ensures c.in-Some.is c.in_ok-pid.ensures.taken) _ c.in_ok-write.ensures.whole;
  quiet = c.in_ok-write.ensures.quiet ∙ c.loop-left.invariant.quiet;
}

pub returns-after-loop-left-clause-after : goal.returns-after-loop-left-clause-after
returns-after-loop-left-clause-after g c =
    (all-over c.args.slice c.requires c.args.steps c.args.session.now _ _ _ _ _ c.loop-left.invariant.lines c.loop-left-test.false).after

pub returns-after-loop-left-clause-written : goal.returns-after-loop-left-clause-written
returns-after-loop-left-clause-written g c = record {
  whole = ((all-over c.args.slice c.requires c.args.steps c.args.session.now _ _ _ _ _ c.loop-left.invariant.lines c.loop-left-test.false).as_written);
  prefix = search rules;
  failed = search rules;
  quiet = search rules;
}

pub returns-in_default-clause-after : goal.returns-in_default-clause-after
returns-in_default-clause-after g c =
    let idle = all-idle c.args.slice c.requires c.args.steps c.args.session.now _ _ _ _ _ c.loop-left.invariant.lines c.in_ok-pid.field-0 c.take_turn.new.session c.in_default.is (taken-as _ _ _ _ _ _ _ c.min.ensures refl c.in_ok-pid.ensures.taken) in
    idle.0 ∙ idle.1.after

pub returns-in_default-clause-written : goal.returns-in_default-clause-written
returns-in_default-clause-written g c = record {
  whole =
      (let idle = all-idle c.args.slice c.requires c.args.steps c.args.session.now _ _ _ _ _ c.loop-left.invariant.lines c.in_ok-pid.field-0 c.take_turn.new.session c.in_default.is (taken-as _ _ _ _ _ _ _ c.min.ensures refl c.in_ok-pid.ensures.taken) in
      idle.1.as_written);
  prefix = search rules;
  failed = search rules;
  quiet = search rules;
}
