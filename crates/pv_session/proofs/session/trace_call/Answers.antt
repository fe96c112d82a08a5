use Rattle.std.proofs.Common.{sym, ◌∙◌, ap, subst, length, List, rules}
use Rattle.std.proofs.lemmas.Result.{err_from_is_err_and}
use Rattle.pv_calls.proofs.FirstStates.{callable}
use Rattle.pv_model.specs.Machine.{call_of, Line}
use Rattle.pv_streams.proofs.OutputTexts.{on_err}
use Rattle.pv_session.specs.Running.{BeginsLines, WrittenLines, stepped}
use Rattle.pv_session.proofs.MachineSteps.{begins-none, called-after, called-lines}
use Rattle.pv_session.proofs.StoppedRuns.{stops-called}
use Rattle.pv_session.proofs.session.trace_call.Goals as goal

pub make_call-requires-clause-call : goal.make_call-requires-clause-call
make_call-requires-clause-call g c =
    let next = c.requires.next in
    callable c.args.system.now.parts c.args.pid next.0 (call_of c.args.call) c.requires.whole next.1 next.2

pub returns-in_err-answer-clause-written : goal.returns-in_err-answer-clause-written
returns-in_err-answer-clause-written g c = record {
  whole = search rules;
  prefix = on_err c.from_residual.result (begins-none (stepped c.args.system.now.parts c.args.pid).lines (g.W.Sink.written c.args.trace.now));
  failed = search rules;
  quiet = search rules;
}

pub returns-in_err-write_call_lines-clause-written : goal.returns-in_err-write_call_lines-clause-written
returns-in_err-write_call_lines-clause-written g c =
    let same =
    called-lines c.args.system.now.parts c.args.pid (call_of c.args.call) c.make_call.new.system.parts c.in_ok-answer.answer c.requires.next c.in_ok-answer.ensures.answered
    c.buffer-front.result.now c.buffer-front.ensures.value in
    record {
      whole = search rules;
      prefix = on_err c.from_residual-in_err-write_call_lines.result
          (subst (λ (ls : List Line). BeginsLines ls (g.W.Sink.written c.args.trace.now) (g.W.Sink.written c.write_call_lines.new.out)) same c.in_err-write_call_lines.ensures.written.prefix);
      failed = search rules;
      quiet = search rules;
    }

pub returns-clause-after : goal.returns-clause-after
returns-clause-after g c =
    called-after c.args.system.now.parts c.args.pid (call_of c.args.call) c.make_call.new.system.parts c.in_ok-answer.answer c.requires.next c.in_ok-answer.ensures.answered

pub returns-clause-written : goal.returns-clause-written
returns-clause-written g c =
    let same =
    called-lines c.args.system.now.parts c.args.pid (call_of c.args.call) c.make_call.new.system.parts c.in_ok-answer.answer c.requires.next c.in_ok-answer.ensures.answered
    c.buffer-front.result.now c.buffer-front.ensures.value in
    record {
      whole = subst (λ (ls : List Line). WrittenLines ls (g.W.Sink.written c.args.trace.now) (g.W.Sink.written c.write_call_lines.new.out)) same c.in_ok-write_call_lines.ensures.written.whole;
      prefix = tt;
      failed = tt;
      quiet = c.in_ok-write_call_lines.ensures.written.quiet;
    }

pub returns-clause-lines : goal.returns-clause-lines
returns-clause-lines g c =
    c.in_ok-write_call_lines.ensures.count
    ∙ ap length
    (called-lines c.args.system.now.parts c.args.pid (call_of c.args.call) c.make_call.new.system.parts c.in_ok-answer.answer c.requires.next c.in_ok-answer.ensures.answered
    c.buffer-front.result.now c.buffer-front.ensures.value)

pub returns-in_err-answer-clause-stopped : goal.returns-in_err-answer-clause-stopped
returns-in_err-answer-clause-stopped g c =
    let p = err_from_is_err_and c.from_residual.result c.from_residual.ensures.1 in
    rw p.1 (stops-called c.args.system.now.parts c.args.pid (call_of c.args.call) c.make_call.new.system.parts (g.W.Sink.written c.args.trace.now)
    c.in_err-answer.ensures.unchanged c.requires.next c.in_err-answer.ensures.memory p.0 p.2)
