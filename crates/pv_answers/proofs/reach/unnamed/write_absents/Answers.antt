use Rattle.std.proofs.Common.{◌∙◌, refl, subst, arith, rules}
use Rattle.pv_model.specs.Machine.{Bytes}
use Rattle.pv_streams.proofs.OutputTexts.{on_err}
use Rattle.pv_streams.proofs.TextRemainders.{LeavesRest, rest_all, rest_after, rest_begins, written_text}
use Rattle.pv_answers.specs.Reaching.{absent_lines}
use Rattle.pv_answers.proofs.AbsentNameEntries.{absent-next, absent-past}
use Rattle.pv_answers.proofs.reach.unnamed.write_absents.Goals as goal

pub loop-number-init : goal.loop-number-init
loop-number-init g c = record { left = rest_all (absent_lines c.args.reacher.now) (g.W.Sink.written c.args.out.now); quiet = refl }

pub returns-in_err-write_absent : goal.returns-in_err-write_absent
returns-in_err-write_absent g c = record {
  whole = search rules;
  prefix =
      (let is = absent-next c.args.reacher.now c.loop-number.number (omega (arith, c.loop-number-test.true)) in
      on_err c.from_residual.result (rest_begins _ _ _ _ _ _ _ c.loop-number.invariant.left is c.in_err-write_absent.ensures.prefix));
  failed = (on_err c.from_residual.result (rw (← c.loop-number.invariant.quiet) c.in_err-write_absent.ensures.failed));
  quiet = search rules;
}

pub loop-number-preserved : goal.loop-number-preserved
loop-number-preserved g c =
    let is = absent-next c.args.reacher.now c.loop-number.number (omega (arith, c.loop-number-test.true)) in
    record {
      left = rest_after _ _ _ _ _ _ _ c.loop-number.invariant.left is c.in_ok-write_absent.ensures.whole;
      quiet = c.in_ok-write_absent.ensures.quiet ∙ c.loop-number.invariant.quiet;
    }

pub returns : goal.returns
returns g c = record {
  whole =
      (let x = c.args.reacher.now in
      let none = absent-past x c.loop-number.number (omega (arith, c.loop-number-test.false)) in
      written_text (absent_lines x) _ _ (subst (λ (bs : Bytes). LeavesRest bs (absent_lines x) (g.W.Sink.written c.args.out.now) (g.W.Sink.written c.loop-number.out)) none c.loop-number.invariant.left));
  prefix = search rules;
  failed = search rules;
  quiet = search rules;
}
