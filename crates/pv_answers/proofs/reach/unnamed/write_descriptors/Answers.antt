use Rattle.std.proofs.Common.{◌∙◌, refl, subst, arith, rules}
use Rattle.pv_model.specs.Machine.{Bytes}
use Rattle.pv_streams.proofs.OutputTexts.{on_err}
use Rattle.pv_streams.proofs.TextRemainders.{LeavesRest, rest_all, rest_after, rest_begins, written_text}
use Rattle.pv_answers.specs.Reaching.{unnamed_lines}
use Rattle.pv_answers.proofs.OpenDescriptors.{lines-next, lines-past}
use Rattle.pv_answers.proofs.reach.unnamed.write_descriptors.Goals as goal

pub loop-number-init : goal.loop-number-init
loop-number-init g c = record { left = rest_all (unnamed_lines c.args.reacher.now) (g.W.Sink.written c.args.out.now); quiet = refl }

pub returns-in_err-write_unnamed : goal.returns-in_err-write_unnamed
returns-in_err-write_unnamed g c = record {
  whole = search rules;
  prefix =
      (let is = lines-next c.args.reacher.now c.loop-number.number (omega (arith, c.invariant.ensures, c.loop-number-test.true)) in
      on_err c.from_residual.result (rest_begins _ _ _ _ _ _ _ c.loop-number.invariant.left is c.in_err-write_unnamed.ensures.prefix));
  failed = (on_err c.from_residual.result (rw (← c.loop-number.invariant.quiet) c.in_err-write_unnamed.ensures.failed));
  quiet = search rules;
}

pub loop-number-preserved : goal.loop-number-preserved
loop-number-preserved g c =
    let is = lines-next c.args.reacher.now c.loop-number.number (omega (arith, c.invariant.ensures, c.loop-number-test.true)) in
    record {
      left = rest_after _ _ _ _ _ _ _ c.loop-number.invariant.left is c.in_ok-write_unnamed.ensures.whole;
      quiet = c.in_ok-write_unnamed.ensures.quiet ∙ c.loop-number.invariant.quiet;
    }

pub returns : goal.returns
returns g c = record {
  whole =
      (let x = c.args.reacher.now in
      let none = lines-past x c.loop-number.number (omega (arith, c.invariant.ensures, c.loop-number-test.false)) in
      written_text (unnamed_lines x) _ _ (subst (λ (bs : Bytes). LeavesRest bs (unnamed_lines x) (g.W.Sink.written c.args.out.now) (g.W.Sink.written c.loop-number.out)) none c.loop-number.invariant.left));
  prefix = search rules;
  failed = search rules;
  quiet = search rules;
}
