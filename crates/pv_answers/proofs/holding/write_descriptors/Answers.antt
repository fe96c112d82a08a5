use Rattle.std.proofs.Common.{◌∙◌, arith, rules}
use Rattle.pv_streams.proofs.TextRemainders.{rest_after, rest_begins}
use Rattle.pv_streams.proofs.OutputTexts.{on_err}
use Rattle.pv_answers.proofs.HeldLines.{descriptor-next}
use Rattle.pv_answers.proofs.holding.write_descriptors.Goals as goal

pub returns-in_err-write_descriptor_line : goal.returns-in_err-write_descriptor_line
returns-in_err-write_descriptor_line g c = record {
  whole = search rules;
  prefix =
      (let is = descriptor-next c.args.parts.now c.args.pid c.args.owned.now.descriptors c.loop-number.number (omega (arith, c.loop-number-test.true, c.invariant.ensures)) in
      on_err c.from_residual.result (rest_begins _ _ _ _ _ _ _ c.loop-number.invariant.left is c.in_err-write_descriptor_line.ensures.prefix));
  failed = search rules;
  quiet = search rules;
}

pub loop-number-preserved : goal.loop-number-preserved
loop-number-preserved g c =
    let is = descriptor-next c.args.parts.now c.args.pid c.args.owned.now.descriptors c.loop-number.number (omega (arith, c.loop-number-test.true, c.invariant.ensures)) in
    record {
      left = rest_after _ _ _ _ _ _ _ c.loop-number.invariant.left is c.in_ok-write_descriptor_line.ensures.whole;
      quiet = c.in_ok-write_descriptor_line.ensures.quiet ∙ c.loop-number.invariant.quiet;
    }
