use Rattle.std.proofs.Common.{◌∙◌, sym, arith}
use Rattle.pv_text.proofs.WordsAndTexts.{decimal_step, digits_step, decimal_is}
use Rattle.pv_text.proofs.words.decimal.Goals as goal

pub loop-digit-preserved : goal.loop-digit-preserved
loop-digit-preserved c = record {
  value = decimal_step c.args.digits.now c.loop-digit.digit-index c.loop-digit.value c.saturating_add-value.result _ c.loop-digit-test.true (cc) c.loop-digit.invariant.value;
  bound = omega arith;
  digits = digits_step c.args.digits.now c.loop-digit.digit-index _ c.loop-digit-test.true (sym c.is_ascii_digit.ensures.value ∙ c.if-not-is_ascii_digit.false) c.loop-digit.invariant.digits;
}

pub returns : goal.returns
returns c =
    sym (decimal_is c.args.digits.now c.loop-digit.value c.loop-digit.digit-index c.loop-digit-test.false (sym c.is_padded.ensures ∙ c.if-is_padded.false)
    c.loop-digit.invariant.digits c.loop-digit.invariant.value c.loop-digit.invariant.bound)
