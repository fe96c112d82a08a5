use Rattle.std.proofs.Common.{◌∙◌, ◌++◌, codes, map, pos, ap, rules}
use Rattle.std.specs.Fmt.{signed_decimal}
use Rattle.std.specs.Prelude.{false}
use Rattle.pv_model.specs.Machine.{spaced}
use Rattle.pv_answers.specs.Texts.{words_after}
use Rattle.pv_streams.proofs.OutputTexts.{begins_first, on_err}
use Rattle.pv_streams.proofs.TextRemainders.{rest_after, rest_begins}
use Rattle.pv_answers.proofs.TextParts.{mapped-next}
use Rattle.pv_answers.proofs.numbers.SpacedFragment.write.Goals as goal

pub returns-in_err-write_signed : goal.returns-in_err-write_signed
returns-in_err-write_signed g c = record {
  whole = search rules;
  prefix =
      (rw (ap (λ xs. spaced (map signed_decimal xs)) c.in-Some.ensures.cases.0)
      (on_err c.from_residual.result
      (begins_first (signed_decimal c.in-Some.first.now) (words_after false (map signed_decimal c.in-Some.following.now)) _ _ c.in_err-write_signed.ensures.prefix)));
  failed = search rules;
  quiet = search rules;
}

pub returns-in_err-write_following : goal.returns-in_err-write_following
returns-in_err-write_following g c = record {
  whole = search rules;
  prefix =
      (let is = mapped-next (λ word. codes " " ++ word) signed_decimal c.in-Some.following.now c.loop-number.number-index (pos 0) c.loop-number-test.true in
      on_err c.from_residual-in_err-write_following.result (rest_begins _ _ _ _ _ _ _ c.loop-number.invariant.left is c.in_err-write_following.ensures.prefix));
  failed = search rules;
  quiet = search rules;
}

pub loop-number-preserved : goal.loop-number-preserved
loop-number-preserved g c =
    let is = mapped-next (λ word. codes " " ++ word) signed_decimal c.in-Some.following.now c.loop-number.number-index (pos 0) c.loop-number-test.true in
    record {
      left = rest_after _ _ _ _ _ _ _ c.loop-number.invariant.left is c.in_ok-write_following.ensures.whole;
      quiet = c.in_ok-write_following.ensures.quiet ∙ c.loop-number.invariant.quiet;
    }
