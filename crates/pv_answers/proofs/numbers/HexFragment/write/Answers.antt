use Rattle.std.proofs.Common.{◌∙◌, ◌+◌, [], ◌∷◌, ◌++◌, drop, ap₂, sym, rules}
use Rattle.pv_model.specs.Machine.{hex_byte}
use Rattle.pv_model.specs.Trace.{hex}
use Rattle.pv_streams.proofs.OutputTexts.{on_err}
use Rattle.pv_streams.proofs.TextRemainders.{rest_after, rest_begins}
use Rattle.pv_answers.proofs.TextParts.{part-next}
use Rattle.pv_answers.proofs.numbers.HexFragment.write.Goals as goal

pub returns-in_err-write_whole : goal.returns-in_err-write_whole
returns-in_err-write_whole g c = record {
  whole = search rules;
  prefix =
      (let bytes = c.args.self.now.0.now in
      let k = c.loop-byte.byte-index in
      let is = part-next hex_byte bytes k 0 c.loop-byte-test.true
      ∙ ap₂ (λ a b. (a ∷ b ∷ []) ++ hex (drop (k + 1) bytes)) (sym c.hex_digit.ensures) (sym c.hex_digit-in-loop-byte.ensures) in
      on_err c.from_residual.result (rest_begins _ _ _ _ _ _ _ c.loop-byte.invariant.left is c.in_err-write_whole.ensures.prefix));
  failed = search rules;
  quiet = search rules;
}

pub loop-byte-preserved : goal.loop-byte-preserved
loop-byte-preserved g c =
    let bytes = c.args.self.now.0.now in
    let k = c.loop-byte.byte-index in
    let is = part-next hex_byte bytes k 0 c.loop-byte-test.true
    ∙ ap₂ (λ a b. (a ∷ b ∷ []) ++ hex (drop (k + 1) bytes)) (sym c.hex_digit.ensures) (sym c.hex_digit-in-loop-byte.ensures) in
    record {
      left = rest_after _ _ _ _ _ _ _ c.loop-byte.invariant.left is c.in_ok-write_whole.ensures.whole;
      quiet = c.in_ok-write_whole.ensures.quiet ∙ c.loop-byte.invariant.quiet;
    }
