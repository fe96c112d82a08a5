use Rattle.std.proofs.Common.{◌≡◌, ◌∙◌, ap, sym, subst, None, length, ◌<◌, arith}
use Rattle.pv_model.specs.Machine.{lines_of, decimal_of, between, words_from, last_word}
use Rattle.pv_text.specs.Reading.{saturated_number}
use Rattle.pv_source.specs.Reading.{numbered_lines}
use Rattle.pv_source.specs.ReadBlocks.{ReadsBlock}
use Rattle.pv_model.specs.Source.Blocks.{exec_by, mark_of}
use Rattle.pv_source.proofs.SourceBlocks.{taken_held}
use Rattle.pv_image_manifest.proofs.ListedEntries.{length-lines}
use Rattle.pv_source.proofs.SourceLines.{length-counted}
use Rattle.pv_source.proofs.blocks.exec_block.Goals as goal

pub returns-clause-reads : goal.returns-clause-reads
returns-clause-reads c =
    let words = words_from c.args.line.words.now between in
    let lines = numbered_lines c.args.lines in
    let n = c.args.line.number in
    let unmarked : mark_of (last_word words) ≡ None = ap mark_of (sym c.last_word-last.ensures) ∙ sym c.in_default.ensures in
    let few : length lines < 4294967295 = omega (arith, length-counted c.args.lines.number (lines_of c.args.lines.text.now), length-lines c.args.lines.text.now) in
    let held = taken_held n words lines (decimal_of (last_word words)) c.in-Some-decimal.count (ap saturated_number (sym c.last_word-last.ensures) ∙ sym c.in-Some-decimal.ensures) few in
    subst (λ o. ReadsBlock c.taken_block.result o lines) (held ∙ ap (λ m. exec_by n words lines m (decimal_of (last_word words))) (sym unmarked)) c.taken_block.ensures.reads
