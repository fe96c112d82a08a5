use Rattle.std.proofs.Common.{◌∙◌, ap, sym, [], ◌∷◌, ◌+◌}
use Rattle.std.proofs.lemmas.Bool.{not-false, not-true}
use Rattle.std.specs.Prelude.{bytes_eq, not}
use Rattle.pv_source.specs.Reading.{numbered_lines, numbered_text}
use Rattle.pv_model.specs.Machine.{blocks_from, between, words_from}
use Rattle.pv_model.specs.Source.Blocks.{schedule, cut_off, or_cut_off}
use Rattle.pv_source.proofs.SourceBlocks.{blocks_first, blocks_then, schedule_begins, single_begins, exec_begins, read_first}
use Rattle.pv_source.proofs.blocks.next_block.Goals as goal

pub returns-in_default-clause-block : goal.returns-in_default-clause-block
returns-in_default-clause-block c = blocks_first (numbered_lines c.args.lines) ∙ ap blocks_then c.in_default.ensures.counts

pub returns-then-eq-clause-block : goal.returns-then-eq-clause-block
returns-then-eq-clause-block c =
    let n = c.in-Some.line.number in
    let words = words_from c.in-Some.line.words.now between in
    schedule_begins n c.in-Some.line.first.now words (numbered_lines c.args.lines) (numbered_lines c.in-Some.rest) c.in-Some.ensures.counts c.in-Some.ensures.first
    (sym (ap (bytes_eq c.in-Some.line.first.now) c.as_slice.ensures) ∙ sym c.eq.ensures ∙ c.if-eq.true)
    ∙ ap (λ k. schedule n words (numbered_text k c.in-Some.rest.text.now) ∷ []) c.in-Some.ensures.next
    ∙ ap (λ ls. schedule n words (numbered_text (n + 1) c.in-Some.rest.text.now) ∷ blocks_from ls 0) (sym c.no_lines.ensures.none)

pub returns-then-ne-clause-block : goal.returns-then-ne-clause-block
returns-then-ne-clause-block c =
    single_begins c.in-Some.line.number c.in-Some.line.first.now (words_from c.in-Some.line.words.now between) (numbered_lines c.args.lines) (numbered_lines c.in-Some.rest) c.in-Some.ensures.counts c.in-Some.ensures.first
    (sym (ap (bytes_eq c.in-Some.line.first.now) c.as_slice.ensures) ∙ sym c.eq.ensures ∙ c.if-eq.false)
    (not-true _ (sym (ap (λ name. not (bytes_eq c.in-Some.line.first.now name)) c.as_slice-2.ensures) ∙ sym c.ne.ensures ∙ c.if-ne.true))

pub returns-in-Some-exec_block-clause-block : goal.returns-in-Some-exec_block-clause-block
returns-in-Some-exec_block-clause-block c =
    exec_begins c.in-Some.line.number c.in-Some.line.first.now (words_from c.in-Some.line.words.now between) (numbered_lines c.args.lines) (numbered_lines c.in-Some.rest) c.in-Some.ensures.counts c.in-Some.ensures.first
    (sym (ap (bytes_eq c.in-Some.line.first.now) c.as_slice.ensures) ∙ sym c.eq.ensures ∙ c.if-eq.false)
    (not-false _ (sym (ap (λ name. not (bytes_eq c.in-Some.line.first.now name)) c.as_slice-2.ensures) ∙ sym c.ne.ensures ∙ c.if-ne.false))
    ∙ read_first c.in-Some.line.number (numbered_lines c.in-Some.rest) _ c.in-Some-exec_block.read c.in-Some-exec_block.ensures.reads

pub returns-clause-block : goal.returns-clause-block
returns-clause-block c =
    let n = c.in-Some.line.number in
    exec_begins n c.in-Some.line.first.now (words_from c.in-Some.line.words.now between) (numbered_lines c.args.lines) (numbered_lines c.in-Some.rest) c.in-Some.ensures.counts c.in-Some.ensures.first
    (sym (ap (bytes_eq c.in-Some.line.first.now) c.as_slice.ensures) ∙ sym c.eq.ensures ∙ c.if-eq.false)
    (not-false _ (sym (ap (λ name. not (bytes_eq c.in-Some.line.first.now name)) c.as_slice-2.ensures) ∙ sym c.ne.ensures ∙ c.if-ne.false))
    ∙ ap (or_cut_off n (blocks_from (numbered_lines c.in-Some.rest))) c.in_default-exec_block.ensures.reads
    ∙ ap (λ ls. cut_off n ∷ blocks_from ls 0) (sym c.no_lines-2.ensures.none)
