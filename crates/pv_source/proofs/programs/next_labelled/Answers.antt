use Rattle.std.proofs.Common.{◌≡◌, ◌∙◌, ap, sym, subst, ◌∷◌, [], ◌≢◌}
use Rattle.pv_source.specs.Reading.{numbered_lines, worded}
use Rattle.pv_source.specs.ReadPrograms.{labelled_value}
use Rattle.pv_model.specs.Machine.{LabelledLine, labelled_lines}
use Rattle.pv_model.specs.Source.Programs.{or_exit}
use Rattle.pv_source.proofs.SourcePrograms.{to_labelled, labelled_none, labelled_preserved, labelled_more, labelled_exit, some_words, no_words}
use Rattle.pv_source.proofs.programs.next_labelled.Goals as goal

pub returns-in_default-clause-line : goal.returns-in_default-clause-line
returns-in_default-clause-line c = labelled_none (numbered_lines c.args.lines) c.in_default.ensures.counts

pub returns-clause-line : goal.returns-clause-line
returns-clause-line c =
    let line = worded c.in-Some.line in
    let read : labelled_value c.with_label_apart-line.result ≡ to_labelled line = c.with_label_apart-line.ensures in
    labelled_preserved (numbered_lines c.args.lines) (numbered_lines c.in-Some.rest) line c.in-Some.ensures.counts
    (subst (λ (l : LabelledLine). l.words ≢ []) read (some_words c.has_no_word.result _ c.has_no_word.ensures c.if-has_no_word.false))
    ∙ ap (λ l. l ∷ labelled_lines (numbered_lines c.in-Some.rest)) (sym read)

pub returns-in-Some-next_line-clause-line : goal.returns-in-Some-next_line-clause-line
returns-in-Some-next_line-clause-line c =
    labelled_more (numbered_lines c.args.lines) (numbered_lines c.in-Some.rest) (worded c.in-Some.line) _ c.in-Some.ensures.counts c.in-Some-next_line.ensures.counts
    ∙ ap (λ l. l ∷ labelled_lines (numbered_lines c.in-Some.rest)) (sym c.with_label_apart-line.ensures)

pub returns-in-None-clause-line : goal.returns-in-None-clause-line
returns-in-None-clause-line c =
    let line = worded c.in-Some.line in
    let read : labelled_value c.with_label_apart-line.result ≡ to_labelled line = c.with_label_apart-line.ensures in
    labelled_exit (numbered_lines c.args.lines) (numbered_lines c.in-Some.rest) line c.in-Some.ensures.counts c.in-None.ensures.counts
    (subst (λ (l : LabelledLine). l.words ≡ []) read (no_words c.has_no_word.result _ c.has_no_word.ensures c.if-has_no_word.true))
    ∙ ap (λ (l : LabelledLine). record l { words = or_exit [] } ∷ labelled_lines (numbered_lines c.in-Some.rest)) (sym read)
    ∙ ap (λ l. l ∷ labelled_lines (numbered_lines c.in-Some.rest)) (sym c.with_exit.ensures)
