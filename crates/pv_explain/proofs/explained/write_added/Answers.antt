use Rattle.std.proofs.Common.{◌≡◌, ◌∙◌, ◌++◌, Bool, List, [], cond, map, ap, sym}
use Rattle.std.proofs.lemmas.Grind.{flat_map-append}
use Rattle.std.proofs.lemmas.List.{append-nil}
use Rattle.pv_model.specs.Answers.Explain.{set_text}
use Rattle.pv_model.specs.Machine.{AnswerLine, answer_bytes, answer_line_bytes, program_of, Tree}
use Rattle.pv_model_questions.specs.ExplainMore.{allowed_line}
use Rattle.pv_streams.proofs.WriterContracts.{writes_as, writes_both, writes_failed, writes_longer, writes_ok}
use Rattle.pv_step_lines.specs.Origin.{settings_in}
use Rattle.pv_explain.specs.Added.{allowed_made, first_allowed, allowed_pair_in, reasons_made}
use Rattle.pv_explain.proofs.explained.write_added.Goals as goal

appended : (xs ys : List AnswerLine) → answer_bytes xs ++ answer_bytes ys ≡ answer_bytes (xs ++ ys)
appended xs ys = sym (flat_map-append answer_line_bytes xs ys)

pub returns-in_err-write_allowed : goal.returns-in_err-write_allowed
returns-in_err-write_allowed g c =
    let made = c.args.made.now in
    let mine = settings_in c.args.origins.now in
    let prior = c.args.prior.now in
    let s = c.args.parts.now in
    let reasons : List AnswerLine = cond c.args.errors (reasons_made c.args.pid prior made s) [] in
    let allowed : List AnswerLine = allowed_made c.args.pid mine prior made s in
    writes_failed c.from_residual.ensures.0
    (writes_as
    (ap (λ (t : Tree). answer_bytes (map (allowed_line c.args.pid t (set_text program_of mine)) (first_allowed (allowed_pair_in prior.walks) made.answer.walks)) ++ answer_bytes reasons) c.tree.ensures
    ∙ appended allowed reasons)
    (writes_longer _ c.in_err-write_allowed.ensures))

pub returns-then-errors : goal.returns-then-errors
returns-then-errors g c =
    let made = c.args.made.now in
    let mine = settings_in c.args.origins.now in
    let prior = c.args.prior.now in
    let s = c.args.parts.now in
    let reasons : List AnswerLine = reasons_made c.args.pid prior made s in
    let allowed : List AnswerLine = allowed_made c.args.pid mine prior made s in
    writes_as
    (ap (λ (t : Tree). answer_bytes (map (allowed_line c.args.pid t (set_text program_of mine)) (first_allowed (allowed_pair_in prior.walks) made.answer.walks)) ++ answer_bytes reasons) c.tree.ensures
    ∙ ap (λ (b : Bool). answer_bytes allowed ++ answer_bytes (cond b reasons [])) (sym c.if-errors.true)
    ∙ appended allowed (cond c.args.errors reasons []))
    (writes_both c.in_ok-write_allowed.ensures c.write_reasons.ensures)

pub returns-else-errors : goal.returns-else-errors
returns-else-errors g c =
    let made = c.args.made.now in
    let mine = settings_in c.args.origins.now in
    let prior = c.args.prior.now in
    let s = c.args.parts.now in
    let reasons : List AnswerLine = reasons_made c.args.pid prior made s in
    let allowed : List AnswerLine = allowed_made c.args.pid mine prior made s in
    writes_as
    (ap (λ (t : Tree). answer_bytes (map (allowed_line c.args.pid t (set_text program_of mine)) (first_allowed (allowed_pair_in prior.walks) made.answer.walks))) c.tree.ensures
    ∙ sym (append-nil (answer_bytes allowed))
    ∙ ap (λ (b : Bool). answer_bytes allowed ++ answer_bytes (cond b reasons [])) (sym c.if-errors.false)
    ∙ appended allowed (cond c.args.errors reasons []))
    (writes_ok c.in_ok-write_allowed.ensures)
