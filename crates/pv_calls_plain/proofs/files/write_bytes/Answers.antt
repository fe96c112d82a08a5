use Rattle.std.proofs.Common.{◌≡◌, ◌∙◌, ◌+◌, ap, sym}
use Rattle.pv_calls_state.specs.Attempts.{collected_attempt}
use Rattle.pv_calls_plain.specs.Performed.{attempt_of}
use Rattle.pv_model.specs.Machine.{is_past_greatest, is_too_long, fits}
use Rattle.pv_calls_plain.proofs.FileCalls.{some-past, some-crowded, some-written}
use Rattle.pv_calls_plain.proofs.files.write_bytes.Goals as goal

pub returns-then-is_past_greatest-clause-performed : goal.returns-then-is_past_greatest-clause-performed
returns-then-is_past_greatest-clause-performed c = λ me f proc at.
    let s = c.args.parts.now in
    let first = c.write_place-at.result in
    let place = c.write_place-at.ensures.place c.args.pid me f at in
    let past = ap (λ t. is_past_greatest t (first + c.args.count)) (sym c.tree.ensures) ∙ sym c.is_past_greatest.ensures ∙ c.if-is_past_greatest.true in
    ap collected_attempt (some-past s c.args.pid me c.args.file f c.args.count first c.requires.some place past) ∙ ap (λ r. attempt_of s (Rattle.std.proofs.Common.Err r)) (sym c.refusal.ensures)

pub returns-in-Ok-clause-performed : goal.returns-in-Ok-clause-performed
returns-in-Ok-clause-performed c = λ me f proc at.
    let s = c.args.parts.now in
    let new = c.write_front.new.self in
    let first = c.write_place-at.result in
    let place = c.write_place-at.ensures.place c.args.pid me f at in
    let short = ap (λ t. is_past_greatest t (first + c.args.count)) (sym c.tree.ensures) ∙ sym c.is_past_greatest.ensures ∙ c.if-is_past_greatest.false in
    let long = ap is_too_long (sym c.tree-in-Ok.ensures) ∙ c.invariant.ensures.short in
    let fit = ap fits (sym c.tree-in-Ok.ensures) ∙ c.invariant.ensures.fits in
    some-written s c.args.pid me c.args.file f c.args.count first c.requires.some place short new (c.in-Ok.ensures.written me f proc at) long fit
    ∙ ap (attempt_of new) (sym c.answer_of.ensures)

pub returns-in-Err-clause-performed : goal.returns-in-Err-clause-performed
returns-in-Err-clause-performed c = λ me f proc at.
    let s = c.args.parts.now in
    let first = c.write_place-at.result in
    let place = c.write_place-at.ensures.place c.args.pid me f at in
    let short = ap (λ t. is_past_greatest t (first + c.args.count)) (sym c.tree.ensures) ∙ sym c.is_past_greatest.ensures ∙ c.if-is_past_greatest.false in
    rw (c.refusal-in-Err.ensures, c.space_errno.ensures)
    (ap collected_attempt (some-crowded s c.args.pid me c.args.file f c.args.count first c.requires.some place short c.in-Err.why (c.in-Err.ensures.refused me f proc at)))
