use Rattle.std.proofs.Common.{◌∙◌, sym}
use Rattle.pv_questions.proofs.SourceFormats.{is_source-lines, line-decides, line-skipped, no_line-decides}
use Rattle.pv_questions.proofs.input.is_source.Goals as goal

pub returns-then-not-is_nothing : goal.returns-then-not-is_nothing
returns-then-not-is_nothing c =
    c.is_headed.ensures
    ∙ line-decides c.loop-line.rest.now c.in-Some.line.now c.in-Some.following.now _ c.in-Some.ensures.lines c.trim_ascii_start-line.ensures.value
    (sym c.is_nothing.ensures ∙ c.if-not-is_nothing.true)
    ∙ c.loop-line.invariant ∙ sym (is_source-lines c.args.bytes.now)

pub loop-line-preserved : goal.loop-line-preserved
loop-line-preserved c =
    line-skipped c.loop-line.rest.now c.in-Some.line.now c.in-Some.following.now _ c.in-Some.ensures.lines c.trim_ascii_start-line.ensures.value
    (sym c.is_nothing.ensures ∙ c.if-not-is_nothing.false)
    ∙ c.loop-line.invariant

pub returns : goal.returns
returns c = sym (no_line-decides c.loop-line.rest.now c.in_default.ensures.lines) ∙ c.loop-line.invariant ∙ sym (is_source-lines c.args.bytes.now)
