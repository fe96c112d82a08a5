use Rattle.std.proofs.Common.{◌∙◌, sym, ap}
use Rattle.pv_model.specs.Answers.ProcessRecord.{buffer_front}
use Rattle.pv_answers.proofs.TextParts.{front-zero, front-all}
use Rattle.pv_answers.proofs.numbers.front_of.Goals as goal

pub returns-then-last-ne0 : goal.returns-then-last-ne0
returns-then-last-ne0 c =
    let is = c.in-Some.ensures.cases.0 in
    is ∙ sym (front-all c.in-Some.before.now c.in-Some.last.now c.if-last-ne0.true) ∙ ap buffer_front (sym is) ∙ c.loop-last.invariant.same

pub loop-last-preserved : goal.loop-last-preserved
loop-last-preserved c =
    let is = c.in-Some.ensures.cases.0 in
    record { same = sym (front-zero c.in-Some.before.now c.in-Some.last.now c.if-last-ne0.false) ∙ ap buffer_front (sym is) ∙ c.loop-last.invariant.same }
