use Rattle.std.proofs.Common.{Ok, Err, ap, ◌∙◌}
use Rattle.std.proofs.lemmas.Result.{err_from_is_err_and}
use Rattle.pv_namei.specs.Onward.{following, led}
use Rattle.pv_namei.proofs.WalkSteps.{remaining-led}
use Rattle.pv_namei.proofs.walk.WalkState.step.Goals as goal

pub returns-in_err-directory-clause-onward : goal.returns-in_err-directory-clause-onward
returns-in_err-directory-clause-onward g c =
    let t = c.args.tree.now.tree in
    let w = c.args.self.now in
    let rest = c.take_first.new.self in
    let p = err_from_is_err_and c.from_residual.result c.from_residual.ensures.1 in
    rw (p.1, p.2)
    (remaining-led t w c.args.rest.now c.in-Some.component.now rest c.in-Some.ensures (Err c.in_err-directory.field-0.0)
    (c.in_err-directory.ensures.leads w.last (following t w.last w.links) rest w.mark))

pub returns-in-Entry-clause-onward : goal.returns-in-Entry-clause-onward
returns-in-Entry-clause-onward g c =
    let t = c.args.tree.now.tree in
    let w = c.args.self.now in
    let rest = c.take_first.new.self in
    let onward = following t w.last w.links in
    remaining-led t w c.args.rest.now c.in-Some.component.now rest c.in-Some.ensures (Ok c.in_ok-directory.field-0) (c.in_ok-directory.ensures.leads w.last onward rest w.mark)
    ∙ ap (λ a. led t w.last onward rest w.mark w.at c.in-Some.component.now (Ok a)) c.in-Entry.is
    ∙ c.enter.ensures.onward
