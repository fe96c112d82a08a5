use Rattle.std.proofs.Common.{◌∙◌, ◌||◌, sym, ap, ap₂}
use Rattle.pv_model.specs.Machine.{ends_in_dot, components}
use Rattle.pv_model.specs.Walk.{is_dot_dot}
use Rattle.pv_namei.proofs.DotComponents.{last_or, last_first, last_next}
use Rattle.pv_namei.proofs.component.ends_in_dot.Goals as goal

pub loop-component-init : goal.loop-component-init
loop-component-init c = last_first (components c.args.path.now)

pub loop-component-preserved-then-is_dot : goal.loop-component-preserved-then-is_dot
loop-component-preserved-then-is_dot c =
    last_next (ends_in_dot c.args.path.now) c.loop-component.dots c.is_dot.result (components c.loop-component.rest.now) c.in-Some.component.now (components c.in-Some.following.now)
    c.loop-component.invariant c.in-Some.ensures.parts (ap (λ b. b || is_dot_dot c.in-Some.component.now) (sym c.if-is_dot.ensures) ∙ sym c.if-is_dot.true)

pub loop-component-preserved : goal.loop-component-preserved
loop-component-preserved c =
    last_next (ends_in_dot c.args.path.now) c.loop-component.dots c.is_dot_dot-dots.result (components c.loop-component.rest.now) c.in-Some.component.now (components c.in-Some.following.now)
    c.loop-component.invariant c.in-Some.ensures.parts (ap₂ (λ a b. a || b) (sym c.if-is_dot.ensures) (sym c.is_dot_dot-dots.ensures))

pub returns : goal.returns
returns c = sym (c.loop-component.invariant ∙ ap (last_or c.loop-component.dots) c.in_default.ensures.parts)
