use Rattle.std.proofs.Common.{ap, sym, ◌∙◌, Some, None}
use Rattle.pv_model.specs.Machine.{call_of, walk_of, target_of}
use Rattle.pv_step_lines.specs.Before.{path_unveiled, target_at}
use Rattle.pv_step_lines.proofs.UnveilTargets.{target-ends}
use Rattle.pv_step_lines.proofs.before.unveiled.Goals as goal

pub returns-in-Some-end_of : goal.returns-in-Some-end_of
returns-in-Some-end_of c p at =
    ap Some (c.target_of.ensures ∙ ap (λ t. target_of t c.in-Some-end_of.place) c.tree.ensures)
    ∙ sym (target-ends c.args.parts.now c.args.pid p (path_unveiled (call_of c.args.call)) c.in-Some.path.now (walk_of c.unveil.result) (Some c.in-Some-end_of.place)
    (sym c.in-Some.ensures) c.unveil.ensures (c.in-Some-end_of.ensures p at))

pub returns-in-None : goal.returns-in-None
returns-in-None c p at =
    sym (target-ends c.args.parts.now c.args.pid p (path_unveiled (call_of c.args.call)) c.in-Some.path.now (walk_of c.unveil.result) None
    (sym c.in-Some.ensures) c.unveil.ensures (sym c.in-None.is ∙ c.end_of.ensures p at))

pub returns-in_default : goal.returns-in_default
returns-in_default c p at = ap (target_at c.args.parts.now p) c.in_default.ensures
