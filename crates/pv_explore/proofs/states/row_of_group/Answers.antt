use Rattle.std.proofs.Common.{◌∙◌, ap, ℕ}
use Rattle.std.specs.Global.{Vec}
use Rattle.pv_explore.specs.Rows.{number_in}
use Rattle.pv_explore.proofs.StateRows.{row-next}
use Rattle.pv_explore.proofs.states.row_of_group.Goals as goal

pub loop-part-preserved : goal.loop-part-preserved
loop-part-preserved c =
    let table = c.args.parts.now in
    row-next (λ (p : Vec ℕ). p.items) c.args.group.now c.loop-part.part-index c.part-item.result (number_in table) c.find_or_len.result _ _ c.loop-part-test.true
    (c.find_or_len.ensures ∙ ap (number_in table) (c.deref.ensures.value ∙ ap (λ (p : Vec ℕ). p.items) c.part-item.is)) c.loop-part.invariant c.in_ok-push_number.ensures
