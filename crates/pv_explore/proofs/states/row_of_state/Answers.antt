use Rattle.std.proofs.Common.{◌∙◌, ap, List}
use Rattle.pv_explore.specs.Rows.{group_row, number_in, parts_in}
use Rattle.pv_explore.proofs.StateRows.{row-next}
use Rattle.pv_model.specs.Machine.{Bytes}
use Rattle.pv_step_cache.specs.OfStateEncoding.Groups.{parts_of}
use Rattle.pv_explore.proofs.states.row_of_state.Goals as goal

pub loop-group-preserved : goal.loop-group-preserved
loop-group-preserved c =
    let parts = c.args.parts.now in
    let groups = c.args.groups.now in
    row-next parts_of c.args.encoded.now c.loop-group.group-index c.group-item.result (λ (g : List Bytes). number_in groups (group_row parts g)) c.in_ok-number.number _ _ c.loop-group-test.true
    (c.in_ok-number.ensures ∙ ap (λ (g : List Bytes). number_in groups (group_row parts g)) (ap parts_in c.deref.ensures.value ∙ ap parts_of c.group-item.is)) c.loop-group.invariant c.in_ok-push_number.ensures
