use Rattle.std.proofs.Common.{[], ◌∷◌, subst}
use Rattle.pv_explore.specs.VisitedStates.{AreCellsIn}
use Rattle.pv_explore.proofs.VisitedStates.{cells-next}
use Rattle.pv_explore.proofs.StateRows.{grew-then}
use Rattle.pv_step_cache.specs.OfStateEncoding.declared.encoded.EncodedGroup.{EncodedGroup}
use Rattle.pv_step_cache.specs.OfStateEncoding.Encoded.{encoded_of}
use Rattle.pv_explore.proofs.states.learn_cells.Goals as goal

pub loop-group-preserved : goal.loop-group-preserved
loop-group-preserved c =
    let parts = c.learn_cell.new.parts in
    let groups = c.learn_cell.new.groups in
    let parts_grew = c.learn_cell.ensures.parts_grew in
    let groups_grew = c.learn_cell.ensures.groups_grew in
    let cell = c.in_ok-cell.cell in
    let one = subst (λ (g : EncodedGroup). AreCellsIn c.learn_cell.new.parts c.learn_cell.new.groups (encoded_of g ∷ []) (c.in_ok-cell.cell ∷ [])) c.group-item.is c.in_ok-cell.ensures.cell in
    record {
      parts_grew = grew-then c.args.parts.now c.loop-group.parts parts c.loop-group.invariant.parts_grew parts_grew;
      groups_grew = grew-then c.args.groups.now c.loop-group.groups groups c.loop-group.invariant.groups_grew groups_grew;
      cells =
          cells-next c.loop-group.parts c.loop-group.groups parts groups parts_grew groups_grew encoded_of c.args.encoded.now c.loop-group.group-index c.group-item.result cell c.loop-group.cells.items _ c.loop-group-test.true
          c.loop-group.invariant.cells one c.in_ok-push.ensures.items;
    }
