use Rattle.std.proofs.Common.{◌∙◌, ap, ap₂, sym, subst, List, [], ◌∷◌, ◌++◌, map}
use Rattle.pv_explore.specs.VisitedStates.{AreCellsIn, AreCellsOf}
use Rattle.pv_explore.proofs.CellsAfterSteps.{cells-together}
use Rattle.pv_explore.proofs.StateRows.{grew-then}
use Rattle.pv_explore.proofs.VisitedStates.{cells-in_grew}
use Rattle.pv_step_cache.specs.OfStateEncoding.Encoded.{OwnedGroup, plain, counts_group, encoded_all, encoded_record}
use Rattle.pv_step_cache.specs.declared.cells.Cell.{Cell}
use Rattle.pv_explore.proofs.after.cells_beside.Goals as goal

pub returns-in_err-joined-clause-parts_grew : goal.returns-in_err-joined-clause-parts_grew
returns-in_err-joined-clause-parts_grew c =
    grew-then c.args.parts.now c.process_cells.new.parts c.learn_cells.new.parts c.process_cells.ensures.parts_grew
    (grew-then c.process_cells.new.parts c.learn_cell.new.parts c.learn_cells.new.parts c.learn_cell.ensures.parts_grew c.learn_cells.ensures.parts_grew)

pub returns-in_err-joined-clause-groups_grew : goal.returns-in_err-joined-clause-groups_grew
returns-in_err-joined-clause-groups_grew c =
    grew-then c.args.groups.now c.process_cells.new.groups c.learn_cells.new.groups c.process_cells.ensures.groups_grew
    (grew-then c.process_cells.new.groups c.learn_cell.new.groups c.learn_cells.new.groups c.learn_cell.ensures.groups_grew c.learn_cells.ensures.groups_grew)

pub returns-clause-parts_grew : goal.returns-clause-parts_grew
returns-clause-parts_grew c =
    grew-then c.args.parts.now c.process_cells.new.parts c.learn_cells.new.parts c.process_cells.ensures.parts_grew
    (grew-then c.process_cells.new.parts c.learn_cell.new.parts c.learn_cells.new.parts c.learn_cell.ensures.parts_grew c.learn_cells.ensures.parts_grew)

pub returns-clause-groups_grew : goal.returns-clause-groups_grew
returns-clause-groups_grew c =
    grew-then c.args.groups.now c.process_cells.new.groups c.learn_cells.new.groups c.process_cells.ensures.groups_grew
    (grew-then c.process_cells.new.groups c.learn_cell.new.groups c.learn_cells.new.groups c.learn_cell.ensures.groups_grew c.learn_cells.ensures.groups_grew)

pub returns-clause-cells : goal.returns-clause-cells
returns-clause-cells c =
    let s = c.args.position.now in
    let parts = c.learn_cells.new.parts in
    let groups = c.learn_cells.new.groups in
    let counts = c.in_ok-counts-2.counts in
    let processes = c.in_ok-processes.processes.items in
    let trees = c.in_ok-trees-2.trees.items in
    let counts_there =
    subst (λ (e : OwnedGroup). AreCellsIn c.learn_cell.new.parts c.learn_cell.new.groups (e ∷ []) (c.in_ok-counts-2.counts ∷ [])) c.in_ok-counts.ensures c.in_ok-counts-2.ensures.cell in
    let first =
    cells-in_grew c.learn_cell.new.parts c.learn_cell.new.groups parts groups c.learn_cells.ensures.parts_grew c.learn_cells.ensures.groups_grew (plain (counts_group c.args.position.now) ∷ []) (counts ∷ []) counts_there in
    let second =
    cells-in_grew c.process_cells.new.parts c.process_cells.new.groups parts groups
    (grew-then c.process_cells.new.parts c.learn_cell.new.parts c.learn_cells.new.parts c.learn_cell.ensures.parts_grew c.learn_cells.ensures.parts_grew)
    (grew-then c.process_cells.new.groups c.learn_cell.new.groups c.learn_cells.new.groups c.learn_cell.ensures.groups_grew c.learn_cells.ensures.groups_grew)
    (map encoded_record c.args.position.now.processes) processes c.in_ok-processes.ensures.cells in
    let third =
    subst (λ (es : List OwnedGroup). AreCellsIn c.learn_cells.new.parts c.learn_cells.new.groups es c.in_ok-trees-2.trees.items) (ap encoded_all c.deref.ensures.value ∙ c.in_ok-trees.ensures) c.in_ok-trees-2.ensures.cells in
    let is = c.in_ok-joined.ensures ∙ ap₂ (λ (a b : List Cell). counts ∷ (a ++ b)) c.deref-2.ensures.value c.deref-3.ensures.value in
    subst (λ (cs : List Cell). AreCellsOf c.learn_cells.new.parts c.learn_cells.new.groups c.args.position.now cs) (sym is)
    (cells-together parts groups s counts processes trees first second third)
