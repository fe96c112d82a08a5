use Rattle.std.proofs.Common.{◌∙◌, ap, ap₂, sym, bytes_eq, List}
use Rattle.std.specs.Prelude.{position}
use Rattle.pv_explore.specs.Rows.{state_row}
use Rattle.pv_explore.proofs.StateRows.{position-row}
use Rattle.pv_model.specs.Machine.{Bytes}
use Rattle.pv_step_cache.specs.OfStateEncoding.Groups.{concatenated_groups}
use Rattle.pv_explore.proofs.states.States.find.Goals as goal

pub returns : goal.returns
returns g c =
    let parts = c.self.inside.parts in
    let groups = c.self.inside.groups in
    let rows = c.self.inside.rows in
    let s = c.requires.0 in
    let is = c.requires.1 in
    c.find.ensures ∙ ap (λ (k : Bytes). position (bytes_eq k) rows) (c.deref.ensures.value ∙ c.in_ok-row.ensures ∙ ap (state_row parts groups) is)
    ∙ position-row parts groups s rows c.self.invariant.rows_are ∙ ap₂ (λ (k : Bytes) (rs : List Bytes). position (bytes_eq k) rs) (sym (ap concatenated_groups is)) c.self.view_is
