use Rattle.std.proofs.Common.{◌∙◌, ap, sym, subst, ℕ, List, [], ◌∷◌}
use Rattle.std.specs.Global.{Vec}
use Rattle.pv_explore.specs.VisitedStates.{AreCellsIn, group_number}
use Rattle.pv_explore.specs.Rows.{IsGroupVisited, parts_in}
use Rattle.pv_explore.proofs.VisitedStates.{keeps-more, live-cells, plain-cells}
use Rattle.pv_step_cache.specs.declared.cells.Cell.{Cell}
use Rattle.pv_step_cache.specs.OfStateEncoding.declared.encoded.EncodedGroup.{EncodedGroup}
use Rattle.pv_step_cache.specs.OfStateEncoding.Groups.{parts_of}
use Rattle.pv_step_cache.specs.OfStateEncoding.Encoded.{encoded_of}
use Rattle.pv_explore.proofs.states.learn_cell.Goals as goal

pub returns-in_ok-number-in-Plain-clause-cell : goal.returns-in_ok-number-in-Plain-clause-cell
returns-in_ok-number-in-Plain-clause-cell c =
    let parts = c.learn_group.new.parts in
    let groups = c.learn_group.new.groups in
    let n = c.in_ok-number-in-Plain.number in
    let is = c.in_ok-number-in-Plain.ensures.number ∙ ap (λ (g : List (Vec ℕ)). group_number c.learn_group.new.parts c.learn_group.new.groups (parts_in g)) c.deref.ensures.value in
    let visited = subst (λ (g : List (Vec ℕ)). IsGroupVisited c.learn_group.new.parts c.learn_group.new.groups (parts_in g)) c.deref.ensures.value c.in_ok-number-in-Plain.ensures.visited in
    let cell : Cell = record { number = n; owner = 0; outside = n } in
    subst (λ (g : EncodedGroup). AreCellsIn c.learn_group.new.parts c.learn_group.new.groups (encoded_of g ∷ []) (cell ∷ [])) (sym c.in-Plain.is) (plain-cells parts groups n (parts_of c.in-Plain.all) is visited)

pub returns-in_ok-outside-in-Live-clause-cell : goal.returns-in_ok-outside-in-Live-clause-cell
returns-in_ok-outside-in-Live-clause-cell c =
    let parts = c.learn_group-in-Live.new.parts in
    let groups = c.learn_group-in-Live.new.groups in
    let parts_now = c.learn_group-in-Live-2.new.parts in
    let groups_now = c.learn_group-in-Live-2.new.groups in
    let out_is = c.in_ok-outside-in-Live.ensures in
    let more = keeps-more parts groups parts_now groups_now c.learn_group-in-Live-2.ensures.parts_grew c.learn_group-in-Live-2.ensures.groups_grew in
    let n = c.in_ok-number-in-Live.number in
    let m = c.in_ok-outside-in-Live.outside in
    let g = parts_of c.in-Live.all in
    let first = subst (λ (g : List (Vec ℕ)). IsGroupVisited c.learn_group-in-Live.new.parts c.learn_group-in-Live.new.groups (parts_in g)) c.deref-in-Live.ensures.value c.in_ok-number-in-Live.ensures.visited in
    let is = c.in_ok-number-in-Live.ensures.number ∙ ap (λ (g : List (Vec ℕ)). group_number c.learn_group-in-Live.new.parts c.learn_group-in-Live.new.groups (parts_in g)) c.deref-in-Live.ensures.value ∙ sym (more.same g first) in
    let visited_out = subst (λ (g : List (Vec ℕ)). IsGroupVisited c.learn_group-in-Live-2.new.parts c.learn_group-in-Live-2.new.groups (parts_in g)) c.deref-in-Live-2.ensures.value out_is.visited in
    let out = out_is.number ∙ ap (λ (g : List (Vec ℕ)). group_number c.learn_group-in-Live-2.new.parts c.learn_group-in-Live-2.new.groups (parts_in g)) c.deref-in-Live-2.ensures.value in
    let cell : Cell = record { number = n; owner = c.in-Live.owner; outside = m } in
    subst (λ (g : EncodedGroup). AreCellsIn c.learn_group-in-Live-2.new.parts c.learn_group-in-Live-2.new.groups (encoded_of g ∷ []) (cell ∷ [])) (sym c.in-Live.is)
    (live-cells parts_now groups_now n m g c.in-Live.owner (parts_of c.in-Live.outside) is out (more.cached g first) visited_out)
