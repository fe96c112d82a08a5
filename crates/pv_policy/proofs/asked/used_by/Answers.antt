use Rattle.std.proofs.Common.{◌≡◌, ◌∙◌, None, Some, ap, sym}
use Rattle.pv_model.specs.Machine.{Judged, entries_of_table, covers, governing_entry}
use Rattle.pv_policy.specs.Asked.{used_by_walk}
use Rattle.pv_policy.proofs.UsedPermissions.{used-denied, used-none, used-some}
use Rattle.pv_policy.proofs.asked.used_by.Goals as goal

pub returns-in_ok-at_entry-in-Some : goal.returns-in_ok-at_entry-in-Some
returns-in_ok-at_entry-in-Some c =
    let t = c.args.tree.now.tree in
    let table = c.args.table.now.table in
    let w : Judged = record { target = c.walk.inside.target; words = c.walk.inside.words.items; permissions = c.walk.inside.permissions } in
    let governs = ap (governing_entry t (entries_of_table table)) (sym c.place_of-place.ensures) ∙ sym c.governing.ensures.value ∙ c.in-Some.is in
    let covered = ap (λ p. covers p w.permissions) (sym c.permissions.ensures) ∙ sym c.if-not-covers.ensures in
    used-some t w table c.in-Some.k c.in_ok-at_entry-in-Some.field-0 governs c.in-Some.ensures.in_table covered c.in_ok-at_entry-in-Some.ensures
    ∙ ap (used_by_walk t table) c.walk.view_is

pub returns-then-not-covers : goal.returns-then-not-covers
returns-then-not-covers c =
    let t = c.args.tree.now.tree in
    let table = c.args.table.now.table in
    let w : Judged = record { target = c.walk.inside.target; words = c.walk.inside.words.items; permissions = c.walk.inside.permissions } in
    let governs = ap (governing_entry t (entries_of_table table)) (sym c.place_of-place.ensures) ∙ sym c.governing.ensures.value ∙ c.in-Some.is in
    let lacks = ap (λ p. covers p w.permissions) (sym c.permissions.ensures) ∙ sym c.if-not-covers.ensures in
    used-denied t w table c.in-Some.k governs c.in-Some.ensures.in_table lacks ∙ ap (used_by_walk t table) c.walk.view_is

pub returns-in-None : goal.returns-in-None
returns-in-None c =
    let t = c.args.tree.now.tree in
    let table = c.args.table.now.table in
    let w : Judged = record { target = c.walk.inside.target; words = c.walk.inside.words.items; permissions = c.walk.inside.permissions } in
    let governs = ap (governing_entry t (entries_of_table table)) (sym c.place_of-place.ensures) ∙ sym c.governing.ensures.value ∙ c.in-None.is in
    used-none t w table governs ∙ ap (used_by_walk t table) c.walk.view_is
