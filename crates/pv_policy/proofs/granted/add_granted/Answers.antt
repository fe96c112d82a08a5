use Rattle.std.proofs.Common.{◌≡◌, ◌∙◌, ◌++◌, ◌∷◌, [], None, Some, ap, bytes_eq, slice_set, sym}
use Rattle.std.specs.Prelude.{position}
use Rattle.pv_model.specs.Machine.{join_permissions}
use Rattle.pv_policy.specs.Groups.{row_at}
use Rattle.pv_policy.specs.Usage.{granted_more, nothing_at, granted_words}
use Rattle.pv_policy.proofs.GroupTables.{one-new, one-there}
use Rattle.pv_policy.proofs.granted.add_granted.Goals as goal

pub returns-in-Some : goal.returns-in-Some
returns-in-Some c =
    let rows = c.args.rows.now.items in
    let g = c.args.granted.now in
    let words = ap (λ x. x.0) (sym c.granted.view_is) ∙ sym c.deref-2.ensures.value in
    let is : row_at granted_words granted_words nothing_at granted_more rows g ≡ Some c.in-Some.k =
    (λ i. position (λ row. bytes_eq (words i) row.0) (sym c.deref.ensures.value i)) ∙ sym c.index_of.ensures ∙ c.in-Some.is in
    ap (slice_set rows c.in-Some.k) (c.join.ensures ∙ (λ i. ((c.index_mut.ensures.value i).0, join_permissions (c.index_mut.ensures.value i).1 (c.granted.view_is i).1)))
    ∙ sym (one-there granted_words granted_words nothing_at granted_more g rows c.in-Some.k c.index_mut.result.now is).1

pub returns-in_ok-push-in-None : goal.returns-in_ok-push-in-None
returns-in_ok-push-in-None c =
    let rows = c.args.rows.now.items in
    let g = c.args.granted.now in
    let words = ap (λ x. x.0) (sym c.granted.view_is) ∙ sym c.deref-2.ensures.value in
    let none : row_at granted_words granted_words nothing_at granted_more rows g ≡ None =
    (λ i. position (λ row. bytes_eq (words i) row.0) (sym c.deref.ensures.value i)) ∙ sym c.index_of.ensures ∙ c.in-None.is in
    c.in_ok-push-in-None.ensures.items ∙ ap (λ x. rows ++ x ∷ []) c.in_ok-copy-in-None.ensures
    ∙ sym (one-new granted_words granted_words nothing_at granted_more g rows none)
