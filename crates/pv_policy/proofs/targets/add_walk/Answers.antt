use Rattle.std.proofs.Common.{◌≡◌, ◌∙◌, ◌++◌, ◌∷◌, [], None, Some, ap, bytes_eq, slice_set, sym}
use Rattle.std.specs.Prelude.{position}
use Rattle.pv_policy.specs.Groups.{row_at}
use Rattle.pv_model.specs.Machine.{no_permissions}
use Rattle.pv_policy.specs.Usage.{UsedTarget, used_target_with, used_target_words, unused_target, walked, walked_words}
use Rattle.pv_policy.proofs.GroupTables.{one-new, one-there}
use Rattle.pv_policy.proofs.targets.add_walk.Goals as goal

pub returns-in_ok-add-in-Some : goal.returns-in_ok-add-in-Some
returns-in_ok-add-in-Some c =
    let targets = c.args.targets.now.items in
    let w = walked c.args.by.now c.args.pid c.args.walk.now in
    let words = ap (λ x. x.words) (sym c.walk.view_is) ∙ sym c.deref-2.ensures.value in
    let is : row_at walked_words used_target_words unused_target used_target_with targets w ≡ Some c.in-Some.k =
    (λ i. position (λ t. bytes_eq (words i) t.words) (sym c.deref.ensures.value i)) ∙ sym c.index_of.ensures ∙ c.in-Some.is in
    ap (slice_set targets c.in-Some.k) (c.in_ok-add-in-Some.ensures ∙ ap (λ t. used_target_with t w) c.index_mut.ensures.value)
    ∙ sym (one-there walked_words used_target_words unused_target used_target_with w targets c.in-Some.k c.index_mut.result.now is).1

pub returns-in_ok-push-in-None : goal.returns-in_ok-push-in-None
returns-in_ok-push-in-None c =
    let targets = c.args.targets.now.items in
    let w = walked c.args.by.now c.args.pid c.args.walk.now in
    let words = ap (λ x. x.words) (sym c.walk.view_is) ∙ sym c.deref-2.ensures.value in
    let none : row_at walked_words used_target_words unused_target used_target_with targets w ≡ None =
    (λ i. position (λ t. bytes_eq (words i) t.words) (sym c.deref.ensures.value i)) ∙ sym c.index_of.ensures ∙ c.in-None.is in
    let made : c.in_ok-target-in-None.target ≡ unused_target w =
    c.in_ok-target-in-None.ensures
    ∙ ap (λ bs. let it : UsedTarget = record { words = bs; permissions = no_permissions; lines = [] } in it) (c.deref-in-None.ensures.value ∙ ap (λ x. x.words) c.walk.view_is) in
    c.in_ok-push-in-None.ensures.items ∙ ap (λ t. targets ++ t ∷ []) (c.in_ok-add-in-None.ensures ∙ ap (λ t. used_target_with t w) made)
    ∙ sym (one-new walked_words used_target_words unused_target used_target_with w targets none)
