use Rattle.std.proofs.Common.{◌≡◌, ◌∙◌, ◌++◌, ◌∷◌, [], None, Some, ap, slice_index_or, slice_set, sym}
use Rattle.pv_needs.specs.ProcessImages.{index_of, target_with_walk}
use Rattle.pv_needs.proofs.RecordLists.{walk-new, walk-there}
use Rattle.pv_needs.proofs.process_images.keep_walk.Goals as goal

pub returns-in-Some : goal.returns-in-Some
returns-in-Some c =
    let ts = c.args.targets.now.items in
    let line = c.args.line in
    let is : index_of ts c.args.walk ≡ Some c.in-Some.k = ap (λ xs. index_of xs c.args.walk) (sym c.deref.ensures.value) ∙ sym c.index_of.ensures ∙ c.in-Some.is in
    ap (slice_set ts c.in-Some.k) (c.add.ensures ∙ ap (λ t. target_with_walk t line c.walk.inside.permissions) c.index_mut.ensures.value)
    ∙ ap (λ w. slice_set ts c.in-Some.k (target_with_walk (slice_index_or ts c.in-Some.k c.index_mut.result.now) line w.permissions)) c.walk.view_is
    ∙ sym (walk-there line c.args.walk ts c.in-Some.k c.index_mut.result.now is).1

pub returns-in_ok-push-in-None : goal.returns-in_ok-push-in-None
returns-in_ok-push-in-None c =
    let ts = c.args.targets.now.items in
    let none : index_of ts c.args.walk ≡ None = ap (λ xs. index_of xs c.args.walk) (sym c.deref.ensures.value) ∙ sym c.index_of.ensures ∙ c.in-None.is in
    c.in_ok-push-in-None.ensures.items ∙ ap (λ x. ts ++ x ∷ []) c.in_ok-target-in-None.ensures ∙ sym (walk-new c.args.line c.args.walk ts none)
