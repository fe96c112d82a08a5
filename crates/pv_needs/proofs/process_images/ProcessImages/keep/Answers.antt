use Rattle.std.proofs.Common.{arith, ◌≡◌, ◌∙◌, sym, ap, slice_set, None, Some, ◌++◌, ◌∷◌, []}
use Rattle.std.proofs.lemmas.Result.{on_ok_weaker}
use Rattle.pv_needs.specs.ProcessImages.{call_more, nothing_asked, current_image_index, process_more}
use Rattle.pv_needs.proofs.RecordLists.{process-new, process-open}
use Rattle.pv_needs.proofs.process_images.ProcessImages.keep.Goals as goal

pub index_mut-requires : goal.index_mut-requires
index_mut-requires c =
    let within = (process-open c.args.asked c.deref.result.now c.in-Some.k nothing_asked (sym c.in-Some.ensures)).0 in
    omega (arith, within, c.deref.ensures.len)

pub returns-in-Some : goal.returns-in-Some
returns-in-Some c =
    let s = c.self.inside.process_images.items in
    let r = c.index_mut.result.now in
    let is : current_image_index s ≡ Some c.in-Some.k = ap current_image_index (sym c.deref.ensures.value) ∙ sym c.index_of_open.ensures ∙ c.in-Some.is in
    let more = process-open c.args.asked s c.in-Some.k r is in
    on_ok_weaker c.keep.result
    (λ e. ap (slice_set s c.in-Some.k) (e ∙ ap (λ x. call_more x c.args.asked) c.index_mut.ensures.value) ∙ sym more.1 ∙ ap (λ v. process_more v c.args.asked) c.self.view_is)
    c.keep.ensures

pub returns : goal.returns
returns c =
    let s = c.self.inside.process_images.items in
    let none : current_image_index s ≡ None = ap current_image_index (sym c.deref.ensures.value) ∙ sym c.index_of_open.ensures ∙ c.in_default.is in
    c.in_ok-push.ensures.items ∙ ap (λ xs. xs ++ c.keep-2.new.self ∷ []) c.make_room.ensures ∙ ap (λ x. s ++ x ∷ []) (c.in_ok-keep.ensures ∙ ap (λ x. call_more x c.args.asked) c.new-process_image.ensures)
    ∙ sym (process-new c.args.asked s none) ∙ ap (λ v. process_more v c.args.asked) c.self.view_is
