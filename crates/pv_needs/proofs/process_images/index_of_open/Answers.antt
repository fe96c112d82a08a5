use Rattle.std.proofs.Common.{◌∙◌, ◌-◌, sym, ap, length}
use Rattle.pv_needs.specs.ProcessImages.{index_unless}
use Rattle.pv_needs.proofs.RecordLists.{open-last}
use Rattle.pv_needs.proofs.process_images.index_of_open.Goals as goal

pub returns-in-Some : goal.returns-in-Some
returns-in-Some c =
    let process_images = c.args.process_images.now in
    sym (open-last process_images c.in-Some.process_image.now (sym c.in-Some.ensures.value) ∙ ap (λ b. index_unless b (length process_images - 1)) (sym c.if-not-has_ended.ensures))

pub returns-in_default : goal.returns-in_default
returns-in_default c =
    let process_images = c.args.process_images.now in
    sym (open-last process_images c.in-Some.process_image.now (sym c.in-Some.ensures.value) ∙ ap (λ b. index_unless b (length process_images - 1)) (sym c.if-not-has_ended.ensures))
