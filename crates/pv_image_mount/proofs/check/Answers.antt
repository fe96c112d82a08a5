use Rattle.std.proofs.Common.{inr, ap, sym, subst, refl, ◌∙◌}
use Rattle.std.proofs.lemmas.Result.{err_from_is_err_and}
use Rattle.pv_laws_trees.proofs.FirstErrors.{accepted, answered}
use Rattle.pv_model.specs.declared.fault.ImageFault.TheVariants.{Inode, Block, Dir, Tree as NoTree}
use Rattle.pv_model.specs.Machine.{mounted, tree_in}
use Rattle.pv_model.specs.Mount.{HasSizes, bad_inode, bad_block, bad_content, bad_place}
use Rattle.pv_image_mount.proofs.HeaderSizes.{root_within}
use Rattle.pv_image_mount.proofs.check.Goals as goal

pub returns-in_err-image-clause-refused : goal.returns-in_err-image-clause-refused
returns-in_err-image-clause-refused c =
    let p = err_from_is_err_and c.from_residual.result c.from_residual.ensures.1 in
    rw (p.1, p.2) (inr (answered c.args.bytes.now c.in_err-image.field-0.0 c.in_err-image.ensures.refused))

pub returns-in-Some-clause-refused : goal.returns-in-Some-clause-refused
returns-in-Some-clause-refused c =
    let image = c.in_ok-image.image in
    let same = c.in_ok-image.ensures.bytes in
    let sizes = subst (λ b. HasSizes b image.version) (sym same) c.in_ok-image.ensures.sizes in
    inr (ap mounted (sym same) ∙ answered image.bytes.now (Inode c.in-Some.n) (bad_inode image.version c.in-Some.n sizes c.in-Some.ensures.least))

pub returns-in-Some-least_bad_block-clause-refused : goal.returns-in-Some-least_bad_block-clause-refused
returns-in-Some-least_bad_block-clause-refused c =
    let image = c.in_ok-image.image in
    let same = c.in_ok-image.ensures.bytes in
    let sizes = subst (λ b. HasSizes b image.version) (sym same) c.in_ok-image.ensures.sizes in
    inr (ap mounted (sym same) ∙ answered image.bytes.now (Block c.in-Some-least_bad_block.n) (bad_block image.version c.in-Some-least_bad_block.n sizes c.in_default.ensures.none c.in-Some-least_bad_block.ensures.least))

pub returns-in-Some-2-clause-refused : goal.returns-in-Some-2-clause-refused
returns-in-Some-2-clause-refused c =
    let image = c.in_ok-image.image in
    let same = c.in_ok-image.ensures.bytes in
    let sizes = subst (λ b. HasSizes b image.version) (sym same) c.in_ok-image.ensures.sizes in
    let least = rw c.in-Some-2.is at c.in_ok-n.ensures.least in
    inr (ap mounted (sym same) ∙ answered image.bytes.now (Dir c.in-Some-2.n) (bad_content image.version c.in-Some-2.n sizes c.in_default.ensures.none c.in_default-least_bad_block.ensures.none least))

pub least_bad_place-requires-clause-root : goal.least_bad_place-requires-clause-root
least_bad_place-requires-clause-root c =
    let image = c.in_ok-image.image in
    root_within image.version image.bytes.now (subst (λ b. HasSizes b image.version) (sym c.in_ok-image.ensures.bytes) c.in_ok-image.ensures.sizes)

pub returns-in-Some-3-clause-refused : goal.returns-in-Some-3-clause-refused
returns-in-Some-3-clause-refused c =
    let image = c.in_ok-image.image in
    let same = c.in_ok-image.ensures.bytes in
    let sizes = subst (λ b. HasSizes b image.version) (sym same) c.in_ok-image.ensures.sizes in
    let contents = rw c.in_default-2.is at c.in_ok-n.ensures.none in
    let least = rw c.in-Some-3.is at c.in_ok-n-2.ensures.least in
    inr (ap mounted (sym same) ∙ answered image.bytes.now (NoTree c.in-Some-3.n) (bad_place image.version c.in-Some-3.n sizes c.in_default.ensures.none c.in_default-least_bad_block.ensures.none contents least))

pub returns-clause-accepted : goal.returns-clause-accepted
returns-clause-accepted c =
    let image = c.in_ok-image.image in
    let same = c.in_ok-image.ensures.bytes in
    let sizes = subst (λ b. HasSizes b image.version) (sym same) c.in_ok-image.ensures.sizes in
    let contents = rw c.in_default-2.is at c.in_ok-n.ensures.none in
    let places = rw c.in_default-3.is at c.in_ok-n-2.ensures.none in
    (tree_in image.version image.bytes.now, ap mounted (sym same) ∙ accepted image.bytes.now image.version sizes c.in_default.ensures.none c.in_default-least_bad_block.ensures.none contents places, refl)
