use Rattle.std.proofs.Common.{◌≡◌, ℕ, suc, ◌+◌, ◌≤◌, le_refl, add-one, sym, ap, subst, ◌∙◌, arith}
use Rattle.pv_model.specs.Machine.{node_at}
use Rattle.pv_image_write.specs.Placed.{placed, written_at}
use Rattle.pv_image_write.specs.Encoding.{taken_of, taken_before}
use Rattle.pv_image_write.proofs.PlacedTrees.{node-placed, placed-needs, placed-short, placed-well_formed, taken-few, taken_before-few}
use Rattle.pv_image_write.proofs.image.needed_blocks.Goals as goal

pub loop-slot-init : goal.loop-slot-init
unfolding placed
loop-slot-init c =
    let h = c.args.tree.now in
    let s = c.sizes-slot-end.ensures.present in
    let none = ap (taken_of c.args.version) (placed-well_formed h s c.args.version 0 h.tree.inodes (le_refl h.tree.inodes) c.requires).no_zero in
    omega (arith, none)

pub overflow_add-needed : goal.overflow_add-needed
unfolding placed
overflow_add-needed c =
    let h = c.args.tree.now in
    let s = c.sizes-slot-end.ensures.present in
    let v = c.args.version in
    let n = c.loop-slot.slot in
    let u = placed h.tree v 0 h.tree.inodes in
    let few : (m : ℕ) → taken_of v (node_at u m) ≤ 1295 = λ m.
    subst (λ o. taken_of v o ≤ 1295) (sym (node-placed h s v 0 h.tree.inodes (le_refl h.tree.inodes) c.requires m))
    (taken-few v (written_at h.tree m) (placed-short h s v 0 h.tree.inodes (le_refl h.tree.inodes) c.requires m)) in
    let here = taken-few v (written_at h.tree (n + 1)) (placed-short h s v 0 h.tree.inodes (le_refl h.tree.inodes) c.requires (n + 1)) in
    omega (arith, taken_before-few u few (suc n), c.loop-slot.invariant, c.taken_blocks-needed.ensures, here)

pub loop-slot-preserved : goal.loop-slot-preserved
unfolding placed
loop-slot-preserved c =
    let h = c.args.tree.now in
    let s = c.sizes-slot-end.ensures.present in
    let v = c.args.version in
    let n = c.loop-slot.slot in
    let u = placed h.tree v 0 h.tree.inodes in
    let so_far : c.loop-slot.needed ≡ taken_before u (n + 1) = c.loop-slot.invariant ∙ sym (ap (taken_before u) (add-one n)) in
    let here : c.taken_blocks-needed.result ≡ taken_of v (node_at u (n + 1)) =
    c.taken_blocks-needed.ensures ∙ ap (taken_of v) (sym (node-placed h s v 0 h.tree.inodes (le_refl h.tree.inodes) c.requires (n + 1))) in
    λ i. so_far i + here i

pub returns : goal.returns
returns c =
    let h = c.args.tree.now in
    let s = c.sizes-slot-end.ensures.present in
    let v = c.args.version in
    let all : c.loop-slot.slot ≡ h.tree.inodes = omega (arith, c.sizes-slot-end.ensures.inodes) in
    c.loop-slot.invariant ∙ ap (λ k. taken_before (placed h.tree v 0 h.tree.inodes) (suc k)) all
    ∙ placed-needs h s v 0 h.tree.inodes (le_refl h.tree.inodes) c.requires
