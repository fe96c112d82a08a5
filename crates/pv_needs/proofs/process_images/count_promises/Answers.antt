use Rattle.std.proofs.Common.{◌≡◌, ◌∙◌, ◌<◌, arith, cond, get_or, length, slice_set, ap, sym}
use Rattle.pv_model.specs.declared.promise.Promise.TheVariants.{Stdio}
use Rattle.pv_needs.specs.declared.process_images.Times.{Times}
use Rattle.pv_needs.specs.ProcessImages.{once_more}
use Rattle.pv_needs.proofs.RecordLists.{promise-next}
use Rattle.pv_needs.proofs.process_images.count_promises.Goals as goal
use Rattle.pv_needs.proofs.process_images.count_promises.Goals.{then-is_needed, else-is_needed}

pub loop-k-preserved : goal.loop-k-preserved
loop-k-preserved c =
    let k = c.loop-k.k in
    let line = c.args.line in
    let now = c.loop-k.promises in
    let none : Times = record { count = 0; last = 0 } in
    let inside : k < length c.args.promises.now = omega arith in
    promise-next c.args.all.now c.args.promises.now c.args.needed.now line k Stdio none now c.if-is_needed.promises c.is_needed.result
    c.loop-k.invariant c.loop-k-test.true inside c.is_needed.ensures
    (elim c.if-is_needed.branch as (λ _. c.if-is_needed.promises ≡ cond c.is_needed.result (slice_set now k (once_more (get_or now k none) line)) now) [
      | then-is_needed w ↦
          w.promises-is ∙ ap (slice_set now k) w.add.ensures
          ∙ sym (ap (λ b. cond b (slice_set now k (once_more (get_or now k none) line)) now) w.if-is_needed.true)
      | else-is_needed w ↦ w.promises-is ∙ sym (ap (λ b. cond b (slice_set now k (once_more (get_or now k none) line)) now) w.if-is_needed.false)
    ])
