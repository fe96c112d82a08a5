use Rattle.std.proofs.Common.{◌≡◌, ◌+◌, ◌++◌, ◌∷◌, [], get_or, false, true, take, ap, sym, subst, ◌∙◌}
use Rattle.std.proofs.lemmas.List.{take_all}
use Rattle.pv_blocks.specs.BlockSet.{is_member}
use Rattle.pv_image_mount.specs.Places.{is_among, joined_numbers, with_number_last, HasEach}
use Rattle.pv_image_mount.proofs.NumberUnions.{each_more, having_last, joined_more, lacking_last}
use Rattle.pv_image_mount.proofs.reach.add_unseen.Goals as goal
use Rattle.pv_image_mount.proofs.reach.add_unseen.Goals.{then-not-contains+in_ok-push, else-not-contains}

pub loop-k-preserved : goal.loop-k-preserved
loop-k-preserved c =
    let first = c.args.order.now.items in
    let numbers = c.args.numbers.now in
    let i = c.loop-k.k-index in
    let k = get_or numbers i 0 in
    let order = c.loop-k.order.items in
    let each = c.loop-k.invariant.each in
    let step : with_number_last order k ≡ joined_numbers first (take (i + 1) numbers) =
    ap (λ l. with_number_last l k) c.loop-k.invariant.order ∙ sym (joined_more first numbers i c.loop-k-test.true) in
    elim c.if-not-contains.branch [
      | then-not-contains+in_ok-push w ↦
          let lacks : is_member c.loop-k.seen k ≡ false = sym c.contains.ensures ∙ w.if-not-contains.true in
          let absent : is_among order k ≡ false = sym (each.members k) ∙ lacks in
          let grown : w.push.new.self.items ≡ order ++ k ∷ [] = w.in_ok-push.ensures.items in
          let has : HasEach w.insert.new.self w.push.new.self.items = subst (λ l. HasEach w.insert.new.self l) (sym grown) (each_more c.loop-k.seen w.insert.new.self order k each lacks w.insert.ensures.after) in
          record {
            order = rw w.order-is (grown ∙ sym (lacking_last order k absent) ∙ step);
            each = rw (w.seen-is, w.order-is) has;
          }
      | else-not-contains w ↦
          let present : is_among order k ≡ true = sym (each.members k) ∙ sym c.contains.ensures ∙ w.if-not-contains.false in
          record {
            order = rw w.order-is (sym (having_last order k present) ∙ step);
            each = rw (w.seen-is, w.order-is) each;
          }
    ]

pub returns-clause-order : goal.returns-clause-order
returns-clause-order c = c.loop-k.invariant.order ∙ ap (joined_numbers c.args.order.now.items) (take_all c.loop-k.k-index c.args.numbers.now c.loop-k-test.false)
