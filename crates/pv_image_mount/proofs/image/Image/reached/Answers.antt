use Rattle.std.proofs.Common.{◌≡◌, ◌+◌, ◌<◌, ◌++◌, ◌∷◌, [], List, ℕ, length, get_or, ap, sym, subst, ◌∙◌, arith}
use Rattle.std.proofs.lemmas.List.{get_or_read}
use Rattle.std.specs.Prelude.{◌||◌, ◌==◌}
use Rattle.pv_image_mount.specs.Numbers.{IsInodeNumber}
use Rattle.pv_image_mount.specs.Places.{joined_numbers, targets_of, HasEach}
use Rattle.pv_image_mount.proofs.NumberUnions.{one_each}
use Rattle.pv_image_mount.proofs.ReachableInodes.{few_visited, visit_begins, visit_more, visited_all, IsVisited}
use Rattle.pv_image_mount.proofs.image.Image.reached.Goals as goal

pub loop-at-init : goal.loop-at-init
loop-at-init c =
    visit_begins c.args.self.now.version c.args.self.now.bytes.now c.insert.new.self c.push.new.self.items c.requires.root
    (c.in_ok-push.ensures.items ∙ ap (λ (l : List ℕ). l ++ 1 ∷ []) c.new-order.ensures.items)
    (one_each c.insert.new.self 1 (λ j. c.insert.ensures.after j ∙ ap (λ b. (j == 1) || b) (c.new-seen.ensures.empty j)))

pub loop-at-preserved : goal.loop-at-preserved
loop-at-preserved c =
    let v = c.args.self.now.version in
    let bytes = c.args.self.now.bytes.now in
    let order = c.loop-at.order.items in
    let at = c.loop-at.at in
    let below : at < length order = omega (arith, c.loop-at-test.true, c.len.ensures, c.loop-at.order.ok.0) in
    let is : c.index.result.now ≡ get_or order at 0 = get_or_read order at c.index.result.now below c.index.ensures 0 in
    let listed : c.as_slice.result.now ≡ targets_of v bytes (get_or order at 0) = c.as_slice.ensures.value ∙ c.in_ok-targets.ensures ∙ ap (targets_of v bytes) is in
    let joins : c.add_unseen.new.order.items ≡ joined_numbers order (targets_of v bytes (get_or order at 0)) = c.in_ok-add_unseen.ensures.order ∙ ap (joined_numbers order) listed in
    let has = subst (λ l. HasEach c.add_unseen.new.seen l) joins c.in_ok-add_unseen.ensures.seen in
    subst (λ l. IsVisited v bytes c.add_unseen.new.seen l (at + 1)) (sym joins)
    (visit_more v bytes c.loop-at.seen c.add_unseen.new.seen order at c.requires.contents c.loop-at.invariant below has)

pub loop-at-smaller : goal.loop-at-smaller
loop-at-smaller c =
    let below : c.loop-at.at < length c.loop-at.order.items = omega (arith, c.loop-at-test.true, c.len.ensures, c.loop-at.order.ok.0) in
    let few = few_visited c.args.self.now.version c.args.self.now.bytes.now c.loop-at.seen c.loop-at.order.items c.loop-at.at c.loop-at.invariant in
    omega (arith, below, few)

pub targets-requires-clause-number : goal.targets-requires-clause-number
targets-requires-clause-number c =
    let order = c.loop-at.order.items in
    let below : c.loop-at.at < length order = omega (arith, c.loop-at-test.true, c.len.ensures, c.loop-at.order.ok.0) in
    let is : c.index.result.now ≡ get_or order c.loop-at.at 0 = get_or_read order c.loop-at.at c.index.result.now below c.index.ensures 0 in
    subst (IsInodeNumber c.args.self.now.bytes.now) (sym is) (c.loop-at.invariant.reached c.loop-at.at below).1

pub targets-requires-clause-inode : goal.targets-requires-clause-inode
targets-requires-clause-inode c =
    let order = c.loop-at.order.items in
    let below : c.loop-at.at < length order = omega (arith, c.loop-at-test.true, c.len.ensures, c.loop-at.order.ok.0) in
    let is : c.index.result.now ≡ get_or order c.loop-at.at 0 = get_or_read order c.loop-at.at c.index.result.now below c.index.ensures 0 in
    let number = subst (IsInodeNumber c.args.self.now.bytes.now) (sym is) (c.loop-at.invariant.reached c.loop-at.at below).1 in
    c.requires.inodes c.index.result.now number.0 number.1

pub targets-requires-clause-block : goal.targets-requires-clause-block
targets-requires-clause-block c =
    let order = c.loop-at.order.items in
    let below : c.loop-at.at < length order = omega (arith, c.loop-at-test.true, c.len.ensures, c.loop-at.order.ok.0) in
    let is : c.index.result.now ≡ get_or order c.loop-at.at 0 = get_or_read order c.loop-at.at c.index.result.now below c.index.ensures 0 in
    let number = subst (IsInodeNumber c.args.self.now.bytes.now) (sym is) (c.loop-at.invariant.reached c.loop-at.at below).1 in
    c.requires.blocks c.index.result.now number.0 number.1

pub add_unseen-requires : goal.add_unseen-requires
add_unseen-requires c = c.loop-at.invariant.each

pub returns : goal.returns
returns c =
    visited_all c.args.self.now.version c.args.self.now.bytes.now c.loop-at.seen c.loop-at.order.items c.loop-at.at c.loop-at.invariant
    (omega (arith, c.loop-at-test.false, c.len.ensures, c.loop-at.order.ok.0))
