use Rattle.std.proofs.Common.{◌+◌, ◌<◌, ◌^◌, get_or, subst, arith}
use Rattle.std.proofs.lemmas.List.{take_all}
use Rattle.pv_image_mount.proofs.NameCounts.{AreCounted, counted_more, none_counted, room_to_count}
use Rattle.pv_image_mount.proofs.targets.add_counts.Goals as goal

pub loop-k-init : goal.loop-k-init
loop-k-init c = none_counted c.args.counts.now

pub overflow_add-counts : goal.overflow_add-counts
overflow_add-counts c =
    let i = c.loop-k.k-index in
    let room : get_or c.loop-k.counts (get_or c.args.numbers.now i 0) 0 + 1 < 2 ^ 32 =
    room_to_count c.args.counts.now c.loop-k.counts c.args.numbers.now i c.loop-k-test.true (c.requires.within i c.loop-k-test.true) c.requires.few c.loop-k.invariant in
    omega (arith, room)

pub loop-k-preserved : goal.loop-k-preserved
loop-k-preserved c =
    counted_more c.args.counts.now c.loop-k.counts c.args.numbers.now c.loop-k.k-index c.loop-k-test.true (c.requires.within c.loop-k.k-index c.loop-k-test.true) c.loop-k.auto.counts c.loop-k.invariant

pub returns : goal.returns
returns c = subst (λ l. AreCounted c.args.counts.now l c.loop-k.counts) (take_all c.loop-k.k-index c.args.numbers.now c.loop-k-test.false) c.loop-k.invariant
