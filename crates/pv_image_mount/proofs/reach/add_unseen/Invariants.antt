use Rattle.std.proofs.Common.{◌≡◌, take}
use Rattle.pv_image_mount.specs.Places.{joined_numbers, HasEach}
use Rattle.pv_image_mount.proofs.reach.add_unseen.Given as goal

-- the numbers so far are added
abbrev pub invariant-loop-k : goal.invariant-loop-k
invariant-loop-k l = record {
  order : l.order.items ≡ joined_numbers l.initial.order.items (take l.k-index l.numbers);
  each : HasEach l.seen l.order.items;
}
