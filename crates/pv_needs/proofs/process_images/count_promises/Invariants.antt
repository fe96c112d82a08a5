use Rattle.std.proofs.Common.{◌≡◌, take}
use Rattle.pv_needs.specs.ProcessImages.{promises_more}
use Rattle.pv_needs.proofs.process_images.count_promises.Given as goal

abbrev pub invariant-loop-k : goal.invariant-loop-k
invariant-loop-k l = l.promises ≡ promises_more (take l.k l.all) l.initial.promises l.needed l.line
