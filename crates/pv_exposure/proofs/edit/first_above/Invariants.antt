use Rattle.std.proofs.Common.{◌≡◌, drop}
use Rattle.pv_exposure.specs.Editing.{above_among}
use Rattle.pv_exposure.proofs.edit.first_above.Given as goal

abbrev pub invariant-loop-why : goal.invariant-loop-why
invariant-loop-why l = above_among (drop l.why-index l.whys) ≡ above_among l.whys
