use Rattle.std.proofs.Common.{◌≡◌, ◌∷◌, ◌++◌, drop}
use Rattle.pv_model.specs.Machine.{in_ranges}
use Rattle.pv_exposure.proofs.RangeTexts.{text_of_ranges, with_start}
use Rattle.pv_exposure.proofs.ranges.append_from.Given as goal

abbrev pub invariant-loop-next : goal.invariant-loop-next
invariant-loop-next l =
    l.out.bytes.items ++ text_of_ranges (with_start l.from (in_ranges (l.to ∷ drop l.next-index l.following)))
    ≡ l.fn.out.bytes.items ++ text_of_ranges (in_ranges (l.fn.first ∷ l.following))
