use Rattle.std.proofs.Common.{◌∙◌, ◌++◌, ◌∷◌, ℕ, List, ap, sym}
use Rattle.std.proofs.lemmas.List.{drop_all}
use Rattle.std.proofs.lemmas.Result.{on_ok_weaker}
use Rattle.pv_model.specs.Machine.{in_ranges, Bytes}
use Rattle.pv_exposure.proofs.RangeTexts.{Ranges, run-starts, text-last, text_of_ranges, with_start}
use Rattle.pv_exposure.proofs.ranges.append_from.Goals as goal

pub loop-next-init : goal.loop-next-init
loop-next-init c = ap (λ (rs : Ranges). c.args.out.now.bytes.items ++ text_of_ranges rs) (run-starts c.args.first c.args.following.now)

pub returns : goal.returns
returns c =
    on_ok_weaker c.append_range.result
    (λ added.
    added
    ∙ ap (λ (bs : Bytes). c.loop-next.out.bytes.items ++ bs) (sym (text-last c.loop-next.from c.loop-next.to))
    ∙ ap (λ (ns : List ℕ). c.loop-next.out.bytes.items ++ text_of_ranges (with_start c.loop-next.from (in_ranges (c.loop-next.to ∷ ns)))) (sym (drop_all c.loop-next.next-index c.args.following.now c.loop-next-test.false))
    ∙ c.loop-next.invariant)
    c.append_range.ensures
