use Rattle.std.proofs.Common.{◌+◌, ◌∙◌, ap, sym, drop, refl, Some}
use Rattle.pv_host_copy.proofs.FirstPaths.{next_first, found-first}
use Rattle.pv_host_copy.proofs.first.first_of.Goals as goal

pub loop-first-init : goal.loop-first-init
loop-first-init c = record { same = refl; named = c.requires }

pub returns-then-is_same-clause-first : goal.returns-then-is_same-clause-first
returns-then-is_same-clause-first c =
    let fs = c.args.firsts.now in
    let i = c.loop-first.first-index in
    let front = next_first fs i c.first-item.result c.loop-first-test.true c.first-item.is in
    ap Some c.as_slice.ensures.value
    ∙ found-first c.args.version c.args.identity (drop i fs) fs (drop (i + 1) fs) c.first-item.result front c.loop-first.invariant (sym c.is_same.ensures ∙ c.if-is_same.true)
