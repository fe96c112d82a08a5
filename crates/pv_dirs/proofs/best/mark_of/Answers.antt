use Rattle.std.proofs.Common.{◌≡◌, ◌-◌, suc, Option, Bor, take, is_lt, true, subst, arith}
use Rattle.std.specs.Option.{option_copied}
use Rattle.pv_model.specs.Machine.{Bytes, is_past}
use Rattle.pv_dirs.proofs.CommonPrefixes.{between}
use Rattle.pv_dirs.proofs.SortedEntries.{by_name}
use Rattle.pv_dirs.proofs.NextNames.{less_from}
use Rattle.pv_dirs.proofs.best.mark_of.Goals as goal

pub returns : goal.returns
returns c = λ name before following.
    let last = c.in_ok-last.field-0.now in
    let best = c.args.best.now in
    let above : is_lt (by_name last name) ≡ true = subst (λ (o : Option (Bor Bytes)). is_past (option_copied o) name ≡ true) c.in_ok-last.was following in
    let whole : c.alike-count.result ≡ suc (c.alike-count.result - 1) = omega (arith, c.if-count-eq0.false) in
    between last name best (c.alike-count.result - 1) (omega (arith, whole, c.alike-count.ensures.first)) (omega (arith, whole, c.alike-count.ensures.second))
    (subst (λ n. take n last ≡ take n best) whole c.alike-count.ensures.same)
    (less_from (by_name last name) above) (less_from (by_name name best) before)
