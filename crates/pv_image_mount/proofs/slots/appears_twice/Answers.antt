use Rattle.std.proofs.Common.{◌≡◌, ◌-◌, ◌≤◌, ℕ, List, Bor, false, get_or, below_more, sym, ◌∙◌, arith}
use Rattle.std.proofs.lemmas.Cmp.{nat_list_cmp_total}
use Rattle.std.specs.Prelude.{bytes_eq}
use Rattle.std.specs.Cmp.Lexicographic.{texts_ties}
use Rattle.pv_image_mount.proofs.SortedNames.{once_sorted, pair_apart, twice_found}
use Rattle.pv_image_mount.proofs.slots.appears_twice.Goals as goal

pub loop-i-preserved : goal.loop-i-preserved
loop-i-preserved c =
    let names = c.sort_unstable.new.self in
    below_more (λ k. (d : Bor (List ℕ)) → 1 ≤ k → bytes_eq (get_or names (k - 1) d).now (get_or names k d).now ≡ false) c.loop-i.i c.loop-i.invariant
    (λ d low. pair_apart nat_list_cmp_total texts_ties (λ (name : Bor (List ℕ)). name.now) names c.loop-i.i d _ _ low c.loop-i-test.true (sym c.eq.ensures ∙ c.if-eq.false))

pub returns-then-eq : goal.returns-then-eq
returns-then-eq c =
    sym (twice_found nat_list_cmp_total texts_ties (λ (name : Bor (List ℕ)). name.now) c.args.names.now c.sort_unstable.new.self c.loop-i.i _ _ c.sort_unstable.ensures.permutation c.loop-i.auto.i c.loop-i-test.true
    (sym c.eq.ensures ∙ c.if-eq.true))

pub returns : goal.returns
returns c =
    sym (once_sorted nat_list_cmp_total texts_ties (λ (name : Bor (List ℕ)). name.now) c.args.names.now c.sort_unstable.new.self c.sort_unstable.ensures.permutation c.sort_unstable.ensures.sorted
    (λ k within. c.loop-i.invariant k (omega (arith, c.loop-i-test.false))))
