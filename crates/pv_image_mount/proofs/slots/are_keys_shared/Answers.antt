use Rattle.std.proofs.Common.{◌≡◌, ◌-◌, ◌≤◌, ℕ, false, get_or, below_more, ap, sym, ◌∙◌, arith}
use Rattle.std.proofs.lemmas.Bool.{eq-eqb, ne_eqb}
use Rattle.std.proofs.lemmas.Cmp.{nat_cmp_total}
use Rattle.std.proofs.lemmas.List.{map-id}
use Rattle.std.specs.Prelude.{◌==◌}
use Rattle.std.specs.Cmp.{unsigned_ties}
use Rattle.pv_model.specs.Machine.{appears_twice}
use Rattle.pv_image_mount.proofs.SortedNames.{once_sorted, pair_apart, twice_found}
use Rattle.pv_image_mount.proofs.slots.are_keys_shared.Goals as goal

pub loop-i-preserved : goal.loop-i-preserved
loop-i-preserved c =
    let keys = c.sort_unstable.new.self in
    below_more (λ k. (d : ℕ) → 1 ≤ k → (get_or keys (k - 1) d == get_or keys k d) ≡ false) c.loop-i.i c.loop-i.invariant
    (λ d low. pair_apart nat_cmp_total unsigned_ties (λ (key : ℕ). key) keys c.loop-i.i d _ _ low c.loop-i-test.true (ne_eqb _ _ c.if-keys-i.false))

pub returns-then-keys-i : goal.returns-then-keys-i
returns-then-keys-i c =
    sym (ap (appears_twice ◌==◌) (sym (map-id c.args.keys.now))
    ∙ twice_found nat_cmp_total unsigned_ties (λ (key : ℕ). key) c.args.keys.now c.sort_unstable.new.self c.loop-i.i _ _ c.sort_unstable.ensures.permutation c.loop-i.auto.i c.loop-i-test.true (eq-eqb _ _ c.if-keys-i.true))

pub returns : goal.returns
returns c =
    sym (ap (appears_twice ◌==◌) (sym (map-id c.args.keys.now))
    ∙ once_sorted nat_cmp_total unsigned_ties (λ (key : ℕ). key) c.args.keys.now c.sort_unstable.new.self c.sort_unstable.ensures.permutation c.sort_unstable.ensures.sorted
    (λ k within. c.loop-i.invariant k (omega (arith, c.loop-i-test.false))))
