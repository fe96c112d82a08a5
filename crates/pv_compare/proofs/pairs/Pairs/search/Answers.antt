use Rattle.std.proofs.Common.{◌∙◌, ◌<◌, ◌≤◌, subst, sym, ℕ}
use Rattle.pv_compare.specs.Pairs.{found_in, pairs_of}
use Rattle.pv_compare.specs.Plan.{compared_pairs}
use Rattle.pv_compare.proofs.PairLoops.{search-end, search-next, search-past, search-some, search-start}
use Rattle.pv_compare.proofs.StepsOfPairs.{counted}
use Rattle.pv_model.specs.Machine.{program_of}
use Rattle.pv_compare.proofs.pairs.Pairs.search.Goals as goal

pub loop-number-init : goal.loop-number-init
loop-number-init g c = record { left = search-start c.args.limit c.args.self.now; whole = c.requires }

pub len-found-requires : goal.len-found-requires
len-found-requires g c = counted c.loop-number.self c.loop-number.invariant.whole

pub returns-then-number-found-clause-counted : goal.returns-then-number-found-clause-counted
returns-then-number-found-clause-counted g c = counted c.loop-number.self c.loop-number.invariant.whole

pub returns-then-number-found-clause-compared : goal.returns-then-number-found-clause-compared
returns-then-number-found-clause-compared g c =
    search-past c.args.limit c.loop-number.number c.loop-number.self c.loop-number.self c.loop-number-test.true
    (subst (λ (n : ℕ). n ≤ c.loop-number.number) c.len-found.ensures c.if-number-found.true) (compared_pairs program_of c.args.limit c.args.limit 0 (found_in (pairs_of c.args.self.now)) c.args.self.now.complete) c.loop-number.invariant.left

pub make_moves-requires-clause-whole : goal.make_moves-requires-clause-whole
make_moves-requires-clause-whole g c = c.loop-number.invariant.whole

pub returns-then-is_some-clause-compared : goal.returns-then-is_some-clause-compared
returns-then-is_some-clause-compared g c =
    search-some c.args.limit c.loop-number.number c.loop-number.self c.make_moves.new.self c.loop-number-test.true
    (subst (λ (n : ℕ). c.loop-number.number < n) c.len-found.ensures c.if-number-found.false) c.in_ok-difference.difference (sym c.is_some.ensures ∙ c.if-is_some.true) c.in_ok-difference.ensures.moved
    (compared_pairs program_of c.args.limit c.args.limit 0 (found_in (pairs_of c.args.self.now)) c.args.self.now.complete) c.loop-number.invariant.left

pub loop-number-preserved : goal.loop-number-preserved
loop-number-preserved g c =
    let next = search-next c.args.limit c.loop-number.number c.loop-number.self c.make_moves.new.self c.loop-number-test.true
    (subst (λ (n : ℕ). c.loop-number.number < n) c.len-found.ensures c.if-number-found.false) c.in_ok-difference.difference (sym c.is_some.ensures ∙ c.if-is_some.false) c.in_ok-difference.ensures.moved in
    record { left = c.loop-number.invariant.left ∙ next.0; whole = next.1 }

pub returns-clause-counted : goal.returns-clause-counted
returns-clause-counted g c = counted c.loop-number.self c.loop-number.invariant.whole

pub returns-clause-compared : goal.returns-clause-compared
returns-clause-compared g c =
    search-end c.args.limit c.loop-number.number c.loop-number.self c.loop-number-test.false (compared_pairs program_of c.args.limit c.args.limit 0 (found_in (pairs_of c.args.self.now)) c.args.self.now.complete)
    c.loop-number.invariant.left
