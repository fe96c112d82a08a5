use Rattle.std.proofs.Common.{length, sym, ◌∙◌, rules, tests, filter}
use Rattle.std.specs.List.{slice_split}
use Rattle.std.proofs.lemmas.Iterator.Consumers.{YieldsList-turn, YieldsList-end, YieldsList-at, YieldsList-from_filter}
use Rattle.std.proofs.lemmas.Iterator.Splits.{YieldsList-from_slice_split}
use Rattle.std.proofs.lemmas.List.{length_push}
use Rattle.pv_model.specs.Promises.{read_promises}
use Rattle.pv_promises.proofs.Keywords.{is_space, is_word, here-keywords, all-keywords, join_sets-zero, join_sets-known, join_sets-unknown, join_sets-all}
use Rattle.pv_promises.proofs.read.read_promises.Goals as goal
use Rattle.pv_promises.proofs.read.read_promises.Given as given

pub loop-word-init : goal.loop-word-init
loop-word-init c = rw c.empty-set.ensures (join_sets-zero _)

pub returns-in_default-clause-unknown : goal.returns-in_default-clause-unknown
unfolding read_promises
returns-in_default-clause-unknown c =
    let here = YieldsList-turn {steps = (given.iterator-loop-word).next_gives} {v = λ x. x.now} {s = c.into_iter-word-iterator.result} {all = filter is_word (slice_split is_space c.args.text.now)} (YieldsList-at c.into_iter-word-iterator.ensures.into_iter_gives (YieldsList-from_filter _ is_word (YieldsList-at c.filter-word-items.ensures.source (YieldsList-from_slice_split _ is_space c.args.text.now c.split.ensures.rest c.split.ensures.done c.split.ensures.closure (λ x b q k. search (rules, tests)))) c.filter-word-items.ensures.closure (λ x b q k. search (rules, tests)))) c.loop-word.yielded _ c.loop-word.yielded_by _ _ c.in-Some.word c.in-Some.is c.next.ensures.steps in
    let none = join_sets-unknown c.args.text.now c.in-Some.word.now (length c.loop-word.yielded) c.loop-word.set.0 (here-keywords c.args.text.now c.in-Some.word.now (length c.loop-word.yielded) here) (sym c.promise_of.ensures ∙ c.in_default.is) in
    sym c.loop-word.invariant ∙ none

pub loop-word-preserved : goal.loop-word-preserved
loop-word-preserved c =
    let here = YieldsList-turn {steps = (given.iterator-loop-word).next_gives} {v = λ x. x.now} {s = c.into_iter-word-iterator.result} {all = filter is_word (slice_split is_space c.args.text.now)} (YieldsList-at c.into_iter-word-iterator.ensures.into_iter_gives (YieldsList-from_filter _ is_word (YieldsList-at c.filter-word-items.ensures.source (YieldsList-from_slice_split _ is_space c.args.text.now c.split.ensures.rest c.split.ensures.done c.split.ensures.closure (λ x b q k. search (rules, tests)))) c.filter-word-items.ensures.closure (λ x b q k. search (rules, tests)))) c.loop-word.yielded _ c.loop-word.yielded_by _ _ c.in-Some.word c.in-Some.is c.next.ensures.steps in
    let known = join_sets-known c.args.text.now c.in-Some.word.now (length c.loop-word.yielded) c.in-Some-promise_of.promise c.loop-word.set.0 (here-keywords c.args.text.now c.in-Some.word.now (length c.loop-word.yielded) here) (sym c.promise_of.ensures ∙ c.in-Some-promise_of.is) in
    rw (length_push c.loop-word.yielded c.in-Some.word, c.insert.ensures tt, c.single.ensures) (sym known ∙ c.loop-word.invariant)

pub returns-clause-set : goal.returns-clause-set
unfolding read_promises
returns-clause-set c =
    let all = YieldsList-end {steps = (given.iterator-loop-word).next_gives} {v = λ x. x.now} {s = c.into_iter-word-iterator.result} {all = filter is_word (slice_split is_space c.args.text.now)} (YieldsList-at c.into_iter-word-iterator.ensures.into_iter_gives (YieldsList-from_filter _ is_word (YieldsList-at c.filter-word-items.ensures.source (YieldsList-from_slice_split _ is_space c.args.text.now c.split.ensures.rest c.split.ensures.done c.split.ensures.closure (λ x b q k. search (rules, tests)))) c.filter-word-items.ensures.closure (λ x b q k. search (rules, tests)))) c.loop-word.yielded _ c.loop-word.yielded_by _ _ c.in-None.is c.next.ensures.steps in
    sym c.loop-word.invariant ∙ join_sets-all c.args.text.now (length c.loop-word.yielded) c.loop-word.set.0 (all-keywords c.args.text.now (length c.loop-word.yielded) all.1)
