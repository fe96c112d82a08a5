use Rattle.std.proofs.Common.{length, sym, ap, ◌∙◌, rules, tests, filter}
use Rattle.std.specs.List.{slice_split}
use Rattle.std.proofs.lemmas.Iterator.Consumers.{YieldsList-turn, YieldsList-end, YieldsList-at, YieldsList-from_filter}
use Rattle.std.proofs.lemmas.Iterator.Splits.{YieldsList-from_slice_split}
use Rattle.std.proofs.lemmas.List.{length_push}
use Rattle.pv_promises.proofs.Keywords.{is_space, is_word, here-keywords, all-keywords}
use Rattle.pv_explain.proofs.UnknownWords.{unknown-here, unknown-next, unknown-end}
use Rattle.pv_explain.proofs.errors.first_unknown.Goals as goal
use Rattle.pv_explain.proofs.errors.first_unknown.Given as given

pub returns-then-is_unknown_keyword : goal.returns-then-is_unknown_keyword
returns-then-is_unknown_keyword c =
    let here = YieldsList-turn {steps = (given.iterator-loop-word).next_gives} {v = λ x. x.now} {s = c.into_iter-word-iterator.result} {all = filter is_word (slice_split is_space c.args.text.now)} (YieldsList-at c.into_iter-word-iterator.ensures.into_iter_gives (YieldsList-from_filter _ is_word (YieldsList-at c.filter-word-items.ensures.source (YieldsList-from_slice_split _ is_space c.args.text.now c.split.ensures.rest c.split.ensures.done c.split.ensures.closure (λ x b q k. search (rules, tests)))) c.filter-word-items.ensures.closure (λ x b q k. search (rules, tests)))) c.loop-word.yielded _ c.loop-word.yielded_by _ _ c.in-Some.word c.in-Some.is c.next.ensures.steps in
    sym (unknown-here c.args.text.now c.in-Some.word.now (length c.loop-word.yielded) (here-keywords c.args.text.now c.in-Some.word.now (length c.loop-word.yielded) here) (sym c.is_unknown_keyword.ensures ∙ c.if-is_unknown_keyword.true))
    ∙ c.loop-word.invariant

pub loop-word-preserved : goal.loop-word-preserved
loop-word-preserved c =
    let here = YieldsList-turn {steps = (given.iterator-loop-word).next_gives} {v = λ x. x.now} {s = c.into_iter-word-iterator.result} {all = filter is_word (slice_split is_space c.args.text.now)} (YieldsList-at c.into_iter-word-iterator.ensures.into_iter_gives (YieldsList-from_filter _ is_word (YieldsList-at c.filter-word-items.ensures.source (YieldsList-from_slice_split _ is_space c.args.text.now c.split.ensures.rest c.split.ensures.done c.split.ensures.closure (λ x b q k. search (rules, tests)))) c.filter-word-items.ensures.closure (λ x b q k. search (rules, tests)))) c.loop-word.yielded _ c.loop-word.yielded_by _ _ c.in-Some.word c.in-Some.is c.next.ensures.steps in
    rw (length_push c.loop-word.yielded c.in-Some.word)
    (unknown-next c.args.text.now c.in-Some.word.now (length c.loop-word.yielded) (here-keywords c.args.text.now c.in-Some.word.now (length c.loop-word.yielded) here) (sym c.is_unknown_keyword.ensures ∙ c.if-is_unknown_keyword.false)
    ∙ c.loop-word.invariant)

pub returns : goal.returns
returns c =
    let all = YieldsList-end {steps = (given.iterator-loop-word).next_gives} {v = λ x. x.now} {s = c.into_iter-word-iterator.result} {all = filter is_word (slice_split is_space c.args.text.now)} (YieldsList-at c.into_iter-word-iterator.ensures.into_iter_gives (YieldsList-from_filter _ is_word (YieldsList-at c.filter-word-items.ensures.source (YieldsList-from_slice_split _ is_space c.args.text.now c.split.ensures.rest c.split.ensures.done c.split.ensures.closure (λ x b q k. search (rules, tests)))) c.filter-word-items.ensures.closure (λ x b q k. search (rules, tests)))) c.loop-word.yielded _ c.loop-word.yielded_by _ _ c.in-None.is c.next.ensures.steps in
    sym (unknown-end c.args.text.now (length c.loop-word.yielded) (all-keywords c.args.text.now (length c.loop-word.yielded) all.1)) ∙ c.loop-word.invariant
