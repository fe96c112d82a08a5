use Rattle.std.proofs.Common.{◌∙◌, arith, refl, sym, subst, rules}
use Rattle.std.proofs.lemmas.Grind.{common_steps}
use Rattle.pv_streams.proofs.TextRemainders.{LeavesRest, rest_all, rest_after, rest_begins}
use Rattle.pv_model.specs.Machine.{spaced, all_promises}
use Rattle.pv_streams.proofs.OutputTexts.{on_err}
use Rattle.pv_answers.specs.Texts.{keywords_in}
use Rattle.pv_answers.proofs.KeywordTexts.{keywords-end, keyword-next, keyword-none}
use Rattle.pv_answers.proofs.lines.write_keywords.Goals as goal
use Rattle.pv_answers.proofs.lines.write_keywords.Goals.{then-has+in_ok-write_keyword, else-has}

pub loop-promise-init : goal.loop-promise-init
loop-promise-init g c = record { left = rest_all _ _; quiet = refl }

pub returns-in_err-write_keyword : goal.returns-in_err-write_keyword
returns-in_err-write_keyword g c = record {
  whole = grind (arith, common_steps);
  prefix =
      (let is = keyword-next c.args.promises.0 all_promises c.loop-promise.promise-index _ c.loop-promise-test.true c.loop-promise.is_first (sym c.if-has.ensures) in
      on_err c.from_residual.result (rest_begins _ _ _ _ _ _ _ c.loop-promise.invariant.left is c.in_err-write_keyword.ensures.prefix));
  failed = search rules;
  quiet = grind (arith, common_steps);
}

pub loop-promise-preserved : goal.loop-promise-preserved
loop-promise-preserved g c =
    let set = c.args.promises.0 in
    let k = c.loop-promise.promise-index in
    let text = spaced (keywords_in set all_promises) in
    let before = g.W.Sink.written c.args.out.now in
    elim c.if-has.branch [
      | then-has+in_ok-write_keyword w ↦
          let is = keyword-next set all_promises k _ c.loop-promise-test.true c.loop-promise.is_first (sym w.if-has.ensures) in
          record {
            left = rw w.out-is (rw w.is_first-is (rest_after _ _ _ _ _ _ _ c.loop-promise.invariant.left is w.in_ok-write_keyword.ensures.whole));
            quiet = rw w.out-is (w.in_ok-write_keyword.ensures.quiet ∙ c.loop-promise.invariant.quiet);
          }
      | else-has w ↦
          let is = keyword-none set all_promises k _ c.loop-promise-test.true c.loop-promise.is_first (sym w.if-has.ensures) in
          record {
            left = rw w.out-is (rw w.is_first-is (subst (λ rest. LeavesRest rest text before (g.W.Sink.written c.loop-promise.out)) is c.loop-promise.invariant.left));
            quiet = rw w.out-is c.loop-promise.invariant.quiet;
          }
    ]

pub returns : goal.returns
returns g c = record {
  whole = (keywords-end c.args.promises.0 all_promises c.loop-promise.promise-index c.loop-promise.is_first _ _ _ c.loop-promise-test.false c.loop-promise.invariant.left);
  prefix = search rules;
  failed = search rules;
  quiet = search rules;
}
