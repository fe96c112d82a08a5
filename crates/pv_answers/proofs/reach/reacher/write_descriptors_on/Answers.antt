use Rattle.std.proofs.Common.{◌≡◌, ℕ, ◌+◌, ◌<◌, ◌++◌, ◌∙◌, length, Option, ap, refl, sym, subst, arith, rules}
use Rattle.pv_model.specs.declared.open_flags.Mode.{Mode}
use Rattle.pv_model.specs.Machine.{Bytes}
use Rattle.pv_streams.proofs.OutputTexts.{on_err}
use Rattle.pv_streams.proofs.TextRemainders.{LeavesRest, rest_all, rest_after, rest_begins, written_text}
use Rattle.pv_answers.specs.declared.reach.reacher.Reacher.{Reacher}
use Rattle.pv_answers.specs.Reaching.{all_on, opened_at, reacher_process, words_on}
use Rattle.pv_answers.proofs.OpenDescriptors.{words_from, words-next, words-past}
use Rattle.pv_answers.proofs.reach.reacher.write_descriptors_on.Goals as goal

-- the words for a descriptor, and for those after it
words-split : (x : Reacher) (n d : ℕ) (opened : Option (ℕ × Mode)) → d < length (reacher_process x).descriptors → opened ≡ opened_at x d
    → words_from x n d ≡ words_on n d opened ++ words_from x n (d + 1)
words-split x n d opened less is = words-next x n d less ∙ ap (λ o. words_on n d o ++ words_from x n (d + 1)) (sym is)

pub loop-number-init : goal.loop-number-init
loop-number-init g c = record { left = rest_all (all_on c.args.reacher.now c.args.node) (g.W.Sink.written c.args.out.now); quiet = refl }

pub returns-in_err-write_where_on : goal.returns-in_err-write_where_on
returns-in_err-write_where_on g c = record {
  whole = search rules;
  prefix =
      (let x = c.args.reacher.now in
      let is = words-split x c.args.node c.loop-number.number c.opened.result (omega (arith, c.invariant.ensures, c.loop-number-test.true)) c.opened.ensures in
      on_err c.from_residual.result (rest_begins _ _ _ _ _ _ _ c.loop-number.invariant.left is c.in_err-write_where_on.ensures.prefix));
  failed = (on_err c.from_residual.result (rw (← c.loop-number.invariant.quiet) c.in_err-write_where_on.ensures.failed));
  quiet = search rules;
}

pub loop-number-preserved : goal.loop-number-preserved
loop-number-preserved g c =
    let x = c.args.reacher.now in
    let is = words-split x c.args.node c.loop-number.number c.opened.result (omega (arith, c.invariant.ensures, c.loop-number-test.true)) c.opened.ensures in
    record {
      left = rest_after _ _ _ _ _ _ _ c.loop-number.invariant.left is c.in_ok-write_where_on.ensures.whole;
      quiet = c.in_ok-write_where_on.ensures.quiet ∙ c.loop-number.invariant.quiet;
    }

pub returns : goal.returns
returns g c = record {
  whole =
      (let x = c.args.reacher.now in
      let none = words-past x c.args.node c.loop-number.number (omega (arith, c.invariant.ensures, c.loop-number-test.false)) in
      written_text (all_on x c.args.node) _ _ (subst (λ (bs : Bytes). LeavesRest bs (all_on x c.args.node) (g.W.Sink.written c.args.out.now) (g.W.Sink.written c.loop-number.out)) none c.loop-number.invariant.left));
  prefix = search rules;
  failed = search rules;
  quiet = search rules;
}
