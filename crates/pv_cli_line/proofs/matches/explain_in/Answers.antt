use Rattle.std.proofs.Common.{codes, refl, sym}
use Rattle.clap.specs.Words.{found_of, rows_of}
use Rattle.pv_cli_commands.specs.OfQuestions.declared.question.Question.TheVariants.{Explain}
use Rattle.pv_cli_line.proofs.RunQuestions.{finds_asked, finds_none, no_explain, without_word}
use Rattle.pv_cli_line.proofs.matches.explain_in.Goals as goal

pub returns-in_err-run : goal.returns-in_err-run
returns-in_err-run c =
    let rows = rows_of (found_of c.args.inner.now) in
    finds_none (codes "explain") rows c.from_residual.result _ c.from_residual.ensures.1 c.in_err-run.ensures.none.0 (no_explain rows c.in_err-run.ensures.none.1)

pub returns : goal.returns
returns c =
    let rows = rows_of (found_of c.args.inner.now) in
    finds_asked (codes "explain") rows (Explain c.has_reasons.result c.is_given.result) c.in_ok-run.run' c.asked.result c.asked.ensures.found c.asked.ensures.none refl refl
    (λ steps number. ((without_word _ _ _ _ _ c.in_ok-run.ensures.found, number), sym c.has_reasons.ensures, sym c.is_given.ensures))
