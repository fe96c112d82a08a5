use Rattle.std.proofs.Common.{codes, refl}
use Rattle.clap.specs.Words.{found_of, rows_of}
use Rattle.pv_cli_commands.specs.OfQuestions.declared.question.Question.TheVariants.{State}
use Rattle.pv_cli_line.proofs.RunQuestions.{finds_asked, finds_none, no_state, without_word}
use Rattle.pv_cli_line.proofs.matches.state_in.Goals as goal

pub returns-in_err-run : goal.returns-in_err-run
returns-in_err-run c =
    let rows = rows_of (found_of c.args.inner.now) in
    finds_none (codes "state") rows c.from_residual.result _ c.from_residual.ensures.1 c.in_err-run.ensures.none.0 (no_state rows c.in_err-run.ensures.none.1)

pub returns : goal.returns
returns c =
    let rows = rows_of (found_of c.args.inner.now) in
    finds_asked (codes "state") rows State c.in_ok-run.run' c.asked.result c.asked.ensures.found c.asked.ensures.none refl refl
    (λ steps number. (without_word _ _ _ _ _ c.in_ok-run.ensures.found, number))
