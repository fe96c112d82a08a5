use Rattle.pv_cli_line.proofs.RunQuestions.{lacking_words, no_reach}
use Rattle.pv_cli_line.proofs.matches.reached_in.Goals as goal

pub returns-in_err-run-clause-none : goal.returns-in_err-run-clause-none
returns-in_err-run-clause-none c =
    lacking_words c.from_residual.result _ _ c.from_residual.ensures.1 c.in_err-run.ensures.none.0 (no_reach _ c.in_err-run.ensures.none.1)
