use Rattle.std.proofs.Common.{codes, refl, sym}
use Rattle.clap.specs.Words.{found_of, rows_of}
use Rattle.pv_cli_commands.specs.OfQuestions.declared.question.Question.TheVariants.{Audit, Reasons}
use Rattle.pv_cli_line.proofs.RunQuestions.{finds_asked, finds_none, no_audit}
use Rattle.pv_cli_line.proofs.matches.audit_in.Goals as goal

pub returns-in_err-run : goal.returns-in_err-run
returns-in_err-run c =
    let rows = rows_of (found_of c.args.inner.now) in
    finds_none (codes "audit") rows c.from_residual.result _ c.from_residual.ensures.1 c.in_err-run.ensures.none.0 (no_audit rows c.in_err-run.ensures.none.1)

pub returns-then-is_given : goal.returns-then-is_given
returns-then-is_given c =
    let rows = rows_of (found_of c.args.inner.now) in
    finds_asked (codes "audit") rows (Reasons c.in_ok-run.run'.further) c.in_ok-run.run' c.asked.result c.asked.ensures.found c.asked.ensures.none refl refl
    (λ steps number. (c.in_ok-run.ensures.found, number, sym c.if-is_given.ensures))

pub returns : goal.returns
returns c =
    let rows = rows_of (found_of c.args.inner.now) in
    finds_asked (codes "audit") rows (Audit c.in_ok-run.run'.further) c.in_ok-run.run' c.asked-2.result c.asked-2.ensures.found c.asked-2.ensures.none refl refl
    (λ steps number. (c.in_ok-run.ensures.found, number, sym c.if-is_given.ensures))
