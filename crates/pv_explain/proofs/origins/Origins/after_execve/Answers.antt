use Rattle.std.proofs.Common.{◌≡◌, ◌∙◌, ap, map, false, true}
use Rattle.pv_model.specs.Machine.{settings_of, process_at}
use Rattle.pv_model.specs.Answers.Settings.{of_earlier_program}
use Rattle.pv_step_lines.specs.Origin.{settings_in}
use Rattle.pv_explain.proofs.ProcessOrigins.{aged-all, preserved-table}
use Rattle.pv_explain.proofs.origins.Origins.after_execve.Goals as goal

pub returns-else-is_empty : goal.returns-else-is_empty
returns-else-is_empty c =
    ap settings_in c.age.ensures ∙ aged-all c.copy_of-origins.result.items ∙ ap (map of_earlier_program) c.copy_of-origins.ensures
    ∙ preserved-table (process_at c.args.parts.now c.args.pid) c.in-Some.record.now c.in-Some.ensures
    (λ none. let empty : c.is_empty.result ≡ true = c.is_empty.ensures.1 none in let full : c.is_empty.result ≡ false = c.if-is_empty.false in cc)
    (settings_of c.args.self.now c.args.pid)
