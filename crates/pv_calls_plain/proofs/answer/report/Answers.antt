use Rattle.std.proofs.Common.{◌∙◌, ◌≤◌, w32, ap, subst, arith}
use Rattle.std.proofs.lemmas.Int.{to_z_pos}
use Rattle.std.specs.Prelude.{IfOk}
use Rattle.pv_calls_plain.specs.Performed.{attempt_of}
use Rattle.pv_calls_plain.proofs.ReportedCollections.{reported_value}
use Rattle.pv_calls_plain.proofs.answer.report.Goals as goal

small : (c : goal.After-report) → c.in-Ok.field-0.value ≤ 2147483647
small c = subst (λ r. IfOk r (λ d. d.value ≤ 2147483647)) c.in-Ok.is c.requires.small

pub returns-in-Ok-clause-reported : goal.returns-in-Ok-clause-reported
returns-in-Ok-clause-reported c = λ before s me a is same.
    reported_value before s c.args.parts.now c.args.pid me c.invariant.ensures.processes.ascending c.in-Ok.field-0 a _ c.report.new.self (is ∙ ap (attempt_of c.args.parts.now) c.in-Ok.is) (to_z_pos w32 c.in-Ok.field-0.value (omega (arith, small c))) c.report.ensures
