use Rattle.std.proofs.Common.{◌≡◌, Some, false}
use Rattle.pv_model.specs.Machine.{audit_node}
use Rattle.pv_model_questions.specs.Notes.{any_below, shows_lock_reason}
use Rattle.pv_questions.proofs.notes.is_shown_in_report.Given as goal

abbrev pub invariant-loop-node : goal.invariant-loop-node
invariant-loop-node l = any_below (λ n. shows_lock_reason l.every l.pid (audit_node l.session (Some n))) l.node ≡ false
