-- The reason of the error of a call that was made, and the origins of entries after it, given the parts of the states before
-- and after it.
use Rattle.std.specs.Prelude.{ℕ, List, [], Option, None, Some}
use Rattle.pv_model.specs.declared.call.Call.{Call}
use Rattle.pv_model.specs.declared.outcome.Outcome.{Outcome}
use Rattle.pv_model.specs.Machine.{AnswerLine, Settings, call_of, Process, State, process_at}
use Rattle.pv_step_lines.specs.declared.making.MadeCall.{MadeCall}
use Rattle.pv_step_lines.specs.declared.making.MadeStep.{MadeStep}
use Rattle.pv_step_lines.specs.declared.making.MadeStep.TheVariants.{Call as CallMade}
use Rattle.pv_explain.specs.Errors.{error_lines_by}
use Rattle.pv_explain.specs.Keeping.{entry_for_target, reported_settings}

-- the reason of the error of a call, given the state after it
abbrev pub error_after : ℕ → State → Option Process → Call → Outcome → List AnswerLine
error_after pid after None call outcome = []
error_after pid after (Some q) call outcome = error_lines_by pid after q call outcome

-- ---- the origins of entries after the step

abbrev pub settings_called : ℕ → MadeCall → State → Settings → Settings
settings_called pid m after all =
    reported_settings pid m.before.line (process_at after pid) (entry_for_target m.before.target (process_at after pid)) all (call_of m.call) m.answer.outcome

abbrev pub settings_made : ℕ → MadeStep → State → Settings → Settings
settings_made pid (CallMade m) after all = settings_called pid m after all
settings_made pid made after all = all
