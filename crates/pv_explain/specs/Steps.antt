-- The lines of several steps, and the point at which they stop.
use Rattle.std.specs.Prelude.{ℕ, ◌+◌, List, [], ◌∷◌, ◌++◌, codes, Option, None, Some}
use Rattle.std.specs.Fmt.{decimal}
use Rattle.pv_model.specs.Machine.{settings_next, AnswerLine, answer_bytes, Settings, Bytes, program_of, State, step}
use Rattle.pv_streams.specs.declared.stop.Stop.{Stop}
use Rattle.pv_step_lines.specs.OfSession.Stopping.{StopsIn}
use Rattle.pv_explain.specs.declared.extra.Extra.{Extra}
use Rattle.pv_explain.specs.Errors.{added_by}
use Rattle.pv_model_questions.specs.ExplainMore.{step_adding}

abbrev pub location_text : Option ℕ → Bytes
location_text None = []
location_text (Some line) = codes ", line " ++ decimal line

-- the number of a step, and the line of its process
abbrev pub step_text : ℕ → Option ℕ → Bytes
step_text number line = decimal number ++ location_text line

module _ (extra : Extra) where
  -- the lines of a step, with the lines added to it
  abbrev pub explained_step_lines : ℕ → Settings → State → ℕ → List AnswerLine
  explained_step_lines k all s pid = step_adding (added_by extra) k all s pid

  -- the lines of steps whose numbers start at k
  abbrev pub steps_lines : ℕ → Settings → List ℕ → State → List AnswerLine
  steps_lines k all [] s = []
  steps_lines k all (pid ∷ pids) s = explained_step_lines k all s pid ++ steps_lines (k + 1) (settings_next program_of s pid all) pids (step program_of s pid).after

  abbrev pub steps_text : ℕ → Settings → List ℕ → State → Bytes
  steps_text k all pids s = answer_bytes (steps_lines k all pids s)

-- out of memory stops the steps only before an execve that leads to a program; the lines of the earlier steps were written
abbrev pub StopsExplained : Extra → Stop → ℕ → Settings → List ℕ → State → State → Option Bytes → Option Bytes → Type 0
StopsExplained extra stop k all = StopsIn (steps_text extra k all) stop
