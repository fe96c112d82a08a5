-- The demands of the calls that were granted: neither a promise nor a table refused them.
use Rattle.std.specs.Prelude.{ℕ, Bool, true, false, ◌&&◌, if◌then◌else◌, List, [], ◌∷◌, Option, None}
use Rattle.pv_model.specs.Machine.{AnswerLine, Asked, asked, is_refused, Bytes, Program, State, run, step}
use Rattle.pv_model.specs.Answers.Needs.{and_asked, needs_lines, needs_of_all}

module _ (granted : Bool) (program_of : Bytes → Option Program) where
  -- the demands of a step that is a call; if only granted calls count, of a call that was not refused
  abbrev pub demands_of_step : State → ℕ → Option Asked
  demands_of_step s pid = if granted && is_refused (step program_of s pid).outcome then None else asked program_of s pid

  -- the demands of the calls of a run, each with its process
  abbrev pub demands_in : List ℕ → State → List (ℕ × Asked)
  demands_in [] s = []
  demands_in (pid ∷ pids) s = and_asked program_of pid (demands_of_step s pid) (demands_in pids (step program_of s pid).after)

module _ (program_of : Bytes → Option Program) where
  -- the lines of `needs` of the granted calls alone
  abbrev pub granted_lines : List ℕ → State → List AnswerLine
  granted_lines pids s = needs_of_all (demands_in true program_of pids s) (run program_of pids s).final.last_process

  -- the lines of all calls, or of the granted calls alone
  abbrev pub lines_of_demands : Bool → List ℕ → State → List AnswerLine
  lines_of_demands false pids s = needs_lines program_of pids s
  lines_of_demands true pids s = granted_lines pids s
