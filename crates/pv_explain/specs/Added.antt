-- The lines added to a step, given the parts of the states before and after it.
use Rattle.std.specs.Prelude.{◌≡◌, ℕ, Bool, if◌then◌else◌, nat_le, List, [], ◌∷◌, ◌++◌, map, option_map, option_and_then, option_to_list, Option, None, Some}
use Rattle.pv_model.specs.declared.call.Call.{Call}
use Rattle.pv_model.specs.declared.perms.Perms.{Perms}
use Rattle.pv_model.specs.Answers.Explain.{set_text}
use Rattle.pv_model.specs.Answers.Levels.{Level}
use Rattle.pv_model.specs.Machine.{AnswerLine, Bytes, Setting, call_of, is_unveil, program_of, Process, State, process_at, Walk, walks_of}
use Rattle.pv_model_questions.specs.ExplainMore.{Allowed, Restraints, allowed_at, allowed_line, asked_entry_text, execve_after, restraints_of}
use Rattle.pv_step_lines.specs.OfCallsPath.Ends.{end_begun}
use Rattle.pv_step_lines.specs.Origin.{settings_in}
use Rattle.pv_step_lines.specs.declared.making.MadeCall.{MadeCall}
use Rattle.pv_explain.specs.declared.allowed.AllowedWalk.{AllowedWalk}
use Rattle.pv_explain.specs.declared.allowed.AllowedWalks.{AllowedWalks}
use Rattle.pv_explain.specs.declared.allowed.AllowingEntry.{AllowingEntry}
use Rattle.pv_explain.specs.declared.allowed_text.Context.{Context}
use Rattle.pv_explain.specs.declared.levels.GoverningLevel.{GoverningLevel}
use Rattle.pv_explain.specs.declared.prior.Prior.{Prior}
use Rattle.pv_explain.specs.declared.restraints.Restraints.{Restraints as RestraintsInCode}
use Rattle.pv_explain.specs.Made.{error_after}

abbrev pub restraints_in : RestraintsInCode → Restraints
restraints_in r = record { promises = r.pledge.promises; execpromises = r.pledge.execpromises; has_table = r.has_table; is_locked = r.is_locked }

-- ---- walks

abbrev pub level_in : GoverningLevel → Level
level_in l = record { target = l.target; entry = Some l.entry }

abbrev pub number_and_permissions : AllowingEntry → ℕ × Perms
number_and_permissions e = (e.number, e.permissions)

abbrev pub allowed_in : AllowedWalk → Allowed
allowed_in w = record { of_directory = w.of_directory; target = w.target; asked = w.asked; entry = option_map number_and_permissions w.entry }

-- the two walks of a call, if they are allowed
pub record AllowedPair : Type 0 where
  pub first : Option Allowed
  pub second : Option Allowed

abbrev pub no_pair : AllowedPair
no_pair = record { first = None; second = None }

abbrev pub allowed_pair_in : AllowedWalks → AllowedPair
allowed_pair_in ws = record { first = option_map allowed_in ws.first; second = option_map allowed_in ws.second }

module _ (s : State) (pid : ℕ) (me : Process) where
  -- a walk, if it is begun and ends at a place that the table allows
  abbrev pub walk_before : Walk → Option Allowed
  walk_before w = option_and_then (allowed_at s.tree me.table w.needed) (end_begun s pid me w)

  abbrev pub walks_before : List Walk → AllowedPair
  walks_before [] = no_pair
  walks_before (w ∷ []) = record { first = walk_before w; second = None }
  walks_before (w ∷ v ∷ ws) = record { first = walk_before w; second = walk_before v }

  -- the walks of a call; the walk of an unveil(2) is not checked
  abbrev pub pair_before : Call → AllowedPair
  pair_before call = if is_unveil call then no_pair else walks_before (walks_of call)

abbrev pub allowed_if_begun : Bool → Option Allowed → List Allowed
allowed_if_begun is_begun walk = if is_begun then option_to_list walk else []

-- those of the first n walks that are allowed
abbrev pub first_allowed : AllowedPair → ℕ → List Allowed
first_allowed pair n = allowed_if_begun (nat_le 1 n) pair.first ++ allowed_if_begun (nat_le 2 n) pair.second

-- ---- lines

abbrev pub allowing_entry_text : List Setting → Perms → Option AllowingEntry → Bytes
allowing_entry_text mine asked entry = asked_entry_text (set_text program_of mine) asked (option_map number_and_permissions entry)

abbrev pub allowed_line_of : Context → Allowed → AnswerLine
allowed_line_of c w = allowed_line c.pid c.tree.now.tree (set_text program_of (settings_in c.origins.now)) w

abbrev pub allowed_made : ℕ → List Setting → Prior → MadeCall → State → List AnswerLine
allowed_made pid mine prior m after = map (allowed_line pid after.tree (set_text program_of mine)) (first_allowed (allowed_pair_in prior.walks) m.answer.walks)

abbrev pub reasons_made : ℕ → Prior → MadeCall → State → List AnswerLine
reasons_made pid prior m after =
    error_after pid after (process_at after pid) (call_of m.call) m.answer.outcome
    ++ execve_after pid (restraints_in prior.restraints) after (call_of m.call) m.answer.outcome

-- the lines added to a call that was made
abbrev pub added_made : Bool → ℕ → List Setting → Prior → MadeCall → State → List AnswerLine
added_made errors pid mine prior m after = allowed_made pid mine prior m after ++ (if errors then reasons_made pid prior m after else [])

-- the part of the state before a call that these lines need
pub record IsPrior (allowed : Bool) (s : State) (pid : ℕ) (p : Process) (call : Call) (prior : Prior) : Type 0 where
  pub restraints : restraints_in prior.restraints ≡ restraints_of p
  pub walks : allowed_pair_in prior.walks ≡ (if allowed then pair_before s pid p call else no_pair)
