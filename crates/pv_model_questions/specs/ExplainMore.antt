-- More lines of `explain`: the effect of an execve on the restraints of its process, and the reason why each checked
-- walk was allowed.
use Rattle.std.specs.Prelude.{ℕ, ◌+◌, ◌==◌, Bool, true, false, if◌then◌else◌, List, [], ◌∷◌, ◌++◌, map, filter_map, find, take, codes, Option, None, Some, is_some, option_map, option_and_then}
use Rattle.std.specs.Fmt.{decimal}
use Rattle.pv_model.specs.declared.call.Call.{Call}
use Rattle.pv_model.specs.declared.call.Call.TheVariants.{Unveil}
use Rattle.pv_model.specs.declared.outcome.Outcome.{Outcome}
use Rattle.pv_model.specs.declared.perms.Perms.{Perms}
use Rattle.pv_model.specs.declared.place.Place.{Place}
use Rattle.pv_model.specs.declared.place.Place.TheVariants.{At, Node as Unnamed}
use Rattle.pv_model.specs.declared.target.Target.{Target}
use Rattle.pv_model.specs.declared.target.Target.TheVariants.{Directory, Name}
use Rattle.pv_model.specs.Machine.{Answered, answer, explained_step, settings_next, AnswerLine, answer_line, locations, Settings, settings_of, permissions_in_places, Bytes, end_of, is_allowed, program_of, Next, inside, calls_for, next, Promises, Process, State, process_at, place_found, step, Tree, Table, judgement, permissions_at, target_of, Walk, walks_of}
use Rattle.pv_model.specs.Answers.Explain.{set_text, step_line}
use Rattle.pv_model.specs.Answers.Files.{node_brief}
use Rattle.pv_model.specs.Answers.Levels.{Level, levels}
use Rattle.pv_model.specs.Answers.Lines.{pledged_text, promises_text}
use Rattle.pv_model.specs.Answers.Needs.{begins_program}
use Rattle.pv_model.specs.Answers.Nodes.{name_words}

-- ---- an execve that started a program

-- the restraints of a process: whether it has a table, and whether the table is locked
pub record Restraints : Type 0 where
  pub promises : Option Promises
  pub execpromises : Option Promises
  pub has_table : Bool
  pub is_locked : Bool

abbrev pub restraints_of : Process → Restraints
restraints_of p = record { promises = p.promises; execpromises = p.execpromises; has_table = is_some p.table; is_locked = p.locked }

abbrev pub execpromises_text : Option Promises → Bytes
execpromises_text None = codes ", no execpromises"
execpromises_text (Some set) = codes ", execpromises " ++ promises_text set ++ codes " stay"

-- whether the process had a table or a lock, and whether it has one
abbrev pub kept_text : Bytes → Bool → Bool → Bytes
kept_text what false has = codes ", no " ++ what
kept_text what true true = codes ", " ++ what ++ codes " stays"
kept_text what true false = codes ", " ++ what ++ codes " dropped"

-- the restraints before an execve and after it
abbrev pub execve_text : Restraints → Restraints → Bytes
execve_text old new =
    codes "promises " ++ pledged_text old.promises ++ codes " become " ++ pledged_text new.promises ++ execpromises_text new.execpromises
    ++ (kept_text (codes "table") old.has_table new.has_table ++ kept_text (codes "lock") old.is_locked new.is_locked)

abbrev pub execve_line : ℕ → Restraints → Option Process → List AnswerLine
execve_line pid old None = []
execve_line pid old (Some q) = answer_line pid (codes "WHY") (execve_text old (restraints_of q)) ∷ []

-- the line of a call that started a program, given the restraints before it
abbrev pub execve_after : ℕ → Restraints → State → Call → Outcome → List AnswerLine
execve_after pid old after call outcome = if begins_program call outcome then execve_line pid old (process_at after pid) else []

abbrev pub execve_lines_by : ℕ → Process → Call → Answered → List AnswerLine
execve_lines_by pid p call a = execve_after pid (restraints_of p) a.after call a.outcome

-- ---- walks that were checked and allowed

-- a walk that was allowed: whether the level that allowed it is a directory, its target, the permissions that the walk
-- asked for, and the level's entry with its permissions, or none if there is no table
pub record Allowed : Type 0 where
  pub of_directory : Bool
  pub target : Target
  pub asked : Perms
  pub entry : Option (ℕ × Perms)

abbrev pub is_of_directory : Target → Bool
is_of_directory (Directory n) = true
is_of_directory (Name d name) = false

-- the target of a place by its name, if it has one
abbrev pub named_target : Place → Target
named_target (Unnamed n) = Directory n
named_target (At d name n) = Name d name

-- the target of a level of a place, by the name of the place if the level is the place itself: the call may remove or
-- move its directory
abbrev pub known_by : Place → Target → Target
known_by (At d name (Some m)) (Directory n) = if m == n then Name d name else Directory n
known_by place target = target

abbrev pub has_entry : Level → Bool
has_entry l = is_some l.entry

-- the level whose entry governs a place, if an entry governs it
abbrev pub governing_level : Tree → Table → Place → Option Level
governing_level t table place = find has_entry (levels t table place)

abbrev pub entry_of_level : Table → Level → Option (ℕ × Perms)
entry_of_level table l = option_map (λ k. (k, permissions_at table k)) l.entry

abbrev pub allowed_at_level : Table → Place → Perms → Level → Allowed
allowed_at_level table place asked l =
    record { of_directory = is_of_directory l.target; target = known_by place l.target; asked = asked; entry = entry_of_level table l }

-- the level that allowed a walk to a place; without a table, the place itself
abbrev pub allowed_by : Tree → Option Table → Perms → Place → Option Allowed
allowed_by t None asked place =
    Some (record { of_directory = is_of_directory (target_of t place); target = named_target place; asked = asked; entry = None })
allowed_by t (Some table) asked place = option_map (allowed_at_level table place asked) (governing_level t table place)

-- a walk to a place, if the table allows it
abbrev pub allowed_at : Tree → Option Table → Perms → Place → Option Allowed
allowed_at t table asked place = if is_allowed (judgement t table place asked) then allowed_by t table asked place else None

module _ (s : State) (p : Process) where
  -- a walk that ends at a place that the table allows
  abbrev pub allowed_walk : Walk → Option Allowed
  allowed_walk w = option_and_then (allowed_at s.tree p.table w.needed) (place_found (end_of s p w))

  -- the walks that a call began and that the table allowed; the walk of an unveil is not checked
  abbrev pub allowed_walks : Call → ℕ → List Allowed
  allowed_walks (Unveil path permissions) walks = []
  allowed_walks call walks = filter_map allowed_walk (take walks (walks_of call))

-- ---- their text, by the tree after the call

abbrev pub sort_text : Bool → Bytes
sort_text true = codes "directory "
sort_text false = codes "name "

abbrev pub target_brief : Tree → Target → Bytes
target_brief t (Directory n) = node_brief t n
target_brief t (Name d name) = name_words t d name

-- `source` gives the place where an entry was set
module _ (source : ℕ → Bytes) where
  abbrev pub asked_entry_text : Perms → Option (ℕ × Perms) → Bytes
  asked_entry_text asked None = codes "no table"
  asked_entry_text asked (Some (k, has)) =
      codes "entry " ++ decimal k ++ codes " has " ++ permissions_in_places has ++ codes ", asked " ++ (permissions_in_places asked ++ source k)

  abbrev pub allowed_text : Tree → Allowed → Bytes
  allowed_text t a = codes "allowed, " ++ sort_text a.of_directory ++ target_brief t a.target ++ codes ": " ++ asked_entry_text a.asked a.entry

abbrev pub allowed_line : ℕ → Tree → (ℕ → Bytes) → Allowed → AnswerLine
allowed_line pid t source a = answer_line pid (codes "WHY") (allowed_text source t a)

-- a line for each walk of a call that was checked and allowed
abbrev pub allowed_lines_by : State → ℕ → (ℕ → Bytes) → Process → Call → Answered → List AnswerLine
allowed_lines_by s pid source p call a = map (allowed_line pid a.after.tree source) (allowed_walks s p call a.walks)

-- ---- the lines of a step

module _ (lines : Process → Call → Answered → List AnswerLine) (s : State) (pid : ℕ) where
  abbrev pub lines_of_next : Process → Next → List AnswerLine
  lines_of_next p (inside q) = []
  lines_of_next p (calls_for call) = lines p call (answer program_of s pid call)

  abbrev pub lines_of_process : Option Process → List AnswerLine
  lines_of_process None = []
  lines_of_process (Some p) = lines_of_next p (next p)

  -- the lines of a step that is a call
  unfoldable pub lines_of_call : List AnswerLine
  lines_of_call = lines_of_process (process_at s pid)

-- the effect of the step, if it is an execve that started a program
abbrev pub execve_lines : State → ℕ → List AnswerLine
execve_lines s pid = lines_of_call (execve_lines_by pid) s pid

-- the reasons why the walks of the step were allowed
abbrev pub allowed_lines : (ℕ → Bytes) → State → ℕ → List AnswerLine
allowed_lines source s pid = lines_of_call (allowed_lines_by s pid source) s pid

-- ---- the lines of a run

-- the lines added to a step, given the place where each entry of its process was set
abbrev pub Added : Type 0
Added = (ℕ → Bytes) → State → ℕ → List AnswerLine

abbrev pub source_in : Settings → ℕ → ℕ → Bytes
source_in all pid = set_text program_of (settings_of all pid)

module _ (added : Added) where
  -- the STEP line of step k, its explained lines, and the lines added to it
  abbrev pub step_adding : ℕ → Settings → State → ℕ → List AnswerLine
  step_adding k all s pid =
      step_line program_of k s pid ∷ explained_step program_of (source_in all pid) s pid ++ added (source_in all pid) s pid

  -- the steps from number k on, as `explain_from` has them, with more lines after each
  abbrev pub explain_adding : ℕ → Settings → List ℕ → State → List AnswerLine
  explain_adding k all [] s = locations s
  explain_adding k all (pid ∷ pids) s =
      step_adding k all s pid ++ explain_adding (k + 1) (settings_next program_of s pid all) pids (step program_of s pid).after
