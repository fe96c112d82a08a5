-- The text of `explain`: a trace with explanations.
use Rattle.std.specs.Prelude.{ℕ, ◌+◌, ◌/◌, Bool, true, false, not, ◌&&◌, ◌==◌, if◌then◌else◌, List, [], ◌∷◌, ◌++◌, map, flat_map, codes, Option, None, Some, slice_index, slice_get, take, drop}
use Rattle.std.specs.Fmt.{decimal}
use Rattle.std.specs.List.{join_by}
use Rattle.std.specs.Result.{is_err}
use Rattle.pv_model.specs.declared.call.Call.{Call}
use Rattle.pv_model.specs.declared.call.Call.TheVariants.{Wait, Pledge, Unveil, Read, Write, Fstat, Stat, Lstat}
use Rattle.pv_model.specs.declared.perms.Perms.{Perms}
use Rattle.pv_model.specs.declared.place.Place.{Place}
use Rattle.pv_model.specs.declared.target.Target.{Target}
use Rattle.pv_model.specs.declared.target.Target.TheVariants.{Directory, Name}
use Rattle.pv_model.specs.Answer.{Answered, answer}
use Rattle.pv_model.specs.Answers.Levels.{Level, levels}
use Rattle.pv_model.specs.Answers.Lines.{AnswerLine, answer_line, of_trace, permissions_in_places, keyword_list, pledged_text}
use Rattle.pv_model.specs.Answers.Nodes.{node_path, node_words, name_words}
use Rattle.pv_model.specs.Answers.ProcessRecord.{locations}
use Rattle.pv_model.specs.Answers.Settings.{Setting, Settings, settings_of, settings_after}
use Rattle.pv_model.specs.Bytes.{Bytes}
use Rattle.pv_model.specs.Calls.Restraints.{entries_of_table}
use Rattle.pv_model.specs.Effect.{open_file, end_of}
use Rattle.pv_model.specs.Image.{number_of}
use Rattle.pv_model.specs.Listing.{listed_path}
use Rattle.pv_model.specs.Needs.{needs}
use Rattle.pv_model.specs.Program.{Next, inside, calls_for, next}
use Rattle.pv_model.specs.Promise.{promise_name}
use Rattle.pv_model.specs.Promises.{Promises, Need, read_promises, narrow_promises, is_lenient}
use Rattle.pv_model.specs.State.{OpenFile, Program, Process, State, process_at}
use Rattle.pv_model.specs.Step.{step}
use Rattle.pv_model.specs.Touch.{place_found}
use Rattle.pv_model.specs.Trace.{PromiseVerdict, for_kill, for_refusal, for_increase, UnveilVerdict, entry_lacks, table_locked, Word, pldg_word, unvl_word, gio_word, Line, quote, call_name, call_lines, gone_lines, asked_permissions}
use Rattle.pv_model.specs.Unveil.{permissions_at}
use Rattle.pv_model.specs.Walks.{Walk, walks_of, walk_number}

-- ---- decisions by promises

-- a need: its promise, or its alternatives
abbrev pub need_text : Need → Bytes
need_text need = join_by promise_name (codes "|") need

-- the needs of a call, and the promises that the process has
abbrev pub lack_text : Call → Option Promises → Bytes
lack_text call held = call_name call ++ codes " needs " ++ keyword_list (map need_text (needs call)) ++ codes ", has " ++ pledged_text held

abbrev pub asked_set : Option Bytes → Option Promises
asked_set None = None
asked_set (Some text) = read_promises text

abbrev pub increase_text : Bytes → Option Promises → Option Promises → Bytes
increase_text what asked held = what ++ codes " asked " ++ pledged_text asked ++ codes ", has " ++ pledged_text held

-- the first refused argument of a pledge
abbrev pub first_increase_text : Process → Option Promises → Option Promises → Bytes
first_increase_text p asked exec_asked =
    if is_err (narrow_promises (is_lenient p.promises) p.promises asked) then increase_text (codes "promises") asked p.promises
    else increase_text (codes "execpromises") exec_asked p.execpromises

abbrev pub pledge_text : Process → Call → Bytes
pledge_text p (Pledge promises execpromises) = first_increase_text p (asked_set promises) (asked_set execpromises)
pledge_text p call = []

abbrev pub promise_reason : Process → Call → PromiseVerdict → Bytes
promise_reason p call for_kill = lack_text call p.promises
promise_reason p call for_refusal = lack_text call p.promises
promise_reason p call for_increase = pledge_text p call

-- ---- decisions by tables

-- the permissions of the second set that the first lacks
abbrev pub permissions_lacked : Perms → Perms → Perms
permissions_lacked has asked =
    record { r = asked.r && not has.r; w = asked.w && not has.w; x = asked.x && not has.x; c = asked.c && not has.c }

module _ (s : State) (p : Process) (source : ℕ → Bytes) where
  -- the permissions of an entry
  abbrev pub entry_has : ℕ → Bytes
  entry_has k = codes "entry " ++ decimal k ++ codes " has " ++ permissions_in_places (permissions_at (entries_of_table p.table) k)

  -- the reason to refuse an unveil that would widen an entry
  abbrev pub widening_text : ℕ → Perms → Bytes
  widening_text k asked = entry_has k ++ codes ", asked " ++ permissions_in_places asked ++ source k

  abbrev pub found_text : Perms → Option ℕ → Bytes
  found_text asked None = codes "no entry"
  found_text asked (Some k) =
      entry_has k ++ codes ", lacks " ++ permissions_in_places (permissions_lacked (permissions_at (entries_of_table p.table) k) asked) ++ source k

  abbrev pub directory_words : ℕ → Option Bytes → Bytes
  directory_words n None = node_words s.tree n
  directory_words n (Some path) = quote (listed_path path)

  abbrev pub level_words : Target → Bytes
  level_words (Directory n) = codes "directory " ++ directory_words n (node_path s.tree n)
  level_words (Name d name) = codes "name " ++ name_words s.tree d name

  abbrev pub level_text : Perms → Level → Bytes
  level_text asked l = level_words l.target ++ codes ": " ++ found_text asked l.entry

  abbrev pub judgement_texts : Perms → Option Place → List Bytes
  judgement_texts asked None = []
  judgement_texts asked (Some place) = map (level_text asked) (levels s.tree (entries_of_table p.table) place)

  abbrev pub place_walked : Option Walk → Option Place
  place_walked None = None
  place_walked (Some w) = place_found (end_of s p w)

  -- the levels of the decision about a call's last walk
  abbrev pub walk_reasons : Call → ℕ → List Bytes
  walk_reasons call walks = judgement_texts (asked_permissions call walks) (place_walked (walk_number (walks_of call) walks))

  abbrev pub unveil_reasons : Call → ℕ → UnveilVerdict → List Bytes
  unveil_reasons call walks table_locked = codes "the table is locked" ∷ []
  unveil_reasons (Unveil path permissions) walks (entry_lacks k asked) = widening_text k asked ∷ []
  unveil_reasons call walks _ = walk_reasons call walks

-- ---- the meaning of bytes

abbrev pub sort_words : ℕ → Bytes
sort_words sort =
    if sort == 1 then codes "directory"
    else if sort == 2 then codes "file"
    else if sort == 3 then codes "executable"
    else codes "link"

-- the eight bytes of stat(2)
abbrev pub status_words : Bytes → Bytes
status_words bytes =
    sort_words (slice_index bytes 0) ++ codes ", node " ++ decimal (number_of (take 2 (drop 2 bytes)))
    ++ codes ", size " ++ decimal (number_of (drop 4 bytes))

-- the four bytes of wait(2)
abbrev pub ended_words : ℕ → Bytes
ended_words status = if status == 6 then codes "SIGABRT" else codes "exit " ++ decimal (status / 256)

abbrev pub node_of_file : State → Option (ℕ × OpenFile) → Bytes
node_of_file s None = []
node_of_file s (Some (k, file)) = codes ", " ++ node_words s.tree file.node

-- the meaning of the bytes that a call transferred, in the state after it
abbrev pub moved_text : State → Process → Call → Bytes → Bytes
moved_text after p Wait bytes = ended_words (number_of bytes)
moved_text after p (Stat path) bytes = status_words bytes
moved_text after p (Lstat path) bytes = status_words bytes
moved_text after p (Fstat d) bytes = status_words bytes
moved_text after p (Read d n) bytes = quote bytes ++ node_of_file after (open_file after p d)
moved_text after p (Write d n) bytes = quote bytes ++ node_of_file after (open_file after p d)
moved_text after p call bytes = quote bytes

-- ---- the lines of a step

module _ (s : State) (pid : ℕ) (p : Process) (source : ℕ → Bytes) (call : Call) (a : Answered) where
  -- the explanations after a line of a trace
  abbrev pub remarks : Word → List AnswerLine
  remarks (pldg_word by promise verdict) = answer_line pid (codes "WHY") (promise_reason p call verdict) ∷ []
  remarks (unvl_word verdict) = map (answer_line pid (codes "WHY")) (unveil_reasons s p source call a.walks verdict)
  remarks (gio_word direction (b ∷ bs)) = answer_line pid (codes "TEXT") (moved_text a.after p call (b ∷ bs)) ∷ []
  remarks _ = []

  abbrev pub with_remarks : Line → List AnswerLine
  with_remarks l = of_trace l ∷ remarks l.word

  abbrev pub explained_call : List AnswerLine
  explained_call = flat_map with_remarks (call_lines pid p call a)

module _ (program_of : Bytes → Option Program) where
  module _ (source : ℕ → Bytes) (s : State) (pid : ℕ) where
    abbrev pub explained_next : Process → Next → List AnswerLine
    explained_next p (inside q) = []
    explained_next p (calls_for call) = explained_call s pid p source call (answer program_of s pid call)

    abbrev pub explained_of : Option Process → List AnswerLine
    explained_of None = map of_trace (gone_lines pid)
    explained_of (Some p) = explained_next p (next p)

    -- the lines of a step with their explanations; `source` gives the place where an entry was set
    unfoldable pub explained_step : List AnswerLine
    explained_step = explained_of (process_at s pid)

  -- ---- the lines of a run

  abbrev pub earlier_text : Bool → Bytes
  earlier_text true = codes ", of an earlier program"
  earlier_text false = []

  abbrev pub setting_text : Option Setting → Bytes
  setting_text None = []
  setting_text (Some setting) = codes ", set at line " ++ decimal setting.line ++ earlier_text setting.earlier

  -- the place where an entry of a process was set
  abbrev pub set_text : List Setting → ℕ → Bytes
  set_text mine k = setting_text (slice_get mine k)

  abbrev pub location_at : Option Process → Bytes
  location_at None = []
  location_at (Some p) = codes ", line " ++ decimal p.line

  -- the number of a step, and the line of its process
  abbrev pub step_line : ℕ → State → ℕ → AnswerLine
  step_line k s pid = answer_line pid (codes "STEP") (decimal k ++ location_at (process_at s pid))

  abbrev pub settings_by : State → ℕ → Settings → Process → Next → Settings
  settings_by s pid all p (inside q) = all
  settings_by s pid all p (calls_for call) = let now = step program_of s pid in settings_after s pid p now.after all call now.outcome

  abbrev pub settings_of_step : State → ℕ → Settings → Option Process → Settings
  settings_of_step s pid all None = all
  settings_of_step s pid all (Some p) = settings_by s pid all p (next p)

  -- the settings after a step
  abbrev pub settings_next : State → ℕ → Settings → Settings
  settings_next s pid all = settings_of_step s pid all (process_at s pid)

  -- the steps from number k on, followed by the position of each process
  abbrev pub explain_from : ℕ → Settings → List ℕ → State → List AnswerLine
  explain_from k all [] s = locations s
  explain_from k all (pid ∷ pids) s =
      step_line k s pid
      ∷ explained_step (set_text (settings_of all pid)) s pid
      ++ explain_from (k + 1) (settings_next s pid all) pids (step program_of s pid).after

  -- the lines of a run with their explanations
  unfoldable pub explain_lines : List ℕ → State → List AnswerLine
  explain_lines pids s = explain_from 1 [] pids s
