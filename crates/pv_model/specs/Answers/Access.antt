-- The text of `access`: the accesses of each process under any schedule.
use Rattle.std.specs.Prelude.{ℕ, pos, Bool, true, false, not, ◌&&◌, ◌==◌, if◌then◌else◌, List, [], ◌++◌, map, filter, filter_map, codes, Option, None, Some, is_none, option_map, option_and_then, option_to_list}
use Rattle.std.specs.List.{list_any}
use Rattle.pv_model.specs.declared.call.Call.{Call}
use Rattle.pv_model.specs.declared.call.Call.TheVariants.{Execve, Open, OpenAt, Read, Write, Ftruncate, Mkdir, Symlink, Link, Unlink, Rmdir, Rename}
use Rattle.pv_model.specs.declared.errno.Errno.TheVariants.{ENOEXEC}
use Rattle.pv_model.specs.declared.open_flags.Mode.{Mode}
use Rattle.pv_model.specs.declared.open_flags.OpenFlags.{OpenFlags}
use Rattle.pv_model.specs.declared.outcome.Outcome.{Outcome}
use Rattle.pv_model.specs.declared.outcome.Outcome.TheVariants.{Value, Text, Failed}
use Rattle.pv_model.specs.declared.place.Place.{Place}
use Rattle.pv_model.specs.Answers.Files.{node_brief, named_files}
use Rattle.pv_model.specs.Answers.Lines.{AnswerLine, answer_line}
use Rattle.pv_model.specs.Answers.Observed.{of_calls, observations}
use Rattle.pv_model.specs.Bytes.{Bytes}
use Rattle.pv_model.specs.Calls.Paths.{same_node}
use Rattle.pv_model.specs.Effect.{node_of, name_of, open_file}
use Rattle.pv_model.specs.State.{Program, Process, State, process_at}
use Rattle.pv_model.specs.Step.{Stepped}
use Rattle.pv_model.specs.Touch.{Touch, read_file, change_file, change_entry, report_node, gain_descriptor, descriptor_of, flags_of, places, reports_of_place, reports_of_descriptor, has_succeeded}
use Rattle.pv_model.specs.Tree.{root, find_entry}

-- an access of a call to a file, a name, a node or a new descriptor
pub data Access : Type 0 where
  reads : (f : ℕ) → Access
  executes : (f : ℕ) → Access
  writes : (f : ℕ) → Access
  changes_name : (d : ℕ) (name : Bytes) → Access
  reports : (n : ℕ) → Access
  opens : (n : ℕ) (mode : Mode) → Access

-- the touch that an access can be
abbrev pub touch_of : Access → Touch
touch_of (reads f) = read_file f
touch_of (executes f) = read_file f
touch_of (writes f) = change_file f
touch_of (changes_name d name) = change_entry d name
touch_of (reports n) = report_node n
touch_of (opens n mode) = gain_descriptor n mode

-- ---- the nodes and names of a call

-- whether a call removes or moves the names at its paths, if it succeeds
abbrev pub removes_names : Call → Bool
removes_names (Unlink path) = true
removes_names (Rmdir path) = true
removes_names (Rename path new) = true
removes_names _ = false

-- whether a call creates the absent name at its path, if it succeeds
abbrev pub creates_names : Call → Bool
creates_names (Mkdir path) = true
creates_names (Symlink text path) = true
creates_names (Link path new) = true
creates_names (Open path flags) = true
creates_names (OpenAt start path flags) = true
creates_names _ = false

abbrev pub if_truncated : Option OpenFlags → List ℕ → List ℕ
if_truncated None nodes = []
if_truncated (Some flags) nodes = if flags.truncate then nodes else []

module _ (s : State) (p : Process) where
  abbrev pub nodes_of_places : Call → List ℕ
  nodes_of_places call = filter_map node_of (places s p call)

  abbrev pub node_of_descriptor : Call → List ℕ
  node_of_descriptor call = option_to_list (option_map (λ file. file.1.node) (option_and_then (open_file s p) (descriptor_of call)))

  -- the file whose bytes a read returns, or that an execve cannot parse as a program
  abbrev pub nodes_read : Call → Outcome → List ℕ
  nodes_read (Read d n) (Text taken) = if taken.len == 0 then [] else node_of_descriptor (Read d n)
  nodes_read (Execve path) (Failed ENOEXEC cause) = nodes_of_places (Execve path)
  nodes_read call _ = []

  abbrev pub nodes_executed : Call → Outcome → List ℕ
  nodes_executed (Execve path) (Value n) = nodes_of_places (Execve path)
  nodes_executed call _ = []

  -- the file that a call writes at least one byte to, or whose length it sets
  abbrev pub nodes_written : Call → Outcome → List ℕ
  nodes_written (Write d n) (Value count) = if count == 0 then [] else node_of_descriptor (Write d n)
  nodes_written (Ftruncate d n) (Value count) = node_of_descriptor (Ftruncate d n)
  nodes_written call (Value n) = if_truncated (flags_of call) (nodes_of_places call)
  nodes_written call _ = []

  -- the places whose names a successful call changes
  abbrev pub places_changed : Call → List Place
  places_changed call =
      if removes_names call then places s p call
      else if creates_names call then filter (λ place. is_none (node_of place)) (places s p call)
      else []

  -- the nodes that a successful call reports
  abbrev pub nodes_reported : Call → List ℕ
  nodes_reported call =
      if reports_of_place call then nodes_of_places call
      else if reports_of_descriptor call then node_of_descriptor call
      else []

-- the node of a new descriptor, in the state after the call
abbrev pub node_opened : State → ℕ → Outcome → List ℕ
node_opened after pid (Value d) = option_to_list (option_map (λ file. file.1.node) (option_and_then (λ p. open_file after p (pos d)) (process_at after pid)))
node_opened after pid _ = []

-- ---- the accesses of a step

abbrev pub accesses_by_open : State → ℕ → Outcome → Option OpenFlags → List Access
accesses_by_open after pid outcome None = []
accesses_by_open after pid outcome (Some flags) = map (λ n. opens n flags.mode) (node_opened after pid outcome)

module _ (s : State) (pid : ℕ) (p : Process) (call : Call) (now : Stepped) where
  -- the names, nodes and descriptors of a successful call
  abbrev pub accesses_by_success : List Access
  accesses_by_success =
      map (λ name. changes_name name.0 name.1) (filter_map name_of (places_changed s p call))
      ++ map reports (nodes_reported s p call)
      ++ accesses_by_open now.after pid now.outcome (flags_of call)

  -- the accesses of a call, given the result of the step
  unfoldable pub accesses : List Access
  accesses =
      map reads (nodes_read s p call now.outcome)
      ++ map executes (nodes_executed s p call now.outcome)
      ++ map writes (nodes_written s p call now.outcome)
      ++ (if has_succeeded now.outcome then accesses_by_success else [])

-- ---- the lines

-- the file whose bytes an access depends on
abbrev pub file_read : Access → Option ℕ
file_read (reads f) = Some f
file_read (executes f) = Some f
file_read _ = None

module _ (program_of : Bytes → Option Program) (limit : ℕ) (s : State) where
  -- the files that some step reads or executes
  abbrev pub files_read : List ℕ
  files_read = filter_map (λ o. file_read o.item) (observations (of_calls accesses) program_of limit s)

  abbrev pub is_unread : List ℕ → ℕ → Bool
  is_unread read n = not (same_node (find_entry s.tree root (codes "init")) n) && not (list_any (λ m. m == n) read)

  -- the files of the first tree, other than `init`, that no step reads or executes
  abbrev pub unread_files : List ℕ
  unread_files = filter (is_unread files_read) (named_files s.tree)

  abbrev pub unread_line : ℕ → AnswerLine
  unread_line n = answer_line 0 (codes "UNRD") (node_brief s.tree n)
