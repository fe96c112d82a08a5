-- The text of `exposure`: the gains of an attacker who takes over a process, at each line of its program.
use Rattle.std.specs.Prelude.{ℕ, Bool, not, ◌||◌, ◌==◌, if◌then◌else◌, max, List, [], ◌∷◌, ◌++◌, map, flat_map, filter, fold, codes, decimal, Option, None, Some, option_map}
use Rattle.std.specs.List.{join_by, list_all, list_any, range_with_len}
use Rattle.pv_model.specs.declared.verdict.Why.{Why}
use Rattle.pv_model.specs.Answers.Access.{nodes_read}
use Rattle.pv_model.specs.Answers.Explore.{Found, witness_text}
use Rattle.pv_model.specs.Answers.Exposure.{Located, located, program_key, in_ranges, range_text}
use Rattle.pv_model.specs.Answers.Files.{node_brief, is_file_at, named_files, files_of_tree}
use Rattle.pv_model.specs.Answers.Lines.{AnswerLine, answer_line, counted_from}
use Rattle.pv_model.specs.Answers.Nodes.{first_of}
use Rattle.pv_model.specs.Answers.Observed.{Observer, groups, of_calls}
use Rattle.pv_model.specs.Answers.ProgramNames.{program_line}
use Rattle.pv_model.specs.Bytes.{Bytes, is_empty}
use Rattle.pv_model.specs.Held.{among, live_processes}
use Rattle.pv_model.specs.Sealed.{first_leak, leaks, why_text}
use Rattle.pv_model.specs.State.{Program, State}
use Rattle.pv_model.specs.Step.{step}
use Rattle.pv_model.specs.Tree.{Tree}
use Rattle.pv_model_questions.specs.declared.finding_kind.FindingKind.{FindingKind}
use Rattle.pv_model_questions.specs.declared.finding_kind.FindingKind.TheVariants.{Leak, Peer, Edit, Read}
use Rattle.pv_model_questions.specs.Briefs.{brief_since}
use Rattle.pv_model_questions.specs.Fixed.{edits, edit_text}

-- a finding: a process at a line, a schedule, the file's description, and the text that follows the lines
pub record Finding : Type 0 where
  pub at : Located
  pub witness : List ℕ
  pub file : Bytes
  pub reason : Bytes

abbrev pub kinds : List FindingKind
kinds = Leak ∷ Peer ∷ Edit ∷ Read ∷ []

abbrev pub kind_word : FindingKind → Bytes
kind_word Leak = codes "LEAK"
kind_word Peer = codes "PEER"
kind_word Edit = codes "EDIT"
kind_word Read = codes "READ"

-- ---- reasons

abbrev pub peer_text : ℕ × Why → Bytes
peer_text (pid, why) = codes ", process " ++ decimal pid ++ codes " " ++ why_text why

-- the live process with the least number that is not closed to a file, with its first reason
abbrev pub first_leak_of : State → ℕ → Option (ℕ × Why)
first_leak_of s f = first_leak s f (live_processes s.processes)

-- the file whose bytes a step reads, as in `access`
abbrev pub read_observer : Observer ℕ
read_observer = of_calls (λ s pid p call now. nodes_read s p call now.outcome)

module _ (program_of : Bytes → Option Program) (l : Located) (f : ℕ) where
  abbrev pub leak_reason : Option Bytes
  leak_reason = option_map (λ why. codes ", " ++ why_text why) (first_of (leaks l.found.state l.process f))

  -- the process is closed to the file, so it is not the one that leaks first
  abbrev pub peer_reason : Option Bytes
  peer_reason = if is_empty (leaks l.found.state l.process f) then option_map peer_text (first_leak_of l.found.state f) else None

  abbrev pub edit_reason : Option Bytes
  edit_reason = option_map (λ why. codes ", " ++ edit_text why) (first_of (edits l.found.state l.process f))

  abbrev pub read_reason : Option Bytes
  read_reason = if list_any (λ n. n == f) (read_observer l.found.state l.pid (step program_of l.found.state l.pid)) then Some [] else None

  abbrev pub reason_by : FindingKind → Option Bytes
  reason_by Leak = leak_reason
  reason_by Peer = peer_reason
  reason_by Edit = edit_reason
  reason_by Read = read_reason

-- ---- findings

-- the schedule that leads to the state; to a read it includes the step itself
abbrev pub witness_by : FindingKind → Located → List ℕ
witness_by Read l = l.found.witness ++ l.pid ∷ []
witness_by _ l = l.found.witness

module _ (program_of : Bytes → Option Program) (first : Tree) (kind : FindingKind) (l : Located) where
  abbrev pub finding_by : ℕ → Option Bytes → List Finding
  finding_by f None = []
  finding_by f (Some reason) =
      record { at = l; witness = witness_by kind l; file = brief_since first l.found.state.tree f; reason = reason } ∷ []

  -- the findings of a process, in the order of the files of its state
  abbrev pub findings_at : List Finding
  findings_at = flat_map (λ f. finding_by f (reason_by program_of l f kind)) (files_of_tree l.found.state.tree)

-- ---- the lines of findings

abbrev pub finding_line : Finding → ℕ
finding_line x = x.at.process.line

abbrev pub greatest_finding_line : List Finding → ℕ
greatest_finding_line xs = fold max 0 (map finding_line xs)

-- the first finding at the greatest line
abbrev pub last_finding : List Finding → Option Finding
last_finding xs = first_of (filter (λ x. finding_line x == greatest_finding_line xs) xs)

-- the lines of findings, each once, by number
abbrev pub lines_found : List Finding → List ℕ
lines_found xs = filter (among (map finding_line xs)) (range_with_len 1 (greatest_finding_line xs))

abbrev pub finding_ranges_text : List Finding → Bytes
finding_ranges_text xs = join_by range_text (codes ", ") (in_ranges (lines_found xs))

abbrev pub finding_text : Finding → List Finding → Bytes
finding_text x xs = x.file ++ codes ", lines " ++ finding_ranges_text xs ++ x.reason

module _ (kind : FindingKind) where
  abbrev pub finding_lines_by : List Finding → Option Finding → List AnswerLine
  finding_lines_by xs None = []
  finding_lines_by xs (Some x) =
      answer_line x.at.pid (codes "BY") (witness_text x.witness) ∷ answer_line x.at.pid (kind_word kind) (finding_text x xs) ∷ []

  -- the findings of a file: the schedule of the first one at the greatest line, and the lines of all
  abbrev pub finding_lines : Finding × List Finding → List AnswerLine
  finding_lines (first, xs) = finding_lines_by xs (last_finding xs)

-- the findings of a kind, those of one file together
abbrev pub lines_of_findings : FindingKind → List Finding → List AnswerLine
lines_of_findings kind xs = flat_map (finding_lines kind) (groups (λ x. x.file) xs)

-- ---- safe files

abbrev pub are_all_closed : State → ℕ → Bool
are_all_closed s f = list_all (λ p. is_empty (leaks s p.1 f)) (live_processes s.processes)

-- whether every live process is closed to the file with a number, if the state has one
abbrev pub is_safe_in : ℕ → Located → Bool
is_safe_in f l = not (is_file_at l.found.state.tree f) || are_all_closed l.found.state f

-- the files of the first tree that every live process is closed to in every state of the given processes
abbrev pub safe_files_of_first : Tree → List Located → List ℕ
safe_files_of_first first ls = filter (λ f. list_all (is_safe_in f) ls) (named_files first)

abbrev pub safe_line : Tree → ℕ → AnswerLine
safe_line first f = answer_line 0 (codes "SAFE") (node_brief first f)

-- ---- programs

module _ (program_of : Bytes → Option Program) (first : Tree) (complete : Bool) where
  -- the lines of a kind of findings of the processes of a program
  abbrev pub lines_of_kind : List Located → FindingKind → List AnswerLine
  lines_of_kind ls kind = lines_of_findings kind (flat_map (findings_at program_of first kind) ls)

  abbrev pub safe_lines_of_first : List Located → List AnswerLine
  safe_lines_of_first ls = if complete then map (safe_line first) (safe_files_of_first first ls) else []

  -- a program: its number, and its processes in all states
  abbrev pub lines_of_program : ℕ × (Located × List Located) → List AnswerLine
  lines_of_program (k, (l, ls)) =
      program_line program_of first k l.process.program ∷ flat_map (lines_of_kind ls) kinds ++ safe_lines_of_first ls

  -- the lines of the programs of visited states, and the last line
  unfoldable pub exposed_lines : List Found → AnswerLine → List AnswerLine
  exposed_lines found done = flat_map lines_of_program (counted_from 1 (groups program_key (located found))) ++ done ∷ []
