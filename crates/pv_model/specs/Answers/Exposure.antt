-- The text of `exposure`: the lines of each program at which a process is not closed to a file, under any schedule.
use Rattle.std.specs.Prelude.{ℕ, suc, Bool, not, ◌||◌, ◌==◌, if◌then◌else◌, max, List, [], ◌∷◌, ◌++◌, map, flat_map, filter, fold, codes, Option, None, Some}
use Rattle.std.specs.Fmt.{decimal}
use Rattle.std.specs.List.{join_by, list_all, range_with_len}
use Rattle.pv_model.specs.declared.verdict.Why.{Why}
use Rattle.pv_model.specs.Answers.Explore.{Found, states_found, is_complete, done_line, witness_text}
use Rattle.pv_model.specs.Answers.Files.{node_brief, is_file_at, named_files, files_of_tree}
use Rattle.pv_model.specs.Answers.Lines.{AnswerLine, answer_line, counted_from}
use Rattle.pv_model.specs.Answers.Nodes.{first_of}
use Rattle.pv_model.specs.Answers.Numbers.{Numbers}
use Rattle.pv_model.specs.Answers.Observed.{groups}
use Rattle.pv_model.specs.Answers.ProgramNames.{program_numbers, program_line}
use Rattle.pv_model.specs.Bytes.{Bytes, is_empty}
use Rattle.pv_model.specs.Held.{among, live_processes}
use Rattle.pv_model.specs.Sealed.{leaks, why_text}
use Rattle.pv_model.specs.State.{Program, Process, State}

-- ---- the processes of a program

-- a live process of a visited state
pub record Located : Type 0 where
  pub found : Found
  pub pid : ℕ
  pub process : Process

abbrev pub located_at : Found → List Located
located_at f = map (λ p. record { found = f; pid = p.0; process = p.1 }) (live_processes f.state.processes)

-- the live processes of all visited states, in the order of the search
abbrev pub located : List Found → List Located
located found = flat_map located_at found

abbrev pub program_key : Located → Numbers
program_key l = program_numbers l.process.program

-- ---- leaks

-- a process that is not closed to a file: the file's description, and the first reason
pub record Leak : Type 0 where
  pub at : Located
  pub file : Bytes
  pub why : Why

abbrev pub leak_of : Located → ℕ → List Why → List Leak
leak_of l f [] = []
leak_of l f (why ∷ whys) = record { at = l; file = node_brief l.found.state.tree f; why = why } ∷ []

-- the files of a state that a process is not closed to
abbrev pub leaks_at : Located → List Leak
leaks_at l = flat_map (λ f. leak_of l f (leaks l.found.state l.process f)) (files_of_tree l.found.state.tree)

abbrev pub leak_line : Leak → ℕ
leak_line leak = leak.at.process.line

abbrev pub greatest_line : List Leak → ℕ
greatest_line ls = fold max 0 (map leak_line ls)

-- the first leak at the greatest line
abbrev pub last_leak : List Leak → Option Leak
last_leak ls = first_of (filter (λ leak. leak_line leak == greatest_line ls) ls)

-- ---- ranges of lines

-- one more number before ranges
abbrev pub onto_ranges : ℕ → List (ℕ × ℕ) → List (ℕ × ℕ)
onto_ranges n [] = (n, n) ∷ []
onto_ranges n ((from, to) ∷ ranges) = if suc n == from then (n, to) ∷ ranges else (n, n) ∷ (from, to) ∷ ranges

-- ascending numbers as ranges: consecutive numbers are joined
abbrev pub in_ranges : List ℕ → List (ℕ × ℕ)
in_ranges [] = []
in_ranges (n ∷ ns) = onto_ranges n (in_ranges ns)

abbrev pub range_text : ℕ × ℕ → Bytes
range_text (from, to) = if from == to then decimal from else decimal from ++ codes "-" ++ decimal to

-- the lines of leaks, each once, by number
abbrev pub lines_leaking : List Leak → List ℕ
lines_leaking ls = filter (among (map leak_line ls)) (range_with_len 1 (greatest_line ls))

abbrev pub ranges_text : List Leak → Bytes
ranges_text ls = join_by range_text (codes ", ") (in_ranges (lines_leaking ls))

-- ---- the lines

abbrev pub leak_text : Leak → List Leak → Bytes
leak_text leak ls = leak.file ++ codes ", lines " ++ ranges_text ls ++ codes ", " ++ why_text leak.why

abbrev pub leak_lines_by : List Leak → Option Leak → List AnswerLine
leak_lines_by ls None = []
leak_lines_by ls (Some leak) =
    answer_line leak.at.pid (codes "BY") (witness_text leak.at.found.witness)
    ∷ answer_line leak.at.pid (codes "LEAK") (leak_text leak ls) ∷ []

-- the leaks of a file: the witness of the first one at the greatest line, and the lines of all
abbrev pub leak_lines : Leak × List Leak → List AnswerLine
leak_lines (first, ls) = leak_lines_by ls (last_leak ls)

-- whether a process is closed to the file with a number, if its state has one
abbrev pub is_closed_to : ℕ → Located → Bool
is_closed_to f l = not (is_file_at l.found.state.tree f) || is_empty (leaks l.found.state l.process f)

module _ (program_of : Bytes → Option Program) (limit : ℕ) (s : State) where
  -- the files of the first tree that every process of a program is closed to in every state
  abbrev pub safe_files : List Located → List ℕ
  safe_files ls = filter (λ f. list_all (is_closed_to f) ls) (named_files s.tree)

  abbrev pub safe_lines : List Located → List AnswerLine
  safe_lines ls = if is_complete program_of limit s then map (λ f. answer_line 0 (codes "SAFE") (node_brief s.tree f)) (safe_files ls) else []

  -- a program: its number, and its processes in all states
  abbrev pub exposure_of_program : ℕ × (Located × List Located) → List AnswerLine
  exposure_of_program (k, (first, ls)) =
      program_line program_of s.tree k first.process.program
      ∷ flat_map leak_lines (groups (λ leak. leak.file) (flat_map leaks_at ls)) ++ safe_lines ls

  unfoldable pub exposure_lines : List AnswerLine
  exposure_lines =
      flat_map exposure_of_program (counted_from 1 (groups program_key (located (states_found program_of limit s))))
      ++ done_line program_of limit s ∷ []
