-- The findings that are collected of the visited states: of each program, kind, line and file text the first.
use Rattle.std.specs.Prelude.{ℕ, ◌/◌, ◌%◌, Bool, ◌==◌, if◌then◌else◌, max, List, [], ◌∷◌, ◌++◌, map, flat_map, filter, fold, codes, bytes_eq, Option, None, Some}
use Rattle.std.specs.List.{join_by, list_any, range_with_len}
use Rattle.pv_model.specs.Machine.{witness_text, Located, in_ranges, program_key, Found, AnswerLine, answer_line, first_of, Numbers, groups, program_numbers, Bytes, program_of, among, Program, Tree}
use Rattle.pv_model.specs.Answers.Exposure.{located_at, range_text}
use Rattle.pv_model.specs.Answers.ProgramNames.{program_line}
use Rattle.pv_model_questions.specs.declared.finding_kind.FindingKind.{FindingKind}
use Rattle.pv_model_questions.specs.declared.finding_kind.FindingKind.TheVariants.{Leak, Peer, Edit, Read}
use Rattle.pv_model_questions.specs.Accesses.{kept_files}
use Rattle.pv_model_questions.specs.Exposure.{Finding, is_safe_in, kind_word, kinds, finding_line, safe_line}
use Rattle.pv_model_questions.specs.ExposureAbout.{findings_about}

-- ---- findings

-- a finding as it is stored: its schedule, the process and its line, the text of the file, and the text after the lines
pub record Recorded : Type 0 where
  pub witness : List ℕ
  pub pid : ℕ
  pub line : ℕ
  pub file : Bytes
  pub reason : Bytes

abbrev pub recorded_of : Finding → Recorded
recorded_of x = record { witness = x.witness; pid = x.at.pid; line = finding_line x; file = x.file; reason = x.reason }

-- those about given files, given the first tree
abbrev pub recorded_at : List Bytes → Tree → FindingKind → Located → List Recorded
recorded_at files first kind l = map recorded_of (findings_about files program_of first kind l)

-- the key of a line and a file text
abbrev pub record_key : ℕ → Bytes → Bytes
record_key line file = line / 256 ∷ line % 256 ∷ file

abbrev pub key_of_recorded : Recorded → Bytes
key_of_recorded k = record_key k.line k.file

abbrev pub has_key : List Recorded → Bytes → Bool
has_key ks key = list_any (λ k. bytes_eq key (key_of_recorded k)) ks

-- the findings with one more, unless one at the same line has the same file text
abbrev pub with_one : List Recorded → Recorded → List Recorded
with_one ks k = if has_key ks (key_of_recorded k) then ks else ks ++ k ∷ []

abbrev pub with_all : List Recorded → List Recorded → List Recorded
with_all ks [] = ks
with_all ks (x ∷ xs) = with_all (with_one ks x) xs

-- ---- programs

-- a program, its findings, and the files of the first tree that every process was closed to in the states of its
-- processes
pub record Exposed : Type 0 where
  pub program : Program
  pub leaks : List Recorded
  pub peers : List Recorded
  pub edits : List Recorded
  pub reads : List Recorded
  pub safe : List ℕ

abbrev pub findings_of : FindingKind → Exposed → List Recorded
findings_of Leak e = e.leaks
findings_of Peer e = e.peers
findings_of Edit e = e.edits
findings_of Read e = e.reads

-- the record of a program before its first process
abbrev pub exposed_none : List ℕ → Program → Exposed
exposed_none named program = record { program = program; leaks = []; peers = []; edits = []; reads = []; safe = named }

abbrev pub is_of : Numbers → Exposed → Bool
is_of ns e = bytes_eq ns (program_numbers e.program)

module _ (files : List Bytes) (first : Tree) where
  -- the record after another process of the program
  abbrev pub exposed_more : Exposed → Located → Exposed
  exposed_more e l = record {
    program = e.program;
    leaks = with_all e.leaks (recorded_at files first Leak l);
    peers = with_all e.peers (recorded_at files first Peer l);
    edits = with_all e.edits (recorded_at files first Edit l);
    reads = with_all e.reads (recorded_at files first Read l);
    safe = filter (λ f. is_safe_in f l) e.safe;
  }

  module _ (named : List ℕ) where
    -- the records after another process, of a known program or of a new one
    abbrev pub exposed_with : List Exposed → Located → List Exposed
    exposed_with [] l = exposed_more (exposed_none named l.process.program) l ∷ []
    exposed_with (e ∷ es) l = if is_of (program_key l) e then exposed_more e l ∷ es else e ∷ exposed_with es l

    abbrev pub exposed_after : List Exposed → List Located → List Exposed
    exposed_after es [] = es
    exposed_after es (l ∷ ls) = exposed_after (exposed_with es l) ls

    -- the records of visited states
    abbrev pub exposed_of_found : List Exposed → List Found → List Exposed
    exposed_of_found es found = exposed_after es (flat_map located_at found)

-- ---- the lines

-- the greatest line of findings
abbrev pub greatest : List Recorded → ℕ
greatest ks = fold max 0 (map (λ k. k.line) ks)

-- the first finding at the greatest line
abbrev pub last_recorded : List Recorded → Option Recorded
last_recorded ks = first_of (filter (λ k. k.line == greatest ks) ks)

-- the lines of findings, by number
abbrev pub lines_recorded : List Recorded → List ℕ
lines_recorded ks = filter (among (map (λ k. k.line) ks)) (range_with_len 1 (greatest ks))

abbrev pub ranges_recorded : List Recorded → Bytes
ranges_recorded ks = join_by range_text (codes ", ") (in_ranges (lines_recorded ks))

abbrev pub recorded_text : Recorded → Bytes → Bytes
recorded_text k ranges = k.file ++ codes ", lines " ++ ranges ++ k.reason

module _ (kind : FindingKind) where
  abbrev pub recorded_lines_by : Bytes → Option Recorded → List AnswerLine
  recorded_lines_by ranges None = []
  recorded_lines_by ranges (Some k) =
      answer_line k.pid (codes "BY") (witness_text k.witness) ∷ answer_line k.pid (kind_word kind) (recorded_text k ranges) ∷ []

  -- the lines of the findings of a file text
  abbrev pub recorded_finding_lines : Recorded × List Recorded → List AnswerLine
  recorded_finding_lines (first, ks) = recorded_lines_by (ranges_recorded ks) (last_recorded ks)

  -- the lines of the findings of all file texts
  abbrev pub all_recorded_lines : List Recorded → List AnswerLine
  all_recorded_lines ks = flat_map recorded_finding_lines (groups (λ k. k.file) ks)

  abbrev pub lines_recorded_of : Exposed → List AnswerLine
  lines_recorded_of e = all_recorded_lines (findings_of kind e)

abbrev pub all_lines_recorded_of : Exposed → List AnswerLine
all_lines_recorded_of e = flat_map (λ kind. lines_recorded_of kind e) kinds

module _ (files : List Bytes) (t : Tree) where
  -- the lines of a program, given whether the search is complete
  abbrev pub lines_of_exposed : Bool → ℕ × Exposed → List AnswerLine
  lines_of_exposed complete (k, e) =
      program_line program_of t k e.program ∷ all_lines_recorded_of e ++ (if complete then map (safe_line t) (kept_files files t e.safe) else [])
