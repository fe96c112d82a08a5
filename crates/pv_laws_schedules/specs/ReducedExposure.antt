-- Laws of `exposure` by the reduced search: the findings about the processes of each program at its lines, and the files of
-- their states. The search shows why a process is not closed to a file, and the file that its next step reads, but
-- neither the other processes nor its possible changes: so lines that are not listed under PEER and EDIT have no law.
use Rattle.std.specs.Prelude.{◌≡◌, ℕ, IsTrue, List, Contains, Option, Some}
use Rattle.pv_model.specs.Machine.{Located, is_file_at, Bytes, Program, Process, State, process_at, run}
use Rattle.pv_model.specs.Closed.{IsClosed}
use Rattle.pv_model_questions.specs.declared.finding_kind.FindingKind.{FindingKind}
use Rattle.pv_model_questions.specs.declared.finding_kind.FindingKind.TheVariants.{Leak, Read}
use Rattle.pv_model_questions.specs.Exposure.{Finding, safe_files_of_first}
use Rattle.pv_laws_answers.specs.Search.{IsSearchable}
use Rattle.pv_laws_answers.specs.Witnesses.{AreSteps}
use Rattle.pv_laws_classes.specs.Reduced.{reduced_found, is_reduced_complete}
use Rattle.pv_laws_schedules.specs.Exposure.{programs_in, findings_by_text, ReadsNext, IsListedIn, IsUnlistedIn, IsFoundAfter, IsWitnessed}

module _ (program_of : Bytes → Option Program) (limit : ℕ) (s : State) where
  -- the programs, each with its processes in all visited states
  abbrev pub reduced_located_programs : List (Located × List Located)
  reduced_located_programs = programs_in (reduced_found program_of s limit)

  abbrev pub IsListedReduced : FindingKind → Program → Bytes → ℕ → Type 0
  IsListedReduced = IsListedIn program_of s.tree (reduced_found program_of s limit)

  -- the search is complete, all steps of the schedule are of live processes, and after it a live process is at a line that
  -- is not listed for a kind and the description of a file of the state
  pub record IsUnlistedReduced (kind : FindingKind) (pids : List ℕ) (pid : ℕ) (p : Process) (f : ℕ) : Type 0 where
    pub searchable : IsSearchable program_of limit s
    pub complete : IsTrue (is_reduced_complete program_of s limit)
    pub steps : AreSteps program_of pids s
    pub unlisted : IsUnlistedIn program_of s (reduced_found program_of s limit) kind pids pid p f

-- if the search is complete, after every schedule of live processes a process of a program at a line that is not listed
-- under LEAK for the description of a file is closed to it
abbrev pub UnlistedLinesAreClosedReduced : Type 0
UnlistedLinesAreClosedReduced =
    (program_of : Bytes → Option Program) (limit : ℕ) (s : State) (pids : List ℕ) (pid : ℕ) (p : Process) (f : ℕ)
    → IsUnlistedReduced program_of limit s Leak pids pid p f → IsClosed (run program_of pids s).final p f

-- if the line is not listed under READ, the next step of the process does not read the file
abbrev pub UnlistedLinesReadNothingReduced : Type 0
UnlistedLinesReadNothingReduced =
    (program_of : Bytes → Option Program) (limit : ℕ) (s : State) (pids : List ℕ) (pid : ℕ) (p : Process) (f : ℕ)
    → IsUnlistedReduced program_of limit s Read pids pid p f → ¬ ReadsNext program_of (run program_of pids s).final pid p f

-- each listed line is found in some schedule, whether the search is complete or not
abbrev pub ListedLinesHappenReduced : Type 0
ListedLinesHappenReduced =
    (program_of : Bytes → Option Program) (limit : ℕ) (s : State) (kind : FindingKind) (program : Program) (file : Bytes) (line : ℕ) → IsSearchable program_of limit s
    → IsListedReduced program_of limit s kind program file line → IsFoundAfter program_of s kind program file line

-- if the search is complete, after every schedule of live processes each process of a program is closed to each file that
-- is listed as safe for it, if its number is still that of a file
abbrev pub SafeFilesAreClosedReduced : Type 0
SafeFilesAreClosedReduced =
    (program_of : Bytes → Option Program) (limit : ℕ) (s : State) (group : Located × List Located) (f : ℕ) (pids : List ℕ) (pid : ℕ) (p : Process) → IsSearchable program_of limit s
    → IsTrue (is_reduced_complete program_of s limit) → Contains (reduced_located_programs program_of limit s) group → Contains (safe_files_of_first s.tree group.1) f → AreSteps program_of pids s
    → process_at (run program_of pids s).final pid ≡ Some p → p.program ≡ group.0.process.program → IsTrue (is_file_at (run program_of pids s).final.tree f)
    → IsClosed (run program_of pids s).final p f

-- the schedule of a line leads to a process at the greatest of the lines and a file with the description, with the reason
-- that is given
abbrev pub WitnessesLeadReduced : Type 0
WitnessesLeadReduced =
    (program_of : Bytes → Option Program) (limit : ℕ) (s : State) (kind : FindingKind) (group : Located × List Located) (findings : Finding × List Finding) → IsSearchable program_of limit s
    → Contains (reduced_located_programs program_of limit s) group → Contains (findings_by_text program_of s.tree kind group.1) findings → IsWitnessed program_of s kind findings
