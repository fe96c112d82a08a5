-- Laws of `exposure`: the findings about the processes of each program at its lines, and the files of their states.
use Rattle.std.specs.Prelude.{◌≡◌, ◌↔◌, ℕ, ◌≤◌, IsTrue, List, flat_map, Contains, Option, None, Some}
use Rattle.pv_model.specs.Machine.{Found, states_found, is_complete, Located, program_key, in_ranges, is_file_at, files_of_tree, groups, Bytes, Program, Process, State, process_at, step, run, Tree, IsWellFormed}
use Rattle.pv_model.specs.Answers.Exposure.{located}
use Rattle.pv_model.specs.Closed.{IsClosed}
use Rattle.pv_model_questions.specs.declared.finding_kind.FindingKind.{FindingKind}
use Rattle.pv_model_questions.specs.declared.finding_kind.FindingKind.TheVariants.{Leak, Peer, Edit, Read}
use Rattle.pv_model_questions.specs.Briefs.{brief_since}
use Rattle.pv_model_questions.specs.Exposure.{Finding, read_observer, findings_at, last_finding, greatest_finding_line, finding_line, lines_found, reason_by, safe_files_of_first, witness_by}
use Rattle.pv_laws_states.specs.States.{IsValid}
use Rattle.pv_laws_access.specs.OwnRuns.{IsFixed}
use Rattle.pv_laws_answers.specs.Search.{IsSearchable}
use Rattle.pv_laws_answers.specs.Witnesses.{AreSteps, IsWitness}

-- ---- the statements of the kinds of findings

-- another live process is not closed to a file
pub record IsOpenToAnother (u : State) (f : ℕ) : Type 0 where
  pub pid : ℕ
  pub process : Process
  pub live : process_at u pid ≡ Some process
  pub open_to : ¬ IsClosed u process f

abbrev pub AreAllClosed : State → ℕ → Type 0
AreAllClosed u f = (pid : ℕ) (p : Process) → process_at u pid ≡ Some p → IsClosed u p f

module _ (program_of : Bytes → Option Program) (u : State) (pid : ℕ) (p : Process) (f : ℕ) where
  -- the next step of the process reads the file
  abbrev pub ReadsNext : Type 0
  ReadsNext = Contains (read_observer u pid (step program_of u pid)) f

  abbrev pub IsFinding : FindingKind → Type 0
  IsFinding Leak = ¬ IsClosed u p f
  IsFinding Peer = IsClosed u p f × IsOpenToAnother u f
  IsFinding Edit = ¬ IsFixed u p f
  IsFinding Read = ReadsNext

  -- the opposite of a finding
  abbrev pub HasNone : FindingKind → Type 0
  HasNone Leak = IsClosed u p f
  HasNone Peer = IsClosed u p f → AreAllClosed u f
  HasNone Edit = IsFixed u p f
  HasNone Read = ¬ ReadsNext

-- a process in a state, as the searches have it
abbrev pub located_in : List ℕ → State → ℕ → Process → Located
located_in pids u pid p = record { found = record { witness = pids; state = u }; pid = pid; process = p }

-- there is no reason if and only if there is no finding, and each reason is that of a finding
pub record IsExactReason (program_of : Bytes → Option Program) (l : Located) (f : ℕ) (kind : FindingKind) : Type 0 where
  pub none : (reason_by program_of l f kind ≡ None) ↔ HasNone program_of l.found.state l.pid l.process f kind
  pub some : (reason : Bytes) → reason_by program_of l f kind ≡ Some reason → IsFinding program_of l.found.state l.pid l.process f kind

abbrev pub ReasonsAreExact : Type 0
ReasonsAreExact =
    (program_of : Bytes → Option Program) (l : Located) (f : ℕ) (kind : FindingKind) → IsValid l.found.state → process_at l.found.state l.pid ≡ Some l.process
    → IsExactReason program_of l f kind

-- ---- lists

abbrev pub IsInRanges : ℕ → List (ℕ × ℕ) → Type 0
IsInRanges line ranges = (r : ℕ × ℕ) × Contains ranges r × (r.0 ≤ line) × (line ≤ r.1)

-- the programs of visited states, each with its processes
abbrev pub programs_in : List Found → List (Located × List Located)
programs_in found = groups program_key (located found)

module _ (program_of : Bytes → Option Program) (first : Tree) where
  -- the findings of a kind about processes, by their texts
  abbrev pub findings_by_text : FindingKind → List Located → List (Finding × List Finding)
  findings_by_text kind ls = groups (λ x. x.file) (flat_map (findings_at program_of first kind) ls)

  -- about the processes of these states, a program has a line of a kind with the description of a file and a range that
  -- includes a line
  pub record IsListedIn (found : List Found) (kind : FindingKind) (program : Program) (file : Bytes) (line : ℕ) : Type 0 where
    pub group : Located × List Located
    pub listed : Contains (programs_in found) group
    pub same_program : group.0.process.program ≡ program
    pub findings : Finding × List Finding
    pub findings_listed : Contains (findings_by_text kind group.1) findings
    pub same_file : findings.0.file ≡ file
    pub range : IsInRanges line (in_ranges (lines_found findings.1))

module _ (program_of : Bytes → Option Program) (s : State) where
  -- after a schedule, a live process is at a line that is not listed for a kind and the description of a file of the state
  pub record IsUnlistedIn (found : List Found) (kind : FindingKind) (pids : List ℕ) (pid : ℕ) (p : Process) (f : ℕ) : Type 0 where
    pub live : process_at (run program_of pids s).final pid ≡ Some p
    pub file : Contains (files_of_tree (run program_of pids s).final.tree) f
    pub unlisted : ¬ IsListedIn program_of s.tree found kind p.program (brief_since s.tree (run program_of pids s).final.tree f) p.line

  -- after a schedule of live processes, there is a finding of a kind about a process of a program at a line and a file with
  -- a description
  pub record IsFoundAfter (kind : FindingKind) (program : Program) (file : Bytes) (line : ℕ) : Type 0 where
    pub pids : List ℕ
    pub steps : AreSteps program_of pids s
    pub pid : ℕ
    pub process : Process
    pub live : process_at (run program_of pids s).final pid ≡ Some process
    pub same_program : process.program ≡ program
    pub same_line : process.line ≡ line
    pub number : ℕ
    pub within : Contains (files_of_tree (run program_of pids s).final.tree) number
    pub same_file : brief_since s.tree (run program_of pids s).final.tree number ≡ file
    pub finding : IsFinding program_of (run program_of pids s).final pid process number kind

  -- the schedule of a line leads to a process at the greatest of the lines and a file with the description, with the reason
  -- that is given
  pub record IsWitnessed (kind : FindingKind) (findings : Finding × List Finding) : Type 0 where
    pub finding : Finding
    pub is_last : last_finding findings.1 ≡ Some finding
    pub greatest : finding_line finding ≡ greatest_finding_line findings.1
    pub reached : IsWitness program_of s finding.at.found.witness finding.at.found.state
    pub live : process_at finding.at.found.state finding.at.pid ≡ Some finding.at.process
    pub witness : finding.witness ≡ witness_by kind finding.at
    pub steps : AreSteps program_of finding.witness s
    pub number : ℕ
    pub within : Contains (files_of_tree finding.at.found.state.tree) number
    pub same_file : brief_since s.tree finding.at.found.state.tree number ≡ findings.0.file
    pub reason : reason_by program_of finding.at number kind ≡ Some finding.reason

module _ (program_of : Bytes → Option Program) (limit : ℕ) (s : State) where
  -- the programs, each with its processes in all visited states
  abbrev pub located_programs : List (Located × List Located)
  located_programs = programs_in (states_found program_of limit s)

  abbrev pub IsListed : FindingKind → Program → Bytes → ℕ → Type 0
  IsListed = IsListedIn program_of s.tree (states_found program_of limit s)

  abbrev pub IsUnlisted : FindingKind → List ℕ → ℕ → Process → ℕ → Type 0
  IsUnlisted = IsUnlistedIn program_of s (states_found program_of limit s)

  -- the search is complete
  pub record IsCompleteSearch : Type 0 where
    pub searchable : IsSearchable program_of limit s
    pub complete : IsTrue (is_complete program_of limit s)

-- ---- laws

-- if the search is complete, in every schedule there is no reason of a kind about a process of a program and a file, if the
-- line of the process is not listed for the kind and the description of the file
abbrev pub UnlistedLinesHaveNoReason : Type 0
UnlistedLinesHaveNoReason =
    (program_of : Bytes → Option Program) (limit : ℕ) (s : State) (kind : FindingKind) (pids : List ℕ) (pid : ℕ) (p : Process) (f : ℕ) → IsCompleteSearch program_of limit s
    → IsUnlisted program_of limit s kind pids pid p f → reason_by program_of (located_in pids (run program_of pids s).final pid p) f kind ≡ None

-- so if the line is not listed under LEAK, the process is closed to the file
abbrev pub UnlistedLinesAreClosed : Type 0
UnlistedLinesAreClosed =
    (program_of : Bytes → Option Program) (limit : ℕ) (s : State) (pids : List ℕ) (pid : ℕ) (p : Process) (f : ℕ) → IsCompleteSearch program_of limit s
    → IsUnlisted program_of limit s Leak pids pid p f → IsClosed (run program_of pids s).final p f

-- if it is listed neither under LEAK nor under PEER, all live processes are closed to the file
abbrev pub UnlistedLinesCloseAll : Type 0
UnlistedLinesCloseAll =
    (program_of : Bytes → Option Program) (limit : ℕ) (s : State) (pids : List ℕ) (pid : ℕ) (p : Process) (f : ℕ) → IsCompleteSearch program_of limit s
    → IsUnlisted program_of limit s Leak pids pid p f → IsUnlisted program_of limit s Peer pids pid p f → AreAllClosed (run program_of pids s).final f

-- if it is not listed under EDIT, the process is fixed to the file
abbrev pub UnlistedLinesAreFixed : Type 0
UnlistedLinesAreFixed =
    (program_of : Bytes → Option Program) (limit : ℕ) (s : State) (pids : List ℕ) (pid : ℕ) (p : Process) (f : ℕ) → IsCompleteSearch program_of limit s
    → IsUnlisted program_of limit s Edit pids pid p f → IsFixed (run program_of pids s).final p f

-- if it is not listed under READ, the next step of the process does not read the file
abbrev pub UnlistedLinesReadNothing : Type 0
UnlistedLinesReadNothing =
    (program_of : Bytes → Option Program) (limit : ℕ) (s : State) (pids : List ℕ) (pid : ℕ) (p : Process) (f : ℕ) → IsCompleteSearch program_of limit s
    → IsUnlisted program_of limit s Read pids pid p f → ¬ ReadsNext program_of (run program_of pids s).final pid p f

-- each listed line is found in some schedule, whether the search is complete or not
abbrev pub ListedLinesHappen : Type 0
ListedLinesHappen =
    (program_of : Bytes → Option Program) (limit : ℕ) (s : State) (kind : FindingKind) (program : Program) (file : Bytes) (line : ℕ) → IsSearchable program_of limit s
    → IsListed program_of limit s kind program file line → IsFoundAfter program_of s kind program file line

abbrev pub WitnessesLead : Type 0
WitnessesLead =
    (program_of : Bytes → Option Program) (limit : ℕ) (s : State) (kind : FindingKind) (group : Located × List Located) (findings : Finding × List Finding) → IsSearchable program_of limit s
    → Contains (located_programs program_of limit s) group → Contains (findings_by_text program_of s.tree kind group.1) findings → IsWitnessed program_of s kind findings

-- if the search is complete, in every schedule all live processes are closed to each file that is listed as safe for a
-- program, if a process of this program is live and the number is still that of a file
abbrev pub SafeFilesAreClosed : Type 0
SafeFilesAreClosed =
    (program_of : Bytes → Option Program) (limit : ℕ) (s : State) (group : Located × List Located) (f : ℕ) (pids : List ℕ) (pid : ℕ) (p : Process) → IsCompleteSearch program_of limit s
    → Contains (located_programs program_of limit s) group → Contains (safe_files_of_first s.tree group.1) f → process_at (run program_of pids s).final pid ≡ Some p
    → p.program ≡ group.0.process.program → IsTrue (is_file_at (run program_of pids s).final.tree f) → AreAllClosed (run program_of pids s).final f

-- the files of a tree, named or held, are all its files: so the laws above are about each file of a state
abbrev pub EachFileIsListed : Type 0
EachFileIsListed = (t : Tree) → IsWellFormed t → (f : ℕ) → IsTrue (is_file_at t f) → Contains (files_of_tree t) f
