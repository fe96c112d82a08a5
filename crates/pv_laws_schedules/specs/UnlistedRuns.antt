-- Laws of the runs from states whose processes are at lines that `exposure` does not list.
use Rattle.std.specs.Prelude.{◌≡◌, ◌≢◌, ℕ, IsTrue, List, [], length, Contains, Option, Some}
use Rattle.pv_model.specs.Machine.{files_of_tree, Bytes, Program, Process, State, process_at, run, file_bytes, with_bytes, names_of}
use Rattle.pv_model_questions.specs.declared.finding_kind.FindingKind.TheVariants.{Leak, Peer, Edit}
use Rattle.pv_laws_access.specs.OwnRuns.{AreOwnSteps, IsThereThroughout}
use Rattle.pv_laws_access.specs.Sealing.{RunsDifferInFile, WritesNothing}
use Rattle.pv_laws_answers.specs.Search.{IsSearchable}
use Rattle.pv_laws_answers.specs.Witnesses.{AreSteps}
use Rattle.pv_laws_classes.specs.Reduced.{reduced_found, is_reduced_complete}
use Rattle.pv_laws_schedules.specs.Exposure.{IsUnlisted, IsUnlistedIn, IsCompleteSearch}
use Rattle.pv_laws_schedules.specs.ReducedExposure.{IsUnlistedReduced}

-- a run of one process and those that are forked from it is the same with other bytes of equal length in a file
abbrev pub OwnRunsAreEqual : (Bytes → Option Program) → State → ℕ → ℕ → Type 0
OwnRunsAreEqual program_of u pid f =
    (own : List ℕ) (bytes : Bytes) → AreOwnSteps u pid own → length bytes ≡ length (file_bytes u f)
    → RunsDifferInFile f (run program_of own u) (run program_of own (with_bytes u f bytes))

-- such a run does not change the bytes of a file while it is there
abbrev pub OwnRunsKeep : (Bytes → Option Program) → State → ℕ → ℕ → Type 0
OwnRunsKeep program_of u pid f =
    (own : List ℕ) → AreOwnSteps u pid own → IsThereThroughout program_of own u f → file_bytes (run program_of own u).final f ≡ file_bytes u f

-- a file is sealed after each run of any processes, which is the same with other bytes of equal length in the file
abbrev pub AllRunsAreEqual : (Bytes → Option Program) → State → ℕ → Type 0
AllRunsAreEqual program_of u f = (pids : List ℕ) (bytes : Bytes) → length bytes ≡ length (file_bytes u f) → WritesNothing program_of u pids f bytes

-- if the search is complete, and after a schedule a process is at a line that is not listed under LEAK for the description
-- of a file, no run of this process and those that are forked from it depends on the bytes of the file
abbrev pub UnlistedLinesRunEqually : Type 0
UnlistedLinesRunEqually =
    (program_of : Bytes → Option Program) (limit : ℕ) (s : State) (pids : List ℕ) (pid : ℕ) (p : Process) (f : ℕ) → IsCompleteSearch program_of limit s
    → IsUnlisted program_of limit s Leak pids pid p f → OwnRunsAreEqual program_of (run program_of pids s).final pid f

-- if the line is not listed under EDIT, no such run changes the bytes of the file while it is there
abbrev pub UnlistedLinesKeep : Type 0
UnlistedLinesKeep =
    (program_of : Bytes → Option Program) (limit : ℕ) (s : State) (pids : List ℕ) (pid : ℕ) (p : Process) (f : ℕ) → IsCompleteSearch program_of limit s
    → IsUnlisted program_of limit s Edit pids pid p f → OwnRunsKeep program_of (run program_of pids s).final pid f

-- if it is listed neither under LEAK nor under PEER, and the file has a name, it is sealed, and no run depends on its bytes
abbrev pub UnlistedLinesSeal : Type 0
UnlistedLinesSeal =
    (program_of : Bytes → Option Program) (limit : ℕ) (s : State) (pids : List ℕ) (pid : ℕ) (p : Process) (f : ℕ) → IsCompleteSearch program_of limit s
    → IsUnlisted program_of limit s Leak pids pid p f → IsUnlisted program_of limit s Peer pids pid p f → names_of (run program_of pids s).final.tree f ≢ []
    → AllRunsAreEqual program_of (run program_of pids s).final f

-- if all live processes are at lines that are not listed under LEAK, and the file has a name, it is sealed too
abbrev pub UnlistedFilesAreSealed : Type 0
UnlistedFilesAreSealed =
    (program_of : Bytes → Option Program) (limit : ℕ) (s : State) (pids : List ℕ) (f : ℕ) → IsCompleteSearch program_of limit s
    → Contains (files_of_tree (run program_of pids s).final.tree) f → names_of (run program_of pids s).final.tree f ≢ []
    → ((pid : ℕ) (p : Process) → process_at (run program_of pids s).final pid ≡ Some p → IsUnlisted program_of limit s Leak pids pid p f)
    → AllRunsAreEqual program_of (run program_of pids s).final f

-- the same by the reduced search, for LEAK
abbrev pub UnlistedLinesRunEquallyReduced : Type 0
UnlistedLinesRunEquallyReduced =
    (program_of : Bytes → Option Program) (limit : ℕ) (s : State) (pids : List ℕ) (pid : ℕ) (p : Process) (f : ℕ)
    → IsUnlistedReduced program_of limit s Leak pids pid p f → OwnRunsAreEqual program_of (run program_of pids s).final pid f

abbrev pub UnlistedFilesAreSealedReduced : Type 0
UnlistedFilesAreSealedReduced =
    (program_of : Bytes → Option Program) (limit : ℕ) (s : State) (pids : List ℕ) (f : ℕ) → IsSearchable program_of limit s → IsTrue (is_reduced_complete program_of s limit)
    → AreSteps program_of pids s → Contains (files_of_tree (run program_of pids s).final.tree) f → names_of (run program_of pids s).final.tree f ≢ []
    → ((pid : ℕ) (p : Process) → process_at (run program_of pids s).final pid ≡ Some p → IsUnlistedIn program_of s (reduced_found program_of s limit) Leak pids pid p f)
    → AllRunsAreEqual program_of (run program_of pids s).final f
