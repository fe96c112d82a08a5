-- Laws of `access` by the reduced search: the accesses that it lists, and the files that it lists as unread.
use Rattle.std.specs.Prelude.{◌≡◌, ℕ, IsTrue, List, [], ◌∷◌, ◌++◌, length, Contains, Option}
use Rattle.std.specs.List.{list_any}
use Rattle.pv_model.specs.Machine.{Bytes, Program, State, step, run, read_file, file_bytes, with_bytes, Touches}
use Rattle.pv_model.specs.Touch.{Touch}
use Rattle.pv_laws_states.specs.States.{IsValid}
use Rattle.pv_laws_access.specs.Sealing.{RunsDifferInFile}
use Rattle.pv_laws_answers.specs.Accesses.{is_access_listed}
use Rattle.pv_laws_answers.specs.Search.{IsSearchable}
use Rattle.pv_laws_answers.specs.Witnesses.{AreSteps}
use Rattle.pv_laws_classes.specs.Reduced.{is_reduced_complete}
use Rattle.pv_laws_classes.specs.ReducedAnswers.{reduced_accesses, reduced_unread_files}
use Rattle.pv_laws_schedules.specs.Access.{keeps_touch, lines_of_touch}

-- if the search is complete, each touch of each step of a live process in each schedule is listed with one of its lines, and
-- so is each of given files in the answer about them
abbrev pub TouchesAreListedReduced : Type 0
TouchesAreListedReduced =
    (program_of : Bytes → Option Program) (limit : ℕ) (s : State) (files : List Bytes) (pids : List ℕ) (pid : ℕ) (touch : Touch)
    → IsSearchable program_of limit s → IsTrue (is_reduced_complete program_of s limit)
    → AreSteps program_of (pids ++ pid ∷ []) s → Touches program_of (run program_of pids s).final pid touch
    → IsTrue (keeps_touch s.tree (run program_of pids s).final.tree (step program_of (run program_of pids s).final pid).after.tree files touch)
    → IsTrue (list_any (λ line. is_access_listed line (reduced_accesses program_of limit s files))
    (lines_of_touch s.tree (run program_of pids s).final.tree (step program_of (run program_of pids s).final pid).after.tree pid touch))

-- no such step reads a file that is listed as unread
abbrev pub UnreadFilesAreReadByNoneReduced : Type 0
UnreadFilesAreReadByNoneReduced =
    (program_of : Bytes → Option Program) (limit : ℕ) (s : State) (f : ℕ) (pids : List ℕ) (pid : ℕ) → IsSearchable program_of limit s → IsTrue (is_reduced_complete program_of s limit)
    → Contains (reduced_unread_files program_of limit s) f → AreSteps program_of (pids ++ pid ∷ []) s → ¬ Touches program_of (run program_of pids s).final pid (read_file f)

-- and no schedule depends on its bytes, given their number
abbrev pub UnreadFilesChangeNothingReduced : Type 0
UnreadFilesChangeNothingReduced =
    (program_of : Bytes → Option Program) (limit : ℕ) (s : State) (f : ℕ) (bytes : Bytes) (pids : List ℕ) → IsSearchable program_of limit s → IsTrue (is_reduced_complete program_of s limit)
    → Contains (reduced_unread_files program_of limit s) f → IsValid (with_bytes s f bytes) → length bytes ≡ length (file_bytes s f) → AreSteps program_of pids s
    → RunsDifferInFile f (run program_of pids s) (run program_of pids (with_bytes s f bytes))
