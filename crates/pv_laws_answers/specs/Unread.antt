-- Laws of a file that no step of a search reads: the search does not depend on its bytes.
use Rattle.std.specs.Prelude.{◌≡◌, ◌≢◌, ℕ, ◌≤◌, IsTrue, List, [], ◌∷◌, ◌++◌, length, map, codes, bytes_eq, Option, Some, is_some}
use Rattle.std.specs.List.{AllByRecursion, list_any}
use Rattle.pv_model.specs.Machine.{Move, states_found, is_complete, move_text, Bytes, with_content, bytes_of, Program, State, process_at, step, run, boot, read_file, file_bytes, with_bytes, Touches, Tree, root, node_at, find_entry}
use Rattle.pv_model.specs.Answers.Explore.{move_lines}
use Rattle.pv_laws_states.specs.States.{EncodesPrograms, IsFirstTree, IsValid}
use Rattle.pv_laws_access.specs.Sealing.{RunsDifferInFile}
use Rattle.pv_laws_answers.specs.Search.{IsSearchable, HasLeastWitness, text_of_step, reported}
use Rattle.pv_laws_answers.specs.Witnesses.{AreSteps}

-- no step of a live process from a visited state reads the file
abbrev pub IsNeverRead : (Bytes → Option Program) → ℕ → State → ℕ → Type 0
IsNeverRead program_of limit s f =
    AllByRecursion (λ g. (pid : ℕ) → IsTrue (is_some (process_at g.state pid)) → ¬ Touches program_of g.state pid (read_file f)) (states_found program_of limit s)

-- along the witness of a reported step, the steps from another state are of live processes too, and the last one has
-- the same lines
pub record HasSameWitness (program_of : Bytes → Option Program) (other : State) (m : Move) : Type 0 where
  pub before : List ℕ
  pub witness : m.witness ≡ before ++ m.pid ∷ []
  pub steps : AreSteps program_of m.witness other
  pub lines : (step program_of (run program_of before other).final m.pid).lines ≡ m.stepped.lines

-- the state with other bytes in a file has the same texts and witnesses
pub record HasSameReports (program_of : Bytes → Option Program) (limit : ℕ) (s : State) (f : ℕ) (bytes : Bytes) : Type 0 where
  -- each schedule has the same lines, and the final states differ only in these bytes
  pub schedules : (pids : List ℕ) → RunsDifferInFile f (run program_of pids s) (run program_of pids (with_bytes s f bytes))
  -- each reported witness is a witness there, and the least for its text
  pub witnesses : AllByRecursion (HasSameWitness program_of (with_bytes s f bytes)) (reported program_of limit s)
  pub least : AllByRecursion (HasLeastWitness program_of (with_bytes s f bytes)) (reported program_of limit s)
  -- each text there is reported here
  pub texts : (pids : List ℕ) (pid : ℕ) → IsTrue (is_some (process_at (run program_of pids (with_bytes s f bytes)).final pid))
      → text_of_step program_of (run program_of pids (with_bytes s f bytes)).final pid ≢ []
      → IsTrue (list_any (λ m. bytes_eq (move_text m) (text_of_step program_of (run program_of pids (with_bytes s f bytes)).final pid)) (reported program_of limit s))
  -- so a complete search there reports the same lines; it may visit more states, and need a greater limit
  pub search : (more : ℕ) → 1 ≤ more → IsTrue (is_complete program_of more (with_bytes s f bytes))
      → map move_lines (reported program_of more (with_bytes s f bytes)) ≡ map move_lines (reported program_of limit s)

-- if a search is complete and no step that it makes reads a file, each state with other bytes of equal length in it has
-- the same texts and witnesses
abbrev pub UnreadIsNotReported : Type 0
UnreadIsNotReported =
    (program_of : Bytes → Option Program) (limit : ℕ) (s : State) (f : ℕ) (bytes : Bytes) → IsSearchable program_of limit s → IsTrue (is_complete program_of limit s)
    → IsNeverRead program_of limit s f → IsValid (with_bytes s f bytes) → length bytes ≡ length (file_bytes s f) → HasSameReports program_of limit s f bytes

-- the image with other bytes in a file boots too, and has the same texts and witnesses
pub record StartsWithOtherBytes (program_of : Bytes → Option Program) (limit : ℕ) (s : State) (t : Tree) (f : ℕ) (bytes : Bytes) : Type 0 where
  pub boots : boot program_of (with_content t f bytes) ≡ Some (with_bytes s f bytes)
  pub reports : HasSameReports program_of limit s f bytes

-- the same holds for images that differ only in the bytes of such a file, which are of equal length, if the file is not
-- the one that `init` names
abbrev pub UnreadFilesAreNotReported : Type 0
UnreadFilesAreNotReported =
    (program_of : Bytes → Option Program) (limit : ℕ) (t : Tree) (s : State) (f : ℕ) (bytes : Bytes) → EncodesPrograms program_of → 1 ≤ limit
    → IsFirstTree t → IsFirstTree (with_content t f bytes) → length bytes ≡ length (bytes_of (node_at t f)) → find_entry t root (codes "init") ≢ Some f
    → boot program_of t ≡ Some s → IsTrue (is_complete program_of limit s) → IsNeverRead program_of limit s f → StartsWithOtherBytes program_of limit s t f bytes
