-- Laws of `access`: the accesses that it lists, and the files that it lists as unread.
use Rattle.std.specs.Prelude.{◌≡◌, ◌≢◌, ℕ, ◌≤◌, Bool, IsTrue, List, [], ◌∷◌, ◌++◌, length, codes, Contains, Option, None, Some}
use Rattle.std.specs.List.{AllByRecursion, list_any}
use Rattle.pv_model.specs.declared.call.Call.{Call}
use Rattle.pv_model.specs.Machine.{Access, accesses, is_complete, AnswerLine, answer_line, answer_line_bytes, Numbers, Observer, Observation, of_calls, Bytes, with_content, bytes_of, needs, calls_for, next, missing_promise, Program, Process, State, process_at, step, run, boot, read_file, change_file, report_node, gain_descriptor, Justifies, Touches, mode_text, Tree, node_at}
use Rattle.pv_model.specs.Answers.Access.{touch_of, unread_files}
use Rattle.pv_model.specs.Answers.Nodes.{name_words}
use Rattle.pv_model.specs.Touch.{Touch, change_entry}
use Rattle.pv_model_questions.specs.AboutFiles.{keeps_access, keeps_name, keeps_node}
use Rattle.pv_model_questions.specs.Accesses.{access_line, lines_of_accesses, reported_accesses}
use Rattle.pv_model_questions.specs.Briefs.{brief_since}
use Rattle.pv_laws_states.specs.States.{EncodesPrograms, IsFirstTree, IsValid}
use Rattle.pv_laws_answers.specs.Accesses.{is_access_listed}
use Rattle.pv_laws_answers.specs.Search.{IsSearchable}
use Rattle.pv_laws_answers.specs.Unread.{IsNeverRead, StartsWithOtherBytes}
use Rattle.pv_laws_answers.specs.Witnesses.{AreSteps, EachToLater}

-- an item is observed of the last step of its witness, and each schedule with such a step is as long
pub record IsFirstObserved {X : Type 0} (observe : Observer X) (key : X → Numbers) (program_of : Bytes → Option Program) (s : State) (o : Observation X) : Type 0 where
  pub before : List ℕ
  pub witness : o.move.witness ≡ before ++ o.move.pid ∷ []
  pub steps : AreSteps program_of o.move.witness s
  pub last : o.move.stepped ≡ step program_of (run program_of before s).final o.move.pid
  pub item : Contains (observe (run program_of before s).final o.move.pid o.move.stepped) o.item
  pub shortest : (pids : List ℕ) (pid : ℕ) (x : X) → Contains (observe (run program_of pids s).final pid (step program_of (run program_of pids s).final pid)) x → key x ≡ key o.item
      → length before ≤ length pids

-- a line is that of an access of the call of a process, and is about the given files, given the first tree
pub record IsAccessLine (program_of : Bytes → Option Program) (files : List Bytes) (first : Tree) (s : State) (pid : ℕ) (l : AnswerLine) : Type 0 where
  pub process : Process
  pub call : Call
  pub access : Access
  pub live : process_at s pid ≡ Some process
  pub calls : next process ≡ calls_for call
  pub happens : Contains (accesses s pid process call (step program_of s pid)) access
  pub kept : IsTrue (keeps_access files first s.tree (step program_of s pid).after.tree access)
  pub line : l ≡ access_line first s.tree (step program_of s pid).after.tree pid access

-- a listed access happens by its witness, which is a shortest one
pub record IsListedAccess (program_of : Bytes → Option Program) (s : State) (files : List Bytes) (o : Observation AnswerLine) : Type 0 where
  pub first : IsFirstObserved (of_calls (lines_of_accesses files s.tree)) answer_line_bytes program_of s o
  pub access : IsAccessLine program_of files s.tree (run program_of first.before s).final o.move.pid o.item

-- this holds for each listed access, and no two have the same line, whether the search is complete or not
pub record ListedAccesses (program_of : Bytes → Option Program) (limit : ℕ) (s : State) (files : List Bytes) : Type 0 where
  pub happen : AllByRecursion (IsListedAccess program_of s files) (reported_accesses program_of limit s files)
  pub once : EachToLater (λ o q. answer_line_bytes o.item ≢ answer_line_bytes q.item) (reported_accesses program_of limit s files)

abbrev pub ListedAccessesHappen : Type 0
ListedAccessesHappen = (program_of : Bytes → Option Program) (limit : ℕ) (s : State) (files : List Bytes) → IsSearchable program_of limit s → ListedAccesses program_of limit s files

-- if the search is complete, each access of each step in each schedule is listed, and so is each about given files
abbrev pub EachAccessIsListed : Type 0
EachAccessIsListed =
    (program_of : Bytes → Option Program) (limit : ℕ) (s : State) (files : List Bytes) (pids : List ℕ) (pid : ℕ) → IsSearchable program_of limit s → IsTrue (is_complete program_of limit s)
    → AllByRecursion (λ access. IsTrue (is_access_listed access (reported_accesses program_of limit s files)))
    (of_calls (lines_of_accesses files s.tree) (run program_of pids s).final pid (step program_of (run program_of pids s).final pid))

-- ---- unread files

-- no step of a live process from a visited state reads a file that is listed as unread
abbrev pub UnreadFilesAreReadByNone : Type 0
UnreadFilesAreReadByNone =
    (program_of : Bytes → Option Program) (limit : ℕ) (s : State) (f : ℕ) → IsSearchable program_of limit s → Contains (unread_files program_of limit s) f → IsNeverRead program_of limit s f

-- if the search is complete, each image that differs only in the bytes of such a file, with equal length, boots and has
-- the same texts and witnesses
abbrev pub UnreadFilesChangeNothing : Type 0
UnreadFilesChangeNothing =
    (program_of : Bytes → Option Program) (limit : ℕ) (t : Tree) (s : State) (f : ℕ) (bytes : Bytes) → EncodesPrograms program_of → 1 ≤ limit
    → IsFirstTree t → IsFirstTree (with_content t f bytes) → length bytes ≡ length (bytes_of (node_at t f))
    → boot program_of t ≡ Some s → IsTrue (is_complete program_of limit s) → Contains (unread_files program_of limit s) f → StartsWithOtherBytes program_of limit s t f bytes

-- ---- touches

module _ (first before after : Tree) where
  -- the lines of the accesses that a touch of a process can be, with the words of the tree before the step, or after it for
  -- a new descriptor, and with the paths in the first tree
  abbrev pub lines_of_touch : ℕ → Touch → List AnswerLine
  lines_of_touch pid (read_file f) = answer_line pid (codes "READ") (brief_since first before f) ∷ answer_line pid (codes "EXEC") (brief_since first before f) ∷ []
  lines_of_touch pid (change_file f) = answer_line pid (codes "WRIT") (brief_since first before f) ∷ []
  lines_of_touch pid (change_entry d name) = answer_line pid (codes "NAME") (name_words before d name) ∷ []
  lines_of_touch pid (report_node n) = answer_line pid (codes "TELL") (brief_since first before n) ∷ []
  lines_of_touch pid (gain_descriptor n mode) = answer_line pid (codes "OPEN") (mode_text mode ++ codes " " ++ brief_since first after n) ∷ []

  -- whether a touch is one of the given files, or of a name that is given
  abbrev pub keeps_touch : List Bytes → Touch → Bool
  keeps_touch files (read_file f) = keeps_node files first before f
  keeps_touch files (change_file f) = keeps_node files first before f
  keeps_touch files (change_entry d name) = keeps_name files before d name
  keeps_touch files (report_node n) = keeps_node files first before n
  keeps_touch files (gain_descriptor n mode) = keeps_node files first after n

-- if the search is complete, each touch of each step of a schedule is listed with one of these lines, and so is each of
-- given files in the answer about them
abbrev pub TouchesAreListed : Type 0
TouchesAreListed =
    (program_of : Bytes → Option Program) (limit : ℕ) (s : State) (files : List Bytes) (pids : List ℕ) (pid : ℕ) (touch : Touch)
    → IsSearchable program_of limit s → IsTrue (is_complete program_of limit s) → Touches program_of (run program_of pids s).final pid touch
    → IsTrue (keeps_touch s.tree (run program_of pids s).final.tree (step program_of (run program_of pids s).final pid).after.tree files touch)
    → IsTrue (list_any (λ line. is_access_listed line (reported_accesses program_of limit s files))
    (lines_of_touch s.tree (run program_of pids s).final.tree (step program_of (run program_of pids s).final pid).after.tree pid touch))

-- ---- the justification of an access

-- each access is justified as the touch that it can be: the promises of its call are held, and a descriptor, or a place that
-- the table allows, leads to the node or the name
abbrev pub AccessesAreJustified : Type 0
AccessesAreJustified =
    (program_of : Bytes → Option Program) (s : State) (pid : ℕ) (p : Process) (call : Call) (a : Access) → IsValid s → process_at s pid ≡ Some p → next p ≡ calls_for call
    → Contains (accesses s pid p call (step program_of s pid)) a
    → (missing_promise p.promises (needs call) ≡ None) × Justifies s p call (touch_of a)
