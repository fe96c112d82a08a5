-- The data of a process that `access`, `policy` and `exposure` show in a state. They depend neither on numbers of open
-- files, nor on dead variables, nor on steps of other processes on registers; so the reduced search finds all of them.
use Rattle.std.specs.Prelude.{◌≡◌, ◌≢◌, ℕ, ◌≤◌, IsTrue, List, [], ◌∷◌, ◌++◌, length, map, Contains, Option, option_map, is_some}
use Rattle.std.specs.List.{AllByRecursion}
use Rattle.pv_model.specs.declared.call.Call.{Call}
use Rattle.pv_model.specs.declared.outcome.Outcome.{Outcome}
use Rattle.pv_model.specs.declared.verdict.Why.{Why}
use Rattle.pv_model.specs.Machine.{Access, accesses, Found, states_found, is_complete, AnswerLine, answer_line_bytes, Asked, Observation, of_calls, Request, Bytes, Promises, leaks, Program, Process, State, process_at, Stepped, step, run, Tree, Table}
use Rattle.pv_model.specs.Answers.Access.{unread_files}
use Rattle.pv_model.specs.Answers.Policy.{request}
use Rattle.pv_model_questions.specs.Accesses.{lines_of_accesses, reported_accesses}
use Rattle.pv_laws_answers.specs.Accesses.{is_access_listed}
use Rattle.pv_laws_answers.specs.Search.{IsSearchable}
use Rattle.pv_laws_answers.specs.Witnesses.{AreSteps, EachToLater}
use Rattle.pv_laws_classes.specs.Reduced.{may_step, bound_at, reduced_found, is_reduced_complete}
use Rattle.pv_laws_classes.specs.ReducedAnswers.{reduced_accesses, reduced_unread_files}

-- ---- the shown data

-- the data of a call that `policy` shows: all of a request except the rest of the state and of the process before it
pub record ShownCall : Type 0 where
  pub tree : Tree
  pub program : Program
  pub promises : Option Promises
  pub table : Option Table
  pub call : Call
  pub asked : Asked

abbrev pub shown_call : Request → ShownCall
shown_call r = record {
  tree = r.before.tree;
  program = r.process.program;
  promises = r.process.promises;
  table = r.process.table;
  call = r.call;
  asked = r.asked;
}

-- the data of a process that `exposure` shows: its program and line, and why it is not closed to a file
pub record ShownProcess : Type 0 where
  pub tree : Tree
  pub program : Program
  pub line : ℕ
  pub leaks : ℕ → List Why

abbrev pub shown_process : State → Process → ShownProcess
shown_process s p = record { tree = s.tree; program = p.program; line = p.line; leaks = leaks s p }

-- the data of a process and its next step that the three show; the lines of accesses are those about given files, given
-- the first tree
pub record Shown : Type 0 where
  pub outcome : Outcome
  pub accesses : List Access
  pub access_lines : List Bytes → Tree → List AnswerLine
  pub calls : List ShownCall
  pub process : Option ShownProcess

module _ (program_of : Bytes → Option Program) where
  abbrev pub shown_by_step : State → ℕ → Stepped → Shown
  shown_by_step s pid now = record {
    outcome = now.outcome;
    accesses = of_calls accesses s pid now;
    access_lines = λ files first. of_calls (lines_of_accesses files first) s pid now;
    calls = map shown_call (of_calls (request program_of) s pid now);
    process = option_map (shown_process s) (process_at s pid);
  }

  abbrev pub shown_in : State → ℕ → Shown
  shown_in s pid = shown_by_step s pid (step program_of s pid)

-- ---- processes

-- a visited state in which a process shows the same as after a schedule, and may make the next step; its witness is no
-- longer than the schedule
pub record IsSeen (program_of : Bytes → Option Program) (limit : ℕ) (s : State) (pids : List ℕ) (pid : ℕ) : Type 0 where
  pub visited : Found
  pub within : Contains (reduced_found program_of s limit) visited
  pub lives : IsTrue (is_some (process_at visited.state pid))
  pub may : IsTrue (may_step (bound_at program_of s visited) pid)
  pub same : shown_in program_of visited.state pid ≡ shown_in program_of (run program_of pids s).final pid
  pub no_longer : length visited.witness ≤ length pids

-- if the search is complete, there is one for each live process after each schedule
abbrev pub EachProcessIsSeen : Type 0
EachProcessIsSeen =
    (program_of : Bytes → Option Program) (limit : ℕ) (s : State) (pids : List ℕ) (pid : ℕ) → IsSearchable program_of limit s → IsTrue (is_reduced_complete program_of s limit)
    → AreSteps program_of pids s → IsTrue (is_some (process_at (run program_of pids s).final pid)) → IsSeen program_of limit s pids pid

-- a state among these in which a process shows the same, with a witness that is no longer
pub record IsSeenAmong (program_of : Bytes → Option Program) (found : List Found) (f : Found) (pid : ℕ) : Type 0 where
  pub visited : Found
  pub within : Contains found visited
  pub same : shown_in program_of visited.state pid ≡ shown_in program_of f.state pid
  pub no_longer : length visited.witness ≤ length f.witness

abbrev pub AreSeenAmong : (Bytes → Option Program) → List Found → List Found → Type 0
AreSeenAmong program_of found those = (f : Found) (pid : ℕ) → Contains those f → IsTrue (is_some (process_at f.state pid)) → IsSeenAmong program_of found f pid

-- if both searches are complete, whatever their limits, each visits such a state for each live process of each state that
-- the other visits
abbrev pub BothSearchesSeeTheSame : Type 0
BothSearchesSeeTheSame =
    (program_of : Bytes → Option Program) (limit other : ℕ) (s : State) → IsSearchable program_of limit s → IsSearchable program_of other s
    → IsTrue (is_complete program_of limit s) → IsTrue (is_reduced_complete program_of s other)
    → AreSeenAmong program_of (reduced_found program_of s other) (states_found program_of limit s) × AreSeenAmong program_of (states_found program_of limit s) (reduced_found program_of s other)

-- ---- accesses

-- the lines of the accesses of a process's next step about given files, given the first tree
abbrev pub access_lines_of : (Bytes → Option Program) → List Bytes → Tree → State → ℕ → List AnswerLine
access_lines_of program_of files first s pid = of_calls (lines_of_accesses files first) s pid (step program_of s pid)

-- if the search is complete, each access of each step of a live process in each schedule is listed, and so is each about
-- given files
abbrev pub EachAccessIsListedReduced : Type 0
EachAccessIsListedReduced =
    (program_of : Bytes → Option Program) (limit : ℕ) (s : State) (files : List Bytes) (pids : List ℕ) (pid : ℕ) → IsSearchable program_of limit s → IsTrue (is_reduced_complete program_of s limit)
    → AreSteps program_of (pids ++ pid ∷ []) s
    → AllByRecursion (λ access. IsTrue (is_access_listed access (reduced_accesses program_of limit s files))) (access_lines_of program_of files s.tree (run program_of pids s).final pid)

-- an access is one of the last step of its witness, and no schedule of live processes with such an access is shorter
pub record IsShortestAccess (program_of : Bytes → Option Program) (s : State) (files : List Bytes) (o : Observation AnswerLine) : Type 0 where
  pub before : List ℕ
  pub witness : o.move.witness ≡ before ++ o.move.pid ∷ []
  pub steps : AreSteps program_of o.move.witness s
  pub item : Contains (access_lines_of program_of files s.tree (run program_of before s).final o.move.pid) o.item
  pub shortest : (pids : List ℕ) (pid : ℕ) (l : AnswerLine) → AreSteps program_of (pids ++ pid ∷ []) s → Contains (access_lines_of program_of files s.tree (run program_of pids s).final pid) l
      → answer_line_bytes l ≡ answer_line_bytes o.item → length before ≤ length pids

-- this holds for each listed access, and no two have the same line, whether the search is complete or not
pub record ListedAccessesReduced (program_of : Bytes → Option Program) (limit : ℕ) (s : State) (files : List Bytes) : Type 0 where
  pub happen : AllByRecursion (IsShortestAccess program_of s files) (reduced_accesses program_of limit s files)
  pub once : EachToLater (λ o q. answer_line_bytes o.item ≢ answer_line_bytes q.item) (reduced_accesses program_of limit s files)

abbrev pub ListedAccessesHappenReduced : Type 0
ListedAccessesHappenReduced = (program_of : Bytes → Option Program) (limit : ℕ) (s : State) (files : List Bytes) → IsSearchable program_of limit s → ListedAccessesReduced program_of limit s files

-- an access with the same line and a witness of the same length
pub record HasEqualAccess (os : List (Observation AnswerLine)) (o : Observation AnswerLine) : Type 0 where
  pub equal : Observation AnswerLine
  pub within : Contains os equal
  pub line : answer_line_bytes equal.item ≡ answer_line_bytes o.item
  pub count : length equal.move.witness ≡ length o.move.witness

-- two lists of accesses have the same lines, and witnesses of the same lengths
pub record HaveSameAccesses (os qs : List (Observation AnswerLine)) : Type 0 where
  pub there : AllByRecursion (HasEqualAccess qs) os
  pub back : AllByRecursion (HasEqualAccess os) qs
  pub count : length os ≡ length qs

-- if both searches are complete, whatever their limits, both list the same accesses, with witnesses of the same lengths,
-- and the same files as unread
abbrev pub ReducedAccessesAreSame : Type 0
ReducedAccessesAreSame =
    (program_of : Bytes → Option Program) (limit other : ℕ) (s : State) (files : List Bytes) → IsSearchable program_of limit s → IsSearchable program_of other s
    → IsTrue (is_complete program_of limit s) → IsTrue (is_reduced_complete program_of s other)
    → HaveSameAccesses (reduced_accesses program_of other s files) (reported_accesses program_of limit s files) × (reduced_unread_files program_of other s ≡ unread_files program_of limit s)
