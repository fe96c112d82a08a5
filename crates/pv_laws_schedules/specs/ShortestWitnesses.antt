-- Laws of the witnesses of `policy` and `exposure`: each leads to the state of its item, and no shorter schedule leads to
-- such an item.
use Rattle.std.specs.Prelude.{◌≡◌, ℕ, ◌≤◌, IsTrue, IsFalse, List, [], ◌∷◌, ◌++◌, length, Contains, Option, Some}
use Rattle.std.specs.List.{list_any}
use Rattle.pv_model.specs.declared.perms.Perms.{Perms}
use Rattle.pv_model.specs.Machine.{answer, Located, Judged, asked_by, Move, Observation, Request, Requests, Bytes, needs, no_permissions, covers, calls_for, next, Need, Program, State, process_at, run}
use Rattle.pv_model.specs.Answers.Policy.{same_need, is_none_of}
use Rattle.pv_model_questions.specs.declared.finding_kind.FindingKind.{FindingKind}
use Rattle.pv_model_questions.specs.Exposure.{Finding, last_finding, finding_line}
use Rattle.pv_laws_answers.specs.Search.{IsSearchable}
use Rattle.pv_laws_answers.specs.Witnesses.{AreSteps}
use Rattle.pv_laws_schedules.specs.Exposure.{findings_by_text, located_programs, IsFoundAfter}
use Rattle.pv_laws_schedules.specs.Policy.{ListedNeed, needs_listed, newly_asked, walks_by_words, calling_programs}

-- ---- policy

-- the next call of a process in the state after a schedule, with its demands
pub record IsCallAfter (program_of : Bytes → Option Program) (s : State) (pids : List ℕ) (pid : ℕ) (r : Request) : Type 0 where
  pub state : r.before ≡ (run program_of pids s).final
  pub live : process_at r.before pid ≡ Some r.process
  pub calls : next r.process ≡ calls_for r.call
  pub asked : r.asked ≡ asked_by r.before r.process r.call (answer program_of r.before pid r.call)

-- a call of a program with a property is the last of its witness, and no shorter schedule ends with such a call
pub record IsShortestCall (Has : Request → Type 0) (program_of : Bytes → Option Program) (s : State) (program : Program) (m : Move) (own : Request) : Type 0 where
  pub before : List ℕ
  pub witness : m.witness ≡ before ++ m.pid ∷ []
  pub steps : AreSteps program_of m.witness s
  pub last : IsCallAfter program_of s before m.pid own
  pub same_program : own.process.program ≡ program
  pub has : Has own
  pub shortest : (pids : List ℕ) (pid : ℕ) (r : Request) → IsCallAfter program_of s pids pid r → r.process.program ≡ program → Has r → length before ≤ length pids

-- a call needs some promises
abbrev pub HasNeed : Need → Request → Type 0
HasNeed need r = IsTrue (list_any (same_need need) (needs r.call))

-- the witness of a line PLDG ends with a call of the program that has the need, and no shorter schedule does
abbrev pub NeedWitnessesAreShortest : Type 0
NeedWitnessesAreShortest =
    (program_of : Bytes → Option Program) (limit : ℕ) (s : State) (group : Observation Request × Requests) (l : ListedNeed) → IsSearchable program_of limit s
    → Contains (calling_programs program_of limit s) group → Contains (needs_listed group.1) l
    → IsShortestCall (HasNeed l.0) program_of s group.0.item.process.program l.1.move l.1.item

-- a call asks for permissions at a target with some words
abbrev pub AsksAtTarget : Bytes → Perms → Request → Type 0
AsksAtTarget words permission r = (w : Judged) × Contains r.asked.walks w × (w.words ≡ words) × IsTrue (covers w.permissions permission)

-- the witness of a line UNVL ends with a call of the program that asks for its permissions at a target with its words, and
-- no shorter schedule ends with a call that asks there for any of them
abbrev pub PermissionWitnessesAreShortest : Type 0
PermissionWitnessesAreShortest =
    (program_of : Bytes → Option Program) (limit : ℕ) (s : State) (group : Observation Request × Requests) (g : Observation Judged × List (Observation Judged)) (l : Perms × Observation Judged) (permission : Perms)
    → IsSearchable program_of limit s → Contains (calling_programs program_of limit s) group → Contains (walks_by_words group.1) g → Contains (newly_asked no_permissions g.1) l
    → IsTrue (covers l.0 permission) → IsFalse (is_none_of permission)
    → (own : Request) × IsShortestCall (AsksAtTarget g.0.item.words permission) program_of s group.0.item.process.program l.1.move own

-- ---- exposure

-- no schedule that leads to a finding of the kind, about the program at the greatest of the lines and a file with the
-- description, is shorter than the witness of a line
abbrev pub FindingWitnessesAreShortest : Type 0
FindingWitnessesAreShortest =
    (program_of : Bytes → Option Program) (limit : ℕ) (s : State) (kind : FindingKind) (group : Located × List Located) (findings : Finding × List Finding) (finding : Finding)
    → IsSearchable program_of limit s → Contains (located_programs program_of limit s) group → Contains (findings_by_text program_of s.tree kind group.1) findings
    → last_finding findings.1 ≡ Some finding → (other : IsFoundAfter program_of s kind group.0.process.program findings.0.file (finding_line finding))
    → length finding.at.found.witness ≤ length other.pids
