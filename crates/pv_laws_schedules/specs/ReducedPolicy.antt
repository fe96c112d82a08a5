-- Laws of `policy` by the reduced search: the promises and permissions that each program needs.
use Rattle.std.specs.Prelude.{◌≡◌, ℕ, IsTrue, IsFalse, List, Contains, Option, Some}
use Rattle.pv_model.specs.declared.call.Call.{Call}
use Rattle.pv_model.specs.declared.errno.Errno.TheVariants.{EACCES}
use Rattle.pv_model.specs.declared.outcome.Cause.TheVariants.{Unveil as ByUnveil}
use Rattle.pv_model.specs.declared.outcome.Outcome.TheVariants.{Failed}
use Rattle.pv_model.specs.declared.perms.Perms.{Perms}
use Rattle.pv_model.specs.declared.target.Target.{Target}
use Rattle.pv_model.specs.Machine.{answer, Judged, Observation, groups, is_unveil, Request, Requests, Bytes, covers, calls_for, next, Promises, is_met, Program, Process, State, process_at, step, run, Table}
use Rattle.pv_model.specs.Answers.Policy.{request_program_key}
use Rattle.pv_laws_answers.specs.ProcessImages.{with_promises, with_own_table}
use Rattle.pv_laws_answers.specs.Search.{IsSearchable}
use Rattle.pv_laws_answers.specs.Wanted.{reports_need, reports_of_table}
use Rattle.pv_laws_answers.specs.Witnesses.{AreSteps}
use Rattle.pv_laws_classes.specs.Reduced.{is_reduced_complete}
use Rattle.pv_laws_classes.specs.ReducedAnswers.{reduced_requests}
use Rattle.pv_laws_schedules.specs.Policy.{ListedNeed, MeetsAll, needs_listed, IsRefusedWith, GrantsDemands, GrantsDemandsExcept}

-- the programs, each with its calls
abbrev pub reduced_calling_programs : (Bytes → Option Program) → ℕ → State → List (Observation Request × Requests)
reduced_calling_programs program_of limit s = groups request_program_key (reduced_requests program_of limit s)

-- if the search is complete, each program that makes a call in some schedule is listed
abbrev pub CallingProgramsAreListedReduced : Type 0
CallingProgramsAreListedReduced =
    (program_of : Bytes → Option Program) (limit : ℕ) (s : State) (pids : List ℕ) (pid : ℕ) (p : Process) (call : Call) → IsSearchable program_of limit s
    → IsTrue (is_reduced_complete program_of s limit) → AreSteps program_of pids s → process_at (run program_of pids s).final pid ≡ Some p → next p ≡ calls_for call
    → (group : Observation Request × Requests) × Contains (reduced_calling_programs program_of limit s) group × (group.0.item.process.program ≡ p.program)

-- if the search is complete, no step of a program in any schedule lacks a promise, if it is made with promises that meet
-- all needs that are listed for the program
abbrev pub ListedPromisesAreEnoughReduced : Type 0
ListedPromisesAreEnoughReduced =
    (program_of : Bytes → Option Program) (limit : ℕ) (s : State) (group : Observation Request × Requests) (pids : List ℕ) (pid : ℕ) (p : Process) (set : Promises) → IsSearchable program_of limit s
    → IsTrue (is_reduced_complete program_of s limit) → Contains (reduced_calling_programs program_of limit s) group → AreSteps program_of pids s
    → process_at (run program_of pids s).final pid ≡ Some p → p.program ≡ group.0.item.process.program → MeetsAll set group.1
    → IsFalse (reports_need (step program_of (with_promises (run program_of pids s).final pid set) pid).lines)

-- with promises that do not meet a listed need, the last step of its witness lacks a promise, whether the search is
-- complete or not
abbrev pub ListedPromisesAreNeededReduced : Type 0
ListedPromisesAreNeededReduced =
    (program_of : Bytes → Option Program) (limit : ℕ) (s : State) (group : Observation Request × Requests) (l : ListedNeed) (set : Promises) → IsSearchable program_of limit s
    → Contains (reduced_calling_programs program_of limit s) group → Contains (needs_listed group.1) l → IsFalse (is_met (Some set) l.0) → IsRefusedWith program_of s set l.1

-- if the search is complete, no call of a program in any schedule has an UNVL line of a check, if it is made with a
-- table that gives the permissions that the program asks for; except for a second walk whose call was refused at the
-- first in that state
abbrev pub ListedPermissionsAreEnoughReduced : Type 0
ListedPermissionsAreEnoughReduced =
    (program_of : Bytes → Option Program) (limit : ℕ) (s : State) (group : Observation Request × Requests) (pids : List ℕ) (pid : ℕ) (p : Process) (call : Call) (table : Table)
    → IsSearchable program_of limit s → IsTrue (is_reduced_complete program_of s limit) → Contains (reduced_calling_programs program_of limit s) group → AreSteps program_of pids s
    → process_at (run program_of pids s).final pid ≡ Some p → p.program ≡ group.0.item.process.program → next p ≡ calls_for call → IsFalse (is_unveil call)
    → ((target : Target) → GrantsDemands group.1 (run program_of pids s).final.tree table target)
    → IsTrue (reports_of_table (step program_of (with_own_table (run program_of pids s).final pid table) pid).lines)
    → ((answer program_of (with_own_table (run program_of pids s).final pid table) pid call).walks ≡ 2) × ((answer program_of (run program_of pids s).final pid call).walks ≡ 1)
    × IsTrue (reports_of_table (step program_of (run program_of pids s).final pid).lines)

-- if such a table lacks a permission at one target, the entry that governs it refuses each call of the search that asked
-- for the permission there
abbrev pub ListedPermissionsAreNeededReduced : Type 0
ListedPermissionsAreNeededReduced =
    (program_of : Bytes → Option Program) (limit : ℕ) (s : State) (group : Observation Request × Requests) (r : Observation Request) (w : Judged) (table : Table) (permission : Perms) (k : ℕ)
    → IsSearchable program_of limit s → Contains (reduced_calling_programs program_of limit s) group → Contains group.1 r → Contains r.item.asked.walks w → IsTrue (covers w.permissions permission)
    → GrantsDemandsExcept group.1 r.item.before.tree table w.target permission k
    → (answer program_of (with_own_table r.item.before r.move.pid table) r.move.pid r.item.call).outcome ≡ Failed EACCES (ByUnveil (Some k))
