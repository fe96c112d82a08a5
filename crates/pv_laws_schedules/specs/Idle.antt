-- Laws of the promises that `policy` lists as idle.
use Rattle.std.specs.Prelude.{◌≡◌, ℕ, not, ◌&&◌, IsTrue, IsFalse, List, filter, Contains, Option, None, Some}
use Rattle.std.specs.List.{list_any}
use Rattle.pv_model.specs.declared.call.Call.{Call}
use Rattle.pv_model.specs.declared.promise.Promise.{Promise}
use Rattle.pv_model.specs.Machine.{is_complete, same_promise, Observation, Request, Requests, Bytes, calls_for, next, Promises, contains, Program, Process, State, process_at, Stepped, step, run}
use Rattle.pv_model.specs.Answers.Observed.{is_pledge}
use Rattle.pv_model.specs.Answers.Policy.{is_idle, promises_in_use}
use Rattle.pv_laws_answers.specs.Begun.{begun_with}
use Rattle.pv_laws_answers.specs.ProcessImages.{with_promises}
use Rattle.pv_laws_answers.specs.Search.{IsSearchable}
use Rattle.pv_laws_answers.specs.Witnesses.{AreSteps}
use Rattle.pv_laws_classes.specs.Reduced.{is_reduced_complete}
use Rattle.pv_laws_schedules.specs.Policy.{calling_programs}
use Rattle.pv_laws_schedules.specs.ReducedPolicy.{reduced_calling_programs}

-- the promises that are listed as idle for a program
abbrev pub listed_idle_promises : Requests → List Promise
listed_idle_promises rs = filter (is_idle rs) promises_in_use

-- promises lack the idle ones, and are otherwise those that a process holds
abbrev pub LacksIdle : Requests → (held set : Promises) → Type 0
LacksIdle rs held set = (a : Promise) → contains set a ≡ (contains held a && not (list_any (same_promise a) (listed_idle_promises rs)))

-- two steps have the same lines, and the next states are equal up to promises
pub record StepsDifferInPromises (a b : Stepped) : Type 0 where
  pub lines : b.lines ≡ a.lines
  pub after : begun_with None b.after ≡ begun_with None a.after

-- if the search is complete, each step of a program in any schedule, other than pledge, has the same lines and the same
-- effect if it is made without the idle promises
abbrev pub IdlePromisesAreIdle : Type 0
IdlePromisesAreIdle =
    (program_of : Bytes → Option Program) (limit : ℕ) (s : State) (group : Observation Request × Requests) (pids : List ℕ) (pid : ℕ) (p : Process) (held set : Promises) → IsSearchable program_of limit s
    → IsTrue (is_complete program_of limit s) → Contains (calling_programs program_of limit s) group → process_at (run program_of pids s).final pid ≡ Some p → p.program ≡ group.0.item.process.program
    → ((call : Call) → next p ≡ calls_for call → IsFalse (is_pledge call)) → p.promises ≡ Some held → LacksIdle group.1 held set
    → StepsDifferInPromises (step program_of (run program_of pids s).final pid) (step program_of (with_promises (run program_of pids s).final pid set) pid)

-- the same by the reduced search
abbrev pub IdlePromisesAreIdleReduced : Type 0
IdlePromisesAreIdleReduced =
    (program_of : Bytes → Option Program) (limit : ℕ) (s : State) (group : Observation Request × Requests) (pids : List ℕ) (pid : ℕ) (p : Process) (held set : Promises) → IsSearchable program_of limit s
    → IsTrue (is_reduced_complete program_of s limit) → Contains (reduced_calling_programs program_of limit s) group → AreSteps program_of pids s
    → process_at (run program_of pids s).final pid ≡ Some p → p.program ≡ group.0.item.process.program
    → ((call : Call) → next p ≡ calls_for call → IsFalse (is_pledge call)) → p.promises ≡ Some held → LacksIdle group.1 held set
    → StepsDifferInPromises (step program_of (run program_of pids s).final pid) (step program_of (with_promises (run program_of pids s).final pid set) pid)
