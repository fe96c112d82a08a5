-- A run without pledge and execve that starts with promises, compared with the run without promises.
use Rattle.std.specs.Prelude.{◌≡◌, ◌≢◌, ℕ, Bool, true, false, IsTrue, IsFalse, List, [], ◌∷◌, map, Option, None, Some}
use Rattle.std.specs.List.{list_any}
use Rattle.pv_model.specs.declared.call.Call.{Call}
use Rattle.pv_model.specs.declared.call.Call.TheVariants.{Pledge, Execve}
use Rattle.pv_model.specs.declared.promise.Promise.{Promise}
use Rattle.pv_model.specs.declared.promise.Promise.TheVariants.{Rpath, Wpath}
use Rattle.pv_model.specs.Machine.{Asked, same_promise, Bytes, calls_for, next, Promises, contains, Program, Process, ProcessRecord, live, ended_record, State, process_at, step, run}
use Rattle.pv_model.specs.Answers.Needs.{asked_in}

abbrev pub record_begun : Option Promises → ProcessRecord → ProcessRecord
record_begun held (live p) = live (record p { promises = held })
record_begun held (ended_record parent status) = ended_record parent status

-- the state with the promises of each live process replaced
abbrev pub begun_with : Option Promises → State → State
begun_with held s = record s { processes = map (λ r. (r.0, record_begun held r.1)) s.processes }

abbrev pub is_plain_call : Call → Bool
is_plain_call (Pledge promises execpromises) = false
is_plain_call (Execve path) = false
is_plain_call call = true

-- no step of a run is a pledge or an execve
abbrev pub RunsPlainly : (Bytes → Option Program) → List ℕ → State → Type 0
RunsPlainly program_of [] s = Unit {0}
RunsPlainly program_of (pid ∷ pids) s =
    ((p : Process) (call : Call) → process_at s pid ≡ Some p → next p ≡ calls_for call → IsTrue (is_plain_call call)) × RunsPlainly program_of pids (step program_of s pid).after

-- whether a promise is listed for a run, that is, one of its calls needed it
abbrev pub is_listed_in : Promise → List (ℕ × Asked) → Bool
is_listed_in a all = list_any (λ x. list_any (same_promise a) x.1.promises) all

-- if the run starts with all promises that are listed for the run without promises, it has the same trace
abbrev pub AllListedKeepTheTrace : Type 0
AllListedKeepTheTrace =
    (program_of : Bytes → Option Program) (pids : List ℕ) (s : State) (set : Promises) → RunsPlainly program_of pids (begun_with None s)
    → ((a : Promise) → IsTrue (is_listed_in a (asked_in program_of pids (begun_with None s))) → IsTrue (contains set a))
    → (run program_of pids (begun_with (Some set) s)).lines ≡ (run program_of pids (begun_with None s)).lines

-- if the run starts without one of them, it has a different trace; for rpath, it must lack wpath too
abbrev pub MissingPromiseChangesTrace : Type 0
MissingPromiseChangesTrace =
    (program_of : Bytes → Option Program) (pids : List ℕ) (s : State) (set : Promises) (a : Promise) → RunsPlainly program_of pids (begun_with None s)
    → IsTrue (is_listed_in a (asked_in program_of pids (begun_with None s))) → IsFalse (contains set a) → (a ≡ Rpath → IsFalse (contains set Wpath))
    → (run program_of pids (begun_with (Some set) s)).lines ≢ (run program_of pids (begun_with None s)).lines
