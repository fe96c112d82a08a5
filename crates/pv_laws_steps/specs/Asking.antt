-- Calls that query the tree, a node or a parent commute with steps that leave it unchanged: stat(2), lstat(2),
-- readlink(2), fstat(2), getppid(2).
use Rattle.std.specs.Prelude.{◌≡◌, ◌≢◌, ℕ, ℤ, Bool, true, false, IsTrue, Option, Some}
use Rattle.pv_model.specs.declared.call.Call.{Call}
use Rattle.pv_model.specs.declared.call.Call.TheVariants.{GetPpid, Stat, Lstat, Readlink, Fstat}
use Rattle.pv_model.specs.declared.outcome.Outcome.TheVariants.{Killed}
use Rattle.pv_model.specs.declared.promise.Promise.{Promise}
use Rattle.pv_model.specs.Machine.{Bytes, calls_for, next, open_file, OpenFile, Program, Process, State, process_at, node_at, step}
use Rattle.pv_laws_states.specs.States.{EncodesPrograms, IsValid}
use Rattle.pv_laws_steps.specs.Commuting.{Commute}

-- the calls that query the tree, and change nothing outside their process
abbrev pub queries_tree : Call → Bool
queries_tree (Stat path) = true
queries_tree (Lstat path) = true
queries_tree (Readlink path) = true
queries_tree (Fstat d) = true
queries_tree call = false

-- such a call that does not kill commutes with a step of another process that leaves the tree unchanged
abbrev pub QueryingStepsCommute : Type 0
QueryingStepsCommute =
    (program_of : Bytes → Option Program) → EncodesPrograms program_of → (s : State) (j k : ℕ) (p : Process) (call : Call) → IsValid s → j ≢ k → process_at s j ≡ Some p → next p ≡ calls_for call
    → IsTrue (queries_tree call) → ((a : Promise) → (step program_of s j).outcome ≢ Killed a) → (step program_of s k).after.tree ≡ s.tree
    → Commute program_of s j k

-- the step of process k leaves the node of descriptor d of p unchanged
abbrev pub LeavesNode : (Bytes → Option Program) → State → Process → ℤ → ℕ → Type 0
LeavesNode program_of s p d k = (m : ℕ) (file : OpenFile) → open_file s p d ≡ Some (m, file) → node_at (step program_of s k).after.tree file.node ≡ node_at s.tree file.node

-- an fstat that does not kill commutes with such a step
abbrev pub FstatsCommute : Type 0
FstatsCommute =
    (program_of : Bytes → Option Program) → EncodesPrograms program_of → (s : State) (j k : ℕ) (p : Process) (d : ℤ) → IsValid s → j ≢ k → process_at s j ≡ Some p → next p ≡ calls_for (Fstat d)
    → ((a : Promise) → (step program_of s j).outcome ≢ Killed a) → LeavesNode program_of s p d k
    → Commute program_of s j k

-- a getppid that does not kill commutes with a step that leaves the process unchanged, including its parent
abbrev pub GetPpidsCommute : Type 0
GetPpidsCommute =
    (program_of : Bytes → Option Program) → EncodesPrograms program_of → (s : State) (j k : ℕ) (p : Process) → IsValid s → j ≢ k → process_at s j ≡ Some p → next p ≡ calls_for GetPpid
    → ((a : Promise) → (step program_of s j).outcome ≢ Killed a) → process_at (step program_of s k).after j ≡ Some p
    → Commute program_of s j k
