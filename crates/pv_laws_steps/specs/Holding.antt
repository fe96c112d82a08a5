-- Steps that change the references of their process commute with independent steps of other processes: descriptors with
-- close(2), dup(2), dup2(2); the directory with chdir(2), fchdir(2); the table with unveil(2); program, table and
-- descriptors with execve(2).
use Rattle.std.specs.Prelude.{◌≡◌, ◌≢◌, ℕ, pos, Bool, true, false, if◌then◌else◌, ◌==◌, IsTrue, Option, None, Some}
use Rattle.pv_model.specs.declared.call.Call.{Call}
use Rattle.pv_model.specs.declared.call.Call.TheVariants.{Unveil, Execve, Close, Dup, Dup2, Fchdir, Chdir}
use Rattle.pv_model.specs.declared.outcome.Outcome.TheVariants.{Killed}
use Rattle.pv_model.specs.declared.promise.Promise.{Promise}
use Rattle.pv_model.specs.Machine.{Bytes, open_file, at_number, calls_for, next, OpenFile, Descriptor, Program, Process, State, process_at, step, is_directory_at}
use Rattle.pv_laws_states.specs.States.{EncodesPrograms, IsValid}
use Rattle.pv_laws_steps.specs.Commuting.{Commute}

-- the calls that change the descriptors of their process, and create no open file
abbrev pub changes_descriptors : Call → Bool
changes_descriptors (Close d) = true
changes_descriptors (Dup d) = true
changes_descriptors (Dup2 d e) = true
changes_descriptors call = false

-- the step of a process leaves the open files unchanged: each keeps a descriptor
abbrev pub LeavesOpenFiles : (Bytes → Option Program) → State → ℕ → Type 0
LeavesOpenFiles program_of s pid = (step program_of s pid).after.files ≡ s.files

-- the number of the descriptor that such a call closes or replaces
abbrev pub closes_number : Call → Option ℕ
closes_number (Close (pos d)) = Some d
closes_number (Dup2 (pos d) (pos e)) = if d == e then None else Some e
closes_number call = None

-- an open file has a descriptor other than number n of the process: another one of the process, or one of another
-- process
pub record HasOtherDescriptor (s : State) (pid n m : ℕ) : Type 0 where
  pub user : ℕ
  pub process : Process
  pub number : ℕ
  pub descriptor : Descriptor
  pub there : process_at s user ≡ Some process
  pub own : at_number process.descriptors number ≡ Some descriptor
  pub same : descriptor.file ≡ m
  pub another : user ≡ pid → number ≢ n

-- such a call that does not kill removes no open file if the open file that it closes has another descriptor
abbrev pub DescriptorStepsLeave : Type 0
DescriptorStepsLeave =
    (program_of : Bytes → Option Program) (s : State) (pid : ℕ) (p : Process) (call : Call) → IsValid s → process_at s pid ≡ Some p → next p ≡ calls_for call
    → IsTrue (changes_descriptors call) → ((a : Promise) → (step program_of s pid).outcome ≢ Killed a)
    → ((n : ℕ) (v : Descriptor) → closes_number call ≡ Some n → at_number p.descriptors n ≡ Some v → HasOtherDescriptor s pid n v.file)
    → LeavesOpenFiles program_of s pid

-- such a call that does not kill and removes no open file commutes with any step of another process
abbrev pub DescriptorStepsCommute : Type 0
DescriptorStepsCommute =
    (program_of : Bytes → Option Program) → EncodesPrograms program_of → (s : State) (j k : ℕ) (p : Process) (call : Call) → IsValid s → j ≢ k → process_at s j ≡ Some p → next p ≡ calls_for call
    → IsTrue (changes_descriptors call) → ((a : Promise) → (step program_of s j).outcome ≢ Killed a) → LeavesOpenFiles program_of s j
    → Commute program_of s j k

-- ---- the directory: chdir(2), fchdir(2)

abbrev pub changes_directory : Call → Bool
changes_directory (Fchdir d) = true
changes_directory (Chdir path) = true
changes_directory call = false

-- the step of a process leaves the tree unchanged: no node is freed
abbrev pub LeavesTree : (Bytes → Option Program) → State → ℕ → Type 0
LeavesTree program_of s pid = (step program_of s pid).after.tree ≡ s.tree

-- the step of process k leaves the destination of such a call of p unchanged: whether the node of its descriptor is a
-- directory, or the tree that it walks
abbrev pub LeavesDestination : (Bytes → Option Program) → State → Process → Call → ℕ → Type 0
LeavesDestination program_of s p (Fchdir d) k = (m : ℕ) (file : OpenFile) → open_file s p d ≡ Some (m, file) → is_directory_at (step program_of s k).after.tree file.node ≡ is_directory_at s.tree file.node
LeavesDestination program_of s p call k = LeavesTree program_of s k

-- such a call that does not kill and frees no node commutes with such a step of another process
abbrev pub DirectoryStepsCommute : Type 0
DirectoryStepsCommute =
    (program_of : Bytes → Option Program) → EncodesPrograms program_of → (s : State) (j k : ℕ) (p : Process) (call : Call) → IsValid s → j ≢ k → process_at s j ≡ Some p → next p ≡ calls_for call
    → IsTrue (changes_directory call) → ((a : Promise) → (step program_of s j).outcome ≢ Killed a) → LeavesTree program_of s j → LeavesDestination program_of s p call k
    → Commute program_of s j k

-- ---- the table: unveil(2)

-- an unveil of a path with permissions that does not kill frees no node, because it only adds a reference
abbrev pub UnveilsLeave : Type 0
UnveilsLeave =
    (program_of : Bytes → Option Program) (s : State) (pid : ℕ) (p : Process) (path permissions : Bytes) → IsValid s → process_at s pid ≡ Some p → next p ≡ calls_for (Unveil (Some path) (Some permissions))
    → ((a : Promise) → (step program_of s pid).outcome ≢ Killed a) → LeavesTree program_of s pid

-- such a call that does not kill commutes with a step of another process that leaves the tree unchanged
abbrev pub UnveilsCommute : Type 0
UnveilsCommute =
    (program_of : Bytes → Option Program) → EncodesPrograms program_of → (s : State) (j k : ℕ) (p : Process) (path permissions : Bytes) → IsValid s → j ≢ k → process_at s j ≡ Some p → next p ≡ calls_for (Unveil (Some path) (Some permissions))
    → ((a : Promise) → (step program_of s j).outcome ≢ Killed a) → LeavesTree program_of s k
    → Commute program_of s j k

-- ---- the program: execve(2)

-- an execve that does not kill, frees no node and removes no open file commutes with a step of another process that
-- leaves the tree unchanged
abbrev pub ExecvesCommute : Type 0
ExecvesCommute =
    (program_of : Bytes → Option Program) → EncodesPrograms program_of → (s : State) (j k : ℕ) (p : Process) (path : Bytes) → IsValid s → j ≢ k → process_at s j ≡ Some p → next p ≡ calls_for (Execve path)
    → ((a : Promise) → (step program_of s j).outcome ≢ Killed a) → LeavesTree program_of s j → LeavesOpenFiles program_of s j → LeavesTree program_of s k
    → Commute program_of s j k
