-- A write within its file commutes with independent steps of other processes: write(2).
use Rattle.std.specs.Prelude.{◌≡◌, ◌≢◌, ◌≤◌, ℕ, ℤ, length, Option, Some}
use Rattle.pv_model.specs.declared.call.Call.TheVariants.{Write}
use Rattle.pv_model.specs.declared.limits.TheConstants.{BUFFER}
use Rattle.pv_model.specs.declared.outcome.Outcome.TheVariants.{Killed}
use Rattle.pv_model.specs.declared.promise.Promise.{Promise}
use Rattle.pv_model.specs.Machine.{Bytes, within, write_end, open_file, calls_for, next, OpenFile, Program, Process, State, process_at, step, file_bytes}
use Rattle.pv_laws_states.specs.States.{EncodesPrograms, IsValid}
use Rattle.pv_laws_runs.specs.OfLawsAccess.Justice.{ReadsBytes, ChangesBytes, HasEffectNext}
use Rattle.pv_laws_steps.specs.Commuting.{Commute}
use Rattle.pv_laws_steps.specs.Offsets.{DependsOnOffset}

-- the next call of a process neither reads nor may change the bytes of a file: it is not a read, write or ftruncate by
-- a descriptor for it that is open for that, nor an execve of it, nor an open that truncates it
abbrev pub LeavesBytes : State → ℕ → ℕ → Type 0
LeavesBytes s pid f = (¬ HasEffectNext ReadsBytes s pid f) × (¬ HasEffectNext ChangesBytes s pid f)

-- the next step of process k does not use the open file of descriptor d of p, and leaves the bytes of its file alone
abbrev pub LeavesWrite : State → Process → ℤ → ℕ → Type 0
LeavesWrite s p d k = (m : ℕ) (file : OpenFile) → open_file s p d ≡ Some (m, file) → (¬ DependsOnOffset s k m) × LeavesBytes s k file.node

-- a write of c bytes by descriptor d ends within its file, and so keeps its length
abbrev pub StaysWithin : State → ℕ → Process → ℤ → ℤ → Type 0
StaysWithin s pid p d c =
    (m : ℕ) (file : OpenFile) (count : ℕ) → open_file s p d ≡ Some (m, file) → within BUFFER c ≡ Some count → write_end s pid p file count ≤ length (file_bytes s file.node)

-- such a write that does not kill commutes with such a step of another process
abbrev pub WritesCommute : Type 0
WritesCommute =
    (program_of : Bytes → Option Program) → EncodesPrograms program_of → (s : State) (j k : ℕ) (p : Process) (d c : ℤ) → IsValid s → j ≢ k → process_at s j ≡ Some p → next p ≡ calls_for (Write d c)
    → ((a : Promise) → (step program_of s j).outcome ≢ Killed a) → StaysWithin s j p d c → LeavesWrite s p d k
    → Commute program_of s j k
