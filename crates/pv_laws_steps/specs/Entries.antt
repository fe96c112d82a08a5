-- Calls that change entries commute with independent calls on descriptors: mkdir(2), symlink(2), link(2), unlink(2),
-- rmdir(2), rename(2).
use Rattle.std.specs.Prelude.{◌≡◌, ◌≢◌, ℕ, Bool, true, false, IsTrue, Option, Some}
use Rattle.pv_model.specs.declared.call.Call.{Call}
use Rattle.pv_model.specs.declared.call.Call.TheVariants.{Read, Write, Lseek, Fstat, Ftruncate, Getdents, Mkdir, Symlink, Link, Unlink, Rmdir, Rename}
use Rattle.pv_model.specs.declared.outcome.Outcome.TheVariants.{Killed}
use Rattle.pv_model.specs.declared.promise.Promise.{Promise}
use Rattle.pv_model.specs.Machine.{Bytes, calls_for, next, Program, Process, State, process_at, step}
use Rattle.pv_laws_states.specs.States.{EncodesPrograms, IsValid}
use Rattle.pv_laws_steps.specs.Asking.{LeavesNode}
use Rattle.pv_laws_steps.specs.Commuting.{Commute}
use Rattle.pv_laws_steps.specs.Growing.{EndsInBlocks, KeepsBlocks}

abbrev pub changes_entries : Call → Bool
changes_entries (Mkdir path) = true
changes_entries (Symlink text path) = true
changes_entries (Link path new) = true
changes_entries (Unlink path) = true
changes_entries (Rmdir path) = true
changes_entries (Rename path new) = true
changes_entries call = false

-- a call of process k by a descriptor is independent of the step of process j: a write or an ftruncate keeps the number
-- of blocks of its file, and any other call has its descriptor on a node that the step leaves unchanged, so not on a
-- directory of which it changes an entry
abbrev pub IsIndependent : (Bytes → Option Program) → State → ℕ → ℕ → Process → Call → Type 0
IsIndependent program_of s j k p (Write d c) = EndsInBlocks s k p d c
IsIndependent program_of s j k p (Ftruncate d n) = KeepsBlocks s p d n
IsIndependent program_of s j k p (Read d n) = LeavesNode program_of s p d j
IsIndependent program_of s j k p (Lseek d by whence) = LeavesNode program_of s p d j
IsIndependent program_of s j k p (Fstat d) = LeavesNode program_of s p d j
IsIndependent program_of s j k p (Getdents d) = LeavesNode program_of s p d j
IsIndependent program_of s j k p call = ⊥

-- a call that changes entries commutes with an independent call of another process that does not kill
abbrev pub EntriesCommute : Type 0
EntriesCommute =
    (program_of : Bytes → Option Program) → EncodesPrograms program_of → (s : State) (j k : ℕ) (p q : Process) (entries call : Call) → IsValid s → j ≢ k
    → process_at s j ≡ Some p → next p ≡ calls_for entries → IsTrue (changes_entries entries)
    → process_at s k ≡ Some q → next q ≡ calls_for call → ((a : Promise) → (step program_of s k).outcome ≢ Killed a) → IsIndependent program_of s j k q call
    → Commute program_of s j k
