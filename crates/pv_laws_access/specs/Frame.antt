-- The open files after a step: those that stay, those that are added, and those that are removed.
use Rattle.std.specs.Prelude.{◌≡◌, ◌≢◌, ℕ, Bool, true, false, IsFalse, Option, None, Some}
use Rattle.pv_model.specs.declared.call.Call.{Call}
use Rattle.pv_model.specs.declared.open_flags.OpenFlags.{OpenFlags}
use Rattle.pv_model.specs.declared.outcome.Outcome.{Outcome}
use Rattle.pv_model.specs.declared.outcome.Outcome.TheVariants.{Killed, Exited}
use Rattle.pv_model.specs.Machine.{Bytes, at_number, least_free, calls_for, next, OpenFile, Descriptor, Program, Process, State, process_at, step, flags_of}
use Rattle.pv_laws_access.specs.Growth.{IsInOrder, IsSameFile, IsNamedBy}

-- the origin of an open file after a step: it is unchanged; or the call names it by a descriptor of its process, and
-- only its position changed; or an open created it under the least free number
pub data HasOrigin (s : State) (pid k : ℕ) : OpenFile → Type 0 where
  as_it_was : (file : OpenFile) → at_number s.files k ≡ Some file → HasOrigin s pid k file
  moved : (old left : OpenFile) → at_number s.files k ≡ Some old → IsSameFile old left → IsNamedBy s pid k → HasOrigin s pid k left
  opened : (p : Process) (call : Call) (flags : OpenFlags) (left : OpenFile) → process_at s pid ≡ Some p → next p ≡ calls_for call → flags_of call ≡ Some flags → left.mode ≡ flags.mode
      → k ≡ least_free s.files → HasOrigin s pid k left

-- every open file after a step has such an origin
abbrev pub OpenFilesHaveOrigins : Type 0
OpenFilesHaveOrigins =
    (program_of : Bytes → Option Program) (s : State) (pid k : ℕ) (left : OpenFile) → at_number (step program_of s pid).after.files k ≡ Some left → HasOrigin s pid k left

-- no other process has a descriptor for an open file that a step removes
abbrev pub OnlyOwnFilesAreRemoved : Type 0
OnlyOwnFilesAreRemoved =
    (program_of : Bytes → Option Program) (s : State) (pid k : ℕ) (file : OpenFile) → IsInOrder s → at_number s.files k ≡ Some file → at_number (step program_of s pid).after.files k ≡ None
    → (other : ℕ) (p : Process) (d : ℕ) (x : Descriptor) → other ≢ pid → process_at s other ≡ Some p → at_number p.descriptors d ≡ Some x → x.file ≢ k

-- whether a step ended its process
abbrev pub is_end : Outcome → Bool
is_end Exited = true
is_end (Killed promise) = true
is_end outcome = false

-- a step that does not end its process leaves each other live process unchanged, including its parent
abbrev pub OthersKeepAll : Type 0
OthersKeepAll =
    (program_of : Bytes → Option Program) (s : State) (pid other : ℕ) (p : Process) → IsInOrder s → other ≢ pid → process_at s other ≡ Some p
    → IsFalse (is_end (step program_of s pid).outcome) → process_at (step program_of s pid).after other ≡ Some p
