-- The positions of open files: the steps that depend on them, and the steps that move them, which commute with
-- independent steps of other processes. read(2), lseek(2), getdents(2).
use Rattle.std.specs.Prelude.{◌≡◌, ◌≢◌, ℕ, zero, suc, ℤ, Bool, true, false, IsTrue, [], ◌∷◌, Option, Some, is_some, option_map}
use Rattle.pv_model.specs.declared.call.Call.{Call}
use Rattle.pv_model.specs.declared.call.Call.TheVariants.{Read, Write, Lseek, Getdents}
use Rattle.pv_model.specs.declared.outcome.Outcome.TheVariants.{Killed}
use Rattle.pv_model.specs.declared.promise.Promise.{Promise}
use Rattle.pv_model.specs.Machine.{Bytes, open_file, Numbered, at_number, calls_for, next, OpenFile, Program, Process, State, process_at, Stepped, step, descriptor_of, node_at}
use Rattle.pv_laws_states.specs.States.{EncodesPrograms, IsValid}
use Rattle.pv_laws_runs.specs.OfLawsAccess.Growth.{IsSameFile, IsNamedBy}
use Rattle.pv_laws_steps.specs.Commuting.{Commute}

abbrev pub change_number : ℕ → (OpenFile → OpenFile) → Numbered OpenFile → Numbered OpenFile
change_number k g [] = []
change_number zero g (x ∷ xs) = option_map g x ∷ xs
change_number (suc k) g (x ∷ xs) = x ∷ change_number k g xs

-- the state with a function applied to open file k, if it exists
abbrev pub with_file_change : State → ℕ → (OpenFile → OpenFile) → State
with_file_change s k g = record s { files = change_number k g s.files }

-- the calls that depend on the position of their descriptor's open file: its offset, its append flag, or the name that
-- it listed last
abbrev pub depends_on_offset : Call → Bool
depends_on_offset (Read d n) = true
depends_on_offset (Write d n) = true
depends_on_offset (Lseek d by whence) = true
depends_on_offset (Getdents d) = true
depends_on_offset call = false

-- the next call of a process is such a call, by its own descriptor for open file k
pub record DependsOnOffset (s : State) (pid k : ℕ) : Type 0 where
  pub named : IsNamedBy s pid k
  pub by : IsTrue (depends_on_offset named.call)

-- two steps have the same outcome and lines, and the next states differ only by this change of open file k
pub record StepsWithOtherFile (k : ℕ) (g : OpenFile → OpenFile) (a b : Stepped) : Type 0 where
  pub outcome : b.outcome ≡ a.outcome
  pub lines : b.lines ≡ a.lines
  pub after : b.after ≡ with_file_change a.after k g

-- a step that does not use an open file depends only on its node and its mode, and leaves its position unchanged
abbrev pub OffsetsDoNotMatter : Type 0
OffsetsDoNotMatter =
    (program_of : Bytes → Option Program) (s : State) (pid k : ℕ) (g : OpenFile → OpenFile) → ((f : OpenFile) → IsSameFile f (g f)) → IsTrue (is_some (at_number s.files k)) → ¬ DependsOnOffset s pid k
    → StepsWithOtherFile k g (step program_of s pid) (step program_of (with_file_change s k g) pid)

-- the calls that move the position of an open file, and otherwise change only the inside of their process
abbrev pub moves_offset : Call → Bool
moves_offset (Read d n) = true
moves_offset (Lseek d by whence) = true
moves_offset (Getdents d) = true
moves_offset call = false

-- the step of process k does not use the open file of the descriptor of p's call, and leaves its node unchanged
abbrev pub LeavesOpenFile : (Bytes → Option Program) → State → Process → Call → ℕ → Type 0
LeavesOpenFile program_of s p call k =
    (d : ℤ) (m : ℕ) (file : OpenFile) → descriptor_of call ≡ Some d → open_file s p d ≡ Some (m, file)
    → (¬ DependsOnOffset s k m) × (node_at (step program_of s k).after.tree file.node ≡ node_at s.tree file.node)

-- such a call that does not kill commutes with such a step of another process
abbrev pub OffsetStepsCommute : Type 0
OffsetStepsCommute =
    (program_of : Bytes → Option Program) → EncodesPrograms program_of → (s : State) (j k : ℕ) (p : Process) (call : Call) → IsValid s → j ≢ k → process_at s j ≡ Some p → next p ≡ calls_for call
    → IsTrue (moves_offset call) → ((a : Promise) → (step program_of s j).outcome ≢ Killed a) → LeavesOpenFile program_of s p call k
    → Commute program_of s j k
