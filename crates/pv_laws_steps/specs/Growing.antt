-- Writes that extend their file and truncations, within the blocks of the file, commute with independent steps of other
-- processes: write(2), ftruncate(2).
use Rattle.std.specs.Prelude.{◌≡◌, ◌≢◌, ◌≤◌, ◌*◌, ℕ, ℤ, IsTrue, length, Option, Some}
use Rattle.pv_model.specs.declared.call.Call.TheVariants.{Write, Ftruncate}
use Rattle.pv_model.specs.declared.limits.TheConstants.{BLOCK, BUFFER}
use Rattle.pv_model.specs.declared.outcome.Outcome.TheVariants.{Killed}
use Rattle.pv_model.specs.declared.promise.Promise.{Promise}
use Rattle.pv_model.specs.Machine.{Bytes, within, natural, write_end, open_file, calls_for, next, rounded_up, is_file, OpenFile, Program, Process, State, process_at, Stepped, step, file_bytes, with_bytes, node_at}
use Rattle.pv_laws_states.specs.States.{are_bytes, EncodesPrograms, IsValid}
use Rattle.pv_laws_runs.specs.OfLawsAccess.Justice.{AsksSize, HasEffectNext}
use Rattle.pv_laws_steps.specs.Commuting.{Commute}
use Rattle.pv_laws_steps.specs.Offsets.{DependsOnOffset}
use Rattle.pv_laws_steps.specs.Writes.{LeavesBytes}

abbrev pub file_blocks : State → ℕ → ℕ
file_blocks s f = rounded_up (length (file_bytes s f)) BLOCK

-- the next call of a process neither reads nor may change the bytes of a file, nor asks for their number: it is not a
-- stat or lstat of the file, nor an fstat or an lseek to its end by a descriptor for it
abbrev pub LeavesContent : State → ℕ → ℕ → Type 0
LeavesContent s pid f = LeavesBytes s pid f × (¬ HasEffectNext AsksSize s pid f)

-- two steps have the same outcome and lines, and the next states differ only by these bytes in a file
pub record StepsWithOtherBytes (f : ℕ) (bytes : Bytes) (a b : Stepped) : Type 0 where
  pub outcome : b.outcome ≡ a.outcome
  pub lines : b.lines ≡ a.lines
  pub after : b.after ≡ with_bytes a.after f bytes

-- such a step depends only on the number of blocks of the file's content, and leaves the content unchanged, unless it
-- frees the file
abbrev pub ContentsDoNotMatter : Type 0
ContentsDoNotMatter =
    (program_of : Bytes → Option Program) (s : State) (pid f : ℕ) (bytes : Bytes) → IsValid s → IsTrue (is_file (node_at s.tree f))
    → IsTrue (are_bytes bytes) → rounded_up (length bytes) BLOCK ≡ file_blocks s f → LeavesContent s pid f
    → StepsWithOtherBytes f bytes (step program_of s pid) (step program_of (with_bytes s f bytes) pid)

-- the next step of process k does not use the open file of descriptor d of p, and leaves the content of its file alone
abbrev pub LeavesGrowing : State → Process → ℤ → ℕ → Type 0
LeavesGrowing s p d k = (m : ℕ) (file : OpenFile) → open_file s p d ≡ Some (m, file) → (¬ DependsOnOffset s k m) × LeavesContent s k file.node

-- a write of c bytes by descriptor d ends within the blocks of its file, and so keeps their number
abbrev pub EndsInBlocks : State → ℕ → Process → ℤ → ℤ → Type 0
EndsInBlocks s pid p d c =
    (m : ℕ) (file : OpenFile) (count : ℕ) → open_file s p d ≡ Some (m, file) → within BUFFER c ≡ Some count → write_end s pid p file count ≤ BLOCK * file_blocks s file.node

-- such a write that does not kill commutes with such a step of another process
abbrev pub GrowingWritesCommute : Type 0
GrowingWritesCommute =
    (program_of : Bytes → Option Program) → EncodesPrograms program_of → (s : State) (j k : ℕ) (p : Process) (d c : ℤ) → IsValid s → j ≢ k → process_at s j ≡ Some p → next p ≡ calls_for (Write d c)
    → ((a : Promise) → (step program_of s j).outcome ≢ Killed a) → EndsInBlocks s j p d c → LeavesGrowing s p d k
    → Commute program_of s j k

-- the next step of process k leaves the content of the file of descriptor d of p alone
abbrev pub LeavesCut : State → Process → ℤ → ℕ → Type 0
LeavesCut s p d k = (m : ℕ) (file : OpenFile) → open_file s p d ≡ Some (m, file) → LeavesContent s k file.node

-- n bytes need the same number of blocks as the content of the file of descriptor d
abbrev pub KeepsBlocks : State → Process → ℤ → ℤ → Type 0
KeepsBlocks s p d n =
    (m : ℕ) (file : OpenFile) (size : ℕ) → open_file s p d ≡ Some (m, file) → natural n ≡ Some size → rounded_up size BLOCK ≡ file_blocks s file.node

-- such a truncation that does not kill commutes with such a step of another process
abbrev pub CutsCommute : Type 0
CutsCommute =
    (program_of : Bytes → Option Program) → EncodesPrograms program_of → (s : State) (j k : ℕ) (p : Process) (d n : ℤ) → IsValid s → j ≢ k → process_at s j ≡ Some p → next p ≡ calls_for (Ftruncate d n)
    → ((a : Promise) → (step program_of s j).outcome ≢ Killed a) → KeepsBlocks s p d n → LeavesCut s p d k
    → Commute program_of s j k
