-- Laws of sealed and frozen files in one step.
use Rattle.std.specs.Prelude.{◌≡◌, ℕ, IsTrue, length, Option}
use Rattle.pv_model.specs.Machine.{Bytes, is_file, Program, State, Stepped, step, read_file, change_file, file_bytes, with_bytes, Touches, node_at}
use Rattle.pv_model.specs.Sealed.{is_sealed, is_frozen}
use Rattle.pv_model.specs.Touch.{SameButFile}
use Rattle.pv_laws_states.specs.States.{IsValid}

-- no step of any process depends on the bytes of a sealed file
abbrev pub SealedIsNotRead : Type 0
SealedIsNotRead =
    (program_of : Bytes → Option Program) (s : State) (pid : ℕ) (f : ℕ) → IsValid s → IsTrue (is_file (node_at s.tree f)) → IsTrue (is_sealed s f)
    → ¬ Touches program_of s pid (read_file f)

-- two steps have the same outcome and lines; the next states differ only in the bytes of one file, which are of equal
-- length
pub record StepsDifferInFile (f : ℕ) (a b : Stepped) : Type 0 where
  pub outcome : b.outcome ≡ a.outcome
  pub lines : b.lines ≡ a.lines
  pub after : SameButFile f a.after b.after
  pub as_many : length (file_bytes b.after f) ≡ length (file_bytes a.after f)

-- this holds for each step of any process if the bytes of a sealed file are replaced by others of equal length
abbrev pub SealedAnswersAreEqual : Type 0
SealedAnswersAreEqual =
    (program_of : Bytes → Option Program) (s : State) (pid : ℕ) (f : ℕ) (bytes : Bytes) → IsValid s → IsTrue (is_file (node_at s.tree f)) → IsTrue (is_sealed s f)
    → length bytes ≡ length (file_bytes s f) → StepsDifferInFile f (step program_of s pid) (step program_of (with_bytes s f bytes) pid)

-- no step of any process changes a frozen file
abbrev pub FrozenIsNotChanged : Type 0
FrozenIsNotChanged =
    (program_of : Bytes → Option Program) (s : State) (pid : ℕ) (f : ℕ) → IsValid s → IsTrue (is_frozen s f)
    → ¬ Touches program_of s pid (change_file f)
