-- Laws of sealed and frozen files along steps and runs: both properties last, and the bytes of a frozen file stay the
-- same.
use Rattle.std.specs.Prelude.{◌≡◌, ℕ, IsTrue, List, length, Option}
use Rattle.pv_model.specs.Machine.{Bytes, is_file, Program, Process, State, Run, step, run, file_bytes, with_bytes, trace_bytes, node_at}
use Rattle.pv_model.specs.Closed.{IsClosed, IsHeldOverExec}
use Rattle.pv_model.specs.Sealed.{is_sealed, is_frozen}
use Rattle.pv_model.specs.Touch.{SameButFile}
use Rattle.pv_laws_states.specs.States.{EncodesPrograms, IsValid}

pub record IsSealedFile (s : State) (f : ℕ) : Type 0 where
  pub file : IsTrue (is_file (node_at s.tree f))
  pub sealed : IsTrue (is_sealed s f)

pub record IsFrozenFile (s : State) (f : ℕ) : Type 0 where
  pub file : IsTrue (is_file (node_at s.tree f))
  pub frozen : IsTrue (is_frozen s f)

-- after a step of any process, a sealed file is still a sealed file
abbrev pub SealedInvariant : Type 0
SealedInvariant =
    (program_of : Bytes → Option Program) → EncodesPrograms program_of → (s : State) (pid : ℕ) (f : ℕ) → IsValid s
    → IsSealedFile s f → IsSealedFile (step program_of s pid).after f

-- the file is still frozen, with the same bytes
pub record StaysFrozen (f : ℕ) (before after : State) : Type 0 where
  pub still : IsFrozenFile after f
  pub bytes : file_bytes after f ≡ file_bytes before f

-- after a step of any process, a frozen file is still frozen, with the same bytes
abbrev pub FrozenInvariant : Type 0
FrozenInvariant =
    (program_of : Bytes → Option Program) → EncodesPrograms program_of → (s : State) (pid : ℕ) (f : ℕ) → IsValid s
    → IsFrozenFile s f → StaysFrozen f s (step program_of s pid).after

-- a process that is closed to a file is pledged without exec, or has execpromises; so the definition of frozen, which
-- includes sealed, repeats this condition without effect
abbrev pub ClosedIsHeldOverExec : Type 0
ClosedIsHeldOverExec = (s : State) (p : Process) (f : ℕ) → IsClosed s p f → IsHeldOverExec p

-- two runs have the same lines and so the same text; their final states differ only in the bytes of one file, which are
-- of equal length
pub record RunsDifferInFile (f : ℕ) (a b : Run) : Type 0 where
  pub lines : b.lines ≡ a.lines
  pub text : trace_bytes b.lines ≡ trace_bytes a.lines
  pub final : SameButFile f a.final b.final
  pub as_many : length (file_bytes b.final f) ≡ length (file_bytes a.final f)

-- a sealed file is sealed after the run, and with other bytes of equal length in it, the run has the same text, and its
-- final state differs only in these bytes
pub record WritesNothing (program_of : Bytes → Option Program) (s : State) (pids : List ℕ) (f : ℕ) (bytes : Bytes) : Type 0 where
  pub still : IsSealedFile (run program_of pids s).final f
  pub alike : RunsDifferInFile f (run program_of pids s) (run program_of pids (with_bytes s f bytes))

abbrev pub SealedStaysSealed : Type 0
SealedStaysSealed =
    (program_of : Bytes → Option Program) → EncodesPrograms program_of → (s : State) (pids : List ℕ) (f : ℕ) (bytes : Bytes) → IsValid s
    → IsSealedFile s f → length bytes ≡ length (file_bytes s f) → WritesNothing program_of s pids f bytes

-- no run changes the bytes of a frozen file, and it stays frozen
abbrev pub FrozenStaysFrozen : Type 0
FrozenStaysFrozen =
    (program_of : Bytes → Option Program) → EncodesPrograms program_of → (s : State) (pids : List ℕ) (f : ℕ) → IsValid s
    → IsFrozenFile s f → StaysFrozen f s (run program_of pids s).final
