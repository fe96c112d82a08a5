-- Writes through open files.
use Rattle.std.specs.Prelude.{◌≡◌, ℕ, take, IsSome, IsTrue, Some}
use Rattle.pv_procs.specs.OfTree.OfInodes.declared.space.Space.{Space}
use Rattle.pv_model.specs.Calls.Descriptors.{with_bytes_written}
use Rattle.pv_model.specs.Machine.{collect, at_number, is_file, OpenFile, Process, State, process_at, node_at}
use Rattle.pv_procs.specs.OfTree.Rooms.{room_error}

-- a number of an open file that refers to a file, not to a directory or a link
pub record IsOnFile (s : State) (file : ℕ) : Type 0 where
  pub there : IsSome (at_number s.files file)
  pub opened : (f : OpenFile) → at_number s.files file ≡ Some f → IsTrue (is_file (node_at s.tree f.node))

module _ (s : State) (pid file at count : ℕ) where
  -- the first `count` bytes of a live process's buffer were written through an open file from offset `at`
  abbrev pub WritesFront : State → Type 0
  WritesFront new =
      (me : Process) (f : OpenFile) → process_at s pid ≡ Some me → at_number s.files file ≡ Some f
      → new ≡ collect (with_bytes_written s pid me file f at (take count me.buffer))

  -- there is no room for them
  abbrev pub LacksRoomForFront : Space → Type 0
  LacksRoomForFront why =
      (me : Process) (f : OpenFile) → process_at s pid ≡ Some me → at_number s.files file ≡ Some f
      → room_error (collect (with_bytes_written s pid me file f at (take count me.buffer))).tree ≡ Some why
