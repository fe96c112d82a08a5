-- The error for a lack of space, and a write that can lack space.
use Rattle.std.specs.Prelude.{◌≡◌, ℕ, Some, Result}
use Rattle.pv_calls_state.specs.OfInodes.declared.space.Space.{Space}
use Rattle.pv_calls_state.specs.OfInodes.declared.space.Space.TheVariants.{Full, TooBig}
use Rattle.pv_model.specs.declared.errno.Errno.{Errno}
use Rattle.pv_model.specs.declared.errno.Errno.TheVariants.{EFBIG, ENOSPC}
use Rattle.pv_model.specs.Machine.{Attempt, ◌>>=◌, ◌>>◌, refuse_if, is_past_greatest, write_end, after_write, Effect, answers, with_room, at_number, OpenFile, Process, State, process_at}
use Rattle.pv_calls_state.specs.Attempts.{collected_attempt}
use Rattle.pv_calls_plain.specs.declared.answer.Done.{Done}
use Rattle.pv_calls_plain.specs.declared.answer.Refused.{Refused}
use Rattle.pv_calls_plain.specs.Performed.{attempt_of}

-- the error for a lack of space
abbrev pub space_errno : Space → Errno
space_errno TooBig = EFBIG
space_errno Full = ENOSPC

-- a write, after the checks of its arguments
abbrev pub write_some : State → ℕ → Process → ℕ → OpenFile → ℕ → Attempt Effect
write_some s pid me k file count = do
  refuse_if EFBIG (is_past_greatest s.tree (write_end s pid me file count))
  roomy ← with_room (after_write s pid me k file count)
  answers roomy count

-- such a write of a live process through an open file has this result and leaves this state
abbrev pub WritesThrough : State → ℕ → ℕ → ℕ → State → Result Done Refused → Type 0
WritesThrough old pid k count new result =
    (me : Process) (file : OpenFile) → process_at old pid ≡ Some me → at_number old.files k ≡ Some file
    → collected_attempt (write_some old pid me k file count) ≡ attempt_of new result
