-- The directory from which a walk of a live process starts, given by the number of the process.
use Rattle.std.specs.Prelude.{◌≡◌, ℕ, ℤ, Some}
use Rattle.pv_model.specs.declared.call.Start.{Start}
use Rattle.pv_model.specs.declared.errno.Errno.{Errno}
use Rattle.pv_model.specs.declared.outcome.Cause.TheVariants.{Plain}
use Rattle.pv_model.specs.Machine.{give, refused, Bytes, check_start, directory_of, directory_of_file, open_file, start_directory, Process, State, process_at}

module _ (s : State) (pid : ℕ) where
  -- a descriptor gives a directory
  abbrev pub GivesDirectory : ℤ → ℕ → Type 0
  GivesDirectory d n = (me : Process) → process_at s pid ≡ Some me → directory_of s pid me d ≡ give n

  -- the open file of a descriptor refers to a directory
  abbrev pub IsOnDirectory : ℤ → ℕ → Type 0
  IsOnDirectory d n = (me : Process) → process_at s pid ≡ Some me → directory_of_file me (open_file s me d) ≡ n

  -- a descriptor gives no directory, but an error
  abbrev pub GivesNoDirectory : ℤ → Errno → Type 0
  GivesNoDirectory d e = (me : Process) → process_at s pid ≡ Some me → directory_of s pid me d ≡ refused 0 e Plain

  -- the start of a walk has a directory
  abbrev pub PassesStart : Start → Bytes → Type 0
  PassesStart start path = (me : Process) → process_at s pid ≡ Some me → check_start s pid me start path ≡ give tt

  -- the walk starts at that directory
  abbrev pub StartsAt : Start → Bytes → ℕ → Type 0
  StartsAt start path n = (me : Process) → process_at s pid ≡ Some me → start_directory s me start path ≡ n

  -- the start of a walk has no directory, but an error
  abbrev pub FailsStart : Start → Bytes → Errno → Type 0
  FailsStart start path e = (me : Process) → process_at s pid ≡ Some me → check_start s pid me start path ≡ refused 0 e Plain
