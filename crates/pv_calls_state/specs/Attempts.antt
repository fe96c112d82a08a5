-- The result of a system call in code: the attempt of the definitions, with unreferenced nodes collected from its
-- state.
use Rattle.std.specs.Prelude.{◌≡◌, ℕ, Some, Result, Ok, Err}
use Rattle.pv_model.specs.declared.errno.Errno.{Errno}
use Rattle.pv_model.specs.declared.outcome.Cause.TheVariants.{Plain}
use Rattle.pv_model.specs.Machine.{Attempt, done, refused, Effect, returns, collect, Process, State, process_at}

-- an attempt, with unreferenced nodes collected from its state
abbrev pub collected_attempt : Attempt Effect → Attempt Effect
collected_attempt (done walks effect) = done walks (collect effect.0, effect.1)
collected_attempt (refused walks errno cause) = refused walks errno cause

-- a value or an error without a walk, with state s
abbrev pub plainly : State → Result ℕ Errno → Attempt Effect
plainly s (Ok value) = done 0 (s, returns value)
plainly s (Err errno) = refused 0 errno Plain

-- a system call of a live process without a walk has this value or error, and leaves this state
abbrev pub IsDone : (State → Process → Attempt Effect) → State → ℕ → State → Result ℕ Errno → Type 0
IsDone performed old pid new result = (me : Process) → process_at old pid ≡ Some me → collected_attempt (performed old me) ≡ plainly new result
