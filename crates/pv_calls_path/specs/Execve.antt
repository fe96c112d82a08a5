-- The result of execve(2) in code.
use Rattle.std.specs.Prelude.{◌≡◌, ℕ, Result, Ok, Err}
use Rattle.pv_calls_plain.specs.declared.answer.Done.{Done}
use Rattle.pv_calls_path.specs.declared.execve.ExecveFault.{ExecveFault}
use Rattle.pv_calls_path.specs.declared.execve.ExecveFault.TheVariants.{Refused, Memory}
use Rattle.pv_model.specs.declared.errno.Errno.TheVariants.{ENOENT, EACCES}
use Rattle.pv_model.specs.Machine.{Attempt, ◌>>=◌, ◌>>◌, done, refused, demand, Bytes, execve, executable_bytes, judge, node_of, returns, walk, program_of, Process, State, node_at, execve_walk}
use Rattle.pv_calls_plain.specs.OfCallsState.Attempts.{collected_attempt}

-- the bytes of the executable file at an execve's path, if the table of the process allows it
abbrev pub bytes_to_load : State → Process → Bytes → Attempt Bytes
bytes_to_load s me path = do
  place ← walk s me (execve_walk path)
  judge s me (execve_walk path) place
  n ← demand ENOENT (node_of place)
  demand EACCES (executable_bytes (node_at s.tree n))

-- the path of an execve leads to an executable file that the table of the process allows
abbrev pub LeadsToProgram : State → Process → Bytes → Type 0
LeadsToProgram s me path = (bytes : Bytes) × (bytes_to_load s me path ≡ done 1 bytes)

-- an execve of a live process has this result and leaves this state; memory can be refused only if there is a program
-- to load
abbrev pub Executes : State → ℕ → Process → Bytes → State → Result Done ExecveFault → Type 0
Executes s pid me path new (Ok d) = collected_attempt (execve s pid me program_of path) ≡ done d.walks (new, returns d.value)
Executes s pid me path new (Err (Refused r)) = collected_attempt (execve s pid me program_of path) ≡ refused r.walks r.errno r.cause
Executes s pid me path new (Err Memory) = LeadsToProgram s me path
