-- The file that a call reads.
use Rattle.std.specs.Prelude.{ℕ, Bool, true, false, not, ◌==◌, List, [], Option, Some, option_and_then, option_to_list}
use Rattle.pv_model.specs.declared.call.Call.{Call}
use Rattle.pv_model.specs.declared.call.Call.TheVariants.{Execve, Read}
use Rattle.pv_model.specs.declared.errno.Errno.TheVariants.{ENOEXEC}
use Rattle.pv_model.specs.declared.outcome.Outcome.{Outcome}
use Rattle.pv_model.specs.declared.outcome.Outcome.TheVariants.{Text, Failed}
use Rattle.pv_model.specs.Answers.Access.{node_of_descriptor, nodes_of_places}
use Rattle.pv_model.specs.Machine.{Process, State}

-- whether a call with an outcome has read bytes of its file
abbrev pub has_read : Call → Outcome → Bool
has_read (Read d n) (Text taken) = not (taken.len == 0)
has_read (Execve path) (Failed ENOEXEC cause) = true
has_read call outcome = false

-- whether a call can read a file
abbrev pub may_read : Call → Bool
may_read (Read d n) = true
may_read (Execve path) = true
may_read _ = false

-- the file that a call reads if it reads one
abbrev pub file_to_read : State → Process → Call → List ℕ
file_to_read s p (Read d n) = node_of_descriptor s p (Read d n)
file_to_read s p (Execve path) = nodes_of_places s p (Execve path)
file_to_read s p _ = []
