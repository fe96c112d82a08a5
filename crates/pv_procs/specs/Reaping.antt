-- The result of wait(2).
use Rattle.pv_model.specs.declared.errno.Errno.TheVariants.{ECHILD}
use Rattle.pv_model.specs.Machine.{Attempt, give, refuse, little_endian, Effect, waits, answers_bytes, State}
use Rattle.pv_procs.specs.declared.processes.Reap.{Reap}
use Rattle.pv_procs.specs.declared.processes.Reap.TheVariants.{Child, Blocked, NoChild}

-- the specification's wait with this result and final state
abbrev pub waited : Reap → State → Attempt Effect
waited (Child number status) after = answers_bytes after number (little_endian 4 status)
waited Blocked after = give (after, waits)
waited NoChild after = refuse ECHILD
