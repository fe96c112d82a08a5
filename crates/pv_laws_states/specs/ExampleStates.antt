-- States of worked runs in an empty image: common definitions of the worked runs.
use Rattle.std.specs.Prelude.{ℕ, Bool, false, true, List, [], Option, None}
use Rattle.pv_model.specs.declared.open_flags.Mode.{Mode}
use Rattle.pv_model.specs.declared.open_flags.Mode.TheVariants.{Read}
use Rattle.pv_model.specs.declared.open_flags.OpenFlags.{OpenFlags}
use Rattle.pv_model.specs.Machine.{Bytes, manifest_tree, Program, State, first_state, run}

-- no file parses as a program
abbrev pub no_programs : Bytes → Option Program
no_programs bytes = None

-- the state after a schedule, if the first process runs this program in an empty image
abbrev pub state_after : Program → List ℕ → State
state_after program pids = (run no_programs pids (first_state (manifest_tree 14 16 []) program)).final

-- the flags of an open in this mode that creates the file or does not
abbrev pub flags : Mode → Bool → OpenFlags
flags mode create = record { mode = mode; append = false; create = create; truncate = false; exclusive = false; no_follow = false; directory = false; close_on_exec = false }

-- the flags of an open for reading that creates the file
abbrev pub making : OpenFlags
making = flags Read true
