-- The process table, as contracts see it.
use Rattle.std.specs.Prelude.{◌≡◌, ℕ, ◌≤◌, ◌&&◌, true, List, [], ◌∷◌, length, nat_le, nat_lt, find as first_where, Option, None, Some, option_map}
use Rattle.std.specs.FinMap.Entries.{find, put, is_sorted}
use Rattle.std.specs.List.{list_all}
use Rattle.std.specs.Ordering.{nat_cmp}
use Rattle.pv_model.specs.declared.limits.TheConstants.{PROCESSES, LAST_PROCESS}
use Rattle.pv_model.specs.Machine.{Numbered, Next, inside, OpenFile, Program, Process, ProcessRecord, live, ended_record, State, live_process, first_process, Tree}

-- the processes by number, and the last number that was assigned: these parts of the specification's state
pub record ProcessTable : Type 0 where
  pub processes : List (ℕ × ProcessRecord)
  pub last_process : ℕ

-- the state with this process table
abbrev pub state_with : Tree → Numbered OpenFile → ProcessTable → State
state_with t files ps = record { tree = t; files = files; processes = ps.processes; last_process = ps.last_process }

-- the process with a number, if it is live
abbrev pub process_in : ProcessTable → ℕ → Option Process
process_in ps pid = live_process (find nat_cmp pid ps.processes)

-- the first number greater than k
abbrev pub number_after : ℕ → List (ℕ × ProcessRecord) → Option ℕ
number_after k rs = option_map (λ r. r.0) (first_where (λ r. nat_lt k r.0) rs)

-- the parent and the exit status of a zombie
abbrev pub ended_process : Option ProcessRecord → Option (ℕ × ℕ)
ended_process (Some (ended_record parent status)) = Some (parent, status)
ended_process _ = None

-- with another live process under a number
abbrev pub table_with_process : ProcessTable → ℕ → Process → ProcessTable
table_with_process ps pid p = record ps { processes = put nat_cmp pid (live p) ps.processes }

abbrev pub updated_live : ProcessTable → ℕ → (Process → Process) → Option Process → ProcessTable
updated_live ps pid f None = ps
updated_live ps pid f (Some p) = table_with_process ps pid (f p)

-- with a live process changed
abbrev pub updated_table : ProcessTable → ℕ → (Process → Process) → ProcessTable
updated_table ps pid f = updated_live ps pid f (process_in ps pid)

-- process 1 alone, with this program
abbrev pub first_processes : Program → ProcessTable
first_processes program = record { processes = (1, live (first_process program)) ∷ []; last_process = 1 }

-- the invariant of the process table
pub record IsProcessTable (ps : ProcessTable) : Type 0 where
  pub ascending : is_sorted nat_cmp ps.processes ≡ true
  pub numbers : list_all (λ r. nat_le 1 r.0 && nat_le r.0 ps.last_process) ps.processes ≡ true
  pub count : length ps.processes ≤ PROCESSES
  pub last : ps.last_process ≤ LAST_PROCESS

-- a process after its next instruction, if that is one on registers or a jump
abbrev pub after_inside : Process → Next → Process
after_inside p (inside after) = after
after_inside p _ = p
