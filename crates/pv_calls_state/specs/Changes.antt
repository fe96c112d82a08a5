-- The changes that the methods of `Parts` make.
use Rattle.std.specs.Prelude.{◌≡◌, ℕ, ℤ, zero, suc, if◌then◌else◌, [], length, nat_lt, take, drop, Bool, false, None, Some, Result}
use Rattle.pv_procs.specs.OfTree.OfInodes.declared.space.Space.{Space}
use Rattle.pv_model.specs.declared.open_flags.OpenFlags.{OpenFlags}
use Rattle.pv_model.specs.declared.perms.Perms.{Perms}
use Rattle.pv_model.specs.declared.target.Target.{Target}
use Rattle.pv_model.specs.Machine.{give, Bytes, with_content, with_open_file, without_descriptor, entries_of_table, bytes_of, collect, inside, next, Numbered, with_number, least_free, Descriptor, Process, State, process_at, with_process, with_tree, Tree, file_node, new_number, node_at, with_new_node, Table}
use Rattle.pv_procs.specs.declared.processes.Fetched.{Fetched}
use Rattle.pv_procs.specs.declared.processes.Fetched.TheVariants.{Gone, Register, Call}
use Rattle.pv_procs.specs.ProcessTable.{ProcessTable, table_with_process as process_put}
use Rattle.pv_procs.specs.Turns.{CallsNext}
use Rattle.pv_procs.specs.OfScript.Passing.{Passes}
use Rattle.pv_procs.specs.OfTree.Rooms.{ChangesIfRoom}
use Rattle.pv_procs.specs.OfUnveil.Added.{add_to}
use Rattle.pv_procs.specs.OfUnveil.Unveiled.{Unveiled}

-- the outcome of a change of the tree that the image may lack room for; unreferenced nodes of the new tree are removed
abbrev pub ChangesTree : {A : Type 0} → Result A Space → State → State → Tree → Type 0
ChangesTree result old new t = ChangesIfRoom (λ s. s.tree) result old new (collect (with_tree old t))

-- only a live process changed, and the relation holds between its earlier and its later value
pub record MovesInside (by : Process → Process → Type 0) (s : State) (pid : ℕ) (new : State) : Type 0 where
  pub me : Process
  pub lives : process_at s pid ≡ Some me
  pub after : Process
  pub step : by me after
  pub only : new ≡ with_process s pid after

-- the next instruction inside a live process was carried out
abbrev pub StepsInside : State → ℕ → State → Type 0
StepsInside s pid new = MovesInside (λ me after. next me ≡ inside after) s pid new

-- n instructions inside a live process were carried out in sequence; for n = 0 nothing changed
abbrev pub PassesInside : ℕ → ℕ → State → State → Type 0
PassesInside zero pid s new = new ≡ s
PassesInside (suc n) pid s new = MovesInside (Passes (suc n)) s pid new

-- the next instruction of a process was carried out if it is inside the process; otherwise nothing changed
abbrev pub IsRegistered : Fetched → ℕ → State → State → Type 0
IsRegistered Gone pid s new = (process_at s pid ≡ None) × (new ≡ s)
IsRegistered Register pid s new = StepsInside s pid new
IsRegistered (Call call) pid s new = CallsNext call (process_at s pid) × (new ≡ s)

abbrev pub unveiled_of : Process → Unveiled
unveiled_of p = record { table = p.table; locked = p.locked }

abbrev pub with_directory : ℕ → Process → Process
with_directory n p = record p { directory = n }

abbrev pub with_descriptors : Numbered Descriptor → Process → Process
with_descriptors ds p = record p { descriptors = ds }

-- the process without the descriptor that a call names
abbrev pub with_closed_descriptor : ℤ → Process → Process
with_closed_descriptor d p = with_descriptors (without_descriptor p.descriptors d) p

-- the process with descriptor `number` on an open file, not marked close-on-exec
abbrev pub with_descriptor_at : ℕ → ℕ → Process → Process
with_descriptor_at number file p =
    with_descriptors (with_number p.descriptors number (record { file = file; close_on_exec = false })) p

-- the process with a descriptor for an open file, under the least free number
abbrev pub with_opened_descriptor : ℕ → Bool → Process → Process
with_opened_descriptor file close_on_exec p =
    with_descriptors (with_number p.descriptors (least_free p.descriptors) (record { file = file; close_on_exec = close_on_exec })) p

abbrev pub with_table : Table → Process → Process
with_table table p = record p { table = Some table }

-- an entry was added to the table of a process, or an existing entry lost permissions
pub record Unveils (s : State) (pid : ℕ) (me : Process) (target : Target) (permissions : Perms) (new : State) : Type 0 where
  pub table : Table
  pub added : add_to (unveiled_of me) target permissions ≡ give table
  pub only : new ≡ with_process s pid (with_table table me)

-- the same change of the process table, and whether the entry is new
pub record AddsEntry (ps : ProcessTable) (pid : ℕ) (me : Process) (target : Target) (permissions : Perms) (is_new : Bool) (new : ProcessTable) : Type 0 where
  pub table : Table
  pub added : add_to (unveiled_of me) target permissions ≡ give table
  pub longer : is_new ≡ nat_lt (length (entries_of_table me.table)) (length table)
  pub only : new ≡ process_put ps pid (with_table table me)

-- the tree in which a node is opened: the file is truncated if the flags say so
abbrev pub tree_for_open : Tree → OpenFlags → ℕ → Tree
tree_for_open t f n = if f.truncate then with_content t n [] else t

-- the state with a node opened
abbrev pub with_node_opened : State → ℕ → Process → OpenFlags → ℕ → State
with_node_opened s pid me f n = with_open_file s pid me f n (tree_for_open s.tree f n)

-- the state with a new file under a name, opened
abbrev pub with_file_made : State → ℕ → Process → OpenFlags → ℕ → Bytes → State
with_file_made s pid me f d name = with_open_file s pid me f (new_number s.tree) (with_new_node s.tree d name (file_node false []))

-- at most `count` bytes of a file, from offset `at`
abbrev pub bytes_read : Tree → ℕ → ℕ → ℕ → Bytes
bytes_read t n at count = take count (drop at (bytes_of (node_at t n)))
