-- The parts of the machine as a state, and the counts of users and references.
use Rattle.std.specs.Prelude.{◌≡◌, ℕ, ◌+◌, ◌==◌, List, map, flat_map, count_by, slice_index}
use Rattle.pv_files.specs.Counted.{Counted}
use Rattle.pv_model.specs.Machine.{live_processes, used_files, held_by_process, Numbered, present, OpenFile, ProcessRecord, State}
use Rattle.pv_procs.specs.ProcessTable.{ProcessTable, state_with}
use Rattle.pv_procs.specs.OfTree.Holding.{HeldTree, holds_at}

-- the state of a tree, open files and processes
abbrev pub state_of : HeldTree → Counted → ProcessTable → State
state_of tree counted processes = state_with tree.tree counted.files processes

-- the processes of a state
abbrev pub processes_of : State → ProcessTable
processes_of s = record { processes = s.processes; last_process = s.last_process }

-- the number of times that n occurs in a list
abbrev pub times : ℕ → List ℕ → ℕ
times n ns = count_by (λ m. m == n) ns

-- the open file of each descriptor of each live process, with repetitions
abbrev pub used_in : List (ℕ × ProcessRecord) → List ℕ
used_in rs = flat_map (λ p. used_files p.1) (live_processes rs)

-- the working directories and the table targets of live processes, with repetitions
abbrev pub held_in : List (ℕ × ProcessRecord) → List ℕ
held_in rs = flat_map (λ p. held_by_process p.1) (live_processes rs)

-- the nodes of open files
abbrev pub open_nodes : Numbered OpenFile → List ℕ
open_nodes files = map (λ f. f.node) (present files)

-- the users of each open file count the descriptors on it, and the references of each node count the working
-- directories, targets and open files that refer to it
pub record IsCountedUp (tree : HeldTree) (counted : Counted) (processes : ProcessTable) : Type 0 where
  pub users : (k : ℕ) → slice_index counted.users k ≡ times k (used_in processes.processes)
  pub holds : (n : ℕ) → holds_at tree n ≡ times n (held_in processes.processes) + times n (open_nodes counted.files)
