-- Laws of references, and of the collection of unreferenced nodes and open files.
use Rattle.std.specs.Prelude.{◌≡◌, ℕ, Bool, ◌||◌, ◌==◌, IsTrue, IsFalse, List, flat_map, None}
use Rattle.pv_model.specs.Machine.{among, live_processes, used_files, collect, at_number, State, root, node_at, named_numbers, IsWellFormed}
use Rattle.pv_model.specs.Held.{held_nodes, collect_files, collect_nodes}
use Rattle.pv_laws_trees.specs.Preserved.{EachIsNamed}

-- if each node other than the root has a name, no node is collected
abbrev pub KeepsAllNamed : Type 0
KeepsAllNamed = (s : State) → EachIsNamed s.tree → collect_nodes s ≡ s

-- the open files that descriptors of live processes refer to
abbrev pub used : State → List ℕ
used s = flat_map (λ p. used_files p.1) (live_processes s.processes)

-- whether a node is the root, named, or referenced
abbrev pub is_wanted : State → ℕ → Bool
is_wanted s n = (root == n) || (among (named_numbers s.tree) n || among (held_nodes (collect_files s)) n)

-- the state after collection: only open files in use and wanted nodes remain, and everything else is unchanged
pub record IsCollected (s after : State) : Type 0 where
  pub used_files_stay : (k : ℕ) → IsTrue (among (used s) k) → at_number after.files k ≡ at_number s.files k
  pub other_files_go : (k : ℕ) → IsFalse (among (used s) k) → at_number after.files k ≡ None
  pub wanted_nodes_stay : (n : ℕ) → IsTrue (is_wanted s n) → node_at after.tree n ≡ node_at s.tree n
  pub other_nodes_go : (n : ℕ) → IsFalse (is_wanted s n) → node_at after.tree n ≡ None
  pub processes_stay : after.processes ≡ s.processes
  pub last_process_stays : after.last_process ≡ s.last_process

-- collection keeps exactly the open files in use and the wanted nodes
abbrev pub KeepsExactlyWanted : Type 0
KeepsExactlyWanted = (s : State) → IsCollected s (collect s)

-- collection is idempotent
abbrev pub CollectionIsIdempotent : Type 0
CollectionIsIdempotent = (s : State) → IsWellFormed s.tree → collect (collect s) ≡ collect s

-- collection keeps a tree well-formed
abbrev pub StaysWellFormed : Type 0
StaysWellFormed = (s : State) → IsWellFormed s.tree → IsWellFormed (collect s).tree
