-- Opening of nodes.
use Rattle.std.specs.Prelude.{◌≡◌, ◌≢◌, ℕ, ◌+◌, ◌<◌, Option, Some}
use Rattle.pv_procs.specs.OfTree.OfInodes.declared.space.Space.{Space}
use Rattle.pv_model.specs.declared.limits.TheConstants.{DESCRIPTORS, OPEN_FILES}
use Rattle.pv_model.specs.declared.open_flags.OpenFlags.{OpenFlags}
use Rattle.pv_model.specs.Machine.{Bytes, collect, Numbered, least_free, OpenFile, Process, State, process_at}
use Rattle.pv_procs.specs.OfTree.Holding.{HeldTree, holds_at}
use Rattle.pv_procs.specs.OfTree.Rooms.{room_error}
use Rattle.pv_calls_state.specs.Changes.{with_node_opened, with_file_made}

-- a process, if it is live, has a free descriptor, and there is a free open file
pub record CanOpen (files : Numbered OpenFile) (process : Option Process) : Type 0 where
  pub descriptor : (me : Process) → process ≡ Some me → least_free me.descriptors < DESCRIPTORS
  pub file : least_free files < OPEN_FILES

-- the least free descriptor of a process, if it is live
abbrev pub IsLeastDescriptor : Option Process → ℕ → Type 0
IsLeastDescriptor process d = (me : Process) → process ≡ Some me → least_free me.descriptors ≡ d

-- a node has one more reference, and the tree is unchanged
pub record References (node : ℕ) (before after : HeldTree) : Type 0 where
  pub tree : after.tree ≡ before.tree
  pub more : holds_at after node ≡ holds_at before node + 1
  pub others : (other : ℕ) → other ≢ node → holds_at after other ≡ holds_at before other

module _ (s : State) (pid : ℕ) (flags : OpenFlags) where
  -- a live process opened a node
  abbrev pub OpensNode : ℕ → State → Type 0
  OpensNode node new = (me : Process) → process_at s pid ≡ Some me → new ≡ collect (with_node_opened s pid me flags node)

  -- a live process made a file under a name in a directory, and opened it as descriptor d
  pub record MakesFile (directory : ℕ) (name : Bytes) (new : State) (d : ℕ) : Type 0 where
    pub number : IsLeastDescriptor (process_at s pid) d
    pub opened : (me : Process) → process_at s pid ≡ Some me → new ≡ collect (with_file_made s pid me flags directory name)

  -- there is no room for such a file, and nothing changed
  pub record LacksRoomForFile (directory : ℕ) (name : Bytes) (new : State) (why : Space) : Type 0 where
    pub refused : (me : Process) → process_at s pid ≡ Some me → room_error (collect (with_file_made s pid me flags directory name)).tree ≡ Some why
    pub unchanged : new ≡ s
