-- Removal of users and references, and of the open files and nodes that become unused.
use Rattle.std.specs.Prelude.{◌≡◌, ℕ, ◌+◌, ◌<◌, ◌≤◌, List, [], ◌∷◌, map, slice_index, Option, None, Some, if◌then◌else◌}
use Rattle.pv_files.specs.Counted.{Counted}
use Rattle.pv_model.specs.Machine.{Numbered, at_number, present, Descriptor}
use Rattle.pv_procs.specs.OfTree.Holding.{HeldTree, holds_at, collected}
use Rattle.pv_calls_state.specs.Counts.{times, open_nodes}

-- the open file of each descriptor, with repetitions
abbrev pub files_on : Numbered Descriptor → List ℕ
files_on ds = map (λ d. d.file) (present ds)

-- a descriptor, if it is marked close-on-exec
abbrev pub if_marked : Option Descriptor → Option Descriptor
if_marked None = None
if_marked (Some d) = if d.close_on_exec then Some d else None

abbrev pub marked_of : Numbered Descriptor → Numbered Descriptor
marked_of ds = map if_marked ds

abbrev pub at_most_one : Option ℕ → List ℕ
at_most_one None = []
at_most_one (Some n) = n ∷ []

-- the number of references of each node is at least the number of open files on it
pub record HoldsOpened (tree : HeldTree) (counted : Counted) : Type 0 where
  pub each : (n : ℕ) → times n (open_nodes counted.files) ≤ holds_at tree n

-- the users `all` except `left` are removed, with the open files that have no user left and the nodes that have neither
-- a name nor a reference left
pub record Releases (all left : List ℕ) (tree : HeldTree) (counted : Counted) (after : HeldTree) (opened : Counted) : Type 0 where
  pub users : (k : ℕ) → slice_index opened.users k + times k all ≡ slice_index counted.users k + times k left
  pub files : (k : ℕ) → 0 < slice_index opened.users k → at_number opened.files k ≡ at_number counted.files k
  pub holds : (n : ℕ) → holds_at after n + times n (open_nodes counted.files) ≡ holds_at tree n + times n (open_nodes opened.files)
  pub fewer : (n : ℕ) → holds_at after n ≤ holds_at tree n
  pub nodes : after.tree ≡ collected tree.tree after.holds

-- the users `all` except `left` are counted again
pub record Shares (all left : List ℕ) (counted shared : Counted) : Type 0 where
  pub users : (k : ℕ) → slice_index shared.users k + times k left ≡ slice_index counted.users k + times k all
  pub files : shared.files ≡ counted.files

-- each node in `all` loses one reference, and is collected if it has neither a name nor a reference left
pub record Unreferences (all : List ℕ) (tree after : HeldTree) : Type 0 where
  pub holds : (n : ℕ) → holds_at after n + times n all ≡ holds_at tree n
  pub nodes : after.tree ≡ collected tree.tree after.holds
