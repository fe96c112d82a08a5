-- The provenance of names and of permissions: the names that a step gives to a node, and the permissions that come with
-- them. unveil(2), rename(2), link(2).
use Rattle.std.specs.Prelude.{◌≡◌, ◌≢◌, ◌⊎◌, ℕ, Bool, ◌||◌, IsTrue, IsFalse, Option, Some, is_some, Ok}
use Rattle.pv_model.specs.declared.call.Call.TheVariants.{Link, Rename}
use Rattle.pv_model.specs.declared.judgement.Judgement.TheVariants.{Allowed}
use Rattle.pv_model.specs.declared.outcome.Outcome.TheVariants.{Value}
use Rattle.pv_model.specs.declared.perms.Perms.{Perms}
use Rattle.pv_model.specs.declared.place.Place.{Place}
use Rattle.pv_model.specs.Machine.{Bytes, GovernsName, node_of, name_of, end_of, next, is_file, Program, Process, State, process_at, step, Tree, node_at, is_directory_at, find_entry, IsAtOrAbove, Table, permissions_at, judgement, Walk, rename_walk}
use Rattle.pv_model.specs.Walks.{linked_walk, new_link_walk}
use Rattle.pv_laws_states.specs.States.{EncodesPrograms, IsValid}
use Rattle.pv_laws_access.specs.Growth.{begins_image}
use Rattle.pv_laws_access.specs.Origins.{MakesCall}

-- a walk of a call ends at a place that the caller's table allows for the permissions that the walk needs
abbrev pub LeadsToAllowed : State → Process → Walk → Place → Type 0
LeadsToAllowed s me w place = (end_of s me w ≡ Ok place) × (judgement s.tree me.table place w.needed ≡ Allowed)

module _ (program_of : Bytes → Option Program) (s : State) (pid : ℕ) where
  -- the step is a successful rename that gives node n a name in directory d instead of its old name; the caller's table
  -- allows both places for c
  pub record IsRenamedTo (n d : ℕ) (name : Bytes) : Type 0 where
    pub me : Process
    pub path : Bytes
    pub new : Bytes
    pub from : Place
    pub into : Place
    pub made : MakesCall s pid me (Rename path new)
    pub leads_from : LeadsToAllowed s me (rename_walk path) from
    pub leads_into : LeadsToAllowed s me (rename_walk new) into
    pub node : node_of from ≡ Some n
    pub named : name_of into ≡ Some (d, name)
    pub succeeds : (step program_of s pid).outcome ≡ Value 0

  -- the step is a successful link that gives node n, which is not a directory, a name in directory d; the caller's
  -- table allows the node's place for r and the name's place for c
  pub record IsLinkedTo (n d : ℕ) (name : Bytes) : Type 0 where
    pub me : Process
    pub path : Bytes
    pub new : Bytes
    pub from : Place
    pub into : Place
    pub made : MakesCall s pid me (Link path new)
    pub leads_from : LeadsToAllowed s me (linked_walk path) from
    pub leads_into : LeadsToAllowed s me (new_link_walk new) into
    pub node : node_of from ≡ Some n
    pub plain : IsFalse (is_directory_at s.tree n)
    pub named : name_of into ≡ Some (d, name)
    pub succeeds : (step program_of s pid).outcome ≡ Value 0

  -- the step gives an existing node a new name
  pub data IsGivenName (n d : ℕ) (name : Bytes) : Type 0 where
    by_rename : IsRenamedTo n d name → IsGivenName n d name
    by_link : IsLinkedTo n d name → IsGivenName n d name

  -- the reason why an entry governs a name of node f after the step: it governed that name of f before; or f was given
  -- that name; or f had the name, and a directory at or above the name's directory was renamed
  pub data ComesFrom (f d : ℕ) (name : Bytes) (table : Table) (k : ℕ) : Type 0 where
    it_governed : find_entry s.tree d name ≡ Some f → GovernsName s.tree table d name k → ComesFrom f d name table k
    it_was_given : IsGivenName f d name → ComesFrom f d name table k
    one_above_was_renamed : (e up : ℕ) (word : Bytes) → find_entry s.tree d name ≡ Some f → IsAtOrAbove (step program_of s pid).after.tree e d → IsRenamedTo e up word → ComesFrom f d name table k

-- an existing node gets a name only by a rename or a link of it
abbrev pub NamesAreGivenByCalls : Type 0
NamesAreGivenByCalls =
    (program_of : Bytes → Option Program) → EncodesPrograms program_of → (s : State) (pid n d : ℕ) (name : Bytes) → IsValid s → IsTrue (is_some (node_at s.tree n))
    → find_entry (step program_of s pid).after.tree d name ≡ Some n → find_entry s.tree d name ≢ Some n → IsGivenName program_of s pid n d name

-- an entry of any table starts to govern a name of an existing node only by such a call
abbrev pub PermissionsAreGivenByMoves : Type 0
PermissionsAreGivenByMoves =
    (program_of : Bytes → Option Program) → EncodesPrograms program_of → (s : State) (pid f : ℕ) (table : Table) (d : ℕ) (name : Bytes) (k : ℕ) → IsValid s
    → IsTrue (is_some (node_at s.tree f)) → find_entry (step program_of s pid).after.tree d name ≡ Some f → GovernsName (step program_of s pid).after.tree table d name k
    → ComesFrom program_of s pid f d name table k

abbrev pub gives_any : Perms → Bool
gives_any permissions = permissions.r || permissions.w || permissions.x || permissions.c

-- no entry that governs a name of the node has a permission
abbrev pub GivesNothing : Tree → Table → ℕ → Type 0
GivesNothing t table f = (d : ℕ) (name : Bytes) (k : ℕ) → find_entry t d name ≡ Some f → GovernsName t table d name k → IsFalse (gives_any (permissions_at table k))

-- the same table is in force, and still grants nothing at the file
pub record StillGrantsNothing (table : Table) (f : ℕ) (after : State) (q : Process) : Type 0 where
  pub in_force : q.table ≡ Some table
  pub nothing : GivesNothing after.tree table f

-- if a locked table grants nothing at a file, the process's own step changes nothing about that, unless it is an execve
-- without execpromises
abbrev pub OwnStepsGrantNothing : Type 0
OwnStepsGrantNothing =
    (program_of : Bytes → Option Program) → EncodesPrograms program_of → (s : State) (pid f : ℕ) (p q : Process) (table : Table) → IsValid s
    → process_at s pid ≡ Some p → p.table ≡ Some table → IsTrue p.locked → IsTrue (is_file (node_at s.tree f)) → GivesNothing s.tree table f
    → process_at (step program_of s pid).after pid ≡ Some q → IsFalse (begins_image (next p) (step program_of s pid).outcome) ⊎ IsTrue (is_some p.execpromises)
    → StillGrantsNothing table f (step program_of s pid).after q
