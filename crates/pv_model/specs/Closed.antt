-- The conditions under which a process is closed to a file, cannot change it, or is not closed to it, one by one.
use Rattle.std.specs.Prelude.{◌≡◌, ◌⊎◌, ℕ, ◌<◌, ◌≤◌, Bool, ◌||◌, IsTrue, IsFalse, None, Some, is_some}
use Rattle.pv_model.specs.declared.open_flags.Mode.{Mode}
use Rattle.pv_model.specs.declared.perms.Perms.{Perms}
use Rattle.pv_model.specs.declared.promise.Promise.{Promise}
use Rattle.pv_model.specs.declared.promise.Promise.TheVariants.{Rpath, Wpath, Cpath, Exec as ExecPromise}
use Rattle.pv_model.specs.declared.target.Target.TheVariants.{Name}
use Rattle.pv_model.specs.declared.verdict.Why.{Why}
use Rattle.pv_model.specs.declared.verdict.Why.TheVariants.{Reads, NoTable, NotLocked, Gives, Above, Exec}
use Rattle.pv_model.specs.Bytes.{Bytes}
use Rattle.pv_model.specs.Numbered.{at_number}
use Rattle.pv_model.specs.Promises.{Promises, contains}
use Rattle.pv_model.specs.State.{OpenFile, Descriptor, Process, State, reads, writes}
use Rattle.pv_model.specs.Tree.{Tree, find_entry, IsAtOrAbove}
use Rattle.pv_model.specs.Unveil.{Table, entry_for, permissions_at, Governs}

-- a process is pledged without a promise
abbrev pub Lacks : Process → Promise → Type 0
Lacks p promise = (held : Promises) × (p.promises ≡ Some held) × IsFalse (contains held promise)

-- an entry of a table governs a name in a directory: the entry for the name, or else the entry that governs the
-- directory
pub data GovernsName (t : Tree) (table : Table) (d : ℕ) (name : Bytes) : ℕ → Type 0 where
  by_name : (k : ℕ) → entry_for table (Name d name) ≡ Some k → GovernsName t table d name k
  by_directory : (k : ℕ) → entry_for table (Name d name) ≡ None → Governs t table d k → GovernsName t table d name k

-- the permissions with which a file can be read, executed or moved
abbrev pub opens_or_moves : Perms → Bool
opens_or_moves permissions = permissions.r || permissions.x || permissions.c

-- the process cannot call execve, or keeps its restraints when it does
abbrev pub IsHeldOverExec : Process → Type 0
IsHeldOverExec p = Lacks p ExecPromise ⊎ IsTrue (is_some p.execpromises)

module _ (s : State) (p : Process) (f : ℕ) where
  -- a descriptor of the process is on the file, in a mode that passes a test
  abbrev pub HasOn : (Mode → Bool) → ℕ → Type 0
  HasOn test d =
      (x : Descriptor) × (file : OpenFile) × (at_number p.descriptors d ≡ Some x) × (at_number s.files x.file ≡ Some file)
      × (file.node ≡ f) × IsTrue (test file.mode)

  -- an entry governs a name of the file, and its permissions pass a test
  abbrev pub GivesName : Table → (Perms → Bool) → ℕ → Type 0
  GivesName table test k =
      (d : ℕ) × (name : Bytes) × (find_entry s.tree d name ≡ Some f) × GovernsName s.tree table d name k × IsTrue (test (permissions_at table k))

  -- an entry with c governs the directory of a name of the file, or an ancestor of that directory
  abbrev pub GivesAbove : Table → ℕ → Type 0
  GivesAbove table k =
      (d : ℕ) × (name : Bytes) × (e : ℕ) × (find_entry s.tree d name ≡ Some f) × IsAtOrAbove s.tree e d
      × Governs s.tree table e k × IsTrue (permissions_at table k).c

  -- the promises prevent the process from opening, executing, moving and linking anything
  pub record IsClosedByPledge : Type 0 where
    pub no_rpath : Lacks p Rpath
    pub no_exec : Lacks p ExecPromise
    pub no_cpath : Lacks p Cpath

  -- the table prevents the process from opening, executing, moving or linking the file, and cannot be replaced
  pub record IsClosedByTable (table : Table) : Type 0 where
    pub in_force : p.table ≡ Some table
    pub locked : IsTrue p.locked
    pub names : (k : ℕ) → ¬ GivesName table opens_or_moves k
    pub directories : (k : ℕ) → ¬ GivesAbove table k
    pub over_exec : IsHeldOverExec p

  -- the process does not read the file and never will
  pub record IsClosed : Type 0 where
    pub descriptors : (d : ℕ) → ¬ HasOn reads d
    pub restraints : IsClosedByPledge ⊎ ((table : Table) × IsClosedByTable table)

  -- the promises prevent the process from opening anything for writing
  pub record IsFixedByPledge : Type 0 where
    pub no_wpath : Lacks p Wpath
    pub no_exec : Lacks p ExecPromise

  -- the table prevents the process from opening the file for writing, and cannot be replaced
  pub record IsFixedByTable (table : Table) : Type 0 where
    pub in_force : p.table ≡ Some table
    pub locked : IsTrue p.locked
    pub names : (k : ℕ) → ¬ GivesName table (λ permissions. permissions.w) k
    pub over_exec : IsHeldOverExec p

  -- a process that is closed to the file does not write it either and never will
  pub record IsFrozenTo : Type 0 where
    pub descriptors : (d : ℕ) → ¬ HasOn writes d
    pub restraints : IsFixedByPledge ⊎ ((table : Table) × IsFixedByTable table)

  -- a reason why a process is not closed to the file
  pub data IsReason : Why → Type 0 where
    by_reading : (d : ℕ) → HasOn reads d → IsReason (Reads d)
    by_no_table : ¬ IsClosedByPledge → p.table ≡ None → IsReason NoTable
    by_no_lock : (table : Table) → ¬ IsClosedByPledge → p.table ≡ Some table → IsFalse p.locked → IsReason NotLocked
    by_name : (table : Table) (k : ℕ) → ¬ IsClosedByPledge → p.table ≡ Some table → GivesName table opens_or_moves k → IsReason (Gives k)
    by_directory : (table : Table) (k : ℕ) → ¬ IsClosedByPledge → p.table ≡ Some table → GivesAbove table k → IsReason (Above k)
    by_exec : (table : Table) → ¬ IsClosedByPledge → p.table ≡ Some table → ¬ IsHeldOverExec p → IsReason Exec

-- reasons are ordered by kind, and then by descriptor or entry
abbrev pub sort_of : Why → ℕ
sort_of (Reads d) = 0
sort_of NoTable = 1
sort_of NotLocked = 2
sort_of (Gives k) = 3
sort_of (Above k) = 4
sort_of Exec = 5

abbrev pub why_number : Why → ℕ
why_number (Reads d) = d
why_number (Gives k) = k
why_number (Above k) = k
why_number why = 0

abbrev pub IsNoLater : Why → Why → Type 0
IsNoLater a b = (sort_of a < sort_of b) ⊎ ((sort_of a ≡ sort_of b) × (why_number a ≤ why_number b))
