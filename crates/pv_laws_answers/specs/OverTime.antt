-- The permissions of a process at a place before and after its own step, under a locked table.
use Rattle.std.specs.Prelude.{◌≡◌, ◌⊎◌, ℕ, IsTrue, IsFalse, slice_get, Option, Some}
use Rattle.pv_model.specs.declared.perms.Perms.{Perms}
use Rattle.pv_model.specs.declared.place.Place.{Place}
use Rattle.pv_model.specs.declared.place.Place.TheVariants.{At}
use Rattle.pv_model.specs.declared.promise.Promise.TheVariants.{Cpath}
use Rattle.pv_model.specs.declared.target.Target.{Target}
use Rattle.pv_model.specs.Answers.Reach.{reached_permissions}
use Rattle.pv_model.specs.Machine.{Bytes, covers, next, Program, Process, State, process_at, step, Touches, Tree, is_directory_at, find_entry, IsAtOrAbove, Table}
use Rattle.pv_model.specs.Promises.{holds}
use Rattle.pv_model.specs.Touch.{change_entry}
use Rattle.pv_laws_states.specs.States.{EncodesPrograms, IsValid}
use Rattle.pv_laws_access.specs.Growth.{begins_image}

-- a name in a directory, with the node that it has
abbrev pub place_in : Tree → ℕ → Bytes → Place
place_in t d name = At d name (find_entry t d name)

-- the permissions of a process at a name in a directory
abbrev pub permissions_of_name : State → Process → ℕ → Bytes → Perms
permissions_of_name s p d name = reached_permissions s p (place_in s.tree d name)

module _ (program_of : Bytes → Option Program) (s : State) (pid : ℕ) where
  -- the step is the process's own; the process stays live in one program image, and its table is locked
  pub record IsOwnStep (p q : Process) (table : Table) : Type 0 where
    pub at : process_at s pid ≡ Some p
    pub left : process_at (step program_of s pid).after pid ≡ Some q
    pub in_image : IsFalse (begins_image (next p) (step program_of s pid).outcome)
    pub in_force : p.table ≡ Some table
    pub locked : IsTrue p.locked

  -- the process gains no permission at the place
  abbrev pub PermissionsOnlyDecrease : Process → Process → ℕ → Bytes → Type 0
  PermissionsOnlyDecrease p q d name = IsTrue (covers (permissions_of_name s p d name) (permissions_of_name (step program_of s pid).after q d name))

  -- an entry is that of the name, or one for a directory at or above its directory, before or after the step
  pub data IsAtOrAbovePlace (d : ℕ) (name : Bytes) : ℕ → Bytes → Type 0 where
    there : IsAtOrAbovePlace d name d name
    above_before : (x e : ℕ) (word : Bytes) → IsAtOrAbove s.tree x d → find_entry s.tree e word ≡ Some x → IsAtOrAbovePlace d name e word
    above_after : (x e : ℕ) (word : Bytes) → IsAtOrAbove s.tree x d → find_entry (step program_of s pid).after.tree e word ≡ Some x → IsAtOrAbovePlace d name e word

-- a step that changes no entry adds no permission
abbrev pub PermissionsDecreaseWithoutChange : Type 0
PermissionsDecreaseWithoutChange =
    (program_of : Bytes → Option Program) → EncodesPrograms program_of → (s : State) (pid : ℕ) (p q : Process) (table : Table) (d : ℕ) (name : Bytes) → IsValid s → IsOwnStep program_of s pid p q table
    → IsTrue (is_directory_at s.tree d) → ((e : ℕ) (word : Bytes) → ¬ Touches program_of s pid (change_entry e word)) → PermissionsOnlyDecrease program_of s pid p q d name

-- no entry of a table grants c
abbrev pub GrantsNoC : Table → Type 0
GrantsNoC table = (k : ℕ) (e : Target × Perms) → slice_get table k ≡ Some e → IsFalse e.1.c

-- if no entry of the table grants c, or the promises lack cpath, the step adds no permission
abbrev pub PermissionsDecreaseWithoutC : Type 0
PermissionsDecreaseWithoutC =
    (program_of : Bytes → Option Program) → EncodesPrograms program_of → (s : State) (pid : ℕ) (p q : Process) (table : Table) (d : ℕ) (name : Bytes) → IsValid s → IsOwnStep program_of s pid p q table
    → IsTrue (is_directory_at s.tree d) → GrantsNoC table ⊎ IsFalse (holds p.promises Cpath) → PermissionsOnlyDecrease program_of s pid p q d name

-- if the step adds a permission, it changed the entry there or one for a directory at or above
abbrev pub PermissionsIncreaseByChanges : Type 0
PermissionsIncreaseByChanges =
    (program_of : Bytes → Option Program) → EncodesPrograms program_of → (s : State) (pid : ℕ) (p q : Process) (table : Table) (d : ℕ) (name : Bytes) → IsValid s → IsOwnStep program_of s pid p q table
    → IsTrue (is_directory_at s.tree d) → IsFalse (covers (permissions_of_name s p d name) (permissions_of_name (step program_of s pid).after q d name))
    → (e : ℕ) × (word : Bytes) × Touches program_of s pid (change_entry e word) × IsAtOrAbovePlace program_of s pid d name e word

-- the process had c at each entry that the step changed
abbrev pub ChangesShowC : Type 0
ChangesShowC =
    (program_of : Bytes → Option Program) (s : State) (pid : ℕ) (p : Process) (e : ℕ) (word : Bytes) → IsValid s → process_at s pid ≡ Some p → Touches program_of s pid (change_entry e word)
    → IsTrue (permissions_of_name s p e word).c
