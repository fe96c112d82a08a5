-- The meaning of the permissions that `reach` shows at a place for the next call of a process.
use Rattle.std.specs.Prelude.{◌≡◌, ◌↔◌, ℕ, Bool, true, false, ◌||◌, nat_le, IsTrue, IsFalse, List, [], ◌∷◌, ◌++◌, Option, None, Some, Ok, option_and_then}
use Rattle.pv_model.specs.declared.call.Call.{Call}
use Rattle.pv_model.specs.declared.call.Call.TheVariants.{Execve, Open, Unlink, Rename}
use Rattle.pv_model.specs.declared.follow.Follow.TheVariants.{Keep}
use Rattle.pv_model.specs.declared.limits.TheConstants.{DESCRIPTORS, OPEN_FILES}
use Rattle.pv_model.specs.declared.open_flags.Mode.{Mode}
use Rattle.pv_model.specs.declared.open_flags.Mode.TheVariants.{Read, Write}
use Rattle.pv_model.specs.declared.open_flags.OpenFlags.{OpenFlags}
use Rattle.pv_model.specs.declared.outcome.Cause.TheVariants.{Promise as ByPromise, Unveil as ByUnveil}
use Rattle.pv_model.specs.declared.outcome.Outcome.{Outcome}
use Rattle.pv_model.specs.declared.outcome.Outcome.TheVariants.{Failed, Killed}
use Rattle.pv_model.specs.declared.perms.Perms.{Perms}
use Rattle.pv_model.specs.declared.place.Place.{Place}
use Rattle.pv_model.specs.declared.promise.Promise.{Promise}
use Rattle.pv_model.specs.declared.promise.Promise.TheVariants.{Rpath, Wpath, Cpath, Exec}
use Rattle.pv_model.specs.Machine.{answer, Bytes, is_link, ends_in_dot, node_of, end_of, needs, least_free, covers, Need, missing_promise, Program, Process, State, process_at, node_at, resolve, Walk, rename_walk, walks_of}
use Rattle.pv_model.specs.Answers.Reach.{reached_permissions}

-- whether a promise killed or refused the call, or a table refused it
abbrev pub is_by_sandbox : Outcome → Bool
is_by_sandbox (Killed a) = true
is_by_sandbox (Failed errno (ByPromise a)) = true
is_by_sandbox (Failed errno (ByUnveil entry)) = true
is_by_sandbox outcome = false

abbrev pub need_if : Bool → Promise → List Need
need_if true a = (a ∷ []) ∷ []
need_if false a = []

-- the promises that correspond to permissions
abbrev pub needs_for : Perms → List Need
needs_for asked = need_if asked.r Rpath ++ need_if asked.w Wpath ++ need_if asked.x Exec ++ need_if asked.c Cpath

abbrev pub is_one_permission : Perms → Bool
is_one_permission asked = asked.r || asked.w || asked.x || asked.c

module _ (program_of : Bytes → Option Program) (s : State) (pid : ℕ) (p : Process) where
  -- a call with one walk, which ends at the place; there it needs permissions, and it needs exactly the promises that
  -- correspond to them. The walk is made unless a promise is missing
  pub record AsksAt (call : Call) (place : Place) (asked : Perms) : Type 0 where
    pub walk : Walk
    pub only : walks_of call ≡ walk ∷ []
    pub end : end_of s p walk ≡ Ok place
    pub asks : walk.needed ≡ asked
    pub goes_with : needs call ≡ needs_for asked
    pub made : missing_promise p.promises (needs call) ≡ None → (answer program_of s pid call).walks ≡ 1

-- neither a promise nor the table refuses such a call if and only if the process has all these permissions at the place
abbrev pub ReachIsExact : Type 0
ReachIsExact =
    (program_of : Bytes → Option Program) (s : State) (pid : ℕ) (p : Process) (call : Call) (place : Place) (asked : Perms) → process_at s pid ≡ Some p
    → AsksAt program_of s pid p call place asked → IsTrue (is_one_permission asked)
    → IsFalse (is_by_sandbox (answer program_of s pid call).outcome) ↔ IsTrue (covers (reached_permissions s p place) asked)

-- neither refuses a rename if and only if the process has c at both its places
abbrev pub RenameIsExact : Type 0
RenameIsExact =
    (program_of : Bytes → Option Program) (s : State) (pid : ℕ) (p : Process) (path new : Bytes) (from into : Place) → process_at s pid ≡ Some p
    → IsFalse (ends_in_dot path || ends_in_dot new) → end_of s p (rename_walk path) ≡ Ok from → end_of s p (rename_walk new) ≡ Ok into
    → IsFalse (is_by_sandbox (answer program_of s pid (Rename path new)).outcome)
    ↔ (IsTrue (reached_permissions s p from).c × IsTrue (reached_permissions s p into).c)

-- a descriptor and an open file are free
abbrev pub HasRoomToOpen : State → Process → Type 0
HasRoomToOpen s p = IsFalse (nat_le DESCRIPTORS (least_free p.descriptors)) × IsFalse (nat_le OPEN_FILES (least_free s.files))

-- a path leads to a place; a link at its end is not followed
abbrev pub LeadsToItself : State → Process → Bytes → Place → Type 0
LeadsToItself s p path place = resolve s.tree Keep p.directory path ≡ Ok place

-- an open that creates nothing and does not follow a final link
abbrev pub opening_for : Mode → OpenFlags
opening_for mode = record { mode = mode; append = false; create = false; truncate = false; exclusive = false; no_follow = true; directory = false; close_on_exec = false }

-- an open for reading shows r
abbrev pub OpenShowsR : Type 0
OpenShowsR =
    (program_of : Bytes → Option Program) (s : State) (pid : ℕ) (p : Process) (path : Bytes) (place : Place) → process_at s pid ≡ Some p → HasRoomToOpen s p → LeadsToItself s p path place
    → IsFalse (is_by_sandbox (answer program_of s pid (Open path (opening_for Read))).outcome) ↔ IsTrue (reached_permissions s p place).r

-- an open for writing shows w
abbrev pub OpenShowsW : Type 0
OpenShowsW =
    (program_of : Bytes → Option Program) (s : State) (pid : ℕ) (p : Process) (path : Bytes) (place : Place) → process_at s pid ≡ Some p → HasRoomToOpen s p → LeadsToItself s p path place
    → IsFalse (is_by_sandbox (answer program_of s pid (Open path (opening_for Write))).outcome) ↔ IsTrue (reached_permissions s p place).w

-- an execve of a node that is not a link shows x
abbrev pub ExecveShowsX : Type 0
ExecveShowsX =
    (program_of : Bytes → Option Program) (s : State) (pid : ℕ) (p : Process) (path : Bytes) (place : Place) → process_at s pid ≡ Some p → LeadsToItself s p path place
    → IsFalse (is_link (option_and_then (node_at s.tree) (node_of place)))
    → IsFalse (is_by_sandbox (answer program_of s pid (Execve path)).outcome) ↔ IsTrue (reached_permissions s p place).x

-- an unlink shows c
abbrev pub UnlinkShowsC : Type 0
UnlinkShowsC =
    (program_of : Bytes → Option Program) (s : State) (pid : ℕ) (p : Process) (path : Bytes) (place : Place) → process_at s pid ≡ Some p → LeadsToItself s p path place
    → IsFalse (is_by_sandbox (answer program_of s pid (Unlink path)).outcome) ↔ IsTrue (reached_permissions s p place).c
