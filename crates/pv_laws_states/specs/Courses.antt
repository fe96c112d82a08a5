-- Laws of the walks that calls make, and of the refusals of calls there: unveil(2).
use Rattle.std.specs.Prelude.{◌≡◌, ◌⊎◌, ℕ, Bool, true, false, IsTrue, IsFalse, List, [], ◌∷◌, Option, None, Some, Ok}
use Rattle.pv_model.specs.declared.call.Call.{Call}
use Rattle.pv_model.specs.declared.call.Call.TheVariants.{Unveil}
use Rattle.pv_model.specs.declared.errno.Errno.{Errno}
use Rattle.pv_model.specs.declared.errno.Errno.TheVariants.{EPERM}
use Rattle.pv_model.specs.declared.judgement.Judgement.TheVariants.{Hidden, Denied}
use Rattle.pv_model.specs.declared.outcome.Cause.{Cause}
use Rattle.pv_model.specs.declared.outcome.Cause.TheVariants.{Unveil as ByUnveil, Locked}
use Rattle.pv_model.specs.declared.outcome.Outcome.TheVariants.{Failed}
use Rattle.pv_model.specs.declared.perms.Perms.{Perms}
use Rattle.pv_model.specs.declared.place.Place.{Place}
use Rattle.pv_model.specs.Machine.{answer, effect, Attempt, done, refused, ◌>>=◌, ◌>>◌, give, Bytes, entries_of_table, Effect, walk, judge, end_of, needs, covers, read_permissions, missing_promise, Program, Process, State, process_at, judgement, entry_for, permissions_at, target_of, Walk, walks_of, walk_number, is_unveil}
use Rattle.pv_model.specs.Trace.{asked_permissions}

-- a cause that is a decision of the table: an entry, the lack of one, or the lock
abbrev pub is_of_table : Cause → Bool
is_of_table (ByUnveil entry) = true
is_of_table Locked = true
is_of_table cause = false

-- walks in sequence, each checked at its end
abbrev pub walks_in_sequence : State → Process → List Walk → Attempt (Unit {0})
walks_in_sequence s me [] = give tt
walks_in_sequence s me (w ∷ ws) = walk s me w >>= (λ place. judge s me w place >> walks_in_sequence s me ws)

-- n walks were begun, and the table refuses nothing
abbrev pub IsAfter : {A : Type 0} → ℕ → Attempt A → Type 0
IsAfter n (done walks value) = walks ≡ n
IsAfter n (refused walks errno cause) = (walks ≡ n) × IsFalse (is_of_table cause)

-- refused before any walk, and not by the table
abbrev pub IsStoppedEarly : {A : Type 0} → Attempt A → Type 0
IsStoppedEarly (done walks value) = ⊥
IsStoppedEarly (refused walks errno cause) = (walks ≡ 0) × IsFalse (is_of_table cause)

-- if a walk is refused, the call is refused; otherwise the table refuses nothing after the walks
abbrev pub IsOnCourse : Attempt (Unit {0}) → Attempt Effect → Type 0
IsOnCourse (done walks value) a = IsAfter walks a
IsOnCourse (refused walks errno cause) a = a ≡ refused walks errno cause

-- each call other than unveil is refused before its first walk, or makes its walks
abbrev pub CallsAreOnCourse : Type 0
CallsAreOnCourse =
    (program_of : Bytes → Option Program) (s : State) (pid : ℕ) (me : Process) (call : Call) → IsFalse (is_unveil call)
    → IsStoppedEarly (effect program_of s pid me call) ⊎ IsOnCourse (walks_in_sequence s me (walks_of call)) (effect program_of s pid me call)

-- no entry governs the place, or the entry that governs it lacks a permission
abbrev pub IsRefusedAt : State → Process → Place → Perms → Option ℕ → Type 0
IsRefusedAt s me place needed None = judgement s.tree me.table place needed ≡ Hidden
IsRefusedAt s me place needed (Some k) = judgement s.tree me.table place needed ≡ Denied k

-- an unveil would give an entry new permissions
abbrev pub WouldWiden : State → Process → Call → Place → Perms → Option ℕ → Type 0
WouldWiden s me call place needed None = ⊥
WouldWiden s me call place needed (Some k) =
    IsTrue (is_unveil call) × (entry_for (entries_of_table me.table) (target_of s.tree place) ≡ Some k)
    × IsFalse (covers (permissions_at (entries_of_table me.table) k) needed)

-- the table refused the call at the end of its last walk, for the permissions needed there, and the trace prints these
-- permissions
pub record IsStoppedByTable (s : State) (me : Process) (call : Call) (walks : ℕ) (entry : Option ℕ) : Type 0 where
  pub walk : Walk
  pub place : Place
  pub last : walk_number (walks_of call) walks ≡ Some walk
  pub end : end_of s me walk ≡ Ok place
  pub decided : IsRefusedAt s me place walk.needed entry ⊎ WouldWiden s me call place walk.needed entry
  pub reported : asked_permissions call walks ≡ walk.needed

-- a refusal that names an entry, or the lack of one, results from the place where the call stopped
abbrev pub RefusalsNameTheEntry : Type 0
RefusalsNameTheEntry =
    (program_of : Bytes → Option Program) (s : State) (pid : ℕ) (me : Process) (call : Call) (errno : Errno) (entry : Option ℕ)
    → process_at s pid ≡ Some me → (answer program_of s pid call).outcome ≡ Failed errno (ByUnveil entry)
    → IsStoppedByTable s me call (answer program_of s pid call).walks entry

-- the lock refused the call: an unveil by a process with a locked table, before any walk
pub record IsStoppedByLock (me : Process) (call : Call) (errno : Errno) : Type 0 where
  pub locked : IsTrue me.locked
  pub unveils : IsTrue (is_unveil call)
  pub error : errno ≡ EPERM

-- a refusal that names the lock results from the lock
abbrev pub RefusalsNameTheLock : Type 0
RefusalsNameTheLock =
    (program_of : Bytes → Option Program) (s : State) (pid : ℕ) (me : Process) (call : Call) (errno : Errno)
    → process_at s pid ≡ Some me → (answer program_of s pid call).outcome ≡ Failed errno Locked → IsStoppedByLock me call errno

-- under the lock, with or without a table, each unveil of a path with permissions is refused
abbrev pub LockRefusesUnveils : Type 0
LockRefusesUnveils =
    (program_of : Bytes → Option Program) (s : State) (pid : ℕ) (me : Process) (path text : Bytes) (permissions : Perms)
    → process_at s pid ≡ Some me → missing_promise me.promises (needs (Unveil (Some path) (Some text))) ≡ None
    → IsTrue me.locked → read_permissions text ≡ Some permissions
    → (answer program_of s pid (Unveil (Some path) (Some text))).outcome ≡ Failed EPERM Locked
