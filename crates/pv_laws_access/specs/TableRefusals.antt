-- Refusals by an unveil table and by its lock: when they occur, and which entry they name. unveil(2).
use Rattle.std.specs.Prelude.{◌≡◌, ◌↔◌, ℕ, IsTrue, IsFalse, List, [], ◌∷◌, Option, None, Some, Ok}
use Rattle.pv_model.specs.declared.call.Call.{Call}
use Rattle.pv_model.specs.declared.call.Call.TheVariants.{Unveil}
use Rattle.pv_model.specs.declared.errno.Errno.{Errno}
use Rattle.pv_model.specs.declared.errno.Errno.TheVariants.{EPERM, ENOENT, EACCES}
use Rattle.pv_model.specs.declared.outcome.Cause.TheVariants.{Unveil as ByUnveil, Locked}
use Rattle.pv_model.specs.declared.outcome.Outcome.TheVariants.{Failed}
use Rattle.pv_model.specs.declared.perms.Perms.{Perms}
use Rattle.pv_model.specs.declared.place.Place.{Place}
use Rattle.pv_model.specs.Machine.{Answered, answer, Bytes, end_of, needs, covers, read_permissions, missing_promise, Program, Process, State, process_at, Word, unvl_word, Line, call_lines, Tree, Table, entry_for, permissions_at, target_of, Walk, walks_of, walk_number, is_unveil}
use Rattle.pv_model.specs.Trace.{UnveilVerdict, no_entry, entry_lacks, table_locked}
use Rattle.pv_laws_access.specs.Tables.{GovernsPlace}

-- the place where a call stopped, at the end of the last walk that it began, and the permissions that it needs there
pub record StoppedAt (s : State) (me : Process) (call : Call) (walks : ℕ) (place : Place) (needed : Perms) : Type 0 where
  pub walk : Walk
  pub last : walk_number (walks_of call) walks ≡ Some walk
  pub end : end_of s me walk ≡ Ok place
  pub asked : walk.needed ≡ needed

-- a table refuses a call at a place for the permissions needed there: no entry governs the place; or the entry that
-- governs it lacks a permission; or an unveil would widen the entry for exactly this place, which governs it
pub data TableRefuses (t : Tree) (table : Table) (call : Call) (place : Place) (needed : Perms) : Errno → Option ℕ → Type 0 where
  refused_without_entry : IsFalse (is_unveil call) → ((k : ℕ) → ¬ GovernsPlace t table place k) → TableRefuses t table call place needed ENOENT None
  refused_by_entry : (k : ℕ) → IsFalse (is_unveil call) → GovernsPlace t table place k → IsFalse (covers (permissions_at table k) needed)
      → TableRefuses t table call place needed EACCES (Some k)
  would_widen : (k : ℕ) → IsTrue (is_unveil call) → entry_for table (target_of t place) ≡ Some k → GovernsPlace t table place k
      → IsFalse (covers (permissions_at table k) needed) → TableRefuses t table call place needed EPERM (Some k)

-- the process's table refuses the call at the place where it stopped
pub record IsRefusedByTable (s : State) (me : Process) (call : Call) (walks : ℕ) (errno : Errno) (entry : Option ℕ) : Type 0 where
  pub table : Table
  pub in_force : me.table ≡ Some table
  pub place : Place
  pub needed : Perms
  pub stopped : StoppedAt s me call walks place needed
  pub refuses : TableRefuses s.tree table call place needed errno entry

-- a refusal names an entry, or the lack of one, if and only if the table refuses the call in this way
abbrev pub TableRefusesExactly : Type 0
TableRefusesExactly =
    (program_of : Bytes → Option Program) (s : State) (pid : ℕ) (me : Process) (call : Call) (errno : Errno) (entry : Option ℕ) → process_at s pid ≡ Some me
    → ((answer program_of s pid call).outcome ≡ Failed errno (ByUnveil entry)) ↔ IsRefusedByTable s me call (answer program_of s pid call).walks errno entry

-- an unveil of a path with permissions, under the lock
pub record IsRefusedByLock (me : Process) (call : Call) (errno : Errno) : Type 0 where
  pub path : Bytes
  pub text : Bytes
  pub permissions : Perms
  pub unveils : call ≡ Unveil (Some path) (Some text)
  pub encoded : read_permissions text ≡ Some permissions
  pub held : missing_promise me.promises (needs call) ≡ None
  pub locked : IsTrue me.locked
  pub error : errno ≡ EPERM

-- a refusal names the lock if and only if it is set, with or without a table, and the call unveils a path with
-- permissions
abbrev pub LockRefusesExactly : Type 0
LockRefusesExactly =
    (program_of : Bytes → Option Program) (s : State) (pid : ℕ) (me : Process) (call : Call) (errno : Errno) → process_at s pid ≡ Some me
    → ((answer program_of s pid call).outcome ≡ Failed errno Locked) ↔ IsRefusedByLock me call errno

-- the decisions of tables that the lines of a step report
abbrev pub verdicts_of_word : Word → List UnveilVerdict → List UnveilVerdict
verdicts_of_word (unvl_word verdict) rest = verdict ∷ rest
verdicts_of_word word rest = rest

abbrev pub table_verdicts : List Line → List UnveilVerdict
table_verdicts [] = []
table_verdicts (l ∷ ls) = verdicts_of_word l.word (table_verdicts ls)

-- the decision to report: the entry or the lack of one, with the permissions needed at the place; or the lock; or
-- nothing
pub data IsDecisionToReport (s : State) (me : Process) (call : Call) (a : Answered) : List UnveilVerdict → Type 0 where
  of_none : (errno : Errno) (is : IsRefusedByTable s me call a.walks errno None) → a.outcome ≡ Failed errno (ByUnveil None)
      → IsDecisionToReport s me call a (no_entry is.needed ∷ [])
  of_entry : (errno : Errno) (k : ℕ) (is : IsRefusedByTable s me call a.walks errno (Some k)) → a.outcome ≡ Failed errno (ByUnveil (Some k))
      → IsDecisionToReport s me call a (entry_lacks k is.needed ∷ [])
  of_lock : (errno : Errno) → IsRefusedByLock me call errno → a.outcome ≡ Failed errno Locked → IsDecisionToReport s me call a (table_locked ∷ [])
  of_nothing : ((errno : Errno) (entry : Option ℕ) → ¬ (a.outcome ≡ Failed errno (ByUnveil entry))) → ((errno : Errno) → ¬ (a.outcome ≡ Failed errno Locked))
      → IsDecisionToReport s me call a []

-- the lines of a call report exactly this decision
abbrev pub LinesReportDecisions : Type 0
LinesReportDecisions =
    (program_of : Bytes → Option Program) (s : State) (pid : ℕ) (me : Process) (call : Call) → process_at s pid ≡ Some me
    → IsDecisionToReport s me call (answer program_of s pid call) (table_verdicts (call_lines pid me call (answer program_of s pid call)))
