-- Notes on the answer about the state after a run: lines for a person.
use Rattle.std.specs.Prelude.{ℕ, zero, suc, ◌+◌, Bool, true, false, not, ◌&&◌, ◌||◌, ◌==◌, if◌then◌else◌, List, [], ◌∷◌, ◌++◌, map, filter, flat_map, codes, decimal, Option, None, Some, is_some, Result, Ok, Err}
use Rattle.pv_model.specs.declared.promise.Promise.TheVariants.{Rpath, Cpath, Exec, Unveil}
use Rattle.pv_model.specs.declared.verdict.AuditFault.{AuditFault}
use Rattle.pv_model.specs.declared.verdict.Verdict.{Verdict}
use Rattle.pv_model.specs.declared.verdict.Verdict.TheVariants.{Exposed}
use Rattle.pv_model.specs.declared.verdict.Why.{Why}
use Rattle.pv_model.specs.declared.verdict.Why.TheVariants.{NotLocked}
use Rattle.pv_model.specs.Bytes.{is_empty}
use Rattle.pv_model.specs.Machine.{Bytes, live_processes, audit_node, contains, find_entry, process_at, root, Process, State, Tree}
use Rattle.pv_model.specs.Promises.{Promises}
use Rattle.pv_model.specs.Sealed.{audit}

abbrev pub note_line : Bytes → Bytes
note_line text = codes "pvsim: note: " ++ text ++ 10 ∷ []

-- the numbers of the live processes, in order
abbrev pub live_numbers : State → List ℕ
live_numbers s = map (λ p. p.0) (live_processes s.processes)

-- ---- a run that has ended

-- the root has an entry `init`
abbrev pub has_init : Tree → Bool
has_init t = is_some (find_entry t root (codes "init"))

-- the program of process 1 is empty because the first tree has no /init; or no process is live
abbrev pub ended_notes : (is_loaded : Bool) → State → Bytes
ended_notes false s = note_line (codes "the image has no /init")
ended_notes true s = if is_empty (live_numbers s) then note_line (codes "no process is live: the run has ended") else []

-- ---- a table that is not locked, of a process that has dropped unveil

-- a process with these promises and execpromises may open files, cannot call unveil, and keeps its table over execve
abbrev pub drops_unveil : Option Promises → Option Promises → Bool
drops_unveil None execpromises = false
drops_unveil (Some held) execpromises =
    not (contains held Unveil)
    && (contains held Rpath || contains held Exec || contains held Cpath)
    && (not (contains held Exec) || is_some execpromises)

-- a process has a table that is not locked, and has dropped unveil
abbrev pub has_dropped_unveil : Option Process → Bool
has_dropped_unveil None = false
has_dropped_unveil (Some p) = is_some p.table && not p.locked && drops_unveil p.promises p.execpromises

abbrev pub is_for_lock : Why → Bool
is_for_lock NotLocked = true
is_for_lock why = false

-- a verdict names a process because its table is not locked
abbrev pub names_for_lock : ℕ → Verdict → Bool
names_for_lock pid (Exposed leak) = leak.pid == pid && is_for_lock leak.why
names_for_lock pid found = false

abbrev pub is_exposed : Verdict → Bool
is_exposed (Exposed leak) = true
is_exposed found = false

-- the lines of an audit give `not locked` as a reason of a process whose table is not locked: a verdict has the first
-- reason of the least process, and every reason is listed only if the file is exposed
abbrev pub shows_lock_reason : (every : Bool) → ℕ → Result Verdict AuditFault → Bool
shows_lock_reason every pid (Err fault) = false
shows_lock_reason every pid (Ok found) = if every then is_exposed found else names_for_lock pid found

-- some number below n passes a test
abbrev pub any_below : (ℕ → Bool) → ℕ → Bool
any_below test zero = false
any_below test (suc n) = any_below test n || test n

-- the same for the audit of the file at a path or, without a path, of all files
abbrev pub is_shown_at : (every : Bool) → ℕ → State → Option Bytes → Bool
is_shown_at every pid s (Some path) = shows_lock_reason every pid (audit s path)
is_shown_at every pid s None = any_below (λ n. shows_lock_reason every pid (audit_node s (Some n))) (s.tree.inodes + 1)

abbrev pub pledge_note : ℕ → Bytes
pledge_note pid = note_line (codes "process " ++ decimal pid ++ codes ": pledged without unveil: add unveil(NULL, NULL) before the pledge, and the verdict covers it")

-- the notes about these processes, in order of their numbers; only the first of them can be named in a verdict, since
-- it is exposed to each file
abbrev pub notes_of_processes : (every : Bool) → State → Option Bytes → List ℕ → Bytes
notes_of_processes every s path [] = []
notes_of_processes every s path (pid ∷ pids) =
    if is_shown_at every pid s path then flat_map pledge_note (pid ∷ (if every then pids else [])) else []

-- the notes about each process that has dropped unveil and whose reason `not locked` an audit shows
abbrev pub pledge_notes : (every : Bool) → State → Option Bytes → Bytes
pledge_notes every s path = notes_of_processes every s path (filter (λ pid. has_dropped_unveil (process_at s pid)) (live_numbers s))

-- all notes on an audit
abbrev pub audit_notes : (every : Bool) → (is_loaded : Bool) → State → Option Bytes → Bytes
audit_notes every is_loaded s path = ended_notes is_loaded s ++ pledge_notes every s path
