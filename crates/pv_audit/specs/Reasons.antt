-- The reasons of a process for which all names of the file are noted.
use Rattle.std.specs.Prelude.{ℕ, Bool, true, false, not, ◌&&◌, ◌||◌, if◌then◌else◌, ◌==◌, List, [], ◌∷◌, map, filter, filter_map, Option, None, Some, is_some, is_none, option_map}
use Rattle.pv_model.specs.declared.perms.Perms.{Perms}
use Rattle.pv_model.specs.declared.promise.Promise.TheVariants.{Rpath, Wpath, Cpath, Exec as ExecPromise}
use Rattle.pv_model.specs.declared.verdict.Leak.{Leak}
use Rattle.pv_model.specs.declared.verdict.Why.{Why}
use Rattle.pv_model.specs.declared.verdict.Why.TheVariants.{Reads, NoTable, NotLocked, Gives, Above, Exec}
use Rattle.pv_model.specs.Needs.{permissions_of_mode}
use Rattle.pv_model.specs.Machine.{Numbered, at_number, numbered, covers, permission_r, OpenFile, Descriptor, Process, State, process_at, Table}
use Rattle.pv_model.specs.Perms.{permission_w}
use Rattle.pv_model.specs.Sealed.{has_none_of}
use Rattle.pv_calls_state.specs.OfProcs.declared.record.ProcessRecord.{ProcessRecord}
use Rattle.pv_calls_state.specs.OfProcs.Parts.{record_of}
use Rattle.pv_promises.specs.Pledge.{Pledged}
use Rattle.pv_audit.specs.declared.table_access.TableAccess.{TableAccess}
use Rattle.pv_audit.specs.declared.suspects.Suspect.{Suspect}
use Rattle.pv_audit.specs.Findings.{least}

-- an open file is on a node, in a mode that has these permissions
abbrev pub is_on : ℕ → Perms → Option OpenFile → Bool
is_on n needed None = false
is_on n needed (Some file) = (file.node == n) && covers (permissions_of_mode file.mode) needed

-- the descriptors on a node whose mode has these permissions
abbrev pub descriptors_for : Numbered OpenFile → Numbered Descriptor → ℕ → Perms → List ℕ
descriptors_for files ds n needed = map (λ d. d.0) (filter (λ d. is_on n needed (at_number files d.1.file)) (numbered ds))

abbrev pub restrains_execve : Pledged → Bool
restrains_execve pledge = has_none_of (ExecPromise ∷ []) pledge.promises || is_some pledge.execpromises

-- the reason with a number, if there is one; otherwise a later reason
abbrev pub by_number : (ℕ → Why) → Option ℕ → Option Why → Option Why
by_number why None later = later
by_number why (Some k) later = Some (why k)

-- a reason if the condition is false; otherwise a later reason
abbrev pub reason_unless : Bool → Why → Option Why → Option Why
reason_unless true why later = later
reason_unless false why later = Some why

-- the reason why a table leaves the file open
abbrev pub reason_of_table : ProcessRecord → TableAccess → Option Table → Option Why
reason_of_table r table_access None = Some NoTable
reason_of_table r table_access (Some table) =
    reason_unless r.unveiled.locked NotLocked
    (by_number Gives table_access.gives (by_number Above table_access.above (reason_unless (restrains_execve r.pledge) Exec None)))

-- the first reason why a process is not closed to a file
abbrev pub reason_of : Numbered OpenFile → ProcessRecord → ℕ → TableAccess → Option Why
reason_of files r f table_access =
    by_number Reads (least (descriptors_for files r.descriptors f permission_r))
    (if has_none_of (Rpath ∷ ExecPromise ∷ Cpath ∷ []) r.pledge.promises then None else reason_of_table r table_access r.unveiled.table)

-- ---- all reasons

-- the reasons that are present
abbrev pub present_reasons : List (Option Why) → List Why
present_reasons reasons = filter_map (λ reason. reason) reasons

abbrev pub reason_if : Bool → Why → Option Why
reason_if true why = Some why
reason_if false why = None

-- the reasons why a table leaves the file open
abbrev pub reasons_of_table : ProcessRecord → TableAccess → Option Table → List (Option Why)
reasons_of_table r table_access None = Some NoTable ∷ []
reasons_of_table r table_access (Some table) =
    reason_if (not r.unveiled.locked) NotLocked ∷ option_map Gives table_access.gives ∷ option_map Above table_access.above
    ∷ reason_if (not (restrains_execve r.pledge)) Exec ∷ []

-- the reasons why a process is not closed to a file
abbrev pub all_reasons_of : Numbered OpenFile → ProcessRecord → ℕ → TableAccess → List Why
all_reasons_of files r f table_access =
    present_reasons
    (option_map Reads (least (descriptors_for files r.descriptors f permission_r))
    ∷ (if has_none_of (Rpath ∷ ExecPromise ∷ Cpath ∷ []) r.pledge.promises then [] else reasons_of_table r table_access r.unveiled.table))

abbrev pub is_preserved_by : ProcessRecord → TableAccess → Option Table → Bool
is_preserved_by r table_access None = false
is_preserved_by r table_access (Some table) = r.unveiled.locked && not table_access.writes && restrains_execve r.pledge

-- a process that is closed to the file can't write it either
abbrev pub is_preserved : Numbered OpenFile → ProcessRecord → ℕ → TableAccess → Bool
is_preserved files r f table_access =
    is_none (least (descriptors_for files r.descriptors f permission_w))
    && (has_none_of (Wpath ∷ ExecPromise ∷ []) r.pledge.promises || is_preserved_by r table_access r.unveiled.table)

module _ (s : State) (f : ℕ) where
  abbrev pub reason_for : Option Process → TableAccess → Option Why
  reason_for None table_access = None
  reason_for (Some p) table_access = reason_of s.files (record_of p) f table_access

  -- the reason why a process is not closed to the file
  abbrev pub reason_at : Suspect → Option Why
  reason_at x = reason_for (process_at s x.pid) x.table_access

  abbrev pub preserved_for : Option Process → TableAccess → Bool
  preserved_for None table_access = false
  preserved_for (Some p) table_access = is_preserved s.files (record_of p) f table_access

  -- a process that is closed to the file can't write it either
  abbrev pub preserved_at : Suspect → Bool
  preserved_at x = preserved_for (process_at s x.pid) x.table_access

  abbrev pub with_leak : ℕ → Option Why → Option Leak → Option Leak
  with_leak pid None later = later
  with_leak pid (Some why) later = Some (record { pid = pid; why = why })

  -- the first of some processes that is not closed
  abbrev pub leak_among : List Suspect → Option Leak
  leak_among [] = None
  leak_among (x ∷ xs) = with_leak x.pid (reason_at x) (leak_among xs)
