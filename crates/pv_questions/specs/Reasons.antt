-- Every reason why a live process is not closed to a file.
use Rattle.std.specs.Prelude.{ℕ, List, [], flat_map, Option, None, Some, Result, Ok, Err}
use Rattle.pv_model.specs.declared.errno.Errno.{Errno}
use Rattle.pv_model.specs.declared.errno.Errno.TheVariants.{ENOENT}
use Rattle.pv_model.specs.declared.follow.Follow.TheVariants.{Last}
use Rattle.pv_model.specs.declared.place.Place.{Place}
use Rattle.pv_model.specs.declared.verdict.AuditFault.{AuditFault}
use Rattle.pv_model.specs.declared.verdict.AuditFault.TheVariants.{Walk}
use Rattle.pv_model.specs.declared.verdict.Verdict.{Verdict}
use Rattle.pv_model.specs.declared.verdict.Verdict.TheVariants.{Exposed}
use Rattle.pv_model.specs.declared.verdict.Why.{Why}
use Rattle.pv_model.specs.Machine.{Bytes, node_of, live_processes, audit_node, leaks, Process, State, root, resolve}
use Rattle.pv_model.specs.Listing.{found_line, lines_of_all}
use Rattle.pv_model.specs.Sealed.{verdict_line}

-- the line of a verdict, after the path of the file if there is one
abbrev pub verdict_at : Option Bytes → Verdict → Bytes
verdict_at None found = verdict_line found
verdict_at (Some path) found = found_line path (Ok found)

module _ (path : Option Bytes) where
  -- a line for each reason why a process is not closed to a file
  abbrev pub reason_lines : ℕ → List Why → Bytes
  reason_lines pid whys = flat_map (λ why. verdict_at path (Exposed (record { pid = pid; why = why }))) whys

  module _ (s : State) (f : ℕ) where
    abbrev pub reasons_of : ℕ × Process → Bytes
    reasons_of p = reason_lines p.0 (leaks s p.1 f)

    abbrev pub reasons_by : ℕ → Option Process → Bytes
    reasons_by pid None = []
    reasons_by pid (Some p) = reasons_of (pid, p)

    -- the same for all live processes
    abbrev pub all_reasons : Bytes
    all_reasons = flat_map reasons_of (live_processes s.processes)

    -- the line of a verdict, or a line for each reason if the file is exposed
    abbrev pub with_reasons : Verdict → Bytes
    with_reasons (Exposed leak) = all_reasons
    with_reasons found = verdict_at path found

    abbrev pub if_audited : Result Verdict AuditFault → Result Bytes AuditFault
    if_audited (Ok found) = Ok (with_reasons found)
    if_audited (Err fault) = Err fault

-- the lines of a file at a path in a report
abbrev pub file_lines : State → Bytes → ℕ → Result Verdict AuditFault → Bytes
file_lines s path f (Ok found) = with_reasons (Some path) s f found
file_lines s path f (Err fault) = []

-- the node at a place
abbrev pub node_found : Option ℕ → Result ℕ AuditFault
node_found None = Err (Walk ENOENT)
node_found (Some n) = Ok n

abbrev pub node_audited : Result Place Errno → Result ℕ AuditFault
node_audited (Err e) = Err (Walk e)
node_audited (Ok place) = node_found (node_of place)

abbrev pub reasons_at : State → Result ℕ AuditFault → Result Bytes AuditFault
reasons_at s (Err fault) = Err fault
reasons_at s (Ok n) = if_audited None s n (audit_node s (Some n))

-- the verdict on the file at a path or, without a path, on all files, with every reason
unfoldable pub reasons_report : State → Bytes
reasons_report s = lines_of_all s.tree (λ path n. file_lines s path n (audit_node s (Some n)))

abbrev pub audit_reasons : State → Option Bytes → Result Bytes AuditFault
audit_reasons s (Some path) = reasons_at s (node_audited (resolve s.tree Last root path))
audit_reasons s None = Ok (reasons_report s)
