-- Laws of the permissions that `policy` lists as idle.
use Rattle.std.specs.Prelude.{◌≡◌, ℕ, IsTrue, IsFalse, List, [], ◌∷◌, flat_map, filter, bytes_eq, Contains, Option, Some}
use Rattle.pv_model.specs.declared.call.Call.{Call}
use Rattle.pv_model.specs.declared.perms.Perms.{Perms}
use Rattle.pv_model.specs.declared.target.Target.{Target}
use Rattle.pv_model.specs.Machine.{is_complete, permissions_lacked, target_words, Observation, groups, is_unveil, Request, Requests, Bytes, covers, calls_for, next, Program, Process, State, process_at, step, run, Tree, Table}
use Rattle.pv_model.specs.Answers.Policy.{restricted, entries_held, all_used, union_of_granted, idle_permission_line, idle_permission_lines}
use Rattle.pv_laws_answers.specs.ProcessImages.{with_own_table}
use Rattle.pv_laws_answers.specs.Search.{IsSearchable}
use Rattle.pv_laws_answers.specs.Witnesses.{AreSteps}
use Rattle.pv_laws_classes.specs.Reduced.{is_reduced_complete}
use Rattle.pv_laws_schedules.specs.Policy.{calling_programs}
use Rattle.pv_laws_schedules.specs.ReducedPolicy.{reduced_calling_programs}

-- the permissions that are listed as idle for entries with some words: those that such entries give at the calls of a
-- program, without those used there
abbrev pub listed_idle_permissions : Requests → Bytes → Perms
listed_idle_permissions rs words =
    permissions_lacked (union_of_granted (filter (λ g. bytes_eq g.0 words) (all_used (restricted rs))))
    (union_of_granted (filter (λ g. bytes_eq g.0 words) (flat_map entries_held (restricted rs))))

-- the lines IDLE of a program about permissions are those of the permissions that are listed as idle for the words of each
-- entry
abbrev pub IdleLinesAreOfPermissions : Type 0
IdleLinesAreOfPermissions =
    (rs : Requests)
    → idle_permission_lines (restricted rs) ≡ flat_map (λ g. idle_permission_line (listed_idle_permissions rs g.0.0) g.0.0) (groups (λ g. g.0) (flat_map entries_held (restricted rs)))

-- an entry has the target of another, and lacks no permission of it that is not listed as idle for its words
pub record LacksIdleAt (rs : Requests) (t : Tree) (held set : Target × Perms) : Type 0 where
  pub target : set.0 ≡ held.0
  pub fewer : IsTrue (covers held.1 set.1)
  pub others : IsTrue (covers set.1 (permissions_lacked (listed_idle_permissions rs (target_words t held.0)) held.1))

-- this holds for each entry of a table, in their order
abbrev pub LacksIdleEntries : Requests → Tree → (held set : Table) → Type 0
LacksIdleEntries rs t [] [] = Unit {0}
LacksIdleEntries rs t (e ∷ held) (d ∷ set) = LacksIdleAt rs t e d × LacksIdleEntries rs t held set
LacksIdleEntries rs t [] (d ∷ set) = ⊥
LacksIdleEntries rs t (e ∷ held) [] = ⊥

-- if the search is complete, each step of a program in any schedule, other than unveil, has the same lines if it is made
-- with a table whose entries lack permissions that are listed as idle for their words
abbrev pub IdlePermissionsAreIdle : Type 0
IdlePermissionsAreIdle =
    (program_of : Bytes → Option Program) (limit : ℕ) (s : State) (group : Observation Request × Requests) (pids : List ℕ) (pid : ℕ) (p : Process) (held set : Table) → IsSearchable program_of limit s
    → IsTrue (is_complete program_of limit s) → Contains (calling_programs program_of limit s) group → process_at (run program_of pids s).final pid ≡ Some p → p.program ≡ group.0.item.process.program
    → ((call : Call) → next p ≡ calls_for call → IsFalse (is_unveil call)) → p.table ≡ Some held → LacksIdleEntries group.1 (run program_of pids s).final.tree held set
    → (step program_of (with_own_table (run program_of pids s).final pid set) pid).lines ≡ (step program_of (run program_of pids s).final pid).lines

-- the same by the reduced search
abbrev pub IdlePermissionsAreIdleReduced : Type 0
IdlePermissionsAreIdleReduced =
    (program_of : Bytes → Option Program) (limit : ℕ) (s : State) (group : Observation Request × Requests) (pids : List ℕ) (pid : ℕ) (p : Process) (held set : Table) → IsSearchable program_of limit s
    → IsTrue (is_reduced_complete program_of s limit) → Contains (reduced_calling_programs program_of limit s) group → AreSteps program_of pids s
    → process_at (run program_of pids s).final pid ≡ Some p → p.program ≡ group.0.item.process.program
    → ((call : Call) → next p ≡ calls_for call → IsFalse (is_unveil call)) → p.table ≡ Some held → LacksIdleEntries group.1 (run program_of pids s).final.tree held set
    → (step program_of (with_own_table (run program_of pids s).final pid set) pid).lines ≡ (step program_of (run program_of pids s).final pid).lines
