-- The lines PLDG and UNVL of a step, and the needs of its call.
use Rattle.std.specs.Prelude.{◌≡◌, ◌↔◌, ◌⊎◌, ℕ, ◌≤◌, Bool, true, false, IsTrue, IsFalse, List, Option, None, Some, Ok}
use Rattle.std.specs.List.{list_any, list_all}
use Rattle.pv_model.specs.declared.perms.Perms.{Perms}
use Rattle.pv_model.specs.declared.call.Call.{Call}
use Rattle.pv_model.specs.declared.place.Place.{Place}
use Rattle.pv_model.specs.Machine.{answer, Bytes, end_of, needs, covers, calls_for, next, Promises, is_met, Program, Process, State, process_at, step, Word, pldg_word, unvl_word, Line, Tree, Table, permissions_at, governing_entry, Walk, walks_of, walk_number, is_unveil}
use Rattle.pv_model.specs.Trace.{for_kill, for_refusal}

-- whether a line reports that a missing promise killed or refused the call
abbrev pub is_missing_promise_line : Word → Bool
is_missing_promise_line (pldg_word call promise for_kill) = true
is_missing_promise_line (pldg_word call promise for_refusal) = true
is_missing_promise_line word = false

abbrev pub reports_need : List Line → Bool
reports_need ls = list_any (λ l. is_missing_promise_line l.word) ls

-- a process is not pledged, or its promises meet all needs of a call
abbrev pub HasAllNeeds : Option Promises → Call → Type 0
HasAllNeeds held call = (held ≡ None) ⊎ ((set : Promises) × (held ≡ Some set) × IsTrue (list_all (λ need. is_met (Some set) need) (needs call)))

-- a step reports no missing promise if and only if its process is not pledged or its promises meet all needs of its
-- call
abbrev pub NeedIsReported : Type 0
NeedIsReported =
    (program_of : Bytes → Option Program) (s : State) (pid : ℕ) (p : Process) (call : Call) → process_at s pid ≡ Some p → next p ≡ calls_for call
    → IsFalse (reports_need (step program_of s pid).lines) ↔ HasAllNeeds p.promises call

-- whether a line reports a decision of a table
abbrev pub is_of_table_line : Word → Bool
is_of_table_line (unvl_word verdict) = true
is_of_table_line word = false

abbrev pub reports_of_table : List Line → Bool
reports_of_table ls = list_any (λ l. is_of_table_line l.word) ls

-- no table is in force, or the entry that governs a place has the permissions
abbrev pub Permits : Tree → Option Table → Place → Perms → Type 0
Permits t held place asked =
    (held ≡ None)
    ⊎ ((table : Table) × (k : ℕ) × (held ≡ Some table) × (governing_entry t table place ≡ Some k) × IsTrue (covers (permissions_at table k) asked))

-- the UNVL line of a step is about the walk with this number: the last that was begun
abbrev pub HasTableLine : (Bytes → Option Program) → State → ℕ → Call → ℕ → Type 0
HasTableLine program_of s pid call number = IsTrue (reports_of_table (step program_of s pid).lines) × (number ≡ (answer program_of s pid call).walks)

-- a walk that is checked and ends at a place has no UNVL line if and only if no table is in force or the entry that
-- governs the place has the needed permissions
abbrev pub RefusalIsReported : Type 0
RefusalIsReported =
    (program_of : Bytes → Option Program) (s : State) (pid : ℕ) (p : Process) (call : Call) (number : ℕ) (walk : Walk) (place : Place) → process_at s pid ≡ Some p → next p ≡ calls_for call
    → IsFalse (is_unveil call) → number ≤ (answer program_of s pid call).walks → walk_number (walks_of call) number ≡ Some walk → end_of s p walk ≡ Ok place
    → (¬ HasTableLine program_of s pid call number) ↔ Permits s.tree p.table place walk.needed
