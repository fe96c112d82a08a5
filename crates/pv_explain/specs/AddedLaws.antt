-- The statements of the lines of execves and of allowed walks are true.
use Rattle.std.specs.Prelude.{◌≡◌, ◌≢◌, ℕ, true, ◌&&◌, [], ◌∷◌, codes, Option, None, Some, Ok, is_some}
use Rattle.pv_model.specs.declared.call.Call.TheVariants.{Execve}
use Rattle.pv_model.specs.declared.judgement.Judgement.TheVariants.{Allowed as AllowedByTable}
use Rattle.pv_model.specs.declared.outcome.Outcome.TheVariants.{Value}
use Rattle.pv_model.specs.declared.perms.Perms.{Perms}
use Rattle.pv_model.specs.declared.place.Place.{Place}
use Rattle.pv_model.specs.Machine.{answer_line, Bytes, end_of, program_of, calls_for, next, Process, State, process_at, step, Tree, Table, covers, governing_entry, judgement, permissions_at, Walk}
use Rattle.pv_model_questions.specs.ExplainMore.{Allowed, Restraints, allowed_walk, execve_lines, execve_text, restraints_of}

-- the restraints that an execve leaves by its rule: the execpromises become the promises; the table and the lock stay if
-- there are execpromises
abbrev pub restraints_left : Process → Restraints
restraints_left p = record {
  promises = p.execpromises;
  execpromises = p.execpromises;
  has_table = is_some p.execpromises && is_some p.table;
  is_locked = is_some p.execpromises && p.locked;
}

-- an execve that starts a program has one line, which states its rule
abbrev pub ExecveLinesHold : Type 0
ExecveLinesHold =
    (s : State) (pid n : ℕ) (p : Process) (path : Bytes) → process_at s pid ≡ Some p → next p ≡ calls_for (Execve path)
    → (step program_of s pid).outcome ≡ Value n
    → execve_lines s pid ≡ answer_line pid (codes "WHY") (execve_text (restraints_of p) (restraints_left p)) ∷ []

-- an allowed walk has no entry without a table, and otherwise the entry that governs the place, which has the permissions
abbrev pub IsAllowedBy : Tree → Option Table → Place → Perms → Allowed → Type 0
IsAllowedBy t None place asked a = a.entry ≡ None
IsAllowedBy t (Some table) place asked a =
    (k : ℕ) × (governing_entry t table place ≡ Some k) × (covers (permissions_at table k) asked ≡ true) × (a.entry ≡ Some (k, permissions_at table k))

-- a walk that ends at a place is reported as allowed if and only if the table allows the place, with the entry that
-- governs it
pub record AllowedWalksHold (s : State) (p : Process) (w : Walk) (place : Place) : Type 0 where
  pub allowed : judgement s.tree p.table place w.needed ≡ AllowedByTable
      → (a : Allowed) × (allowed_walk s p w ≡ Some a) × (a.asked ≡ w.needed) × IsAllowedBy s.tree p.table place w.needed a
  pub refused : judgement s.tree p.table place w.needed ≢ AllowedByTable → allowed_walk s p w ≡ None

abbrev pub AllowedLinesHold : Type 0
AllowedLinesHold = (s : State) (p : Process) (w : Walk) (place : Place) → end_of s p w ≡ Ok place → AllowedWalksHold s p w place
