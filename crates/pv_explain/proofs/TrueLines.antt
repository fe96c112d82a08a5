-- The statements of the lines of execves and of allowed walks are true.
use Rattle.std.proofs.Common.{◌≡◌, ◌≢◌, ◌∙◌, ℕ, ◌&&◌, Bool, true, false, cond, List, [], ◌∷◌, Option, None, Some, Result, refl, ap, sym}
use Rattle.std.specs.Prelude.{codes, find, is_some, option_and_then, option_map}
use Rattle.pv_model.specs.declared.call.Call.{Call}
use Rattle.pv_model.specs.declared.call.Call.TheVariants.{Execve}
use Rattle.pv_model.specs.declared.errno.Errno.{Errno}
use Rattle.pv_model.specs.declared.judgement.Judgement.{Judgement}
use Rattle.pv_model.specs.declared.judgement.Judgement.TheVariants.{Allowed as AllowedByTable, Hidden, Denied}
use Rattle.pv_model.specs.declared.outcome.Outcome.{Outcome}
use Rattle.pv_model.specs.declared.outcome.Outcome.TheVariants.{Value}
use Rattle.pv_model.specs.declared.perms.Perms.{Perms}
use Rattle.pv_model.specs.declared.place.Place.{Place}
use Rattle.pv_model.specs.Answers.Levels.{Level, levels}
use Rattle.pv_model.specs.Machine.{Answered, answer, answer_line, is_allowed, program_of, next, Process, Promises, process_at, Stepped, step, step_by, place_found, Tree, Table, covers, governing_entry, judgement, permissions_at}
use Rattle.pv_model.specs.Unveil.{judge_entry}
use Rattle.pv_laws_access.specs.Growth.{HasExecuted}
use Rattle.pv_laws_access.proofs.ProcessesAfterEnds.{step-is}
use Rattle.pv_laws_access.proofs.ProgramImages.{execve-leaves}
use Rattle.pv_laws_answers.specs.Levels.{LevelsLeadTo}
use Rattle.pv_laws_answers.proofs.PlaceLevels.{levels-lead}
use Rattle.pv_model_questions.specs.ExplainMore.{Allowed, Restraints, allowed_at, allowed_at_level, allowed_by, allowed_walk, execve_after, execve_line, execve_lines_by, execve_text, has_entry, lines_of_call, lines_of_next, lines_of_process, restraints_of}
use Rattle.pv_explain.specs.AddedLaws.{AllowedLinesHold, ExecveLinesHold, IsAllowedBy, restraints_left}

-- ---- execves

restraints-left : (p q : Process) → HasExecuted p q → restraints_of q ≡ restraints_left p
restraints-left p q left = by p.execpromises refl
  where
    made : (promises execpromises : Option Promises) (table locked : Bool) → q.promises ≡ promises → q.execpromises ≡ execpromises → is_some q.table ≡ table → q.locked ≡ locked
        → restraints_of q ≡ record { promises = promises; execpromises = execpromises; has_table = table; is_locked = locked }
    made promises execpromises table locked a b c d =
        ap (λ v. let it : Restraints = record { promises = v; execpromises = q.execpromises; has_table = is_some q.table; is_locked = q.locked } in it) a
        ∙ ap (λ v. let it : Restraints = record { promises = promises; execpromises = v; has_table = is_some q.table; is_locked = q.locked } in it) b
        ∙ ap (λ v. let it : Restraints = record { promises = promises; execpromises = execpromises; has_table = v; is_locked = q.locked } in it) c
        ∙ ap (λ v. let it : Restraints = record { promises = promises; execpromises = execpromises; has_table = table; is_locked = v } in it) d

    by : (o : Option Promises) → p.execpromises ≡ o → restraints_of q ≡ restraints_left p
    by None none =
        made p.execpromises p.execpromises _ _ left.promises left.execpromises
        (ap (λ (t : Option Table). is_some t) (left.goes none).0 ∙ sym (ap (λ (o : Option Promises). is_some o && is_some p.table) none))
        ((left.goes none).1 ∙ sym (ap (λ (o : Option Promises). is_some o && p.locked) none))
    by (Some set) some =
        made p.execpromises p.execpromises _ _ left.promises left.execpromises
        (ap (λ (t : Option Table). is_some t) (left.stays set some).0 ∙ sym (ap (λ (o : Option Promises). is_some o && is_some p.table) some))
        ((left.stays set some).1 ∙ sym (ap (λ (o : Option Promises). is_some o && p.locked) some))

pub execve-lines : ExecveLinesHold
unfolding lines_of_call
execve-lines s pid n p path lives comes gives =
    let call : Call = Execve path in
    let a : Answered = answer program_of s pid call in
    let stepped : step program_of s pid ≡ Rattle.pv_model.specs.Step.step_by_call program_of pid p call a = step-is program_of s pid p lives ∙ ap (step_by program_of s pid p) comes in
    let left = (execve-leaves program_of s pid n p path lives comes gives).1 in
    let after : process_at a.after pid ≡ Some left.0 = ap (λ (w : Stepped). process_at w.after pid) (sym stepped) ∙ left.1 in
    let outcome : a.outcome ≡ Value n = ap (λ (w : Stepped). w.outcome) (sym stepped) ∙ gives in
    ap (lines_of_process (execve_lines_by pid) s pid) lives
    ∙ ap (lines_of_next (execve_lines_by pid) s pid p) comes
    ∙ ap (λ (o : Outcome). execve_after pid (restraints_of p) a.after call o) outcome
    ∙ ap (execve_line pid (restraints_of p)) after
    ∙ ap (λ (r : Restraints). answer_line pid (codes "WHY") (execve_text (restraints_of p) r) ∷ []) (restraints-left p left.0 left.2)

-- ---- allowed walks

-- the level to which levels lead is the first that has an entry
found-leads : (k : ℕ) (ls : List Level) → LevelsLeadTo (Some k) ls → (l : Level) × (find has_entry ls ≡ Some l) × (l.entry ≡ Some k)
found-leads k [] leads = absurd leads
found-leads k (l ∷ []) leads = (l, ap (λ (o : Option ℕ). cond (is_some o) (Some l) None) leads, leads)
found-leads k (l ∷ next ∷ ls) leads =
    let rest = found-leads k (next ∷ ls) leads.1 in
    (rest.0, ap (λ (o : Option ℕ). cond (is_some o) (Some l) (find has_entry (next ∷ ls))) leads.0 ∙ rest.1, rest.2)

-- a judgement by an entry that allows
entry-allows : (table : Table) (asked : Perms) (o : Option ℕ) → judge_entry table asked o ≡ AllowedByTable → (k : ℕ) × (o ≡ Some k) × (covers (permissions_at table k) asked ≡ true)
entry-allows table asked None hidden = cc hidden
entry-allows table asked (Some k) allows = (k, refl, by (covers (permissions_at table k) asked) allows)
  where
    by : (b : Bool) → cond {A = Judgement} b AllowedByTable (Denied k) ≡ AllowedByTable → b ≡ true
    by true is = refl
    by false is = cc is

module _ (t : Tree) (asked : Perms) (place : Place) where
  abbrev Found : Option Table → Type 0
  Found o = (a : Allowed) × (allowed_by t o asked place ≡ Some a) × (a.asked ≡ asked) × IsAllowedBy t o place asked a

  by-table : (o : Option Table) → judgement t o place asked ≡ AllowedByTable → Found o
  unfolding judgement
  by-table None allowed = (_, refl, refl, refl)
  by-table (Some table) allowed =
      let e = entry-allows table asked (governing_entry t table place) allowed in
      let l = found-leads e.0 (levels t table place) (rw (sym e.1) (levels-lead t table place)) in (
        allowed_at_level table place asked l.0,
        ap (option_map (allowed_at_level table place asked)) l.1,
        refl,
        (e.0, e.1, e.2, ap (option_map (λ k. (k, permissions_at table k))) l.2),
      )

  allowed-is : (o : Option Table) → judgement t o place asked ≡ AllowedByTable → allowed_at t o asked place ≡ allowed_by t o asked place
  allowed-is o allowed = ap (λ (j : Judgement). cond (is_allowed j) (allowed_by t o asked place) None) allowed

  refused-is : (o : Option Table) (j : Judgement) → judgement t o place asked ≡ j → j ≢ AllowedByTable → allowed_at t o asked place ≡ None
  refused-is o AllowedByTable is other = absurd (other refl)
  refused-is o Hidden is other = ap (λ (j : Judgement). cond (is_allowed j) (allowed_by t o asked place) None) is
  refused-is o (Denied k) is other = ap (λ (j : Judgement). cond (is_allowed j) (allowed_by t o asked place) None) is

pub allowed-lines : AllowedLinesHold
allowed-lines s p w place ends = record {
  allowed = λ is.
      let found = by-table s.tree w.needed place p.table is in
      (found.0, walk-is ∙ allowed-is s.tree w.needed place p.table is ∙ found.1, found.2, found.3);
  refused = λ other. walk-is ∙ refused-is s.tree w.needed place p.table (judgement s.tree p.table place w.needed) refl other;
}
  where
    walk-is : allowed_walk s p w ≡ allowed_at s.tree p.table w.needed place
    walk-is = ap (λ (r : Result Place Errno). option_and_then (allowed_at s.tree p.table w.needed) (place_found r)) ends
