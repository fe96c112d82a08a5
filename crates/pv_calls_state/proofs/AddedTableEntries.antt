-- The references of a table's targets after an entry is added or its permissions change.
use Rattle.std.proofs.Common.{◌≡◌, ℕ, ◌+◌, ◌⊎◌, inl, inr, Bool, true, false, nat_le, nat_lt, List, [], ◌∷◌, ◌++◌, length, Option, None, Some, refl, ap, sym, subst, ap₂, ◌∙◌, arith}
use Rattle.std.specs.Prelude.{if◌then◌else◌}
use Rattle.std.proofs.Math.Seq.{map-set_same}
use Rattle.std.proofs.lemmas.Bool.{ltb-true, ltb-false}
use Rattle.std.proofs.lemmas.List.{length-set, length_push, map-append}
use Rattle.std.proofs.lemmas.List.Quantifiers.{position-Some}
use Rattle.pv_model.specs.declared.errno.Errno.TheVariants.{EPERM, E2BIG}
use Rattle.pv_model.specs.declared.limits.TheConstants.{UNVEILS}
use Rattle.pv_model.specs.declared.outcome.Cause.TheVariants.{Unveil as ByUnveil}
use Rattle.pv_model.specs.declared.perms.Perms.{Perms}
use Rattle.pv_model.specs.declared.target.Target.{Target}
use Rattle.pv_model.specs.Machine.{refused, refuse, give, entries_of_table, held_by_table, covers, State, Process, Table, same_target, entry_for, permissions_at, with_permissions, target_directory}
use Rattle.pv_model.specs.Calls.Restraints.{add_table_entry}
use Rattle.pv_laws_states.proofs.ChangedStates.{same-directory}
use Rattle.pv_procs.specs.ProcessTable.{ProcessTable, state_with}
use Rattle.pv_procs.specs.OfTree.Holding.{HeldTree, holds_at}
use Rattle.pv_procs.specs.OfUnveil.Added.{put_in, add_to}
use Rattle.pv_procs.specs.OfUnveil.Unveiled.{Unveiled}
use Rattle.pv_files.specs.Counted.{Counted}
use Rattle.pv_calls_state.specs.Changes.{AddsEntry, Unveils, unveiled_of, with_table}
use Rattle.pv_calls_state.specs.Counts.{state_of, times, IsCountedUp}
use Rattle.pv_calls_state.proofs.AttemptSequences.{after_none}
use Rattle.pv_calls_state.proofs.ProcessChanges.{IsBefore, counted-changed, state-put}
use Rattle.pv_calls_state.proofs.TargetDirectories.{of_entry, directories, held-entries}
use Rattle.pv_calls_state.proofs.CollectionByCounts.{times-append, times-cons}

-- the directory of an entry, if the entry is new
abbrev pub if_new : Bool → ℕ → List ℕ
if_new is_new directory = if is_new then directory ∷ [] else []

-- the table has the same length and directories as before, or is longer by the target
abbrev Holds : Table → Target → Table → Type 0
Holds old target table =
    ((length table ≡ length old) × ((n : ℕ) → times n (directories table) ≡ times n (directories old)))
    ⊎ ((length table ≡ length old + 1) × ((n : ℕ) → times n (directories table) ≡ times n (directories old) + times n (target_directory target ∷ [])))

module _ (old : Table) (target : Target) (permissions : Perms) where
  other-permissions : (k : ℕ) → entry_for old target ≡ Some k → Holds old target (with_permissions old k target permissions)
  other-permissions k found =
      let place = position-Some (λ e. same_target e.0 target) old k (target, permissions) found in
      let same : directories (with_permissions old k target permissions) ≡ directories old =
      map-set_same of_entry old k (target, permissions) (target, permissions) (sym (same-directory _ target place.1)) in
      inl (length-set old k (target, permissions), λ n. ap (times n) same)

  new-entry : Holds old target (old ++ (target, permissions) ∷ [])
  new-entry =
      inr (length_push old (target, permissions), λ n. ap (times n) (map-append of_entry old ((target, permissions) ∷ [])) ∙ times-append n (directories old) (target_directory target ∷ []))

  entry-holds : (table : Table) (place : Option ℕ) → entry_for old target ≡ place → add_table_entry old target permissions place ≡ give table → Holds old target table
  entry-holds table (Some k) found is = by (covers (permissions_at old k) permissions) is
    where
      by : (b : Bool) → (if b then give (with_permissions old k target permissions) else refused 0 EPERM (ByUnveil (Some k))) ≡ give table → Holds old target table
      by true is = let eq : with_permissions old k target permissions ≡ table = cc is in subst (Holds old target) eq (other-permissions k found)
      by false is = cc
  entry-holds table None found is = by (nat_le UNVEILS (length old)) is
    where
      by : (b : Bool) → (if b then refuse E2BIG else give (old ++ (target, permissions) ∷ [])) ≡ give table → Holds old target table
      by true is = cc
      by false is = let eq : old ++ (target, permissions) ∷ [] ≡ table = cc is in subst (Holds old target) eq new-entry

added-holds : (table : Option Table) (locked : Bool) (target : Target) (permissions : Perms) (new : Table) → add_to (record { table = table; locked = locked }) target permissions ≡ give new
    → Holds (entries_of_table table) target new
added-holds table true target permissions new is = cc
added-holds table false target permissions new is =
    entry-holds (entries_of_table table) target permissions new _ refl (sym (after_none (put_in (entries_of_table table) target permissions)) ∙ is)

-- a new entry adds one reference to its directory
pub added-times : (u : Unveiled) (target : Target) (permissions : Perms) (new : Table) → add_to u target permissions ≡ give new → (n : ℕ)
    → times n (directories new) ≡ times n (directories (entries_of_table u.table)) + times n (if_new (nat_lt (length (entries_of_table u.table)) (length new)) (target_directory target))
added-times u target permissions new is n =
    by (nat_lt (length (entries_of_table u.table)) (length new)) refl (added-holds u.table u.locked target permissions new is)
  where
    by : (b : Bool) → nat_lt (length (entries_of_table u.table)) (length new) ≡ b → Holds (entries_of_table u.table) target new
        → times n (directories new) ≡ times n (directories (entries_of_table u.table)) + times n (if_new b (target_directory target))
    by true longer (inl same) = absurd (omega (arith, same.0, ltb-true _ _ longer))
    by true longer (inr more) = more.1 n
    by false longer (inl same) = omega (arith, same.1 n)
    by false longer (inr more) = absurd (omega (arith, more.0, ltb-false _ _ longer))

-- a process whose table has another entry, or an entry with other permissions
module _ (t : HeldTree) (c : Counted) (ps : ProcessTable) (pid : ℕ) (me : Process) (is : IsBefore t c ps pid me) (target : Target) (permissions : Perms) (is_new : Bool) (qs : ProcessTable)
    (adds : AddsEntry ps pid me target permissions is_new qs) (h : HeldTree) where
  abbrev longer : Bool
  longer = nat_lt (length (entries_of_table me.table)) (length adds.table)

  new-times : (n : ℕ) → times n (held_by_table (Some adds.table)) ≡ times n (held_by_table me.table) + times n (if_new longer (target_directory target))
  new-times n =
      ap (times n) (held-entries (Some adds.table)) ∙ added-times (unveiled_of me) target permissions adds.table adds.added n
      ∙ ap (λ ns. times n ns + times n (if_new longer (target_directory target))) (sym (held-entries me.table))

  pub added-up : (directory : ℕ) → directory ≡ target_directory target → ((n : ℕ) → holds_at h n ≡ holds_at t n + times n (if_new is_new directory)) → IsCountedUp h c qs
  added-up directory dir more =
      counted-changed t c ps pid me is h c qs (with_table adds.table me) adds.only (λ k. refl)
      (λ n. omega (arith, more n, new-times n, ap₂ (λ b d. times n (if_new b d)) adds.longer dir, times-cons n me.directory (held_by_table me.table), times-cons n me.directory (held_by_table (Some adds.table))))

  pub added-state : (s : State) → state_of t c ps ≡ s → h.tree ≡ t.tree → Unveils s pid me target permissions (state_of h c qs)
  added-state s view nodes = record {
    table = adds.table;
    added = adds.added;
    only = ap (λ x. state_with x c.files qs) nodes ∙ ap (λ x. state_with t.tree c.files x) adds.only ∙ state-put t c ps pid me is s (with_table adds.table me) view;
  }
