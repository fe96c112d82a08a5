-- The directories of a table's targets, one at a time.
use Rattle.std.proofs.Common.{◌≡◌, ◌≢◌, ℕ, ◌+◌, ◌<◌, ◌≤◌, List, map, drop, Option, None, Some, refl, ap, sym, subst, ◌∙◌, arith}
use Rattle.std.specs.Prelude.{slice_get, option_map, IsSome}
use Rattle.pv_model.specs.declared.perms.Perms.{Perms}
use Rattle.pv_model.specs.declared.target.Target.{Target}
use Rattle.pv_model.specs.Machine.{entries_of_table, held_by_table, node_at, Table, target_directory}
use Rattle.pv_procs.specs.OfTree.Holding.{HeldTree, holds_at, collected}
use Rattle.pv_procs.specs.OfTree.Present.{IsPresent}
use Rattle.pv_calls_state.specs.Counts.{times}
use Rattle.pv_calls_state.proofs.CollectionByCounts.{one_if}
use Rattle.pv_calls_state.proofs.ReferenceCounting.{one-self, one-apart, times-from, times-get}
use Rattle.pv_calls_state.proofs.RemovedUsers.{collected_in_turn}

abbrev pub of_entry : Target × Perms → ℕ
of_entry e = target_directory e.0

abbrev pub directories : Table → List ℕ
directories table = map of_entry table

pub held-entries : (table : Option Table) → held_by_table table ≡ directories (entries_of_table table)
held-entries None = refl
held-entries (Some table) = refl

entry : (o : Option (Target × Perms)) (target : Target) → option_map (λ e. e.0) o ≡ Some target → (e : Target × Perms) × (o ≡ Some e) × (e.0 ≡ target)
entry None target is = cc
entry (Some e) target is = (e, refl, cc is)

-- the target of entry k, whose directory is n
module _ (table : Option Table) (k : ℕ) (target : Target) (n : ℕ) (at : option_map (λ e. e.0) (slice_get (entries_of_table table) k) ≡ Some target) (is : n ≡ target_directory target) where
  pub targets-next : (m : ℕ) → times m (directories (drop k (entries_of_table table))) ≡ one_if n m + times m (directories (drop (k + 1) (entries_of_table table)))
  targets-next m =
      let found = entry (slice_get (entries_of_table table) k) target at in
      times-from of_entry m (entries_of_table table) k found.0 found.1
      ∙ ap (λ j. one_if j m + times m (directories (drop (k + 1) (entries_of_table table)))) (ap target_directory found.2 ∙ sym is)

  target-held : 0 < times n (held_by_table table)
  target-held =
      let found = entry (slice_get (entries_of_table table) k) target at in
      let same : n ≡ of_entry found.0 = is ∙ ap target_directory (sym found.2) in
      subst (λ ns. 0 < times n ns) (sym (held-entries table))
      (subst (λ j. 0 < times j (directories (entries_of_table table))) (sym same) (times-get of_entry (entries_of_table table) k found.0 found.1))

  -- the first k directories have one more reference each
  module _ (t u : HeldTree) (nodes : u.tree ≡ t.tree)
      (holds : (m : ℕ) → holds_at u m + times m (directories (drop k (entries_of_table table))) ≡ holds_at t m + times m (held_by_table table)) where
    pub hold-there : ((m : ℕ) → 0 < times m (held_by_table table) → IsSome (node_at t.tree m)) → IsSome (node_at u.tree n)
    hold-there there = subst (λ x. IsSome (node_at x n)) (sym nodes) (there n target-held)

    pub hold-few : ((m : ℕ) → holds_at t m + times m (held_by_table table) ≤ 65535) → holds_at u n < 65535
    hold-few room = omega (arith, room n, holds n, targets-next n, one-self n)

    pub hold-next : (w : HeldTree) → holds_at w n ≡ holds_at u n + 1 → ((m : ℕ) → m ≢ n → holds_at w m ≡ holds_at u m) → (m : ℕ)
        → holds_at w m + times m (directories (drop (k + 1) (entries_of_table table))) ≡ holds_at t m + times m (held_by_table table)
    hold-next w more others m =
        omega (arith, holds m, targets-next m, one-apart (holds_at u) (holds_at w) n (sym more) (λ j other. sym (others j other)) m)

  -- the first k directories have one reference less each
  module _ (t u : HeldTree) (nodes : u.tree ≡ collected t.tree u.holds)
      (holds : (m : ℕ) → holds_at u m + times m (held_by_table table) ≡ holds_at t m + times m (directories (drop k (entries_of_table table)))) where
    pub go-held : ((m : ℕ) → times m (held_by_table table) ≤ holds_at t m) → 0 < holds_at u n
    go-held held = omega (arith, held n, holds n, targets-next n, one-self n)

    module _ (w : HeldTree) (less : holds_at w n + 1 ≡ holds_at u n) (others : (m : ℕ) → m ≢ n → holds_at w m ≡ holds_at u m) where
      one-gone : (m : ℕ) → holds_at w m + one_if n m ≡ holds_at u m
      one-gone = one-apart (holds_at w) (holds_at u) n less others

      pub go-next : (m : ℕ) → holds_at w m + times m (held_by_table table) ≡ holds_at t m + times m (directories (drop (k + 1) (entries_of_table table)))
      go-next m = omega (arith, holds m, targets-next m, one-gone m)

      pub go-nodes : IsPresent t → w.tree ≡ collected u.tree w.holds → w.tree ≡ collected t.tree w.holds
      go-nodes present tree =
          tree ∙ ap (λ x. collected x w.holds) nodes ∙ collected_in_turn t.tree u.holds w.holds present.well_formed (λ m. omega (arith, one-gone m))
