-- The counts before the first step.
use Rattle.std.proofs.Common.{◌≡◌, ◌≢◌, ℕ, zero, suc, cond, ◌==◌, [], ◌∷◌, replicate, None, refl, ap, sym, ◌∙◌, arith, ⊎_elim}
use Rattle.std.proofs.lemmas.Bool.{cases_eq, eq-eqb, ne_eqb}
use Rattle.pv_procs.proofs.OfTree.RootTree.{zeros-at}
use Rattle.pv_calls_state.specs.Counts.{times, open_nodes, IsCountedUp}
use Rattle.pv_files.specs.Counted.{no_files}
use Rattle.pv_model.specs.Machine.{Program, root}
use Rattle.pv_procs.specs.ProcessTable.{first_processes}
use Rattle.pv_procs.specs.OfTree.Holding.{HeldTree, holds_at}
use Rattle.pv_calls_state.proofs.CollectionByCounts.{times-cons}

none-open : (n : ℕ) → open_nodes (replicate n None) ≡ []
none-open zero = refl
none-open (suc n) = none-open n

once : (n : ℕ) → times n (root ∷ []) ≡ cond (root == n) 1 0
once n = times-cons n root [] ∙ omega arith

-- the first process references the root once, and there is no other user or reference
pub first-counted : (h : HeldTree) (program : Program) → holds_at h root ≡ 1 → ((n : ℕ) → n ≢ root → holds_at h n ≡ 0) → IsCountedUp h no_files (first_processes program)
first-counted h program one others = record {
  users = λ k. zeros-at 128 k;
  holds = λ n.
      ⊎_elim
      (λ same. ap (holds_at h) same ∙ one ∙ sym (ap (λ b. cond b 1 0) (eq-eqb root n (sym same))))
      (λ other. others n other ∙ sym (ap (λ b. cond b 1 0) (ne_eqb root n (λ same. other (sym same))))) (cases_eq n root)
      ∙ sym (once n) ∙ omega (arith, ap (times n) (none-open 128));
}
