-- The lines of a step do not depend on the registers and the buffer of another process.
use Rattle.std.proofs.Common.{◌≡◌, ℕ, suc, Bool, true, false, cond, List, [], ◌∷◌, ◌++◌, map, length, Some, refl, ap, ap₂, sym, subst, ◌∙◌}
use Rattle.std.specs.Ordering.{nat_cmp, eq_by_cmp}
use Rattle.std.specs.FinMap.Entries.{by_order, find, put, where_key}
use Rattle.std.specs.Cmp.{unsigned_ties}
use Rattle.std.specs.declared.cmp.Ordering.TheVariants.{Less, Equal, Greater}
use Rattle.std.proofs.lemmas.Bool.{eqb-true}
use Rattle.pv_model.specs.Machine.{parent_of, among, used_files, held_by_process, collect, present, keep, Process, ProcessRecord, live, ended_record, State, process_at, live_process}
use Rattle.pv_laws_states.specs.Steps.{IsSameOutside, AreSameExceptInsides}
use Rattle.pv_laws_states.proofs.ReferenceMembers.{all_of}
use Rattle.pv_laws_trees.specs.Preserved.{preserved}

-- ---- similar lists of processes

module _ (pid : ℕ) where
  pub alike-find : (xs ys : List (ℕ × ProcessRecord)) → AreSameExceptInsides pid xs ys → find nat_cmp pid xs ≡ find nat_cmp pid ys
  alike-find [] [] is = refl
  alike-find [] (y ∷ ys) is = absurd is
  alike-find (x ∷ xs) [] is = absurd is
  alike-find (x ∷ xs) (y ∷ ys) is =
      ap (λ k. cond (eq_by_cmp nat_cmp pid k) (Some x.1) (find nat_cmp pid xs)) is.0
      ∙ (elim (eq_by_cmp nat_cmp pid y.0) as (λ b. eq_by_cmp nat_cmp pid y.0 ≡ b → cond b (Some x.1) (find nat_cmp pid xs) ≡ cond b (Some y.1) (find nat_cmp pid ys)) [
        | true ↦ λ tied. ap Some (is.2 (sym (eqb-true pid y.0 (unsigned_ties pid y.0 ∙ tied))))
        | false ↦ λ apart. alike-find xs ys is.3
      ] refl)

  pub alike-length : (xs ys : List (ℕ × ProcessRecord)) → AreSameExceptInsides pid xs ys → length xs ≡ length ys
  alike-length [] [] is = refl
  alike-length [] (y ∷ ys) is = absurd is
  alike-length (x ∷ xs) [] is = absurd is
  alike-length (x ∷ xs) (y ∷ ys) is = ap suc (alike-length xs ys is.3)

  alike-self : (r : ProcessRecord) → IsSameOutside r r
  alike-self (live p) = refl
  alike-self (ended_record above status) = (refl, refl)

  -- the same record is stored in both
  pub alike-put : (k : ℕ) (r : ProcessRecord) (xs ys : List (ℕ × ProcessRecord)) → AreSameExceptInsides pid xs ys → AreSameExceptInsides pid (put nat_cmp k r xs) (put nat_cmp k r ys)
  alike-put k r [] [] is = (refl, alike-self r, λ _. refl, tt)
  alike-put k r [] (y ∷ ys) is = absurd is
  alike-put k r (x ∷ xs) [] is = absurd is
  alike-put k r (x ∷ xs) (y ∷ ys) is =
      subst (λ o. AreSameExceptInsides pid (by_order o ((k, r) ∷ x ∷ xs) ((x.0, r) ∷ xs) (x ∷ put nat_cmp k r xs)) (by_order (nat_cmp k y.0) ((k, r) ∷ y ∷ ys) ((y.0, r) ∷ ys) (y ∷ put nat_cmp k r ys)))
      (ap (nat_cmp k) (sym is.0))
      (elim (nat_cmp k y.0) as (λ o. AreSameExceptInsides pid (by_order o ((k, r) ∷ x ∷ xs) ((x.0, r) ∷ xs) (x ∷ put nat_cmp k r xs)) (by_order o ((k, r) ∷ y ∷ ys) ((y.0, r) ∷ ys) (y ∷ put nat_cmp k r ys))) [
        | Less ↦ (refl, alike-self r, λ _. refl, is)
        | Equal ↦ (is.0, alike-self r, λ _. refl, is.3)
        | Greater ↦ (is.0, is.1, is.2, alike-put k r xs ys is.3)
      ])

  -- the same records are removed from both
  pub alike-where : (test : ℕ → Bool) (xs ys : List (ℕ × ProcessRecord)) → AreSameExceptInsides pid xs ys → AreSameExceptInsides pid (where_key nat_cmp test xs) (where_key nat_cmp test ys)
  alike-where test [] [] is = tt
  alike-where test [] (y ∷ ys) is = absurd is
  alike-where test (x ∷ xs) [] is = absurd is
  alike-where test (x ∷ xs) (y ∷ ys) is =
      subst (λ b. AreSameExceptInsides pid (cond b (x ∷ where_key nat_cmp test xs) (where_key nat_cmp test xs)) (cond (test y.0) (y ∷ where_key nat_cmp test ys) (where_key nat_cmp test ys))) (ap test (sym is.0))
      (elim (test y.0) as (λ b. AreSameExceptInsides pid (cond b (x ∷ where_key nat_cmp test xs) (where_key nat_cmp test xs)) (cond b (y ∷ where_key nat_cmp test ys) (where_key nat_cmp test ys))) [
        | true ↦ (is.0, is.1, is.2, alike-where test xs ys is.3)
        | false ↦ alike-where test xs ys is.3
      ])

  alike-held : (g : Process → List ℕ) → ((p q : Process) → p ≡ record q { registers = p.registers; buffer = p.buffer } → g p ≡ g q)
      → (xs ys : List (ℕ × ProcessRecord)) → AreSameExceptInsides pid xs ys → all_of g xs ≡ all_of g ys
  alike-held g same [] [] is = refl
  alike-held g same [] (y ∷ ys) is = absurd is
  alike-held g same (x ∷ xs) [] is = absurd is
  alike-held g same ((k, live p) ∷ xs) ((j, live q) ∷ ys) is = ap₂ (λ (a b : List ℕ). a ++ b) (same p q is.1) (alike-held g same xs ys is.3)
  alike-held g same ((k, ended_record above status) ∷ xs) ((j, live q) ∷ ys) is = absurd is.1
  alike-held g same ((k, live p) ∷ xs) ((j, ended_record above status) ∷ ys) is = absurd is.1
  alike-held g same ((k, ended_record above status) ∷ xs) ((j, ended_record parent code) ∷ ys) is = alike-held g same xs ys is.3

  pub alike-parent : (r q : ProcessRecord) → IsSameOutside r q → parent_of r ≡ parent_of q
  alike-parent (live p) (live q) is = ap (λ (x : Process). x.parent) is
  alike-parent (live p) (ended_record above status) is = absurd is
  alike-parent (ended_record above status) (live q) is = absurd is
  alike-parent (ended_record above status) (ended_record parent code) is = is.0

-- ---- similar states

-- y is x with other registers and buffers of the other processes
pub record AreSimilar (pid : ℕ) (x y : State) : Type 0 where
  pub processes : List (ℕ × ProcessRecord)
  pub same : y ≡ record x { processes = processes }
  pub alike : AreSameExceptInsides pid processes x.processes

module _ (pid : ℕ) where
  -- similar processes leave the same tree
  pub alike-tree : (x : State) (ps : List (ℕ × ProcessRecord)) → AreSameExceptInsides pid ps x.processes → (collect (record x { processes = ps })).tree ≡ (collect x).tree
  unfolding collect
  alike-tree x ps is =
      ap₂ (λ (hs us : List ℕ). preserved x.tree (hs ++ map (λ f. f.node) (present (keep (among us) x.files))))
      (alike-held pid held_by_process (λ p q same. ap held_by_process same) ps x.processes is)
      (alike-held pid used_files (λ p q same. ap used_files same) ps x.processes is)

  pub similar-tree : (x y : State) → AreSimilar pid x y → (collect y).tree ≡ (collect x).tree
  similar-tree x y is = ap (λ (z : State). (collect z).tree) is.same ∙ alike-tree x is.processes is.alike

  -- the process is the same in both
  pub similar-process : (x y : State) → AreSimilar pid x y → process_at y pid ≡ process_at x pid
  similar-process x y is = ap (λ z. process_at z pid) is.same ∙ ap live_process (alike-find pid is.processes x.processes is.alike)
