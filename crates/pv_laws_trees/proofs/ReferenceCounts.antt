-- The numbers with references.
use Rattle.std.proofs.Common.{◌≡◌, ◌≢◌, ℕ, zero, suc, ◌+◌, ◌<◌, false, ◌||◌, ◌==◌, List, [], ◌∷◌, refl, ap, ◌∙◌, arith}
use Rattle.std.specs.Prelude.{slice_index}
use Rattle.std.proofs.lemmas.Bool.{eq-eqb, ne_eqb, or_left}
use Rattle.pv_model.specs.Machine.{among}
use Rattle.pv_laws_trees.specs.ReferenceCounts.{held_from, referenced_numbers}
use Rattle.pv_laws_trees.proofs.NameCounts.{is_positive}

held-before : (k : ℕ) (holds : List ℕ) (m : ℕ) → m < k → among (held_from k holds) m ≡ false
held-before k [] m below = refl
held-before k (zero ∷ holds) m below = held-before (suc k) holds m (omega arith)
held-before k (suc times ∷ holds) m below =
    let other : k ≢ m = λ same. absurd (omega arith) in
    ap (λ b. b || among (held_from (suc k) holds) m) (ne_eqb k m other) ∙ held-before (suc k) holds m (omega arith)

held-at : (k : ℕ) (holds : List ℕ) (n m : ℕ) → m ≡ k + n → among (held_from k holds) m ≡ is_positive (slice_index holds n)
held-at k [] n m at = refl
held-at k (zero ∷ holds) zero m at = held-before (suc k) holds m (omega arith)
held-at k (zero ∷ holds) (suc n) m at = held-at (suc k) holds n m (omega arith)
held-at k (suc times ∷ holds) zero m at = or_left (k == m) _ (eq-eqb k m (omega arith))
held-at k (suc times ∷ holds) (suc n) m at =
    let other : k ≢ m = λ same. absurd (omega arith) in
    ap (λ b. b || among (held_from (suc k) holds) m) (ne_eqb k m other) ∙ held-at (suc k) holds n m (omega arith)

pub held-is : (holds : List ℕ) (n : ℕ) → among (referenced_numbers holds) n ≡ is_positive (slice_index holds n)
unfolding referenced_numbers
held-is holds n = held-at 0 holds n n (omega arith)
