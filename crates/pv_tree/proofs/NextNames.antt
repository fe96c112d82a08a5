-- From one name to the next, from directory to directory.
use Rattle.std.proofs.Common.{◌≡◌, ℕ, ◌+◌, ◌<◌, ◌≤◌, true, false, length, Option, None, Some, refl, ap, sym, subst, ◌∙◌, ◌⊎◌, ⊎_elim, inl, inr, arith}
use Rattle.std.proofs.lemmas.Bool.{cases_lt, false_from_ne_true, cases_Bool}
use Rattle.pv_model.specs.Machine.{Bytes, is_past, Tree, find_entry, is_directory_at}
use Rattle.pv_laws_trees.proofs.TreeChanges.{has_entry-directory, directory-below}
use Rattle.pv_dirs.specs.Listing.{IsNextNameOf}
use Rattle.pv_tree.specs.NodeNames.{is_after, IsNextNameOfNode}
use Rattle.pv_tree.proofs.NameOrder.{Named, after-cases, after-lower, after-same}

-- the names that follow the last one: those of greater directories, and in this one those that follow a name
pub record IsCut (last : Option Named) (first : ℕ) (following : Option Bytes) : Type 0 where
  pub low : (x : Named) → is_after last x ≡ true → first ≤ x.0
  pub here : (name : Bytes) → is_after last (first, name) ≡ is_past following name
  pub higher : (x : Named) → first < x.0 → is_after last x ≡ true

pub cut-none : IsCut None 0 None
cut-none = record { low = λ x is. omega arith; here = λ name. refl; higher = λ x less. refl }

pub cut-some : (d : ℕ) (name : Bytes) → IsCut (Some (d, name)) d (Some name)
cut-some d name = record {
  low = λ x is. ⊎_elim (λ less. omega arith) (λ same. omega (arith, same.0)) (after-cases (d, name) x is);
  here = λ other. ⊎_elim (λ yes. after-same (d, name) (d, other) refl yes ∙ sym yes) (λ isnt. unless other isnt ∙ sym isnt) (cases_Bool (is_past (Some name) other));
  higher = λ x less. after-lower (d, name) x less;
}
  where
    unless : (other : Bytes) → is_past (Some name) other ≡ false → is_after (Some (d, name)) (d, other) ≡ false
    unless other isnt = false_from_ne_true (is_after (Some (d, name)) (d, other))
        (λ is. ⊎_elim (λ (less : d < d). omega arith) (λ same. let both : true ≡ false = sym same.1 ∙ isnt in cc both) (after-cases (d, name) (d, other) is))

-- in a directory, the names that follow a name also follow the last one
pub IsFrom : Option Named → ℕ → Option Bytes → Type 0
IsFrom last d from = (name : Bytes) → is_after last (d, name) ≡ is_past from name

module _ (t : Tree) (n : ℕ) (last : Option Named) where
  -- no name that follows the last one is in a lower directory
  pub record IsDownTo (d : ℕ) : Type 0 where
    pub low : (x : Named) → find_entry t x.0 x.1 ≡ Some n → is_after last x ≡ true → d ≤ x.0

  pub down-first : (first : ℕ) (following : Option Bytes) → IsCut last first following → IsDownTo first
  down-first first following cut = record { low = λ x is after. cut.low x after }

  at_next : (d : ℕ) → IsDownTo d → ((name : Bytes) → find_entry t d name ≡ Some n → is_after last (d, name) ≡ false) → IsDownTo (d + 1)
  at_next d down none = record {
    low = λ x is after.
        ⊎_elim (λ (less : d < x.0). omega arith)
        (λ same.
        let there : find_entry t d x.1 ≡ Some n = ap (λ k. find_entry t k x.1) same ∙ is in
        let yes : is_after last (d, x.1) ≡ true = ap (λ k. is_after last (k, x.1)) same ∙ after in
        let both : true ≡ false = sym yes ∙ none x.1 there in cc both)
        (split d x.0 (down.low x is after));
  }
    where
      split : (a b : ℕ) → a ≤ b → (a < b) ⊎ (a ≡ b)
      split a b le = ⊎_elim (λ less. inl less) (λ other. inr (omega arith)) (cases_lt a b)

  -- if the directory has no such name
  pub down-none : (d : ℕ) (from : Option Bytes) → IsDownTo d → IsFrom last d from → IsNextNameOf t d n from None → IsDownTo (d + 1)
  unfolding IsFrom
  down-none d from down is none = at_next d down (λ name there. is name ∙ none name there)

  -- if it is not a directory
  pub down-past : (d : ℕ) → IsDownTo d → is_directory_at t d ≡ false → IsDownTo (d + 1)
  down-past d down isnt =
      at_next d down (λ name there. let both : true ≡ false = sym (has_entry-directory t d name n there) ∙ isnt in cc both)

  pub down-found : (d : ℕ) (from : Option Bytes) (name : Bytes) → IsDownTo d → IsFrom last d from → IsNextNameOf t d n from (Some name) → IsNextNameOfNode t n last (Some (d, name))
  unfolding IsFrom
  down-found d from name down is next = record {
    named = next.named;
    after = is name ∙ next.following;
    least = λ x there after.
        false_from_ne_true (is_after (Some x) (d, name))
        (λ before.
        ⊎_elim (λ (less : x.0 < d). let low = down.low x there after in omega arith)
        (λ same.
        let here : find_entry t d x.1 ≡ Some n = ap (λ k. find_entry t k x.1) (sym same.0) ∙ there in
        let following : is_past from x.1 ≡ true = sym (is x.1) ∙ ap (λ k. is_after last (k, x.1)) (sym same.0) ∙ after in
        let both : true ≡ false = sym same.1 ∙ next.least x.1 here following in cc both)
        (after-cases x (d, name) before));
  }

  -- after all directories
  pub down-all : (d : ℕ) → IsDownTo d → length t.nodes ≤ d → IsNextNameOfNode t n last None
  down-all d down all = λ x there.
      false_from_ne_true (is_after last x) (λ after. let low = down.low x there after in let below = directory-below t x.0 (has_entry-directory t x.0 x.1 n there) in absurd (omega arith))

pub from-here : (last : Option Named) (first : ℕ) (following : Option Bytes) → IsCut last first following → IsFrom last first following
unfolding IsFrom
from-here last first following cut = cut.here

pub from-higher : (last : Option Named) (first : ℕ) (following : Option Bytes) (d : ℕ) → IsCut last first following → first < d → IsFrom last d None
unfolding IsFrom
from-higher last first following d cut less = λ name. cut.higher (d, name) less

pub from-of : (last : Option Named) (first : ℕ) (following : Option Bytes) (d : ℕ) → IsCut last first following → d ≡ first → IsFrom last d following
from-of last first following d cut same = subst (λ k. IsFrom last k following) (sym same) (from-here last first following cut)
