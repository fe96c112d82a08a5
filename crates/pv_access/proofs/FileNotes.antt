-- The files without a note in the texts of a search.
use Rattle.std.proofs.Common.{◌≡◌, ◌≢◌, ◌∙◌, sym, ap, ap₂, ℕ, Bool, true, false, not, ◌&&◌, cond, ◌==◌, bytes_eq, List, [], ◌∷◌, ◌++◌, filter, codes, Option, refl}
use Rattle.std.specs.List.{list_any}
use Rattle.pv_reduced.specs.OfExplore.Observing.{is_shown}
use Rattle.pv_laws_trees.proofs.DirectoryEntries.{bytes_eq-other}
use Rattle.pv_model.specs.Machine.{Bytes, same_node, Tree, root, find_entry}
use Rattle.pv_named_files.specs.Notes.{note}
use Rattle.pv_access.specs.Unread.{is_without_note, singleton_if}

-- a shown text is not a note
shown-other : (n : ℕ) (bs : Bytes) → is_shown bs ≡ true → bs ≢ note n
shown-other n bs shown is = let bad : true ≡ false = sym shown ∙ ap is_shown is in absurd (cc)

pub note-hidden : (n : ℕ) (bs : Bytes) → is_shown bs ≡ true → bytes_eq (note n) bs ≡ false
note-hidden n bs shown = bytes_eq-other (note n) bs (λ e. shown-other n bs shown (sym e))

pub shown-differs : (n : ℕ) (bs : Bytes) → is_shown bs ≡ true → bytes_eq bs (note n) ≡ false
shown-differs n bs shown = bytes_eq-other bs (note n) (shown-other n bs shown)

-- the first element that passes a test, and the later ones
pub filter-first : (test : ℕ → Bool) (n : ℕ) (ns : List ℕ) → singleton_if (test n) n ++ filter test ns ≡ filter test (n ∷ ns)
filter-first test n ns = by (test n)
  where
    by : (b : Bool) → singleton_if b n ++ filter test ns ≡ cond b (n ∷ filter test ns) (filter test ns)
    by true = refl
    by false = refl

module _ (t : Tree) where
  -- files without a note, one file at a time
  pub unread-alike : (texts : List Bytes) (read : List ℕ) → ((n : ℕ) → list_any (bytes_eq (note n)) texts ≡ list_any (λ m. m == n) read) → (ns : List ℕ)
      → filter (is_without_note t texts) ns ≡ filter (λ n. not (same_node (find_entry t root (codes "init")) n) && not (list_any (λ m. m == n) read)) ns
  unread-alike texts read alike [] = refl
  unread-alike texts read alike (n ∷ ns) =
      let init : Option ℕ = find_entry t root (codes "init") in
      ap₂ (λ (b : Bool) (xs : List ℕ). cond (not (same_node init n) && not b) (n ∷ xs) xs) (alike n) (unread-alike texts read alike ns)
