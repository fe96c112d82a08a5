-- The least name of a node.
use Rattle.std.proofs.Common.{◌≡◌, ◌≢◌, ℕ, true, false, List, [], ◌∷◌, None, Some, refl, ap, ap₂, sym, ◌∙◌}
use Rattle.std.specs.Prelude.{IsTrue}
use Rattle.pv_model.specs.Machine.{first_of, Bytes, Tree, root, find_entry, is_directory_at, names_of, parent, IsWellFormed}
use Rattle.pv_model.specs.Answers.Nodes.{least_name}
use Rattle.pv_laws_trees.proofs.Trees.{ordered, sound, parent-entry, parent-none_named}
use Rattle.pv_dirs.specs.Listing.{IsNextNameOf}
use Rattle.pv_tree.specs.NodeNames.{is_after, first_after}
use Rattle.pv_tree.proofs.NameOrder.{Named, next-found, not-after_itself}

-- without a last name, all names follow
pub first-of_all : (names : List Named) → first_after None names ≡ first_of names
first-of_all [] = refl
first-of_all (x ∷ xs) = refl

module _ (t : Tree) (w : IsWellFormed t) where
  pub least-of_root : None ≡ least_name t root
  least-of_root = sym (ap first_of w.root_is_unnamed)

  -- a removed directory has no name
  pub least-removed : (n : ℕ) → parent t n ≡ None → None ≡ least_name t n
  least-removed n up =
      let none = (parent-none_named t n up).1 in
      next-found t (ordered t w.each_node) n None None (λ other found. absurd (none other.0 other.1 found)) ∙ first-of_all (names_of t n)

  -- a directory has exactly one name, which is in its parent
  pub least-above : (n d : ℕ) (name : Bytes) → IsTrue (is_directory_at t n) → IsNextNameOf t d n None (Some name) → Some (d, name) ≡ least_name t n
  least-above n d name is next =
      next-found t (ordered t w.each_node) n None (Some (d, name)) (record {
        named = next.named;
        after = refl;
        least = λ other found after.
            let once = (sound t w).directories_once n is d name other.0 other.1 next.named found in
            ap₂ (λ a b. is_after (Some other) (a, b)) once.0 once.1 ∙ not-after_itself other;
      }) ∙ first-of_all (names_of t n)

  pub named-above : (n d : ℕ) → n ≢ root → parent t n ≡ Some d → IsNextNameOf t d n None None → ⊥
  named-above n d other up none =
      let found = parent-entry t (ordered t w.each_node) n d other up in
      let both : true ≡ false = none found.0 found.1 in cc both
