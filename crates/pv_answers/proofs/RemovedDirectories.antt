-- Removed directories, which only their own entry can govern.
use Rattle.std.proofs.Common.{◌≡◌, ◌≢◌, ℕ, true, false, not, if◌then◌else◌, ◌==◌, ◌++◌, [], ◌∷◌, codes, length, Option, None, Some, is_some, refl, ap, sym, subst, ◌∙◌, ⊎_elim}
use Rattle.std.specs.Prelude.{is_none}
use Rattle.std.specs.Option.{option_and_then, option_or}
use Rattle.std.proofs.lemmas.Bool.{cases_eq}
use Rattle.std.proofs.lemmas.List.{append-nil}
use Rattle.pv_model.specs.declared.open_flags.Mode.{Mode}
use Rattle.pv_model.specs.declared.place.Place.TheVariants.{Node as Unnamed}
use Rattle.pv_model.specs.declared.target.Target.TheVariants.{Directory}
use Rattle.pv_model.specs.Machine.{node_path, entries_of_table, Tree, root, is_directory_at, is_removed, parent, IsWellFormed, Table, directory_rights, entry_for, governing_entry}
use Rattle.pv_model.specs.Answers.Nodes.{node_words}
use Rattle.pv_model.specs.Answers.Reach.{removed_text}
use Rattle.pv_model.specs.Unveil.{climb, rights_above}
use Rattle.pv_answers.specs.declared.reach.reacher.Reacher.{Reacher}
use Rattle.pv_answers.specs.Reaching.{descriptor_words, directory_lines, governed_words, may_line, may_lines, reacher_process, removed_words, reacher_state, reacher_table, unnamed_words}
use Rattle.pv_answers.proofs.NodePaths.{least-above, least-none, path-named, root-path}
use Rattle.pv_answers.proofs.PermissionsAtPlaces.{governed-is}

or-none : (o : Option ℕ) → option_or o None ≡ o
or-none None = refl
or-none (Some k) = refl

-- a removed directory does not inherit an entry
none-above : (t : Tree) (table : Table) (steps n : ℕ) → is_removed t n ≡ true → rights_above t table (climb t table steps) n ≡ None
none-above t table steps n removed = by (parent t n) refl removed
  where
    at : (top : _) → (if top then None else option_and_then (climb t table steps) None) ≡ None
    at true = refl
    at false = refl

    by : (o : Option ℕ) → parent t n ≡ o → is_none o ≡ true → rights_above t table (climb t table steps) n ≡ None
    by None up none = ap (λ (o : Option ℕ). if n == root then None else option_and_then (climb t table steps) o) up ∙ at (n == root)
    by (Some d) up none = cc none

governing-removed : (t : Tree) (table : Table) (n : ℕ) → is_removed t n ≡ true → governing_entry t table (Unnamed n) ≡ entry_for table (Directory n)
unfolding governing_entry directory_rights
governing-removed t table n removed =
    ap (option_or (entry_for table (Directory n))) (none-above t table (length t.nodes) n removed) ∙ or-none (entry_for table (Directory n))

-- ---- nodes without a path

root-appears : (t : Tree) → is_removed t root ≡ false
unfolding parent
root-appears t = refl

path-removed : (t : Tree) → IsWellFormed t → (n : ℕ) → is_removed t n ≡ not (is_some (node_path t n))
path-removed t w n = ⊎_elim (λ top. subst (λ k. is_removed t k ≡ not (is_some (node_path t k))) (sym top) (root-appears t ∙ sym (ap not (root-path t w)))) (λ other. by other (parent t n) refl) (cases_eq n root)
  where
    by : n ≢ root → (o : Option ℕ) → parent t n ≡ o → is_removed t n ≡ not (is_some (node_path t n))
    by other None up = ap is_none up ∙ sym (ap not (path-named t w n other ∙ ap is_some (least-none t n other up)))
    by other (Some d) up = ap is_none up ∙ sym (ap not (path-named t w n other ∙ ap is_some (least-above t n d other up).1))

-- the test that the code makes
pub removed-by : (t tree : Tree) → tree ≡ t → IsWellFormed tree → (n : ℕ) → not (is_some (node_path t n)) ≡ is_removed t n
removed-by t tree same w n = sym (path-removed t (subst IsWellFormed same w) n)

pub pathless-removed : (t tree : Tree) → tree ≡ t → IsWellFormed tree → (n : ℕ) → is_some (node_path t n) ≡ false → is_removed t n ≡ true
pathless-removed t tree same w n none = path-removed t (subst IsWellFormed same w) n ∙ ap not none

module _ (x : Reacher) where
  removed-is : (n : ℕ) → is_removed (reacher_state x).tree n ≡ true → removed_words x n ≡ removed_text (reacher_state x) (reacher_process x) n
  removed-is n removed =
      ap (λ k. governed_words x k (node_words (reacher_state x).tree n)) (sym (governing-removed (reacher_state x).tree (entries_of_table (reacher_table x)) n removed))
      ∙ governed-is x (Unnamed n) (node_words (reacher_state x).tree n)

  -- the line of a removed working directory
  pub directory-is : (n : ℕ) → n ≡ (reacher_process x).directory → is_removed (reacher_state x).tree n ≡ true
      → may_line x (removed_words x n ++ codes ", working directory") ≡ directory_lines x
  directory-is n same removed =
      let text = removed_text (reacher_state x) (reacher_process x) (reacher_process x).directory ++ codes ", working directory" in
      let here : is_removed (reacher_state x).tree (reacher_process x).directory ≡ true = ap (is_removed (reacher_state x).tree) (sym same) ∙ removed in
      ap (λ bs. may_line x (bs ++ codes ", working directory")) (removed-is n removed ∙ ap (removed_text (reacher_state x) (reacher_process x)) same)
      ∙ sym (append-nil (may_line x text))
      ∙ sym (ap (λ b. may_lines x (if b then text ∷ [] else [])) here)

  -- a removed directory, and a descriptor on it
  pub unnamed-is : (n d : ℕ) (mode : Mode) → is_directory_at (reacher_state x).tree n ≡ true → is_removed (reacher_state x).tree n ≡ true
      → may_line x (removed_words x n ++ descriptor_words d mode) ≡ may_line x (unnamed_words x n d mode)
  unnamed-is n d mode is removed =
      ap (λ bs. may_line x (bs ++ descriptor_words d mode))
      (removed-is n removed ∙ sym (ap (λ b. if b then removed_text (reacher_state x) (reacher_process x) n else codes "---- " ++ node_words (reacher_state x).tree n) is))
