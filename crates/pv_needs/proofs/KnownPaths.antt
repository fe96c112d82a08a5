-- The path of a directory, from the path of the directory that has its name; and the words for a target with that path.
use Rattle.std.proofs.Common.{◌≡◌, ◌≢◌, ◌∙◌, ◌==◌, ◌≤◌, ⊎_elim, ℕ, zero, suc, true, false, cond, List, [], ◌∷◌, length, Option, None, Some, option_map, IsSome, refl, ap, sym, subst, arith}
use Rattle.std.specs.Prelude.{IsTrue}
use Rattle.std.proofs.lemmas.Bool.{eq-eqb, ne_eqb}
use Rattle.pv_model.specs.declared.target.Target.{Target}
use Rattle.pv_model.specs.declared.target.Target.TheVariants.{Directory, Name}
use Rattle.pv_model.specs.Machine.{first_of, node_path, target_words, with_name, Bytes, Tree, root, find_entry, is_directory_at, names_of, IsWellFormed}
use Rattle.pv_model.specs.Answers.Nodes.{least_name, name_words_by, node_words_by, path_by, path_within}
use Rattle.pv_laws_trees.proofs.ListMembers.{In, entry-in}
use Rattle.pv_answers.proofs.NodePaths.{named-path, path-least}
use Rattle.pv_needs.specs.KnownWords.{IsKnown, known_words}

only-one : (x : ℕ × Bytes) (xs : List (ℕ × Bytes)) → length xs ≤ 1 → In (ℕ × Bytes) x xs → first_of xs ≡ Some x
only-one x [] few is = absurd is
only-one x (y ∷ []) few is = ⊎_elim (λ same. ap Some same) (λ later. absurd later) is
only-one x (y ∷ z ∷ xs) few is = absurd (omega arith)

some-before : (name : Bytes) (o : Option Bytes) → IsSome (option_map (with_name name) o) → IsSome o
some-before name None is = is
some-before name (Some path) is = refl

module _ (t : Tree) where
  path-step : (k n d : ℕ) (name : Bytes) → n ≢ root → least_name t n ≡ Some (d, name) → path_within t (suc k) n ≡ option_map (with_name name) (path_within t k d)
  path-step k n d name other is =
      ap (λ b. cond b (Some []) (path_by (path_within t k) (least_name t n))) (ne_eqb n root other) ∙ ap (path_by (path_within t k)) is

  -- a path within a depth is also a path within the next depth
  deeper : (k n : ℕ) → IsSome (path_within t k n) → path_within t (suc k) n ≡ path_within t k n
  deeper zero n some = cc some
  deeper (suc k) n some =
      elim (n == root) as (λ b. (n == root) ≡ b → path_within t (suc (suc k)) n ≡ path_within t (suc k) n) [
        | true ↦ λ e.
            ap (λ b. cond b (Some []) (path_by (path_within t (suc k)) (least_name t n))) e
            ∙ sym (ap (λ b. cond b (Some []) (path_by (path_within t k) (least_name t n))) e)
        | false ↦ λ e.
            let other : n ≢ root = λ same. let both : true ≡ false = sym (eq-eqb n root same) ∙ e in cc both in
            elim (least_name t n) as (λ o. least_name t n ≡ o → path_within t (suc (suc k)) n ≡ path_within t (suc k) n) [
              | None ↦ λ none. absurd (path-least t (suc k) n other some none)
              | Some p ↦ λ is.
                  path-step (suc k) n p.0 p.1 other is
                  ∙ ap (option_map (with_name p.1)) (deeper k p.0 (some-before p.1 (path_within t k p.0) (subst (λ (o : Option Bytes). IsSome o) (path-step k n p.0 p.1 other is) some)))
                  ∙ sym (path-step k n p.0 p.1 other is)
            ] refl
      ] refl

module _ (t : Tree) (w : IsWellFormed t) where
  least-found : (n d : ℕ) (name : Bytes) → IsTrue (is_directory_at t n) → find_entry t d name ≡ Some n → least_name t n ≡ Some (d, name)
  least-found n d name is found = only-one (d, name) (names_of t n) (w.directories_once n is) (entry-in t n d name found)

  -- the path of a directory is the path of its parent, followed by its name
  pub found-path : (n d : ℕ) (name rest : Bytes) → n ≢ root → IsTrue (is_directory_at t n) → find_entry t d name ≡ Some n → node_path t d ≡ Some rest
      → node_path t n ≡ Some (with_name name rest)
  unfolding node_path
  found-path n d name rest other is found path =
      let least = least-found n d name is found in
      let at : path_within t (length t.nodes) n ≡ path_within t (suc t.inodes) n = ap (λ j. path_within t j n) w.numbers in
      let step = path-step t t.inodes n d name other least in
      let some = subst (λ (o : Option Bytes). IsSome o) (at ∙ step) (named-path t w n d name other least) in
      let above = deeper t t.inodes d (some-before name (path_within t t.inodes d) some) in
      at ∙ step ∙ ap (option_map (with_name name)) (sym above ∙ sym (ap (λ j. path_within t j d) w.numbers) ∙ path)

  pub root-known : node_path t root ≡ Some []
  unfolding node_path
  root-known = ap (λ j. path_within t j root) w.numbers

-- a known path of the directory gives the words for a target
pub known_is : (t : Tree) (target : Target) (path : Bytes) → IsKnown t target path → known_words target path ≡ target_words t target
known_is t target [] known = absurd (omega (arith, known.some))
known_is t (Directory n) (b ∷ path) known = sym (ap (node_words_by t n) known.is_path)
known_is t (Name d name) (b ∷ path) known = sym (ap (λ (o : Option Bytes). name_words_by t d name (option_map (with_name name) o)) known.is_path)
