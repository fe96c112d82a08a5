-- The parent directory of a path.
use Rattle.std.proofs.Common.{◌≡◌, ◌∙◌, ap, ℕ, ◌≤◌, true, false, not, cond, List, [], ◌∷◌, length, drop, filter, Option, None, Some, refl, sym, arith}
use Rattle.std.specs.Prelude.{option_and_then, is_none, ◌==◌}
use Rattle.std.specs.List.{list_all}
use Rattle.std.proofs.lemmas.Bool.{and_parts}
use Rattle.pv_model.specs.declared.version.Version.{Version}
use Rattle.pv_model.specs.Machine.{Bytes, is_empty, onto_first, Tree, root, is_name, is_directory_at, find_entry, IsWellFormed, split_slashes, components}
use Rattle.pv_model.specs.Grammar.Manifests.{enter_directory, container}
use Rattle.pv_image_manifest.specs.Paths.{is_path}
use Rattle.pv_text.specs.Components.{components_after}
use Rattle.pv_laws_trees.specs.Tree.{Appears}
use Rattle.pv_laws_trees.proofs.Trees.{sound, entry-parent, parent-root}

-- ---- directories that appear in the tree

pub root-appears : (t : Tree) → IsWellFormed t → Appears t root
root-appears t w = (w.root_is_directory, ap is_none (parent-root t))

pub entry-appears : (t : Tree) → IsWellFormed t → (d : ℕ) (name : Bytes) (n : ℕ) → is_directory_at t n ≡ true → find_entry t d name ≡ Some n → Appears t n
entry-appears t w d name n is found = (is, ap is_none (entry-parent t (sound t w) n d name is found))

-- ---- the components of a path

name_is_some : (v : Version) (name : Bytes) → is_name v name ≡ true → is_empty name ≡ false
name_is_some v [] h = cc
name_is_some v (b ∷ bs) h = refl

-- names are not empty components
names_stay : (v : Version) (ps : List Bytes) → list_all (is_name v) ps ≡ true → filter (λ component. not (is_empty component)) ps ≡ ps
names_stay v [] h = refl
names_stay v (p ∷ ps) h =
    let halves = and_parts (is_name v p) (list_all (is_name v) ps) h in
    let some : is_empty p ≡ false = name_is_some v p halves.0 in
    rw some (ap (λ qs. p ∷ qs) (names_stay v ps halves.1))

-- a path is a slash and names
pub path_names : (v : Version) (path : Bytes) → is_path v path ≡ true → (1 ≤ length path) × (list_all (is_name v) (split_slashes (drop 1 path)) ≡ true) × (components path ≡ split_slashes (drop 1 path))
path_names v [] h = cc
path_names v (b ∷ bs) h =
    let halves = and_parts (b == 47) (list_all (is_name v) (split_slashes bs)) h in
    (omega arith, halves.1, rw halves.0 (names_stay v (split_slashes bs) halves.1))

-- a path has a first component, which can be empty
some_component : (bs : Bytes) → (component : Bytes) × (others : List Bytes) × (split_slashes bs ≡ component ∷ others)
some_component [] = ([], [], refl)
some_component (b ∷ bs) =
    elim (b == 47) as (λ t. (component : Bytes) × (others : List Bytes) × (cond t ([] ∷ split_slashes bs) (onto_first b (split_slashes bs)) ≡ component ∷ others)) [
      | true ↦ ([], split_slashes bs, refl)
      | false ↦ onto (split_slashes bs)
    ]
  where
    onto : (ps : List Bytes) → (component : Bytes) × (others : List Bytes) × (onto_first b ps ≡ component ∷ others)
    onto [] = (b ∷ [], [], refl)
    onto (p ∷ ps) = (b ∷ p, ps, refl)

-- ---- a walk along the path

-- its invariant
pub record IsContained (t : Tree) (path : Bytes) (d : ℕ) (name : Bytes) (rest : Option Bytes) : Type 0 where
  pub is : container t (name ∷ components_after rest) d ≡ container t (components path) root
  pub names : list_all (is_name t.version) (name ∷ components_after rest) ≡ true
  pub appears : Appears t d

pub IsContained-start : (t : Tree) (path names name : Bytes) (rest : Option Bytes) → is_path t.version path ≡ true → names ≡ drop 1 path → split_slashes names ≡ name ∷ components_after rest → IsWellFormed t
    → IsContained t path root name rest
IsContained-start t path names name rest named is split w =
    let parts = path_names t.version path named in
    let same : split_slashes (drop 1 path) ≡ name ∷ components_after rest = ap split_slashes (sym is) ∙ split in
    record {
      is = ap (λ ps. container t ps root) (sym same ∙ sym parts.2);
      names = ap (list_all (is_name t.version)) (sym same) ∙ parts.1;
      appears = root-appears t w;
    }

module _ (t : Tree) (path : Bytes) (d : ℕ) (name following : Bytes) (rest : Option Bytes) (more : rest ≡ Some following) (preserved : IsContained t path d name rest) where
  pub IsContained-step : (n : ℕ) (next : Bytes) (left : Option Bytes) → split_slashes following ≡ next ∷ components_after left
      → ((onward : ℕ → Option (ℕ × Bytes)) → enter_directory t onward (find_entry t d name) ≡ option_and_then onward (Some n)) → Appears t n → IsContained t path n next left
  IsContained-step n next left split entered there =
      let components-are : components_after rest ≡ next ∷ components_after left = ap components_after more ∙ split in
      record {
        is = sym (entered (container t (next ∷ components_after left))) ∙ ap (λ ps. container t (name ∷ ps) d) (sym components-are) ∙ preserved.is;
        names = (and_parts (is_name t.version name) (list_all (is_name t.version) (next ∷ components_after left)) (ap (λ ps. list_all (is_name t.version) (name ∷ ps)) (sym components-are) ∙ preserved.names)).1;
        appears = there;
      }

  pub IsContained-refused : ((onward : ℕ → Option (ℕ × Bytes)) → enter_directory t onward (find_entry t d name) ≡ option_and_then onward None) → container t (components path) root ≡ None
  IsContained-refused refused =
      let next = some_component following in
      sym preserved.is ∙ ap (λ ps. container t (name ∷ ps) d) (ap components_after more ∙ next.2) ∙ refused (container t (next.0 ∷ next.1))

pub IsContained-end : (t : Tree) (path : Bytes) (d : ℕ) (name : Bytes) (rest : Option Bytes) → rest ≡ None → IsContained t path d name rest → container t (components path) root ≡ Some (d, name)
IsContained-end t path d name rest none preserved = sym preserved.is ∙ ap (λ r. container t (name ∷ components_after r) d) none

pub IsContained-name : (t : Tree) (path : Bytes) (d : ℕ) (name : Bytes) (rest : Option Bytes) → IsContained t path d name rest → is_name t.version name ≡ true
IsContained-name t path d name rest preserved = (and_parts (is_name t.version name) (list_all (is_name t.version) (components_after rest)) preserved.names).0
