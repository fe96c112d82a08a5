-- The paths of a manifest's entries.
use Rattle.std.proofs.Common.{◌≡◌, ◌≢◌, ℕ, Bool, true, false, not, ◌&&◌, ◌==◌, List, [], ◌∷◌, ◌++◌, length, ap, sym, ◌∙◌, refl, append-nil, eqb-true}
use Rattle.std.specs.Prelude.{IsTrue, codes, bytes_eq, nat_le}
use Rattle.std.proofs.lemmas.Bool.{cond_both, and_parts, and_from, not-true, cond-false}
use Rattle.std.specs.List.{AllByRecursion, list_all}
use Rattle.pv_model.specs.declared.version.Version.TheVariants.{V1}
use Rattle.pv_model.specs.Machine.{Bytes, is_empty, onto_first, is_manifest_path, is_name_byte, is_name, split_slashes}
use Rattle.pv_model.specs.Grammar.Entries.{path_of_names, IsEntryPath}

-- joining the components between slashes gives the path back
more_in_component : (b : ℕ) (bs : Bytes) (ps : List Bytes) → path_of_names ps ≡ 47 ∷ bs → path_of_names (onto_first b ps) ≡ 47 ∷ b ∷ bs
more_in_component b bs [] e = absurd (cc)
more_in_component b bs (p ∷ ps) e = let tail : p ++ path_of_names ps ≡ bs = cc in ap (λ r. 47 ∷ b ∷ r) tail

path_of_components : (bs : Bytes) → path_of_names (split_slashes bs) ≡ 47 ∷ bs
path_of_components [] = refl
path_of_components (b ∷ bs) = cond_both (b == 47) ([] ∷ split_slashes bs) (onto_first b (split_slashes bs)) (λ ps. path_of_names ps ≡ 47 ∷ b ∷ bs)
    (λ is. ap (λ r. 47 ∷ r) (path_of_components bs) ∙ ap (λ c. 47 ∷ c ∷ bs) (sym (eqb-true b 47 is)))
    (λ is. more_in_component b bs (split_slashes bs) (path_of_components bs))

onto_some : (b : ℕ) (ps : List Bytes) → onto_first b ps ≢ []
onto_some b [] e = absurd (cc)
onto_some b (p ∷ ps) e = absurd (cc)

some_component : (bs : Bytes) → split_slashes bs ≢ []
some_component [] e = absurd (cc)
some_component (b ∷ bs) e = cond_both (b == 47) ([] ∷ split_slashes bs) (onto_first b (split_slashes bs)) (λ ps. ps ≡ [] → ⊥) (λ is k. absurd (cc)) (λ is k. onto_some b (split_slashes bs) k) e

all_from : {X : Type 0} (test : X → Bool) (xs : List X) → list_all test xs ≡ true → AllByRecursion (λ x. IsTrue (test x)) xs
all_from test [] h = tt
all_from test (x ∷ xs) h = let parts = and_parts (test x) (list_all test xs) h in (parts.0, all_from test xs parts.1)

all_to : {X : Type 0} (test : X → Bool) (xs : List X) → AllByRecursion (λ x. IsTrue (test x)) xs → list_all test xs ≡ true
all_to test [] h = refl
all_to test (x ∷ xs) h = and_from (test x) (list_all test xs) h.0 (all_to test xs h.1)

pub IsEntryPath-from_test : (path : Bytes) → is_manifest_path path ≡ true → IsEntryPath path
IsEntryPath-from_test [] h = absurd (cc)
IsEntryPath-from_test (b ∷ bs) h =
    let parts = and_parts (b == 47) (list_all (is_name V1) (split_slashes bs)) h in
    (split_slashes bs, some_component bs, all_from (is_name V1) (split_slashes bs) parts.1, ap (λ c. c ∷ bs) (eqb-true b 47 parts.0) ∙ sym (path_of_components bs))

-- ---- names are the components of the path that they form

abbrev NoSlash : Bytes → Type 0
NoSlash bs = list_all is_name_byte bs ≡ true

not_slash : (b : ℕ) → is_name_byte b ≡ true → (b == 47) ≡ false
not_slash b h = not-true (b == 47) (and_parts (not (b == 0)) (not (b == 47)) h).1

one_component : (name : Bytes) → NoSlash name → split_slashes name ≡ name ∷ []
one_component [] h = refl
one_component (b ∷ name) h =
    let parts = and_parts (is_name_byte b) (list_all is_name_byte name) h in
    cond-false (b == 47) ([] ∷ split_slashes name) (onto_first b (split_slashes name)) (not_slash b parts.0) ∙ ap (onto_first b) (one_component name parts.1)

component_and_more : (name rest : Bytes) → NoSlash name → split_slashes (name ++ 47 ∷ rest) ≡ name ∷ split_slashes rest
component_and_more [] rest h = refl
component_and_more (b ∷ name) rest h =
    let parts = and_parts (is_name_byte b) (list_all is_name_byte name) h in
    cond-false (b == 47) ([] ∷ split_slashes (name ++ 47 ∷ rest)) (onto_first b (split_slashes (name ++ 47 ∷ rest))) (not_slash b parts.0) ∙ ap (onto_first b) (component_and_more name rest parts.1)

name_has_no_slash : (name : Bytes) → is_name V1 name ≡ true → NoSlash name
name_has_no_slash name h =
    let a = and_parts (not (is_empty name) && nat_le (length name) 60 && list_all is_name_byte name && not (bytes_eq name (codes "."))) (not (bytes_eq name (codes ".."))) h in
    let b = and_parts (not (is_empty name) && nat_le (length name) 60 && list_all is_name_byte name) (not (bytes_eq name (codes "."))) a.0 in
    (and_parts (not (is_empty name) && nat_le (length name) 60) (list_all is_name_byte name) b.0).1

components_of_path : (name : Bytes) (names : List Bytes) → AllByRecursion (λ n. IsTrue (is_name V1 n)) (name ∷ names) → split_slashes (name ++ path_of_names names) ≡ name ∷ names
components_of_path name [] h = ap split_slashes (append-nil name) ∙ one_component name (name_has_no_slash name h.0)
components_of_path name (next ∷ names) h =
    component_and_more name (next ++ path_of_names names) (name_has_no_slash name h.0) ∙ ap (λ ps. name ∷ ps) (components_of_path next names h.1)

from_names : (names : List Bytes) → names ≢ [] → AllByRecursion (λ n. IsTrue (is_name V1 n)) names → is_manifest_path (path_of_names names) ≡ true
from_names [] some h = absurd (some refl)
from_names (name ∷ names) some h = ap (list_all (is_name V1)) (components_of_path name names h) ∙ all_to (is_name V1) (name ∷ names) h

pub is_manifest_path-IsEntryPath : (path : Bytes) → IsEntryPath path → is_manifest_path path ≡ true
is_manifest_path-IsEntryPath path h = ap is_manifest_path h.3 ∙ from_names h.0 h.1 h.2
