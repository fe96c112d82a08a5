-- The entries that the lines of a manifest list.
use Rattle.std.proofs.Common.{◌≡◌, ℕ, ◌+◌, ◌≤◌, Bool, true, false, not, ◌&&◌, ◌==◌, nat_le, List, [], ◌∷◌, ◌++◌, length, filter, Some, refl, ap, sym, subst, ◌∙◌, ⊎_elim, arith, cond}
use Rattle.std.specs.List.{list_all}
use Rattle.std.proofs.lemmas.Bool.{and_parts, and_from, le-leb}
use Rattle.std.proofs.lemmas.List.Folds.{list_all-append}
use Rattle.pv_model.specs.declared.version.Version.TheVariants.{V1}
use Rattle.pv_model.specs.Machine.{Bytes, is_empty, onto_first, is_manifest_path, with_line_end, Listed, EncodesText, ended, Entry, make, further_name, Node, link_node, entries_of, is_name, is_node, split_slashes, components}
use Rattle.pv_model.specs.Grammar.Entries.{EncodesPath, EncodesEntry, of_directory, of_file, of_program, of_link, of_name, Lists, at_end, at_schedule, entry}
use Rattle.pv_model.specs.Grammar.Texts.{HasLines}
use Rattle.pv_laws_grammar.proofs.EntryPaths.{is_manifest_path-IsEntryPath}
use Rattle.pv_laws_answers.specs.OfLawsStates.States.{is_byte, are_bytes, is_text_byte, has_bytes}
use Rattle.pv_laws_trees.proofs.DirectoryEntries.{list_all-filter}
use Rattle.pv_laws_trees.proofs.WalkPlaces.{list_all-weaker}
use Rattle.pv_laws_trees.proofs.ImageBytes.{join-bytes, split-bytes}
use Rattle.pv_laws_runs.proofs.ProgramRanges.{text-encoded}

-- ---- bytes

text-bytes : (value word : Bytes) → EncodesText value word → are_bytes value ≡ true
text-bytes value word is =
    list_all-weaker is_text_byte is_byte (λ b good. (and_parts (not (b == 0)) (is_byte b) good).1) value
    (and_parts (nat_le (length value) 1100) (list_all is_text_byte value) (text-encoded value word is)).1

text-no_zero : (value word : Bytes) → EncodesText value word → list_all (λ b. not (b == 0)) value ≡ true
text-no_zero value word is =
    list_all-weaker is_text_byte (λ b. not (b == 0)) (λ b good. (and_parts (not (b == 0)) (is_byte b) good).0) value
    (and_parts (nat_le (length value) 1100) (list_all is_text_byte value) (text-encoded value word is)).1

ended-bytes : (lines : List Bytes) → list_all are_bytes lines ≡ true → are_bytes (ended lines) ≡ true
ended-bytes [] all = refl
ended-bytes (l ∷ ls) all =
    let parts = and_parts (are_bytes l) (list_all are_bytes ls) all in
    join-bytes (with_line_end l) (ended ls) (join-bytes l (10 ∷ []) parts.0 refl) (ended-bytes ls parts.1)

bytes-ended : (lines : List Bytes) → are_bytes (ended lines) ≡ true → list_all are_bytes lines ≡ true
bytes-ended [] all = refl
bytes-ended (l ∷ ls) all =
    let parts = split-bytes (with_line_end l) (ended ls) all in
    and_from (are_bytes l) (list_all are_bytes ls) (split-bytes l (10 ∷ []) parts.0).0 (bytes-ended ls parts.1)

pub lines-bytes : (bytes : Bytes) (lines : List Bytes) → HasLines bytes lines → are_bytes bytes ≡ true → list_all are_bytes lines ≡ true
lines-bytes bytes lines has all =
    ⊎_elim
    (λ whole. bytes-ended lines (ap are_bytes (sym whole) ∙ all))
    (λ lacks.
    let parts = split-bytes (ended lacks.0) lacks.1 (ap are_bytes (sym lacks.4) ∙ all) in
    ap (list_all are_bytes) lacks.3 ∙ list_all-append are_bytes lacks.0 (lacks.1 ∷ [])
    ∙ and_from (list_all are_bytes lacks.0) (list_all are_bytes (lacks.1 ∷ [])) (bytes-ended lacks.0 parts.0) (and_from (are_bytes lacks.1) true parts.1 refl))
    has.1

-- ---- the names of a path

-- a valid name of an entry, consisting of bytes
abbrev pub is_good_name : Bytes → Bool
is_good_name name = is_name V1 name && are_bytes name

onto-bytes : (b : ℕ) (ps : List Bytes) → is_byte b ≡ true → list_all are_bytes ps ≡ true → list_all are_bytes (onto_first b ps) ≡ true
onto-bytes b [] good all = and_from (are_bytes (b ∷ [])) true (and_from (is_byte b) true good refl) refl
onto-bytes b (p ∷ ps) good all =
    let parts = and_parts (are_bytes p) (list_all are_bytes ps) all in and_from (are_bytes (b ∷ p)) (list_all are_bytes ps) (and_from (is_byte b) (are_bytes p) good parts.0) parts.1

components-bytes : (path : Bytes) → are_bytes path ≡ true → list_all are_bytes (split_slashes path) ≡ true
components-bytes [] all = refl
components-bytes (b ∷ bs) all =
    let parts = and_parts (is_byte b) (are_bytes bs) all in
    let rest = components-bytes bs parts.1 in
    elim (b == 47) as (λ t. list_all are_bytes (cond t ([] ∷ split_slashes bs) (onto_first b (split_slashes bs))) ≡ true) [ true ↦ rest | false ↦ onto-bytes b (split_slashes bs) parts.0 rest ]

both-all : (ps : List Bytes) → list_all (is_name V1) ps ≡ true → list_all are_bytes ps ≡ true → list_all is_good_name ps ≡ true
both-all [] names all = refl
both-all (p ∷ ps) names all =
    let name = and_parts (is_name V1 p) (list_all (is_name V1) ps) names in
    let good = and_parts (are_bytes p) (list_all are_bytes ps) all in
    and_from (is_good_name p) (list_all is_good_name ps) (and_from (is_name V1 p) (are_bytes p) name.0 good.0) (both-all ps name.1 good.1)

path-names : (path : Bytes) → is_manifest_path path ≡ true → are_bytes path ≡ true → list_all is_good_name (components path) ≡ true
path-names [] is all = cc
path-names (b ∷ bs) is all =
    let parts = and_parts (b == 47) (list_all (is_name V1) (split_slashes bs)) is in
    let good = both-all (split_slashes bs) parts.1 (components-bytes bs (and_parts (is_byte b) (are_bytes bs) all).1) in
    subst (λ t. list_all is_good_name (filter (λ component. not (is_empty component)) (cond t ([] ∷ split_slashes bs) (onto_first b (split_slashes bs)))) ≡ true) (sym parts.0)
    (list_all-filter is_good_name (λ component. not (is_empty component)) (split_slashes bs) good)

encoded-names : (path word : Bytes) → EncodesPath path word → list_all is_good_name (components path) ≡ true
encoded-names path word is = path-names path (is_manifest_path-IsEntryPath path is.0) (text-bytes path word is.1)

-- ---- entries

pub record IsNew (node : Node) : Type 0 where
  pub is : is_node V1 node ≡ true
  pub bytes : has_bytes node ≡ true
  pub bare : entries_of (Some node) ≡ []

-- an entry whose names and node a tree may have
abbrev pub IsGoodEntry : Entry → Type 0
IsGoodEntry (make path node) = (list_all is_good_name (components path) ≡ true) × IsNew node
IsGoodEntry (further_name path source) = list_all is_good_name (components path) ≡ true

abbrev pub AreGoodEntries : List (ℕ × Entry) → Type 0
AreGoodEntries [] = Unit {0}
AreGoodEntries (e ∷ es) = IsGoodEntry e.1 × AreGoodEntries es

not_empty : (text : Bytes) → 1 ≤ length text → is_empty text ≡ false
not_empty [] some = absurd (omega arith)
not_empty (b ∷ bs) some = refl

link-good : (text word : Bytes) → EncodesText text word → 1 ≤ length text → length text ≤ 1023 → IsNew (link_node text)
link-good text word is some few = record {
  is = and_from (not (is_empty text) && nat_le (length text) 1023) (list_all (λ b. not (b == 0)) text)
      (and_from (not (is_empty text)) (nat_le (length text) 1023) (ap not (not_empty text some)) (le-leb (length text) 1023 few)) (text-no_zero text word is);
  bytes = text-bytes text word is;
  bare = refl;
}

encoded-good : (line : Bytes) (body : List Bytes) (e : Entry) → EncodesEntry line body e → list_all are_bytes body ≡ true → IsGoodEntry e
encoded-good _ _ _ (of_directory path word is) all = (encoded-names path word is, record { is = refl; bytes = refl; bare = refl })
encoded-good _ _ _ (of_file path word contents other is has) all = (encoded-names path word is, record { is = refl; bytes = text-bytes contents other has; bare = refl })
encoded-good _ _ _ (of_program path word body is few) all = (encoded-names path word is, record { is = refl; bytes = ended-bytes body all; bare = refl })
encoded-good _ _ _ (of_link path word text other is has some few) all = (encoded-names path word is, link-good text other has some few)
encoded-good _ _ _ (of_name path word source other is has) all = encoded-names path word is

pub listed-good : (in_bundle : Bool) (n : ℕ) (lines : List Bytes) (l : Listed) → Lists in_bundle n lines l → list_all are_bytes lines ≡ true → AreGoodEntries l.entries
listed-good in_bundle _ _ _ (at_end n alone) all = tt
listed-good in_bundle _ _ _ (at_schedule n rest bundle) all = tt
listed-good in_bundle _ _ _ (entry n line body rest e others is more) all =
    let parts = and_parts (are_bytes line) (list_all are_bytes (body ++ rest)) all in
    let inner = and_parts (list_all are_bytes body) (list_all are_bytes rest) (sym (list_all-append are_bytes body rest) ∙ parts.1) in
    (encoded-good line body e is inner.0, listed-good in_bundle (n + 1 + length body) rest others more inner.1)
