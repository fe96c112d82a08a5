-- The entries of a manifest are added to a tree in order.
use Rattle.std.proofs.Common.{◌≡◌, ℕ, true, false, cond, not, ◌||◌, List, [], ◌∷◌, ◌++◌, map, Option, None, Some, Result, Ok, Err, ap, sym, ◌∙◌, refl, subst}
use Rattle.std.specs.Prelude.{is_some, fold}
use Rattle.std.proofs.lemmas.Bool.{cond_both, cond-true, cond-false, or_parts, or_from, not-false, not_from_true}
use Rattle.std.proofs.lemmas.Option.{same_Some}
use Rattle.pv_model.specs.declared.fault.ManifestFault.{ManifestFault}
use Rattle.pv_model.specs.declared.fault.ManifestFault.TheVariants.{Parent, Exists, Source, Room}
use Rattle.pv_model.specs.Machine.{Bytes, Manifest, path_of, add_entry, add_entries, data_blocks, tree_of, Entry, make, further_name, empty_tree, manifest_tree, is_too_long, fits, Tree, root, is_directory_at, find_entry, with_entry, with_new_node, components}
use Rattle.pv_model.specs.Grammar.Applied.{LeadsTo, at_last_name, down, NamesFile, MakesAt, IsPlaceOf, Makes, HasRoom, Applies, LacksSource, IsRefused, AppliesAll, IsFirstRefused}
use Rattle.pv_model.specs.Grammar.Manifests.{enter_directory, container, if_not_directory, under_container, source_of, if_room, with_source, entry_in, entry_at, and_entries}
use Rattle.pv_model.specs.Manifest.{or_none, descend, at_last, apply_entry}

-- ---- the place that names lead to

module _ (t : Tree) where
  -- a node on the path is a directory
  record Entered (onward : ℕ → Option (ℕ × Bytes)) (o : Option ℕ) (p : ℕ × Bytes) : Type 0 where
    n : ℕ
    appears : o ≡ Some n
    kind : is_directory_at t n ≡ true
    more : onward n ≡ Some p

  enter_found : (onward : ℕ → Option (ℕ × Bytes)) (o : Option ℕ) (p : ℕ × Bytes) → enter_directory t onward o ≡ Some p → Entered onward o p
  enter_found onward None p e = absurd (cc)
  enter_found onward (Some n) p e = cond_both (is_directory_at t n) (onward n) None (λ r. r ≡ Some p → Entered onward (Some n) p)
      (λ is h. record { n = n; appears = refl; kind = is; more = h })
      (λ is h. absurd (cc)) e

  LeadsTo-container : (names : List Bytes) (d : ℕ) (p : ℕ × Bytes) → container t names d ≡ Some p → LeadsTo t d names p.0 p.1
  LeadsTo-container [] d p e = absurd (cc)
  LeadsTo-container (name ∷ []) d p e =
      let same : ◌≡◌ {A = ℕ × Bytes} (d, name) p = same_Some (d, name) p e in
      subst (λ (q : ℕ × Bytes). LeadsTo t d (name ∷ []) q.0 q.1) same (at_last_name d name)
  LeadsTo-container (name ∷ next ∷ others) d p e =
      let entered = enter_found (container t (next ∷ others)) (find_entry t d name) p e in
      down d entered.n name next others p.0 p.1 entered.appears entered.kind (LeadsTo-container (next ∷ others) entered.n p entered.more)

  container-LeadsTo : (d : ℕ) (names : List Bytes) (at : ℕ) (last : Bytes) → LeadsTo t d names at last → container t names d ≡ Some (at, last)
  container-LeadsTo _ _ _ _ (at_last_name d name) = refl
  container-LeadsTo _ _ _ _ (down d n name next others at last appears kind more) =
      ap (enter_directory t (container t (next ∷ others))) appears
      ∙ cond-true (is_directory_at t n) (container t (next ∷ others) n) None kind
      ∙ container-LeadsTo n (next ∷ others) at last more

  -- ---- sources

  kind_found : (o : Option ℕ) (n : ℕ) → if_not_directory t o ≡ Some n → (o ≡ Some n) × (is_directory_at t n ≡ false)
  kind_found None n e = absurd (cc)
  kind_found (Some m) n e = cond_both (is_directory_at t m) None (Some m) (λ r. r ≡ Some n → (◌≡◌ {A = Option ℕ} (Some m) (Some n)) × (is_directory_at t n ≡ false))
      (λ is h. absurd (cc))
      (λ is h. (h, subst (λ k. is_directory_at t k ≡ false) (same_Some m n h) is)) e

  under_found : (path : Bytes) (n : ℕ) (o : Option (ℕ × Bytes)) → container t (components path) root ≡ o → under_container t o ≡ Some n → NamesFile t path n
  under_found path n None is e = absurd (cc)
  under_found path n (Some p) is e =
      let found = kind_found (find_entry t p.0 p.1) n e in
      record { container = p.0; name = p.1; leads = LeadsTo-container (components path) root p is; appears = found.0; kind = found.1 }

  NamesFile-source_of : (path : Bytes) (n : ℕ) → source_of t path ≡ Some n → NamesFile t path n
  NamesFile-source_of path n e = under_found path n (container t (components path) root) refl e

  source_of-NamesFile : (path : Bytes) (n : ℕ) → NamesFile t path n → source_of t path ≡ Some n
  source_of-NamesFile path n h =
      ap (under_container t) (container-LeadsTo root (components path) h.container h.name h.leads)
      ∙ ap (if_not_directory t) h.appears
      ∙ cond-false (is_directory_at t n) None (Some n) h.kind

  -- ---- one entry

  room_found : (after : Tree) → (is_too_long after || not (fits after)) ≡ false → HasRoom after
  room_found after h = let parts = or_parts (is_too_long after) (not (fits after)) h in (parts.0, not-false (fits after) parts.1)

  room_again : (after : Tree) → HasRoom after → (is_too_long after || not (fits after)) ≡ false
  room_again after h = or_from (is_too_long after) (not (fits after)) h.0 (not_from_true (fits after) h.1)

  module _ (line : ℕ) (e : Entry) where
    abbrev Judged : Result Tree ManifestFault → Type 0
    Judged (Ok after) = Applies t e after
    Judged (Err f) = IsRefused t line e f

    judged_room : (after : Tree) → Makes t e after → Judged (if_room line after)
    judged_room after makes = cond_both (is_too_long after || not (fits after)) (Err (Room line)) (Ok after) Judged
        (λ is. (refl, after, makes, λ room. let none = room_again after room in absurd (cc)))
        (λ is. (makes, room_found after is))

  judged_source : (line : ℕ) (path source : Bytes) (d : ℕ) (name : Bytes) → IsPlaceOf t (further_name path source) d name → (o : Option ℕ) → source_of t source ≡ o
      → Judged line (further_name path source) (with_source line t d name o)
  judged_source line path source d name place None is =
      (refl, d, name, place, λ n h. let f : None ≡ Some n = sym is ∙ source_of-NamesFile source n h in absurd (cc))
  judged_source line path source d name place (Some n) is =
      judged_room line (further_name path source) (with_entry t d name n)
      (record { container = d; name = name; place = place; made = (n, NamesFile-source_of source n is, refl) })

  judged_in : (line : ℕ) (e : Entry) (d : ℕ) (name : Bytes) → IsPlaceOf t e d name → Judged line e (entry_in line t e d name)
  judged_in line (make path node) d name place = judged_room line (make path node) (with_new_node t d name node) (record { container = d; name = name; place = place; made = refl })
  judged_in line (further_name path source) d name place = judged_source line path source d name place (source_of t source) refl

  judged_name : (line : ℕ) (e : Entry) (d : ℕ) (name : Bytes) → LeadsTo t root (components (path_of e)) d name → (o : Option ℕ) → find_entry t d name ≡ o
      → Judged line e (cond (is_some o) (Err (Exists line)) (entry_in line t e d name))
  judged_name line e d name leads None is = judged_in line e d name (record { leads = leads; free = is })
  judged_name line e d name leads (Some there) is = (refl, d, name, there, leads, is)

  judged_at : (line : ℕ) (e : Entry) (o : Option (ℕ × Bytes)) → container t (components (path_of e)) root ≡ o → Judged line e (entry_at line t e o)
  judged_at line e None is = (refl, λ d name leads. let f : None ≡ Some (d, name) = sym is ∙ container-LeadsTo root (components (path_of e)) d name leads in absurd (cc))
  judged_at line e (Some p) is = judged_name line e p.0 p.1 (LeadsTo-container (components (path_of e)) root p is) (find_entry t p.0 p.1) refl

  pub judged : (line : ℕ) (e : Entry) → Judged line e (add_entry line t e)
  unfolding add_entry
  judged line e = judged_at line e (container t (components (path_of e)) root) refl

  -- ---- the result for an entry is unique

  at_place : (line : ℕ) (e : Entry) (d : ℕ) (name : Bytes) → IsPlaceOf t e d name → add_entry line t e ≡ entry_in line t e d name
  unfolding add_entry
  at_place line e d name place =
      ap (entry_at line t e) (container-LeadsTo root (components (path_of e)) d name place.leads)
      ∙ ap (λ o. cond (is_some o) (Err (Exists line)) (entry_in line t e d name)) place.free

  makes_room : (line : ℕ) (e : Entry) (d : ℕ) (name : Bytes) (after : Tree) → MakesAt t e d name after → entry_in line t e d name ≡ if_room line after
  makes_room line (make path node) d name after h = ap (if_room line) (sym h)
  makes_room line (further_name path source) d name after h = ap (with_source line t d name) (source_of-NamesFile source h.0 h.1) ∙ ap (if_room line) (sym h.2)

  makes_answer : (line : ℕ) (e : Entry) (after : Tree) → Makes t e after → add_entry line t e ≡ if_room line after
  makes_answer line e after h = at_place line e h.container h.name h.place ∙ makes_room line e h.container h.name after h.made

  pub add_entry-Applies : (line : ℕ) (e : Entry) (after : Tree) → Applies t e after → add_entry line t e ≡ Ok after
  add_entry-Applies line e after h =
      makes_answer line e after h.0 ∙ cond-false (is_too_long after || not (fits after)) (Err (Room line)) (Ok after) (room_again after h.1)

  no_room : (line : ℕ) (after : Tree) → ¬ (HasRoom after) → if_room line after ≡ Err (Room line)
  no_room line after h = cond_both (is_too_long after || not (fits after)) (Err (Room line)) (Ok after) (λ r. r ≡ Err (Room line))
      (λ is. refl)
      (λ is. absurd (h (room_found after is)))

  lacks_source : (line : ℕ) (e : Entry) (d : ℕ) (name : Bytes) → LacksSource t e → entry_in line t e d name ≡ Err (Source line)
  lacks_source line (make path node) d name h = absurd h
  lacks_source line (further_name path source) d name h = by_source (source_of t source) refl
    where
      by_source : (o : Option ℕ) → source_of t source ≡ o → with_source line t d name o ≡ Err (Source line)
      by_source None is = refl
      by_source (Some n) is = absurd (h n (NamesFile-source_of source n is))

  no_place : (line : ℕ) (e : Entry) → ((d : ℕ) (name : Bytes) → LeadsTo t root (components (path_of e)) d name → ⊥) → (o : Option (ℕ × Bytes)) → container t (components (path_of e)) root ≡ o → entry_at line t e o ≡ Err (Parent line)
  no_place line e h None is = refl
  no_place line e h (Some p) is = absurd (h p.0 p.1 (LeadsTo-container (components (path_of e)) root p is))

  pub add_entry-IsRefused : (line : ℕ) (e : Entry) (f : ManifestFault) → IsRefused t line e f → add_entry line t e ≡ Err f
  unfolding add_entry
  add_entry-IsRefused line e (Parent n) h = no_place line e h.1 (container t (components (path_of e)) root) refl ∙ ap (λ k. Err (Parent k)) (sym h.0)
  add_entry-IsRefused line e (Exists n) h =
      ap (entry_at line t e) (container-LeadsTo root (components (path_of e)) h.1 h.2 h.4)
      ∙ ap (λ o. cond (is_some o) (Err (Exists line)) (entry_in line t e h.1 h.2)) h.5
      ∙ ap (λ k. Err (Exists k)) (sym h.0)
  add_entry-IsRefused line e (Source n) h =
      at_place line e h.1 h.2 h.3 ∙ lacks_source line e h.1 h.2 h.4 ∙ ap (λ k. Err (Source k)) (sym h.0)
  add_entry-IsRefused line e (Room n) h =
      makes_answer line e h.1 h.2 ∙ no_room line h.1 h.3 ∙ ap (λ k. Err (Room k)) (sym h.0)
  add_entry-IsRefused line e _ h = absurd h

  -- ---- the tree as a fold over entries

  at_last-LeadsTo : (step : ℕ → Bytes → Tree) (d : ℕ) (names : List Bytes) (at : ℕ) (last : Bytes) → LeadsTo t d names at last → at_last step t names d ≡ step at last
  at_last-LeadsTo step _ _ _ _ (at_last_name d name) = refl
  at_last-LeadsTo step _ _ _ _ (down d n name next others at last appears kind more) =
      ap (λ o. at_last step t (next ∷ others) (or_none o)) appears ∙ at_last-LeadsTo step n (next ∷ others) at last more

  descend-LeadsTo : (d : ℕ) (names : List Bytes) (at : ℕ) (last : Bytes) (n : ℕ) → LeadsTo t d names at last → find_entry t at last ≡ Some n → descend t names d ≡ n
  descend-LeadsTo _ _ _ _ n (at_last_name d name) appears = ap or_none appears
  descend-LeadsTo _ _ _ _ n (down d m name next others at last there kind more) appears =
      ap (λ o. descend t (next ∷ others) (or_none o)) there ∙ descend-LeadsTo m (next ∷ others) at last n more appears

  pub apply_entry-Makes : (e : Entry) (after : Tree) → Makes t e after → apply_entry t e ≡ after
  apply_entry-Makes (make path node) after h =
      at_last-LeadsTo (λ d name. with_new_node t d name node) root (components path) h.container h.name h.place.leads ∙ sym h.made
  apply_entry-Makes (further_name path source) after h =
      at_last-LeadsTo (λ d name. with_entry t d name (descend t (components source) root)) root (components path) h.container h.name h.place.leads
      ∙ ap (with_entry t h.container h.name) (descend-LeadsTo root (components source) h.made.1.container h.made.1.name h.made.0 h.made.1.leads h.made.1.appears)
      ∙ sym h.made.2

-- ---- all entries

abbrev Outcome : Type 0
Outcome = Result Tree ManifestFault

abbrev JudgedAll : Tree → List (ℕ × Entry) → Outcome → Type 0
JudgedAll t es (Ok after) = AppliesAll t es after
JudgedAll t es (Err f) = IsFirstRefused t es f

judged_more : (t next : Tree) (e : ℕ × Entry) (es : List (ℕ × Entry)) → Applies t e.1 next → (r : Outcome) → JudgedAll next es r → JudgedAll t (e ∷ es) r
judged_more t next e es applies (Ok after) h = (next, applies, h)
judged_more t next e es applies (Err f) h = (e ∷ h.0, h.1, h.2, h.3, h.4, ap (λ l. e ∷ l) h.5, (next, applies, h.6), h.7)

judged_first : (t : Tree) (e : ℕ × Entry) (es : List (ℕ × Entry)) (r : Outcome) → Judged t e.0 e.1 r → ((next : Tree) → JudgedAll next es (add_entries es next)) → JudgedAll t (e ∷ es) (and_entries r (add_entries es))
judged_first t e es (Ok next) h onward = judged_more t next e es h (add_entries es next) (onward next)
judged_first t e es (Err f) h onward = ([], e.0, e.1, es, t, refl, refl, h)

judged_all : (es : List (ℕ × Entry)) (t : Tree) → JudgedAll t es (add_entries es t)
judged_all [] t = refl
judged_all (e ∷ es) t = judged_first t e es (add_entry e.0 t e.1) (judged t e.0 e.1) (judged_all es)

add_entries-AppliesAll : (es : List (ℕ × Entry)) (t after : Tree) → AppliesAll t es after → add_entries es t ≡ Ok after
add_entries-AppliesAll [] t after h = ap Ok (sym h)
add_entries-AppliesAll (e ∷ es) t after h =
    ap (λ r. and_entries r (add_entries es)) (add_entry-Applies t e.0 e.1 h.0 h.1) ∙ add_entries-AppliesAll es h.0 after h.2

add_entries-refused : (front : List (ℕ × Entry)) (t : Tree) (line : ℕ) (e : Entry) (rest : List (ℕ × Entry)) (before : Tree) (f : ManifestFault) → AppliesAll t front before → IsRefused before line e f
    → add_entries (front ++ (line, e) ∷ rest) t ≡ Err f
add_entries-refused [] t line e rest before f h refused =
    let here : add_entry line before e ≡ Err f = add_entry-IsRefused before line e f refused in
    ap (λ r. and_entries r (add_entries rest)) (subst (λ s. add_entry line s e ≡ Err f) h here)
add_entries-refused (g ∷ front) t line e rest before f h refused =
    ap (λ r. and_entries r (add_entries (front ++ (line, e) ∷ rest))) (add_entry-Applies t g.0 g.1 h.0 h.1) ∙ add_entries-refused front h.0 line e rest before f h.2 refused

fold-AppliesAll : (es : List (ℕ × Entry)) (t after : Tree) → AppliesAll t es after → fold apply_entry t (map (λ e. e.1) es) ≡ after
fold-AppliesAll [] t after h = sym h
fold-AppliesAll (e ∷ es) t after h =
    ap (λ s. fold apply_entry s (map (λ g. g.1) es)) (apply_entry-Makes t e.1 h.0 h.1.0) ∙ fold-AppliesAll es h.0 after h.2

abbrev start_of : Manifest → Tree
start_of m = empty_tree (data_blocks m.blocks m.inodes) m.inodes

pub AppliesAll-tree_of : (m : Manifest) (t : Tree) → tree_of m ≡ Ok t → AppliesAll (start_of m) m.listed.entries t
AppliesAll-tree_of m t e = subst (JudgedAll (start_of m) m.listed.entries) e (judged_all m.listed.entries (start_of m))

pub tree_of-AppliesAll : (m : Manifest) (t : Tree) → AppliesAll (start_of m) m.listed.entries t → tree_of m ≡ Ok t
tree_of-AppliesAll m t h = add_entries-AppliesAll m.listed.entries (start_of m) t h

pub IsFirstRefused-tree_of : (m : Manifest) (f : ManifestFault) → tree_of m ≡ Err f → IsFirstRefused (start_of m) m.listed.entries f
IsFirstRefused-tree_of m f e = subst (JudgedAll (start_of m) m.listed.entries) e (judged_all m.listed.entries (start_of m))

pub tree_of-IsFirstRefused : (m : Manifest) (f : ManifestFault) → IsFirstRefused (start_of m) m.listed.entries f → tree_of m ≡ Err f
tree_of-IsFirstRefused m f h =
    ap (λ es. add_entries es (start_of m)) h.5 ∙ add_entries-refused h.0 (start_of m) h.1 h.2 h.3 h.4 f h.6 h.7

pub manifest_tree-tree_of : (m : Manifest) (t : Tree) → tree_of m ≡ Ok t → t ≡ manifest_tree (data_blocks m.blocks m.inodes) m.inodes (map (λ e. e.1) m.listed.entries)
manifest_tree-tree_of m t e = sym (fold-AppliesAll m.listed.entries (start_of m) t (AppliesAll-tree_of m t e))
