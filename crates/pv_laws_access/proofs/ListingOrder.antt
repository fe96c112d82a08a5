-- The places of a tree in the order of a listing.
use Rattle.std.proofs.Common.{◌≡◌, ⊎_elim, ℕ, zero, suc, ◌+◌, ◌≤◌, ◌<◌, Bool, true, false, cond, List, [], ◌∷◌, ◌++◌, map, flat_map, codes, eqb, length, append_assoc, Option, None, Some, is_none, option_and_then, refl, ap, sym, subst, ◌∙◌, arith}
use Rattle.std.specs.List.{list_all, list_any, IsDistinct, AllByRecursion}
use Rattle.std.specs.FinMap.Entries.{find, is_sorted, below_all}
use Rattle.std.specs.Ordering.{is_lt, is_eq, eq_by_cmp, ordering_then}
use Rattle.std.specs.declared.cmp.Ordering.{Ordering}
use Rattle.std.specs.declared.cmp.Ordering.TheVariants.{Less, Equal, Greater}
use Rattle.std.proofs.lemmas.Bool.{and_parts, and_from, or_cases, or_left, or_right, eqb-true, cases_Bool}
use Rattle.std.proofs.lemmas.Grind.{flat_map-append}
use Rattle.std.proofs.lemmas.List.{append-nil}
use Rattle.std.proofs.lemmas.Map.Steps.{length-le_from_distinct_below}
use Rattle.pv_model.specs.Machine.{Bytes, contains_directory, listing, report, audit_node, Entries, Tree, root, node_at, entries_at, is_directory_at, find_entry, parent, IsAtOrAbove, is_removed, IsWellFormed}
use Rattle.pv_model.specs.Listing.{node_line, found_line, lines_within, lines_of_all}
use Rattle.pv_model.specs.Tree.{itself, above}
use Rattle.pv_model.specs.Grammar.Entries.{path_of_names}
use Rattle.pv_laws_trees.specs.Tree.{IsSoundTree}
use Rattle.pv_laws_trees.proofs.Ancestors.{none-above_itself, ancestors-above}
use Rattle.pv_laws_trees.proofs.TreeChanges.{entries-good, directory-below, some-below, has_entry-directory}
use Rattle.pv_laws_trees.proofs.DirectoryEntries.{by_name, tied-same, tied_itself, find_after}
use Rattle.pv_laws_trees.proofs.Trees.{sound, entry-parent}
use Rattle.pv_laws_trees.proofs.NameOrder.{less_from}
use Rattle.pv_laws_states.proofs.ProcessInsides.{list_all-both}
use Rattle.pv_laws_access.specs.Order.{led_to, by_names, Places, lines_at, IsListedBy}

abbrev under : Bytes → Places → Places
under name ps = map (λ p. (name ∷ p.0, p.1)) ps

module _ (t : Tree) where
  -- the places at a node and below it, to a depth, by the names that lead there
  unfoldable pub places_within : ℕ → ℕ → Places
  places_within zero n = []
  places_within (suc depth) n = ([], n) ∷ flat_map (λ e. under e.0 (places_within depth e.1)) (entries_at t n)

  abbrev below : ℕ → Entries → Places
  below depth es = flat_map (λ e. under e.0 (places_within depth e.1)) es

  -- ---- the lines of places

  module _ (line : Bytes → ℕ → Bytes) where
    abbrev said : Bytes → Places → Bytes
    said path ps = flat_map (λ p. line (path ++ path_of_names p.0) p.1) ps

    said-under : (path name : Bytes) (ps : Places) → said path (under name ps) ≡ said (path ++ codes "/" ++ name) ps
    said-under path name [] = refl
    said-under path name (p ∷ ps) =
        ap (λ q. line q p.1 ++ said path (under name ps)) (sym (append_assoc path (codes "/" ++ name) (path_of_names p.0)) ∙ ap (λ front. front ++ path_of_names p.0) (sym (append_assoc path (codes "/") name)))
        ∙ ap (λ rest. line (path ++ codes "/" ++ name ++ path_of_names p.0) p.1 ++ rest) (said-under path name ps)

    said-below : (depth : ℕ) → ((path : Bytes) (n : ℕ) → lines_within t line depth path n ≡ said path (places_within depth n)) → (path : Bytes) (es : Entries)
        → flat_map (λ e. lines_within t line depth (path ++ codes "/" ++ e.0) e.1) es ≡ said path (below depth es)
    said-below depth each path [] = refl
    said-below depth each path (e ∷ es) =
        ap (λ now. now ++ flat_map (λ e. lines_within t line depth (path ++ codes "/" ++ e.0) e.1) es) (each (path ++ codes "/" ++ e.0) e.1 ∙ sym (said-under path e.0 (places_within depth e.1)))
        ∙ ap (λ rest. said path (under e.0 (places_within depth e.1)) ++ rest) (said-below depth each path es)
        ∙ sym (flat_map-append (λ p. line (path ++ path_of_names p.0) p.1) (under e.0 (places_within depth e.1)) (below depth es))

    said-within : (depth : ℕ) (path : Bytes) (n : ℕ) → lines_within t line depth path n ≡ said path (places_within depth n)
    unfolding places_within
    said-within zero path n = refl
    said-within (suc depth) path n =
        ap (λ q. line q n ++ flat_map (λ e. lines_within t line depth (path ++ codes "/" ++ e.0) e.1) (entries_at t n)) (sym (append-nil path))
        ∙ ap (λ rest. line (path ++ []) n ++ rest) (said-below depth (said-within depth) path (entries_at t n))

  -- ---- the places ascend

  -- lists of names that begin with a greater name
  abbrev begins_above : Bytes → List Bytes → Bool
  begins_above k [] = false
  begins_above k (name ∷ names) = is_lt (by_name k name)

  above-under : (k name : Bytes) (ps : Places) → is_lt (by_name k name) ≡ true → list_all (λ p. begins_above k p.0) (under name ps) ≡ true
  above-under k name [] less = refl
  above-under k name (p ∷ ps) less = and_from _ _ less (above-under k name ps less)

  above-below : (depth : ℕ) (k : Bytes) (es : Entries) → below_all by_name k es ≡ true → list_all (λ p. begins_above k p.0) (below depth es) ≡ true
  above-below depth k [] least = refl
  above-below depth k (e ∷ es) least =
      let parts = and_parts (is_lt (by_name k e.0)) (below_all by_name k es) least in
      list_all-both (λ p. begins_above k p.0) (under e.0 (places_within depth e.1)) (below depth es) (above-under k e.0 (places_within depth e.1) parts.0) (above-below depth k es parts.1)

  -- lists that begin with a name come before lists that begin with a greater name
  less-above : (k : Bytes) (names : List Bytes) (ps : Places) → list_all (λ p. begins_above k p.0) ps ≡ true → below_all by_names (k ∷ names) ps ≡ true
  less-above k names [] all = refl
  less-above k names (p ∷ ps) all =
      let parts = and_parts (begins_above k p.0) (list_all (λ p. begins_above k p.0) ps) all in
      and_from _ _ (by p.0 parts.0) (less-above k names ps parts.1)
    where
      by : (others : List Bytes) → begins_above k others ≡ true → is_lt (by_names (k ∷ names) others) ≡ true
      by [] is = cc is
      by (other ∷ others) is = ap (λ o. is_lt (ordering_then o (by_names names others))) (less_from (by_name k other) is)

  same-first : (k : Bytes) → by_name k k ≡ Equal
  same-first k = by (by_name k k) (tied_itself k)
    where
      by : (o : Ordering) → is_eq o ≡ true → o ≡ Equal
      by Less is = cc is
      by Equal is = refl
      by Greater is = cc is

  -- prepending one name to both lists does not change their order
  order-under : (k : Bytes) (names others : List Bytes) → by_names (k ∷ names) (k ∷ others) ≡ by_names names others
  order-under k names others = ap (λ o. ordering_then o (by_names names others)) (same-first k)

  less-under : (k : Bytes) (names : List Bytes) (ps rest : Places) → below_all by_names names ps ≡ true → below_all by_names (k ∷ names) rest ≡ true → below_all by_names (k ∷ names) (under k ps ++ rest) ≡ true
  less-under k names [] rest least following = following
  less-under k names (p ∷ ps) rest least following =
      let parts = and_parts (is_lt (by_names names p.0)) (below_all by_names names ps) least in
      and_from _ _ (ap is_lt (order-under k names p.0) ∙ parts.0) (less-under k names ps rest parts.1 following)

  sorted-under : (k : Bytes) (ps rest : Places) → is_sorted by_names ps ≡ true → list_all (λ p. begins_above k p.0) rest ≡ true → is_sorted by_names rest ≡ true → is_sorted by_names (under k ps ++ rest) ≡ true
  sorted-under k [] rest sorted all following = following
  sorted-under k (p ∷ ps) rest sorted all following =
      let parts = and_parts (below_all by_names p.0 ps) (is_sorted by_names ps) sorted in
      and_from _ _ (less-under k p.0 ps rest parts.0 (less-above k p.0 rest all)) (sorted-under k ps rest parts.1 all following)

  sorted-below : (depth : ℕ) → ((n : ℕ) → is_sorted by_names (places_within depth n) ≡ true) → (es : Entries) → is_sorted by_name es ≡ true → is_sorted by_names (below depth es) ≡ true
  sorted-below depth each [] sorted = refl
  sorted-below depth each (e ∷ es) sorted =
      let parts = and_parts (below_all by_name e.0 es) (is_sorted by_name es) sorted in
      sorted-under e.0 (places_within depth e.1) (below depth es) (each e.1) (above-below depth e.0 es parts.0) (sorted-below depth each es parts.1)

  -- a node comes before everything below it
  first-under : (name : Bytes) (ps rest : Places) → below_all by_names [] rest ≡ true → below_all by_names [] (under name ps ++ rest) ≡ true
  first-under name [] rest following = following
  first-under name (p ∷ ps) rest following = first-under name ps rest following

  first-below : (depth : ℕ) (es : Entries) → below_all by_names [] (below depth es) ≡ true
  first-below depth [] = refl
  first-below depth (e ∷ es) = first-under e.0 (places_within depth e.1) (below depth es) (first-below depth es)

  module _ (sorted : (n : ℕ) → is_sorted by_name (entries_at t n) ≡ true) where
    sorted-within : (depth n : ℕ) → is_sorted by_names (places_within depth n) ≡ true
    unfolding places_within
    sorted-within zero n = refl
    sorted-within (suc depth) n = and_from _ _ (first-below depth (entries_at t n)) (sorted-below depth (sorted-within depth) (entries_at t n) (sorted n))

  -- ---- entries lead to exactly these places

  abbrev first_found : Option ℕ → Option ℕ → Option ℕ
  first_found None other = other
  first_found (Some n) other = Some n

  found_alone : (o : Option ℕ) → first_found o None ≡ o
  found_alone None = refl
  found_alone (Some n) = refl

  find-same : (k : Bytes) (names : List Bytes) (ps rest : Places) → find by_names (k ∷ names) (under k ps ++ rest) ≡ first_found (find by_names names ps) (find by_names (k ∷ names) rest)
  find-same k names [] rest = refl
  find-same k names (p ∷ ps) rest =
      ap (λ o. cond (is_eq o) (Some p.1) (find by_names (k ∷ names) (under k ps ++ rest))) (order-under k names p.0)
      ∙ ap (λ o. cond (eq_by_cmp by_names names p.0) (Some p.1) o) (find-same k names ps rest)
      ∙ elim (eq_by_cmp by_names names p.0) as (λ b. cond b (Some p.1) (first_found (find by_names names ps) (find by_names (k ∷ names) rest)) ≡ first_found (cond b (Some p.1) (find by_names names ps)) (find by_names (k ∷ names) rest)) [ true ↦ refl | false ↦ refl ]

  find-other : (k name : Bytes) (names : List Bytes) (ps rest : Places) → eq_by_cmp by_name name k ≡ false → find by_names (name ∷ names) (under k ps ++ rest) ≡ find by_names (name ∷ names) rest
  find-other k name names [] rest apart = refl
  find-other k name names (p ∷ ps) rest apart =
      ap (λ b. cond b (Some p.1) (find by_names (name ∷ names) (under k ps ++ rest))) (by (by_name name k) apart) ∙ find-other k name names ps rest apart
    where
      by : (o : Ordering) → is_eq o ≡ false → is_eq (ordering_then o (by_names names p.0)) ≡ false
      by Less is = refl
      by Equal is = cc is
      by Greater is = refl

  -- no path from a node is longer than the depth
  abbrev EndsWithin : ℕ → ℕ → Type 0
  EndsWithin depth n = (names : List Bytes) → depth ≤ length names → led_to t n names ≡ None

  none-later : (e : Bytes × ℕ) (es : Entries) → is_sorted by_name (e ∷ es) ≡ true → (o : Option ℕ) → find by_name e.0 es ≡ o → o ≡ None
  none-later e es sorted None is = refl
  none-later e es sorted (Some n) is = absurd ((find_after e.0 n e es sorted is).0 refl)

  module _ (depth n : ℕ) (each : (m : ℕ) → EndsWithin depth m → (names : List Bytes) → find by_names names (places_within depth m) ≡ led_to t m names) (ends : EndsWithin (suc depth) n) (name : Bytes) (names : List Bytes) where
    ends-below : (e : Bytes × ℕ) → find_entry t n e.0 ≡ Some e.1 → EndsWithin depth e.1
    ends-below e found others deep = sym (ap (option_and_then (λ m. led_to t m others)) found) ∙ ends (e.0 ∷ others) (omega (arith, deep))

    find-below : (es : Entries) → is_sorted by_name es ≡ true → ((q : Bytes) (m : ℕ) → find by_name q es ≡ Some m → find_entry t n q ≡ Some m)
        → find by_names (name ∷ names) (below depth es) ≡ option_and_then (λ m. led_to t m names) (find by_name name es)
    find-below [] sorted inside = refl
    find-below (e ∷ es) sorted inside =
        let rest = find-below es (and_parts (below_all by_name e.0 es) (is_sorted by_name es) sorted).1 (λ q m found. inside q m (find_after q m e es sorted found).1) in
        elim (eq_by_cmp by_name name e.0) as (λ b. eq_by_cmp by_name name e.0 ≡ b → find by_names (name ∷ names) (under e.0 (places_within depth e.1) ++ below depth es) ≡ option_and_then (λ m. led_to t m names) (cond b (Some e.1) (find by_name name es))) [
          | true ↦ λ tied.
              let same : name ≡ e.0 = tied-same name e.0 tied in
              let found : find_entry t n e.0 ≡ Some e.1 = inside e.0 e.1 (ap (λ b. cond b (Some e.1) (find by_name e.0 es)) (tied_itself e.0)) in
              let none : find by_name name es ≡ None = ap (λ q. find by_name q es) same ∙ none-later e es sorted (find by_name e.0 es) refl in
              let no_more : find by_names (name ∷ names) (below depth es) ≡ None = rest ∙ ap (option_and_then (λ m. led_to t m names)) none in
              ap (λ q. find by_names (name ∷ names) (under q (places_within depth e.1) ++ below depth es)) (sym same)
              ∙ find-same name names (places_within depth e.1) (below depth es)
              ∙ ap (first_found (find by_names names (places_within depth e.1))) no_more
              ∙ found_alone (find by_names names (places_within depth e.1))
              ∙ each e.1 (ends-below e found) names
          | false ↦ λ apart. find-other e.0 name names (places_within depth e.1) (below depth es) apart ∙ rest
        ] refl

  module _ (sorted : (n : ℕ) → is_sorted by_name (entries_at t n) ≡ true) where
    find-within : (depth n : ℕ) → EndsWithin depth n → (names : List Bytes) → find by_names names (places_within depth n) ≡ led_to t n names
    unfolding places_within
    find-within zero n ends names = sym (ends names (omega arith))
    find-within (suc depth) n ends [] = refl
    find-within (suc depth) n ends (name ∷ names) = find-below depth n (find-within depth) ends name names (entries_at t n) (sorted n) (λ q m found. found)

  -- ---- no path is longer than the number of nodes

  -- the nodes on the path from the root to a node, which comes first
  data Trail : List ℕ → ℕ → Type 0 where
    at_root : Trail (root ∷ []) root
    onward : (d : ℕ) (name : Bytes) (n : ℕ) (way : List ℕ) → Trail way d → find_entry t d name ≡ Some n → Trail (n ∷ way) n

  module _ (w : IsWellFormed t) where
    s : IsSoundTree t
    s = sound t w

    passes-below : (way : List ℕ) (n : ℕ) → Trail way n → (q : ℕ) → list_any (eqb q) way ≡ true → q < length t.nodes
    passes-below _ _ at_root q is =
        ⊎_elim (λ here. subst (λ (m : ℕ). m < length t.nodes) (sym (eqb-true q root here)) (directory-below t root s.root_is_directory)) (λ none. cc none) (or_cases (eqb q root) false is)
    passes-below _ _ (onward d name n way trail found) q is =
        ⊎_elim (λ here. subst (λ (m : ℕ). m < length t.nodes) (sym (eqb-true q n here)) (some-below t n (s.entries_are_nodes d name n found))) (λ there. passes-below way d trail q there) (or_cases (eqb q n) (list_any (eqb q) way) is)

    -- the nodes on the path to a directory are directories at or above it
    passes-above : (way : List ℕ) (d : ℕ) → Trail way d → is_directory_at t d ≡ true → (q : ℕ) → list_any (eqb q) way ≡ true → (is_directory_at t q ≡ true) × IsAtOrAbove t q d
    passes-above _ _ at_root dir q is =
        ⊎_elim
        (λ here. let same : q ≡ root = eqb-true q root here in (ap (is_directory_at t) same ∙ dir, subst (λ (m : ℕ). IsAtOrAbove t m root) (sym same) itself))
        (λ none. cc none) (or_cases (eqb q root) false is)
    passes-above _ _ (onward d name n way trail found) dir q is =
        ⊎_elim
        (λ here. let same : q ≡ n = eqb-true q n here in (ap (is_directory_at t) same ∙ dir, subst (λ (m : ℕ). IsAtOrAbove t m n) (sym same) itself))
        (λ there.
        let before = passes-above way d trail (has_entry-directory t d name n found) q there in
        (before.0, above n d (s.root_is_unnamed d name n found) (entry-parent t s n d name dir found) before.1))
        (or_cases (eqb q n) (list_any (eqb q) way) is)

    -- no node occurs twice on a path
    not-passed : (way : List ℕ) (d : ℕ) (name : Bytes) (n : ℕ) → Trail way d → find_entry t d name ≡ Some n → list_any (eqb n) way ≡ true → ⊥
    not-passed way d name n trail found is =
        let before = passes-above way d trail (has_entry-directory t d name n found) n is in
        let up : parent t n ≡ Some d = entry-parent t s n d name before.0 found in
        let appears : is_removed t n ≡ false = ap is_none up in
        let none = none-above_itself t w n d (before.0, appears) (s.root_is_unnamed d name n found) up in
        let some : contains_directory t n d ≡ true = (ancestors-above t w d n).1 before.1 in cc

    apart : (n : ℕ) (xs : List ℕ) → (list_any (eqb n) xs ≡ true → ⊥) → AllByRecursion (λ q. eqb n q ≡ false) xs
    apart n [] none = tt
    apart n (x ∷ xs) none = (
      ⊎_elim (λ here. absurd (none (or_left (eqb n x) (list_any (eqb n) xs) here))) (λ other. other) (cases_Bool (eqb n x)),
      apart n xs (λ there. none (or_right (eqb n x) (list_any (eqb n) xs) there)),
    )

    distinct-trail : (way : List ℕ) (n : ℕ) → Trail way n → IsDistinct eqb way
    unfolding IsDistinct
    distinct-trail _ _ at_root = (tt, tt)
    distinct-trail _ _ (onward d name n way trail found) = (apart n way (not-passed way d name n trail found), distinct-trail way d trail)

    further : (names : List Bytes) (way : List ℕ) (d n : ℕ) → Trail way d → led_to t d names ≡ Some n → (on : List ℕ) × Trail on n × (length on ≡ length names + length way)
    further [] way d n trail is = let same : d ≡ n = cc is in (way, subst (Trail way) same trail, omega arith)
    further (name ∷ names) way d n trail is = by (λ m. further names (m ∷ way) m n) (find_entry t d name) refl is
      where
        by : ((m : ℕ) → Trail (m ∷ way) m → led_to t m names ≡ Some n → (on : List ℕ) × Trail on n × (length on ≡ length names + suc (length way))) → (o : Option ℕ) → find_entry t d name ≡ o
            → option_and_then (λ m. led_to t m names) o ≡ Some n → (on : List ℕ) × Trail on n × (length on ≡ suc (length names) + length way)
        by next None found is = cc is
        by next (Some m) found is = let on = next m (onward d name m way trail found) is in (on.0, on.1, omega (arith, on.2))

    ends-all : EndsWithin (length t.nodes) root
    ends-all names deep = by (led_to t root names) refl
      where
        by : (o : Option ℕ) → led_to t root names ≡ o → o ≡ None
        by None is = refl
        by (Some n) is =
            let on = further names (root ∷ []) root n at_root is in
            absurd (omega (arith, deep, on.2, length-le_from_distinct_below on.0 (length t.nodes) (distinct-trail on.0 n on.1) (passes-below on.0 n on.1)))

    in-order : (n : ℕ) → is_sorted by_name (entries_at t n) ≡ true
    in-order n = (entries-good t n w.each_node).0

    abbrev pub places : Places
    places = places_within (length t.nodes) root

    lines-are : (line : Bytes → ℕ → Bytes) → lines_of_all t line ≡ lines_at line places
    lines-are line = said-within line (length t.nodes) [] root

    pub listed-by : IsListedBy t places
    unfolding listing report
    listed-by = record {
      ascending = sorted-within in-order (length t.nodes) root;
      reached = find-within in-order (length t.nodes) root ends-all;
      lines = lines-are;
      listed = lines-are (λ path n. node_line path n (node_at t n));
      reported = λ x same. ap (λ u. lines_of_all u (λ path n. found_line path (audit_node x (Some n)))) same ∙ lines-are (λ path n. found_line path (audit_node x (Some n)));
    }
