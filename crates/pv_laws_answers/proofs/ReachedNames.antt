-- The names that `reach` lists, place by place of the listing.
use Rattle.std.proofs.Common.{◌≡◌, ◌∙◌, ℕ, zero, suc, List, [], ◌∷◌, ◌++◌, map, flat_map, codes, cond, length, append_assoc, Option, None, Some, option_and_then, refl, ap, sym, subst, inl, inr, true}
use Rattle.std.specs.FinMap.Entries.{find, is_sorted, below_all}
use Rattle.std.proofs.lemmas.Bool.{and_parts}
use Rattle.std.proofs.lemmas.Grind.{flat_map-append}
use Rattle.std.proofs.lemmas.List.{append-nil}
use Rattle.pv_model.specs.declared.place.Place.{Place}
use Rattle.pv_model.specs.declared.place.Place.TheVariants.{At, Node as Unnamed}
use Rattle.pv_model.specs.Answers.Lines.{counted}
use Rattle.pv_model.specs.Machine.{with_name, ListedName, Bytes, entries_of_table, Process, State, Entries, Tree, root, entries_at, find_entry, IsWellFormed}
use Rattle.pv_model.specs.Answers.ProcessRecord.{open_descriptors}
use Rattle.pv_model.specs.Answers.Reach.{descriptor_texts, directory_texts, entry_texts, listed_names, names_within, name_text, reach_texts}
use Rattle.pv_model.specs.Grammar.Entries.{path_of_names}
use Rattle.pv_laws_trees.proofs.TreeChanges.{entries-good}
use Rattle.pv_laws_trees.proofs.DirectoryEntries.{by_name, find_after, tied_itself}
use Rattle.pv_laws_access.specs.Order.{IsListedBy, Places, led_to}
use Rattle.pv_laws_access.proofs.ListingOrder.{listed-by, places_within}
use Rattle.pv_laws_answers.specs.ReachNames.{AreNamesOf, IsPlaceOfNames}

-- names in front of those of places
abbrev after : List Bytes → Places → Places
after front ps = map (λ p. (front ++ p.0, p.1)) ps

after-append : (front : List Bytes) (ps qs : Places) → after front (ps ++ qs) ≡ after front ps ++ after front qs
after-append front [] qs = refl
after-append front (p ∷ ps) qs = ap (λ (rest : Places). (front ++ p.0, p.1) ∷ rest) (after-append front ps qs)

after-under : (front : List Bytes) (name : Bytes) (ps : Places) → after front (map (λ p. (name ∷ p.0, p.1)) ps) ≡ after (front ++ name ∷ []) ps
after-under front name [] = refl
after-under front name (p ∷ ps) =
    ap (λ (names : List Bytes). (names, p.1) ∷ after front (map (λ p. (name ∷ p.0, p.1)) ps)) (sym (append_assoc front (name ∷ []) p.0))
    ∙ ap (λ (rest : Places). ((front ++ name ∷ []) ++ p.0, p.1) ∷ rest) (after-under front name ps)

after-none : (ps : Places) → after [] ps ≡ ps
after-none [] = refl
after-none (p ∷ ps) = ap (λ (rest : Places). p ∷ rest) (after-none ps)

path-more : (front : List Bytes) (name : Bytes) → with_name name (path_of_names front) ≡ path_of_names (front ++ name ∷ [])
path-more front name =
    append_assoc (path_of_names front) (codes "/") name ∙ ap (λ (bs : Bytes). path_of_names front ++ bs) (sym (append-nil (codes "/" ++ name)))
    ∙ sym (flat_map-append (λ (x : Bytes). codes "/" ++ x) front (name ∷ []))

module _ (t : Tree) where
  names-append : (ps qs : Places) (ls ms : List ListedName) → AreNamesOf t ps ls → AreNamesOf t qs ms → AreNamesOf t (ps ++ qs) (ls ++ ms)
  names-append [] qs [] ms here there = there
  names-append (p ∷ ps) qs (l ∷ ls) ms here there = (here.0, names-append ps qs ls ms here.1 there)
  names-append [] qs (l ∷ ls) ms here there = absurd here
  names-append (p ∷ ps) qs [] ms here there = absurd here

  led-more : (front : List Bytes) (from n m : ℕ) (name : Bytes) → led_to t from front ≡ Some n → find_entry t n name ≡ Some m → led_to t from (front ++ name ∷ []) ≡ Some m
  led-more [] from n m name led found =
      let same : from ≡ n = cc in
      ap (option_and_then (λ k. led_to t k [])) (ap (λ k. find_entry t k name) same ∙ found)
  led-more (x ∷ xs) from n m name led found = by (find_entry t from x) refl led (λ k at. led-more xs k n m name at found)
    where
      by : (o : Option ℕ) → find_entry t from x ≡ o → option_and_then (λ k. led_to t k xs) o ≡ Some n → ((k : ℕ) → led_to t k xs ≡ Some n → led_to t k (xs ++ name ∷ []) ≡ Some m)
          → led_to t from (x ∷ xs ++ name ∷ []) ≡ Some m
      by None is led more = absurd (cc)
      by (Some k) is led more = ap (option_and_then (λ j. led_to t j (xs ++ name ∷ []))) is ∙ more k led

  abbrev AllNames : ℕ → Type 0
  AllNames depth =
      (front : List Bytes) (n : ℕ) (place : Place) → led_to t root front ≡ Some n → IsPlaceOfNames t front n place
      → AreNamesOf t (after front (places_within t depth n)) (names_within t depth (path_of_names front) place n)

  module _ (sorted : (n : ℕ) → is_sorted by_name (entries_at t n) ≡ true) where
    names-below : (depth : ℕ) → AllNames depth → (front : List Bytes) (n : ℕ) → led_to t root front ≡ Some n → (es : Entries) → is_sorted by_name es ≡ true
        → ((q : Bytes) (m : ℕ) → find by_name q es ≡ Some m → find_entry t n q ≡ Some m)
        → AreNamesOf t (after front (flat_map (λ e. map (λ p. (e.0 ∷ p.0, p.1)) (places_within t depth e.1)) es)) (flat_map (λ e. names_within t depth (with_name e.0 (path_of_names front)) (At n e.0 (Some e.1)) e.1) es)
    names-below depth each front n led [] order inside = tt
    names-below depth each front n led (e ∷ es) order inside =
        let found : find_entry t n e.0 ≡ Some e.1 = inside e.0 e.1 (ap (λ b. cond b (Some e.1) (find by_name e.0 es)) (tied_itself e.0)) in
        let rest = names-below depth each front n led es (and_parts (below_all by_name e.0 es) (is_sorted by_name es) order).1 (λ q m at. inside q m (find_after q m e es order at).1) in
        let here = each (front ++ e.0 ∷ []) e.1 (At n e.0 (Some e.1)) (led-more front root n e.1 e.0 led found) (inr (front, e.0, n, refl, led, refl)) in
        let under = map (λ p. (e.0 ∷ p.0, p.1)) (places_within t depth e.1) in
        let others = flat_map (λ e. map (λ p. (e.0 ∷ p.0, p.1)) (places_within t depth e.1)) es in
        let named = names_within t depth (with_name e.0 (path_of_names front)) (At n e.0 (Some e.1)) e.1 in
        let first : AreNamesOf t (after front under) named =
        subst (λ (bs : Bytes). AreNamesOf t (after front under) (names_within t depth bs (At n e.0 (Some e.1)) e.1)) (sym (path-more front e.0))
        (subst (λ (ps : Places). AreNamesOf t ps (names_within t depth (path_of_names (front ++ e.0 ∷ [])) (At n e.0 (Some e.1)) e.1)) (sym (after-under front e.0 (places_within t depth e.1))) here) in
        subst (λ (ps : Places). AreNamesOf t ps (named ++ flat_map (λ e. names_within t depth (with_name e.0 (path_of_names front)) (At n e.0 (Some e.1)) e.1) es))
        (sym (after-append front under others))
        (names-append (after front under) (after front others) named (flat_map (λ e. names_within t depth (with_name e.0 (path_of_names front)) (At n e.0 (Some e.1)) e.1) es) first rest)

    names-all : (depth : ℕ) → AllNames depth
    unfolding places_within
    names-all zero front n place led is = tt
    names-all (suc depth) front n place led is = (
      record {
        path = ap path_of_names (sym (append-nil front));
        node = refl;
        place = subst (λ (names : List Bytes). IsPlaceOfNames t names n place) (sym (append-nil front)) is;
      },
      names-below depth (names-all depth) front n led (entries_at t n) (sorted n) (λ q m found. found),
    )

pub reach-lists : (t : Tree) → IsWellFormed t → (places : Places) × IsListedBy t places × AreNamesOf t places (listed_names t)
reach-lists t w =
    let all = names-all t (λ n. (entries-good t n w.each_node).0) (length t.nodes) [] root (Unnamed root) refl (inl (refl, refl)) in
    (places_within t (length t.nodes) root, listed-by t w, subst (λ (ps : Places). AreNamesOf t ps (listed_names t)) (after-none (places_within t (length t.nodes) root)) all)

pub reach-begins : (s : State) (p : Process) → (others : List Bytes) × (reach_texts s p ≡ map (name_text s p) (listed_names s.tree) ++ others)
unfolding reach_texts
reach-begins s p =
    let names = map (name_text s p) (listed_names s.tree) in
    let absent = flat_map (entry_texts s p) (counted (entries_of_table p.table)) in
    let unnamed = flat_map (descriptor_texts s p) (open_descriptors s p) in (
      absent ++ (directory_texts s p ++ unnamed),
      append_assoc (names ++ absent) (directory_texts s p) unnamed ∙ append_assoc names absent (directory_texts s p ++ unnamed),
    )
