-- The files of a tree are all listed.
use Rattle.std.proofs.Common.{◌≡◌, ◌∙◌, sym, ap, subst, ℕ, Bool, true, false, ◌&&◌, List, [], ◌∷◌, ◌++◌, map, filter, cond, Option, None, Some, option_and_then, ◌⊎◌, inl, inr, refl}
use Rattle.std.specs.FinMap.Entries.{find}
use Rattle.std.specs.Ordering.{eq_by_cmp}
use Rattle.std.specs.declared.cmp.Ordering.{Ordering}
use Rattle.std.proofs.lemmas.Bool.{and_from}
use Rattle.pv_model.specs.Machine.{files_of_tree, is_file_at, named_files, number_numbers, ListedName, Bytes, is_empty, numbered, is_file, Node, Tree, root, node_at, find_entry, names_of, IsReached, from_root, by_entry, IsWellFormed}
use Rattle.pv_model.specs.Answers.Files.{unnamed_files}
use Rattle.pv_model.specs.Answers.Reach.{listed_names}
use Rattle.pv_laws_trees.proofs.TreeChanges.{entries-good}
use Rattle.pv_laws_trees.proofs.ListMembers.{In, in-entry, numbered-at}
use Rattle.pv_laws_access.specs.Order.{Places, by_names, led_to}
use Rattle.pv_laws_answers.specs.ReachNames.{AreNamesOf}
use Rattle.pv_laws_answers.proofs.CompleteSearches.{among-contains}
use Rattle.pv_laws_answers.proofs.Lists.{Among, among-filter, among-left, among-map, among-right}
use Rattle.pv_laws_answers.proofs.NewKeys.{new-like}
use Rattle.pv_laws_answers.proofs.ReachedNames.{reach-lists}
use Rattle.pv_laws_schedules.specs.Exposure.{EachFileIsListed}

in-among : {X : Type 0} (x : X) (xs : List X) → In X x xs → Among x xs
in-among x [] h = absurd h
in-among x (y ∷ ys) (inl e) = inl (sym e)
in-among x (y ∷ ys) (inr h) = inr (in-among x ys h)

-- a key that is found is in the list
find-among : {K V : Type 0} (R : K → K → Ordering) (k : K) (v : V) (es : List (K × V)) → find R k es ≡ Some v → (e : K × V) × Among e es × (e.1 ≡ v)
find-among R k v [] is = cc is
find-among {K} {V} R k v (e ∷ es) is = by (eq_by_cmp R k e.0) is (find-among R k v es)
  where
    by : (b : Bool) → cond b (Some e.1) (find R k es) ≡ Some v → (find R k es ≡ Some v → (d : K × V) × Among d es × (d.1 ≡ v)) → (d : K × V) × Among d (e ∷ es) × (d.1 ≡ v)
    by true found later = let same : e.1 ≡ v = cc found in (e, inl refl, same)
    by false found later = let d = later found in (d.0, inr d.1, d.2)

names-among : (t : Tree) (ps : Places) (ls : List ListedName) → AreNamesOf t ps ls → (p : List Bytes × ℕ) → Among p ps → (l : ListedName) × Among l ls × (l.node ≡ p.1)
names-among t [] [] are p h = absurd h
names-among t [] (l ∷ ls) are p h = absurd h
names-among t (q ∷ ps) [] are p h = absurd are
names-among t (q ∷ ps) (l ∷ ls) are p (inl e) = (l, inl refl, are.0.node ∙ ap (λ (x : List Bytes × ℕ). x.1) (sym e))
names-among t (q ∷ ps) (l ∷ ls) are p (inr h) = let rest = names-among t ps ls are.1 p h in (rest.0, inr rest.1, rest.2)

module _ (t : Tree) where
  -- one more entry
  led-on : (names : List Bytes) (from n m : ℕ) (name : Bytes) → led_to t from names ≡ Some n → find_entry t n name ≡ Some m → led_to t from (names ++ name ∷ []) ≡ Some m
  led-on [] from n m name led found =
      let same : from ≡ n = cc led in
      ap (option_and_then (λ k. led_to t k [])) (ap (λ k. find_entry t k name) same ∙ found)
  led-on (x ∷ xs) from n m name led found = by (find_entry t from x) led (λ k is. led-on xs k n m name is found)
    where
      by : (o : Option ℕ) → option_and_then (λ k. led_to t k xs) o ≡ Some n → ((k : ℕ) → led_to t k xs ≡ Some n → led_to t k (xs ++ name ∷ []) ≡ Some m)
          → option_and_then (λ k. led_to t k (xs ++ name ∷ [])) o ≡ Some m
      by None is later = cc is
      by (Some k) is later = later k is

  led-there : (n : ℕ) → IsReached t n → (names : List Bytes) × (led_to t root names ≡ Some n)
  led-there _ from_root = ([], refl)
  led-there _ (by_entry d name n reached found) = let front = led-there d reached in (front.0 ++ name ∷ [], led-on front.0 root d n name front.1 found)

  module _ (w : IsWellFormed t) where
    -- a node with a name is listed
    named-listed : (f : ℕ) (x : ℕ × Bytes) (xs : List (ℕ × Bytes)) → names_of t f ≡ x ∷ xs → Among f (map (λ l. l.node) (listed_names t))
    named-listed f x xs names =
        let found = in-entry t (λ n. (entries-good t n w.each_node).0) f x (subst (In (ℕ × Bytes) x) (sym names) (inl refl)) in
        let led = led-there f (w.named_are_reached x.0 x.1 f found) in
        let lists = reach-lists t w in
        let place = find-among by_names led.0 f lists.0 (lists.1.reached led.0 ∙ led.1) in
        let name = names-among t lists.0 (listed_names t) lists.2 place.0 place.1 in
        subst (λ (n : ℕ). Among n (map (λ l. l.node) (listed_names t))) (name.2 ∙ place.2) (among-map (λ (l : ListedName). l.node) name.0 (listed_names t) name.1)

    all-files : (f : ℕ) → is_file_at t f ≡ true → Among f (files_of_tree t)
    all-files f file = by (names_of t f) refl (node_at t f) refl file
      where
        named : Among f (map (λ l. l.node) (listed_names t)) → Among f (named_files t)
        named h = like (new-like number_numbers [] (filter (is_file_at t) (map (λ l. l.node) (listed_names t))) f (among-filter (is_file_at t) f (map (λ l. l.node) (listed_names t)) h file))
          where
            like : Among (number_numbers f) [] ⊎ ((y : ℕ) × Among y (named_files t) × (number_numbers y ≡ number_numbers f)) → Among f (named_files t)
            like (inl none) = absurd none
            like (inr y) = let same : y.0 ≡ f = cc y.2 in subst (λ (n : ℕ). Among n (named_files t)) same y.1

        by : (xs : List (ℕ × Bytes)) → names_of t f ≡ xs → (o : Option Node) → node_at t f ≡ o → is_file o ≡ true → Among f (files_of_tree t)
        by (x ∷ xs) names o at is = among-left f (named_files t) (unnamed_files t) (named (named-listed f x xs names))
        by [] none None at is = cc is
        by [] none (Some node) at is =
            among-right f (named_files t) (unnamed_files t)
            (among-filter (λ n. is_file_at t n && is_empty (names_of t n)) f (map (λ node. node.0) (numbered t.nodes))
            (among-map (λ (e : ℕ × Node). e.0) (f, node) (numbered t.nodes) (in-among (f, node) (numbered t.nodes) (numbered-at Node t.nodes f node at)))
            (and_from (is_file_at t f) (is_empty (names_of t f)) file (ap is_empty none)))

pub each-file : EachFileIsListed
each-file t w f file = among-contains f (files_of_tree t) (all-files t w f file)
