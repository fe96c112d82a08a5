-- The stored data of a tree, as unreferenced nodes are collected and reference counts change.
use Rattle.std.proofs.Common.{◌≡◌, ◌≢◌, ℕ, zero, suc, ◌+◌, ◌-◌, ◌<◌, ◌≤◌, true, false, cond, ◌||◌, ◌==◌, nat_lt, List, length, Option, None, Some, is_some, refl, ap, ap₂, sym, ◌∙◌, arith, ⊎_elim}
use Rattle.std.specs.Prelude.{slice_index, slice_set}
use Rattle.std.specs.FinMap.Entries.{find}
use Rattle.std.proofs.lemmas.Bool.{cases_eq, cases_Bool, or_left, or_right, or_cases, lt-ltb}
use Rattle.std.proofs.lemmas.List.{get_or-set_same, get_or-set_other, length-set}
use Rattle.pv_model.specs.Machine.{among, Node, Tree, root, node_at, is_directory, is_directory_at, find_entry, entries_of, parent}
use Rattle.pv_dirs.specs.Trees.{without_node}
use Rattle.pv_laws_trees.specs.Preserved.{numbers_wanted, preserved}
use Rattle.pv_laws_trees.specs.Tree.{IsSoundTree}
use Rattle.pv_laws_trees.proofs.TreeChanges.{some-below, directory_is_some}
use Rattle.pv_laws_trees.proofs.DirectoryEntries.{by_name}
use Rattle.pv_laws_trees.proofs.NumberedMaps.{keep-some, keep-passes, length-keep}
use Rattle.pv_laws_trees.proofs.WalkPlaces.{parent-directory}
use Rattle.pv_laws_trees.proofs.Trees.{ordered, sound, among-entry, parent-entry, parent-root}
use Rattle.pv_laws_trees.proofs.Collection.{only-sound, entries-only, find-only, wanted-covers, preserved_in_turn}
use Rattle.pv_tree.specs.Changes.{without_if_unreferenced}
use Rattle.pv_tree.specs.Holding.{referenced_numbers, held_more, held_less, collected}
use Rattle.pv_tree.specs.Present.{stored, HasTreeCounts, IsTied}
use Rattle.pv_laws_trees.proofs.TreeBytes.{bytes-preserved}
use Rattle.pv_tree.proofs.CarriedData.{carried}
use Rattle.pv_tree.proofs.CollectedNodes.{is_preserved, wanted-counted, collected-all, collected-one, all-preserved}
use Rattle.pv_laws_trees.proofs.NameCounts.{name_count, named-is, names-same, is_positive, positive-is, is-positive, none-positive}
use Rattle.pv_tree.proofs.ParentChanges.{parent-same}
use Rattle.pv_tree.proofs.RoomForEntries.{room_error-fits, collected-allowed}

-- ---- numbers in arrays

pub read-same : (xs : List ℕ) (i v : ℕ) → i < length xs → slice_index (slice_set xs i v) i ≡ v
read-same xs i v below = get_or-set_same xs i v 0 below

pub read-other : (xs : List ℕ) (i j v : ℕ) → j ≢ i → slice_index (slice_set xs i v) j ≡ slice_index xs j
read-other xs i j v other = get_or-set_other xs i j v 0 other

-- ---- nodes that are kept

lt-positive : (n : ℕ) → nat_lt 0 n ≡ is_positive n
lt-positive zero = refl
lt-positive (suc n) = lt-ltb 0 (suc n) (omega arith)

-- more names and references keep a node
pub preserved-more : (n a b x y : ℕ) → a ≤ b → x ≤ y → is_preserved n a x ≡ true → is_preserved n b y ≡ true
preserved-more n a b x y names holds is =
    ⊎_elim
    (λ top. or_left (root == n) _ top)
    (λ rest. or_right (root == n) _
    (⊎_elim
    (λ named. let more = is-positive a named in or_left (is_positive b) _ (positive-is b (omega arith)))
    (λ held. let more = is-positive x held in or_right (is_positive b) _ (positive-is y (omega arith)))
    (or_cases (is_positive a) (is_positive x) rest)))
    (or_cases (root == n) (is_positive a || is_positive x) is)

pub preserved-held : (n names holds : ℕ) → 0 < holds → is_preserved n names holds ≡ true
preserved-held n names holds more = or_right (root == n) _ (or_right (is_positive names) _ (positive-is holds more))

pub preserved-named : (n names holds : ℕ) → 0 < names → is_preserved n names holds ≡ true
preserved-named n names holds more = or_right (root == n) _ (or_left (is_positive names) _ (positive-is names more))

without_if_unreferenced-preserved : (t : Tree) (n names holds : ℕ) → without_if_unreferenced t n names holds ≡ cond (is_preserved n names holds) t (without_node t n)
without_if_unreferenced-preserved t n names holds = ap (λ b. cond ((root == n) || b) t (without_node t n)) (ap₂ (λ a b. a || b) (lt-positive names) (lt-positive holds))

some_at : (o : Option Node) → is_directory o ≡ true → (node : Node) × (o ≡ Some node)
some_at None is = cc
some_at (Some node) is = (node, refl)

-- a directory after the collection was one before
preserved-directory : (t : Tree) (held : List ℕ) (n : ℕ) → is_directory_at (preserved t held) n ≡ true → is_directory_at t n ≡ true
preserved-directory t held n is =
    let found = some_at (node_at (preserved t held) n) is in
    ap is_directory ((keep-some (among (numbers_wanted t held)) t.nodes n found.0 found.1).1 ∙ sym found.1) ∙ is

module _ (t : Tree) (parents names holds : List ℕ) (c : HasTreeCounts t parents names holds) where
  s : IsSoundTree t
  s = sound t c.well_formed

  -- the number of a node is within the arrays
  pub below : (n : ℕ) → is_some (node_at t n) ≡ true → n < 4097
  below n is = omega (arith, some-below t n is, c.well_formed.numbers, c.few)

  -- a number without a node has no names
  pub unnamed : (n : ℕ) → is_some (node_at t n) ≡ false → name_count t n ≡ 0
  unnamed n none =
      none-positive (name_count t n)
      (⊎_elim
      (λ named. let found = among-entry t (ordered t c.well_formed.each_node) n (named-is t n ∙ named) in
      let there = c.well_formed.entries_are_nodes found.0 found.1 n found.2 in cc)
      (λ no_name. no_name)
      (cases_Bool (is_positive (name_count t n))))

  -- the collection preserves the stored data
  pub collected-tied : IsTied (collected t holds) parents names holds
  collected-tied =
      let held = referenced_numbers holds in
      let u : Tree = preserved t held in
      let covers = wanted-covers t held in
      let r = only-sound t (numbers_wanted t held) s covers in
      let same = find-only t (numbers_wanted t held) s covers in
      record {
        counted = carried t u parents names holds c parents names holds r refl (collected-allowed t holds (room_error-fits t c.short c.fits)) (bytes-preserved t held c.bytes) refl refl refl
            (λ n more.
            ap is_some (keep-passes (among (numbers_wanted t held)) t.nodes n (wanted-counted t holds n ∙ preserved-held n (name_count t n) (slice_index holds n) more)) ∙ c.held_are_nodes n more)
            (λ n is.
            c.parents_stored n (preserved-directory t held n is)
            ∙ ap stored (sym (parent-same t u s r n is (λ e q found. same e q ∙ found) (λ e q found. sym (same e q) ∙ found))))
            (λ n. c.names_counted n ∙ sym (names-same t u (length-keep (among (numbers_wanted t held)) t.nodes) (entries-only t (numbers_wanted t held) s covers) n));
        is_collected = preserved_in_turn t held held s (λ n is. is);
      }

  -- if all nodes except one are kept, settling that one is enough
  pub without_if_unreferenced-is : (n : ℕ) → ((m : ℕ) → m ≢ n → is_some (node_at t m) ≡ true → is_preserved m (name_count t m) (slice_index holds m) ≡ true)
      → without_if_unreferenced t n (slice_index names n) (slice_index holds n) ≡ collected t holds
  without_if_unreferenced-is n others =
      without_if_unreferenced-preserved t n (slice_index names n) (slice_index holds n)
      ∙ ap (λ a. cond (is_preserved n a (slice_index holds n)) t (without_node t n)) (c.names_counted n)
      ∙ ⊎_elim
      (λ is. ap (λ b. cond b t (without_node t n)) is
      ∙ sym (collected-all t holds (λ m there. ⊎_elim (λ same. ap (λ k. is_preserved k (name_count t k) (slice_index holds k)) same ∙ is) (λ other. others m other there) (cases_eq m n))))
      (λ out. ap (λ b. cond b t (without_node t n)) out ∙ sym (collected-one t holds n out others))
      (cases_Bool (is_preserved n (name_count t n) (slice_index holds n)))

-- ---- stored parents

pub parent-none : (t u : Tree) (parents names holds : List ℕ) → IsTied t parents names holds → t ≡ u → (n : ℕ) → is_directory_at u n ≡ true
    → slice_index parents n ≡ 0 → None ≡ parent u n
parent-none t u parents names holds tied same n is none = sym (by (parent t n) refl) ∙ ap (λ v. parent v n) same
  where
    by : (o : Option ℕ) → parent t n ≡ o → parent t n ≡ None
    by None up = up
    by (Some d) up =
        let zero_d : d ≡ 0 = sym (ap stored up) ∙ sym (tied.counted.parents_stored n (ap (λ v. is_directory_at v n) same ∙ is)) ∙ none in
        ⊎_elim
        (λ top. let one : Some d ≡ Some root = sym up ∙ ap (parent t) top ∙ parent-root t in let value : d ≡ root = cc one in absurd (omega arith))
        (λ other.
        let found = parent-entry t (ordered t tied.counted.well_formed.each_node) n d other up in
        let absent : find_entry t d found.0 ≡ None = ap (λ k. find_entry t k found.0) zero_d ∙ ap (λ o. find by_name found.0 (entries_of o)) tied.counted.well_formed.no_zero in
        cc)
        (cases_eq n root)

-- a stored parent is a directory
pub stored-directory : (t u : Tree) (parents names holds : List ℕ) → IsTied t parents names holds → t ≡ u → (n : ℕ) → is_directory_at u n ≡ true
    → slice_index parents n ≢ 0 → is_directory_at u (slice_index parents n) ≡ true
stored-directory t u parents names holds tied same n is other = ap (λ v. is_directory_at v (slice_index parents n)) (sym same) ∙ by (parent t n) refl
  where
    c : HasTreeCounts t parents names holds
    c = tied.counted

    read : slice_index parents n ≡ stored (parent t n)
    read = c.parents_stored n (ap (λ v. is_directory_at v n) same ∙ is)

    by : (o : Option ℕ) → parent t n ≡ o → is_directory_at t (slice_index parents n) ≡ true
    by None up = absurd (other (read ∙ ap stored up))
    by (Some d) up = ap (is_directory_at t) (read ∙ ap stored up) ∙ parent-directory (λ b. true) t (sound t c.well_formed) n d up

-- ---- nodes that a caller sees

pub below-seen : (t u : Tree) (parents names holds : List ℕ) → IsTied t parents names holds → t ≡ u → (n : ℕ) → is_some (node_at u n) ≡ true → n < 4097
below-seen t u parents names holds tied same n is = below t parents names holds tied.counted n (ap (λ v. is_some (node_at v n)) same ∙ is)

pub directory-below-seen : (t u : Tree) (parents names holds : List ℕ) → IsTied t parents names holds → t ≡ u → (n : ℕ) → is_directory_at u n ≡ true → n < 4097
directory-below-seen t u parents names holds tied same n is = below-seen t u parents names holds tied same n (directory_is_some (node_at u n) is)

-- ---- references

module _ (t : Tree) (parents names holds : List ℕ) (tied : IsTied t parents names holds) (n : ℕ) where
  c : HasTreeCounts t parents names holds
  c = tied.counted

  pub place : is_some (node_at t n) ≡ true → n < length holds
  place is = omega (arith, below t parents names holds c n is, c.places_of_holds)

  -- other reference counts, where each referenced node exists
  counted-with : (other : List ℕ) → length other ≡ length holds → ((m : ℕ) → 0 < slice_index other m → is_some (node_at t m) ≡ true) → HasTreeCounts t parents names other
  counted-with other long there =
      carried t t parents names holds c parents names other (sound t c.well_formed) refl (room_error-fits t c.short c.fits) c.bytes refl refl long there c.parents_stored c.names_counted

  pub tied-more : is_some (node_at t n) ≡ true → IsTied t parents names (held_more holds n)
  tied-more is =
      let more = held_more holds n in
      let here : slice_index more n ≡ slice_index holds n + 1 = read-same holds n (slice_index holds n + 1) (place is) in
      let grows : (m : ℕ) → slice_index holds m ≤ slice_index more m = λ m.
      ⊎_elim (λ same. omega (arith, here, ap (slice_index holds) same, ap (slice_index more) same)) (λ other. omega (arith, read-other holds n m (slice_index holds n + 1) other)) (cases_eq m n) in
      record {
        counted = counted-with more (length-set holds n (slice_index holds n + 1)) (λ m held.
            ⊎_elim (λ same. ap (λ k. is_some (node_at t k)) same ∙ is)
            (λ other. c.held_are_nodes m (omega (arith, read-other holds n m (slice_index holds n + 1) other))) (cases_eq m n));
        is_collected = collected-all t more (λ m there.
            preserved-more m (name_count t m) (name_count t m) (slice_index holds m) (slice_index more m) (omega arith) (grows m) (all-preserved t holds tied.is_collected m there));
      }

  pub counted-less : 0 < slice_index holds n → HasTreeCounts t parents names (held_less holds n)
  counted-less held =
      let less = held_less holds n in
      let here : slice_index less n ≡ slice_index holds n - 1 = read-same holds n (slice_index holds n - 1) (place (c.held_are_nodes n held)) in
      counted-with less (length-set holds n (slice_index holds n - 1)) (λ m more.
      ⊎_elim (λ same. ap (λ k. is_some (node_at t k)) same ∙ c.held_are_nodes n held)
      (λ other. c.held_are_nodes m (omega (arith, read-other holds n m (slice_index holds n - 1) other))) (cases_eq m n))

  -- a node whose reference is released is removed, or stays
  pub without_if_unreferenced-less : 0 < slice_index holds n → without_if_unreferenced t n (slice_index names n) (slice_index (held_less holds n) n) ≡ collected t (held_less holds n)
  without_if_unreferenced-less held =
      without_if_unreferenced-is t parents names (held_less holds n) (counted-less held) n (λ m other there.
      ap (is_preserved m (name_count t m)) (read-other holds n m (slice_index holds n - 1) other) ∙ all-preserved t holds tied.is_collected m there)
