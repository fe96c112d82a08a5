-- Names and parents, as the entries of one directory after another are counted.
use Rattle.std.proofs.Common.{◌≡◌, ℕ, zero, suc, ◌+◌, ◌*◌, ◌<◌, ◌≤◌, true, false, cond, ◌||◌, ◌==◌, ltb, List, [], ◌∷◌, length, Option, None, Some, is_some, replicate, refl, ap, sym, subst, ◌∙◌, inl, inr, arith}
use Rattle.std.specs.Prelude.{slice_index, slice_set}
use Rattle.std.specs.List.{list_any}
use Rattle.std.proofs.lemmas.Bool.{cases_eq, cases_lt, eq-eqb, ne_eqb, lt-ltb, le-ltb, or_left, or_right}
use Rattle.pv_model.specs.Machine.{Bytes, IsImageOf, Holds, HoldsAny, Numbered, at_number, present, node_length, greatest_length, is_too_long, Entries, Node, directory_node, file_node, link_node, Tree, root, node_at, entries_of, entries_at, is_directory, is_directory_at, names_of, parent}
use Rattle.pv_model.specs.Tree.{names_node}
use Rattle.pv_dirs.specs.Counts.{count_in}
use Rattle.pv_dirs.specs.Trees.{total_need}
use Rattle.pv_dirs.proofs.EntryCounts.{count-cons, one_if}
use Rattle.pv_laws_trees.specs.Preserved.{EachIsNamed}
use Rattle.pv_laws_trees.specs.Encoded.{AllBytes}
use Rattle.pv_laws_trees.proofs.DirectoryEntries.{by_name, names_node-find}
use Rattle.pv_laws_trees.proofs.Collection.{preserved_all}
use Rattle.pv_laws_trees.proofs.Trees.{sound, ordered, entry-among, entry-parent, parent-unnamed, parent-root}
use Rattle.pv_tree.specs.Holding.{referenced_numbers}
use Rattle.pv_tree.specs.Present.{stored, IsTied}
use Rattle.pv_tree.proofs.RootTree.{zeros-at}
use Rattle.pv_laws_trees.proofs.NameCounts.{name_count, names_of_nodes, names-cons, named-is, positive-is, is-positive, entries-most}
use Rattle.pv_tree.proofs.NameCounts.{length-names_in}
use Rattle.pv_tree.proofs.CollectionCounts.{read-other}
use Rattle.pv_tree.proofs.RoomForEntries.{fits-from}

-- the number of names of a node in the directories before one
abbrev pub before_in : Numbered Node → ℕ → ℕ → ℕ
before_in xs zero n = 0
before_in xs (suc d) n = before_in xs d n + count_in n (entries_of (at_number xs d))

before-cons : (o : Option Node) (xs : Numbered Node) (d n : ℕ) → before_in (o ∷ xs) (suc d) n ≡ count_in n (entries_of o) + before_in xs d n
before-cons o xs zero n = omega arith
before-cons o xs (suc d) n = omega (arith, before-cons o xs d n)

-- in all directories, these are all of its names
before-all_from : (k : ℕ) (xs : Numbered Node) (n : ℕ) → before_in xs (length xs) n ≡ length (names_of_nodes n k xs)
before-all_from k [] n = refl
before-all_from k (o ∷ xs) n = omega (arith, before-cons o xs (length xs) n, names-cons n k o xs, length-names_in n (entries_of o) k, before-all_from (suc k) xs n)

before-most : (xs : Numbered Node) (d n : ℕ) → ((e : ℕ) → count_in n (entries_of (at_number xs e)) ≤ 2540) → before_in xs d n ≤ 2540 * d
before-most xs zero n few = omega arith
before-most xs (suc d) n few = omega (arith, few d, before-most xs d n few)

-- a node that is counted has an entry
count_entry : (n : ℕ) (es : Entries) → 0 < count_in n es → names_node n es ≡ true
count_entry n [] some = absurd (omega arith)
count_entry n (e ∷ es) some = elim (cases_eq e.1 n) [
  | inl here ↦ or_left (e.1 == n) (list_any (λ f. f.1 == n) es) (eq-eqb e.1 n here)
  | inr other ↦
      let none : one_if e.1 n ≡ 0 = ap (λ b. cond b 1 0) (ne_eqb e.1 n other) in
      or_right (e.1 == n) (list_any (λ f. f.1 == n) es) (count_entry n es (omega (arith, some, count-cons n e es, none)))
]

-- the parents before any entry is read
abbrev pub first_parents : List ℕ
first_parents = slice_set (replicate 4097 0) 1 1

-- a node has an entry in a directory that is stored as its parent
pub record IsAbove (t : Tree) (parents : List ℕ) (n : ℕ) : Type 0 where
  pub above : ℕ
  pub entry : 0 < count_in n (entries_at t above)
  pub stored_so : slice_index parents n ≡ above

-- the entries of the directories before one are counted
pub record IsGathered (t : Tree) (d : ℕ) (parents names : List ℕ) : Type 0 where
  pub places_of_parents : length parents ≡ 4097
  pub places_of_names : length names ≡ 4097
  pub counted : (n : ℕ) → slice_index names n ≡ before_in t.nodes d n
  pub unnamed : (n : ℕ) → before_in t.nodes d n ≡ 0 → slice_index parents n ≡ slice_index first_parents n
  pub named : (n : ℕ) → 0 < before_in t.nodes d n → IsAbove t parents n

pub gathered_none : (t : Tree) → IsGathered t 0 first_parents (replicate 4097 0)
gathered_none t = record {
  places_of_parents = refl;
  places_of_names = refl;
  counted = λ n. zeros-at 4097 n;
  unnamed = λ n none. refl;
  named = λ n some. absurd (omega arith);
}

module _ (t : Tree) (d : ℕ) (parents names : List ℕ) (so_far : IsGathered t d parents names) where
  -- the counts do not overflow
  pub gathered_few : is_too_long t ≡ false → (n : ℕ) → slice_index names n ≤ 2540 * d
  gathered_few short n = omega (arith, so_far.counted n, before-most t.nodes d n (λ e. most n e))
    where
      most : (n e : ℕ) → count_in n (entries_of (at_number t.nodes e)) ≤ 2540
      most n e = omega (arith, Rattle.pv_dirs.proofs.EntryCounts.count-most n (entries_at t e), entries-most t short e)

  -- a node that is not a directory has no entries
  pub gathered_other : is_directory_at t d ≡ false → IsGathered t (d + 1) parents names
  gathered_other other =
      let next : d + 1 ≡ suc d = omega arith in
      let same : (n : ℕ) → before_in t.nodes (suc d) n ≡ before_in t.nodes d n = λ n. omega (arith, ap (count_in n) (no-entries (node_at t d) other)) in
      subst (λ k. IsGathered t k parents names) (sym next) (record {
        places_of_parents = so_far.places_of_parents;
        places_of_names = so_far.places_of_names;
        counted = λ n. so_far.counted n ∙ sym (same n);
        unnamed = λ n none. so_far.unnamed n (sym (same n) ∙ none);
        named = λ n some. so_far.named n (omega (arith, same n));
      })
    where
      no-entries : (o : Option Node) → is_directory o ≡ false → entries_of o ≡ []
      no-entries None other = refl
      no-entries (Some (directory_node es)) other = cc
      no-entries (Some (file_node executable bytes)) other = refl
      no-entries (Some (link_node text)) other = refl

  pub gathered_more : (new_parents new_names : List ℕ) → length new_parents ≡ length parents → length new_names ≡ length names
      → ((n : ℕ) → slice_index new_names n ≡ slice_index names n + count_in n (entries_at t d))
      → ((n : ℕ) → slice_index new_parents n ≡ cond (ltb 0 (count_in n (entries_at t d))) d (slice_index parents n))
      → IsGathered t (d + 1) new_parents new_names
  gathered_more new_parents new_names long_parents long_names counts above =
      let next : d + 1 ≡ suc d = omega arith in
      subst (λ k. IsGathered t k new_parents new_names) (sym next) (record {
        places_of_parents = long_parents ∙ so_far.places_of_parents;
        places_of_names = long_names ∙ so_far.places_of_names;
        counted = λ n. omega (arith, counts n, so_far.counted n);
        unnamed = λ n none. above n ∙ ap (λ b. cond b d (slice_index parents n)) (le-ltb 0 (count_in n (entries_at t d)) (omega arith)) ∙ so_far.unnamed n (omega arith);
        named = λ n some. elim (cases_lt 0 (count_in n (entries_at t d))) [
          | inl here ↦ record { above = d; entry = here; stored_so = above n ∙ ap (λ b. cond b d (slice_index parents n)) (lt-ltb 0 (count_in n (entries_at t d)) here) }
          | inr none ↦
              let old = so_far.named n (omega arith) in
              record { above = old.above; entry = old.entry; stored_so = above n ∙ ap (λ b. cond b d (slice_index parents n)) (le-ltb 0 (count_in n (entries_at t d)) none) ∙ old.stored_so }
        ];
      })

-- ---- all entries are counted

-- no node is too long if each has an allowed length
short_from : (t : Tree) (g : ℕ) → g ≡ greatest_length t.version → ((n : ℕ) (node : Node) → node_at t n ≡ Some node → node_length t.version node ≤ g) → is_too_long t ≡ false
unfolding is_too_long
short_from t g is each = ap (λ k. list_any (λ node. ltb k (node_length t.version node)) (present t.nodes)) (sym is) ∙ none t.nodes each
  where
    none : (xs : Numbered Node) → ((n : ℕ) (node : Node) → at_number xs n ≡ Some node → node_length t.version node ≤ g) → list_any (λ node. ltb g (node_length t.version node)) (present xs) ≡ false
    none [] each = refl
    none (None ∷ xs) each = none xs (λ n node at. each (suc n) node at)
    none (Some node ∷ xs) each =
        ap (λ b. b || list_any (λ x. ltb g (node_length t.version x)) (present xs)) (le-ltb g (node_length t.version node) (each 0 node refl)) ∙ none xs (λ n x at. each (suc n) x at)

module _ (bytes : Bytes) (t : Tree) (is : IsImageOf bytes t) where
  -- the number of a node is that of an inode
  node_number : (n : ℕ) (node : Node) → node_at t n ≡ Some node → (1 ≤ n) × (n ≤ t.inodes)
  node_number zero node at = let nothing : Some node ≡ None = sym at ∙ is.well_formed.no_zero in cc
  node_number (suc n) node at = (omega arith, omega (arith, Rattle.pv_laws_trees.proofs.TreeChanges.some-below t (suc n) (ap is_some at), is.well_formed.numbers))

  pub node_inode : (n : ℕ) (node : Node) → node_at t n ≡ Some node → Holds t.version bytes t n node
  node_inode n node at = let number = node_number n node at in subst (HoldsAny t.version bytes t n) at (is.each_inode n number.0 number.1)

  pub image-short : is_too_long t ≡ false
  image-short = short_from t (greatest_length t.version) refl (λ n node at. let h = node_inode n node at in omega (arith, h.length_stored, h.length_allowed))

  pub image-named : EachIsNamed t
  image-named = record {
    named = λ n other used. named-is t n ∙ elim (cases_eq (name_count t n) 0) [
      | inl none ↦ absurd (other (unnamed_root n (node_at t n) refl used (no_names (names_of t n) none)))
      | inr some ↦ positive-is (name_count t n) (omega arith)
    ];
  }
    where
      no_names : {X : Type 0} (xs : List X) → length xs ≡ 0 → xs ≡ []
      no_names [] none = refl
      no_names (x ∷ xs) none = absurd (omega arith)

      unnamed_root : (n : ℕ) (o : Option Node) → node_at t n ≡ o → is_some (node_at t n) ≡ true → names_of t n ≡ [] → n ≡ root
      unnamed_root n None at used none = let nothing : false ≡ true = sym (ap is_some at) ∙ used in cc
      unnamed_root n (Some node) at used none = is.each_named n node at none

  module _ (parents names holds : List ℕ) (all : IsGathered t (length t.nodes) parents names) (room : total_need t ≤ t.blocks) (encoded : AllBytes t) (unheld : holds ≡ replicate 4097 0) where
    all_names : (n : ℕ) → before_in t.nodes (length t.nodes) n ≡ name_count t n
    all_names n = before-all_from 0 t.nodes n

    in_order : (d : ℕ) → Rattle.std.specs.FinMap.Entries.is_sorted by_name (entries_at t d) ≡ true
    in_order = ordered t is.well_formed.each_node

    parents_are : (n : ℕ) → is_directory_at t n ≡ true → slice_index parents n ≡ stored (parent t n)
    parents_are n directory = elim (cases_eq n root) [
      | inl top ↦
          let none : name_count t n ≡ 0 = ap (name_count t) top ∙ ap length is.well_formed.root_is_unnamed in
          all.unnamed n (all_names n ∙ none) ∙ ap (slice_index first_parents) top ∙ sym (ap stored (ap (parent t) top ∙ parent-root t))
      | inr other ↦ elim (cases_lt 0 (name_count t n)) [
        | inl some ↦
            let above = all.named n (omega (arith, all_names n)) in
            let found = names_node-find n (entries_at t above.above) (in_order above.above) (count_entry n (entries_at t above.above) above.entry) in
            above.stored_so ∙ sym (ap stored (entry-parent t (sound t is.well_formed) n above.above found.0 directory found.1))
        | inr none ↦
            let nothing : before_in t.nodes (length t.nodes) n ≡ 0 = omega (arith, all_names n) in
            all.unnamed n nothing
            ∙ read-other (replicate 4097 0) 1 n 1 other ∙ zeros-at 4097 n
            ∙ sym (ap stored (parent-unnamed t in_order n other (λ d name found.
            absurd (omega (arith, is-positive (name_count t n) (sym (named-is t n) ∙ entry-among t d name n found))))))
      ]
    ]

    pub image-tied : IsTied t parents names holds
    image-tied = record {
      counted = record {
        well_formed = is.well_formed;
        few = is.inodes_allowed.1;
        fits = fits-from t is.well_formed.numbers is.well_formed.no_zero room;
        short = image-short;
        bytes = encoded;
        held_are_nodes = λ n held. absurd (omega (arith, ap (λ (xs : List ℕ). slice_index xs n) unheld, zeros-at 4097 n));
        places_of_parents = all.places_of_parents;
        places_of_names = all.places_of_names;
        places_of_holds = ap (λ (xs : List ℕ). length xs) unheld;
        parents_stored = parents_are;
        names_counted = λ n. all.counted n ∙ all_names n;
      };
      is_collected = preserved_all t (referenced_numbers holds) image-named;
    }
