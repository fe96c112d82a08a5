-- The tree of an image is a valid first tree.
use Rattle.std.proofs.Common.{◌≡◌, ◌≢◌, ℕ, suc, ◌+◌, ◌<◌, ◌≤◌, true, false, ◌==◌, nat_le, nat_lt, List, [], ◌∷◌, ◌++◌, map, filter, flat_map, length, sum_by, cond, Option, None, Some, is_some, refl, ap, sym, ◌∙◌, arith, ⊎_elim}
use Rattle.std.specs.List.{list_any}
use Rattle.std.proofs.lemmas.Bool.{and_from, or_parts, or_from, le-leb, le-ltb, cases_Bool}
use Rattle.std.proofs.lemmas.List.{length-append}
use Rattle.std.proofs.lemmas.List.Folds.{list_any-append}
use Rattle.std.proofs.lemmas.List.Sums.{sum_by-cons}
use Rattle.pv_model.specs.declared.version.Version.{Version}
use Rattle.pv_model.specs.Machine.{Bytes, among, field, inode_blocks, used_index, used_content, used_blocks, IsImageOf, Numbered, at_number, present, numbered_from, numbered, node_length, need, greatest_length, fits, is_too_long, Entries, Node, Tree, root, node_at, entries_of, names_in, named_numbers}
use Rattle.pv_laws_answers.specs.OfLawsStates.States.{are_bytes, IsFirstTree}
use Rattle.pv_laws_trees.proofs.HeldNodes.{node-held}
use Rattle.pv_laws_trees.proofs.Inodes.{need-used}
use Rattle.pv_laws_trees.proofs.Ranges.{each_weaker, distinct-within}
use Rattle.pv_laws_trees.proofs.ImageBytes.{node-bytes}
use Rattle.pv_laws_trees.proofs.NumberedMaps.{present-within}

-- ---- names

-- a number that no entry contains has no name
unnamed_in : (n d : ℕ) (es : Entries) → among (map (λ e. e.1) es) n ≡ false → names_in n es d ≡ []
unnamed_in n d [] none = refl
unnamed_in n d (e ∷ es) none =
    let parts = or_parts (e.1 == n) (among (map (λ e. e.1) es) n) none in
    ap (λ b. map (λ (e : Bytes × ℕ). (d, e.0)) (cond b (e ∷ filter (λ (e : Bytes × ℕ). e.1 == n) es) (filter (λ (e : Bytes × ℕ). e.1 == n) es))) parts.0 ∙ unnamed_in n d es parts.1

unnamed : (n : ℕ) (ds : List (ℕ × Node)) → among (flat_map (λ d. map (λ e. e.1) (entries_of (Some d.1))) ds) n ≡ false → flat_map (λ d. names_in n (entries_of (Some d.1)) d.0) ds ≡ []
unnamed n [] none = refl
unnamed n (d ∷ ds) none =
    let here = map (λ (e : Bytes × ℕ). e.1) (entries_of (Some d.1)) in
    let following = flat_map (λ (d : ℕ × Node). map (λ (e : Bytes × ℕ). e.1) (entries_of (Some d.1))) ds in
    let parts = or_parts (among here n) (among following n) (sym (list_any-append (λ m. m == n) here following) ∙ none) in
    ap (λ (ns : List (ℕ × Bytes)). ns ++ flat_map (λ d. names_in n (entries_of (Some d.1)) d.0) ds) (unnamed_in n d.0 (entries_of (Some d.1)) parts.0) ∙ unnamed n ds parts.1

-- ---- room

fewer_present : (xs : Numbered Node) (m : ℕ) → length xs ≡ suc m → at_number xs 0 ≡ None → length (present xs) ≤ m
fewer_present [] m long none = omega (arith, long)
fewer_present (None ∷ xs) m long none = omega (arith, long, present-within xs)
fewer_present (Some node ∷ xs) m long none = cc none

needs : (v : Version) (used : ℕ → List ℕ) (from : ℕ) (xs : Numbered Node) → ((n : ℕ) (node : Node) → at_number xs n ≡ Some node → need v (node_length v node) ≡ length (used (from + n)))
    → sum_by (λ node. need v (node_length v node)) (present xs) ≡ length (flat_map (λ (e : ℕ × Node). used e.0) (numbered_from from xs))
needs v used from [] each = refl
needs v used from (None ∷ xs) each =
    needs v used (suc from) xs (λ n node at. each (suc n) node at ∙ ap (λ k. length (used k)) (let e : from + suc n ≡ suc from + n = omega arith in e))
needs v used from (Some node ∷ xs) each =
    let following = needs v used (suc from) xs (λ n node at. each (suc n) node at ∙ ap (λ k. length (used k)) (let e : from + suc n ≡ suc from + n = omega arith in e)) in
    let here : need v (node_length v node) ≡ length (used from) = each 0 node refl ∙ ap (λ k. length (used k)) (let e : from + 0 ≡ from = omega arith in e) in
    sum_by-cons (λ node. need v (node_length v node)) node (present xs) ∙ ap (λ k. k + sum_by (λ node. need v (node_length v node)) (present xs)) here ∙ ap (λ k. length (used from) + k) following
    ∙ sym (length-append (used from) (flat_map (λ (e : ℕ × Node). used e.0) (numbered_from (suc from) xs)))

none_longer : (v : Version) (xs : Numbered Node) → ((n : ℕ) (node : Node) → at_number xs n ≡ Some node → node_length v node ≤ greatest_length v)
    → list_any (λ node. nat_lt (greatest_length v) (node_length v node)) (present xs) ≡ false
none_longer v [] each = refl
none_longer v (None ∷ xs) each = none_longer v xs (λ n. each (suc n))
none_longer v (Some node ∷ xs) each =
    or_from (nat_lt (greatest_length v) (node_length v node)) (list_any (λ node. nat_lt (greatest_length v) (node_length v node)) (present xs))
    (le-ltb (greatest_length v) (node_length v node) (each 0 node refl)) (none_longer v xs (λ n. each (suc n)))

-- ---- the tree

module _ (bytes : Bytes) (t : Tree) (is : IsImageOf bytes t) where
  abbrev v : Version
  v = t.version

  abbrev used : ℕ → List ℕ
  used n = used_content v bytes n ++ used_index v bytes n

  length-within : (n : ℕ) (node : Node) → node_at t n ≡ Some node → node_length v node ≤ greatest_length v
  length-within n node at =
      let held = node-held bytes t is n node at in
      let long = held.length_stored in
      let few = held.length_allowed in
      omega (arith, long, few)

  needed : (n : ℕ) (node : Node) → node_at t n ≡ Some node → need v (node_length v node) ≡ length (used n)
  needed n node at = let held = node-held bytes t is n node at in ap (need v) (sym held.length_stored) ∙ need-used v bytes n held.length_allowed

  few_used : length (used_blocks bytes t) ≤ t.blocks
  few_used =
      let count = is.data_blocks in
      distinct-within (used_blocks bytes t) (1 + inode_blocks v t.inodes) t.blocks is.used_once
      (each_weaker (λ k. (inode_blocks v t.inodes < k) × (k < field bytes 8 2)) (λ k. (1 + inode_blocks v t.inodes ≤ k) × (k < 1 + inode_blocks v t.inodes + t.blocks))
      (λ k both. (omega (arith, both.0), omega (arith, both.1, count))) (used_blocks bytes t) is.in_data)

  image-fits : fits t ≡ true
  unfolding fits
  image-fits =
      and_from (nat_le (length (present t.nodes)) t.inodes) (nat_le (sum_by (λ node. need v (node_length v node)) (present t.nodes)) t.blocks)
      (le-leb (length (present t.nodes)) t.inodes (fewer_present t.nodes t.inodes is.well_formed.numbers is.well_formed.no_zero))
      (le-leb (sum_by (λ node. need v (node_length v node)) (present t.nodes)) t.blocks
      (omega (arith, few_used, needs v used 0 t.nodes (λ n node at. needed n node at ∙ ap (λ k. length (used k)) (let e : n ≡ 0 + n = omega arith in e)))))

  image-not_too_long : is_too_long t ≡ false
  unfolding is_too_long
  image-not_too_long = none_longer v t.nodes length-within

  some-named : (n : ℕ) → n ≢ root → (o : Option Node) → node_at t n ≡ o → is_some o ≡ true → among (named_numbers t) n ≡ true
  some-named n other None at there = cc there
  some-named n other (Some node) at there =
      ⊎_elim (λ yes. yes) (λ no. absurd (other (is.each_named n node at (unnamed n (numbered t.nodes) no)))) (cases_Bool (among (named_numbers t) n))

  pub image-first : are_bytes bytes ≡ true → IsFirstTree t
  image-first all = record {
    tree = record {
      well_formed = is.well_formed;
      bytes = λ n node at. node-bytes v bytes n node (node-held bytes t is n node at).has_content all;
    };
    named = record { named = λ n other there. some-named n other (node_at t n) refl there };
    fits = image-fits;
    not_too_long = image-not_too_long;
  }
