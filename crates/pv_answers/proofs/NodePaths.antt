-- The paths of nodes: the directory of the least name is the parent, from which the climb leads to the root.
use Rattle.std.proofs.Common.{◌≡◌, ◌≢◌, ℕ, zero, suc, ◌+◌, ◌-◌, ◌<◌, ◌==◌, ◌||◌, Bool, true, false, cond, List, [], ◌∷◌, ◌++◌, append_assoc, length, map, filter, flat_map, codes, Option, None, Some, is_some, option_map, IsSome, refl, ap, sym, subst, ◌∙◌, arith}
use Rattle.std.specs.Prelude.{IsTrue}
use Rattle.std.proofs.lemmas.Bool.{cases_eq, eq-eqb, ne_eqb}
use Rattle.std.proofs.lemmas.Grind.{flat_map-append}
use Rattle.pv_model.specs.Machine.{first_of, node_path, with_name, Bytes, numbered, quote_byte, Entries, Node, Tree, root, node_at, entries_of, is_directory_at, names_in, names_of, parent, IsWellFormed}
use Rattle.pv_model.specs.Answers.Nodes.{least_name, path_by, path_within}
use Rattle.pv_model.specs.Tree.{first_parent, names_node}
use Rattle.pv_calls_state.proofs.OfLawsTrees.Ancestors.{IsBelow, at_root, one_below, depth-below, entry-reached, reached-below}
use Rattle.pv_calls_state.proofs.OfLawsTrees.TreeChanges.{has_entry-directory}
use Rattle.pv_calls_state.proofs.OfLawsTrees.Trees.{ordered, sound, parent-entry}
use Rattle.pv_answers.specs.Texts.{own_step, path_bytes, path_text}

abbrev Named : Type 0
Named = ℕ × Bytes

abbrev first : Named → ℕ
first name = name.0

-- ---- the directory of the least name is the parent

least-in : (n k : ℕ) (es : Entries) (rest : List Named) → option_map first (first_of (names_in n es k ++ rest)) ≡ cond (names_node n es) (Some k) (option_map first (first_of rest))
least-in n k [] rest = refl
least-in n k (e ∷ es) rest =
    elim (e.1 == n) as (λ b. option_map first (first_of (map (λ (x : Bytes × ℕ). (k, x.0)) (cond b (e ∷ filter (λ (x : Bytes × ℕ). x.1 == n) es) (filter (λ (x : Bytes × ℕ). x.1 == n) es)) ++ rest))
    ≡ cond (b || names_node n es) (Some k) (option_map first (first_of rest))) [
      | true ↦ refl
      | false ↦ least-in n k es rest
    ]

least-of : (n : ℕ) (ds : List (ℕ × Node)) → option_map first (first_of (flat_map (λ (d : ℕ × Node). names_in n (entries_of (Some d.1)) d.0) ds)) ≡ first_parent n ds
least-of n [] = refl
least-of n (d ∷ ds) =
    least-in n d.0 (entries_of (Some d.1)) (flat_map (λ (e : ℕ × Node). names_in n (entries_of (Some e.1)) e.0) ds)
    ∙ ap (cond (names_node n (entries_of (Some d.1))) (Some d.0)) (least-of n ds)

module _ (t : Tree) where
  least-parent : (n : ℕ) → n ≢ root → option_map first (least_name t n) ≡ parent t n
  unfolding parent
  least-parent n other = least-of n (numbered t.nodes) ∙ sym (ap (λ b. cond b (Some root) (first_parent n (numbered t.nodes))) (ne_eqb n root other))

  -- the directory of a node's least name is its parent
  pub above-least : (n d : ℕ) (name : Bytes) → n ≢ root → least_name t n ≡ Some (d, name) → parent t n ≡ Some d
  above-least n d name other is = sym (least-parent n other) ∙ ap (option_map first) is

  named-by : (n d : ℕ) (o : Option Named) → option_map first o ≡ Some d → (name : Bytes) × (o ≡ Some (d, name))
  named-by n d None is = cc is
  named-by n d (Some (e, name)) is = let same : e ≡ d = cc is in (name, ap (λ (k : ℕ). Some (k, name)) same)

  -- a node with a parent has its least name there
  pub least-above : (n d : ℕ) → n ≢ root → parent t n ≡ Some d → (name : Bytes) × (least_name t n ≡ Some (d, name))
  least-above n d other up = named-by n d (least_name t n) (least-parent n other ∙ up)

  unnamed-by : (o : Option Named) → option_map first o ≡ None → o ≡ None
  unnamed-by None is = refl
  unnamed-by (Some name) is = cc is

  pub least-none : (n : ℕ) → n ≢ root → parent t n ≡ None → least_name t n ≡ None
  least-none n other up = unnamed-by (least_name t n) (least-parent n other ∙ up)

  -- ---- a path, one step at a time

  path-root : (k : ℕ) → path_within t (suc k) root ≡ Some []
  path-root k = refl

  path-step : (k n d : ℕ) (name : Bytes) → n ≢ root → least_name t n ≡ Some (d, name) → path_within t (suc k) n ≡ option_map (with_name name) (path_within t k d)
  path-step k n d name other is =
      ap (λ b. cond b (Some []) (path_by (path_within t k) (least_name t n))) (ne_eqb n root other) ∙ ap (path_by (path_within t k)) is

  path-none : (k n : ℕ) → n ≢ root → least_name t n ≡ None → path_within t k n ≡ None
  path-none zero n other is = refl
  path-none (suc k) n other is =
      ap (λ b. cond b (Some []) (path_by (path_within t k) (least_name t n))) (ne_eqb n root other) ∙ ap (path_by (path_within t k)) is

  some-before : (name : Bytes) (o : Option Bytes) → IsSome (option_map (with_name name) o) → IsSome o
  some-before name None is = is
  some-before name (Some path) is = refl

  some-after : (name : Bytes) (o : Option Bytes) → IsSome o → IsSome (option_map (with_name name) o)
  some-after name None is = is
  some-after name (Some path) is = refl

  bytes-after : (name : Bytes) (o : Option Bytes) → IsSome o → path_bytes (option_map (with_name name) o) ≡ path_bytes o ++ flat_map quote_byte (codes "/" ++ name)
  bytes-after name None is = cc is
  bytes-after name (Some path) is = ap (flat_map quote_byte) (append_assoc path (codes "/") name) ∙ flat_map-append quote_byte path (codes "/" ++ name)

  -- the path of a node, and the path of its parent
  pub record IsStep (k n d : ℕ) : Type 0 where
    pub deep : 0 < k
    pub above : IsSome (path_within t (k - 1) d)
    pub bytes : path_bytes (path_within t k n) ≡ path_bytes (path_within t (k - 1) d) ++ flat_map quote_byte (own_step (least_name t n))

  pub step-is : (k n d : ℕ) → n ≢ root → parent t n ≡ Some d → IsSome (path_within t k n) → IsStep k n d
  step-is zero n d other up is = cc is
  step-is (suc k) n d other up is =
      let least = least-above n d other up in
      let path = path-step k n d least.0 other least.1 in
      let less : suc k - 1 ≡ k = omega arith in
      let some : IsSome (path_within t k d) = some-before least.0 (path_within t k d) (subst (λ (o : Option Bytes). IsSome o) path is) in
      record {
        deep = omega arith;
        above = subst (λ j. IsSome (path_within t j d)) (sym less) some;
        bytes =
            ap path_bytes path ∙ bytes-after least.0 (path_within t k d) some
            ∙ ap (λ (o : Option Named). path_bytes (path_within t k d) ++ flat_map quote_byte (own_step o)) (sym least.1)
            ∙ ap (λ j. path_bytes (path_within t j d) ++ flat_map quote_byte (own_step (least_name t n))) (sym less);
      }

  -- a node without a parent has no path, except the root
  pub path-above : (k n : ℕ) → n ≢ root → IsSome (path_within t k n) → parent t n ≢ None
  path-above k n other is up = let none = path-none k n other (least-none n other up) in let both : Bytes → false ≡ true = λ bytes. ap is_some (sym none) ∙ is in cc (both [])

  pub path-least : (k n : ℕ) → n ≢ root → IsSome (path_within t k n) → least_name t n ≢ None
  path-least k n other is least = let none = path-none k n other least in let both : Bytes → false ≡ true = λ bytes. ap is_some (sym none) ∙ is in cc (both [])

  path-below : (n j : ℕ) → IsBelow t n j → (k : ℕ) → j < k → IsSome (path_within t k n)
  path-below _ _ b zero few = absurd (omega arith)
  path-below _ _ at_root (suc k) few = refl
  path-below _ _ (one_below n d j other up below) (suc k) few =
      let least = least-above n d other up in
      subst (λ (o : Option Bytes). IsSome o) (sym (path-step k n d least.0 other least.1)) (some-after least.0 (path_within t k d) (path-below d j below k (omega arith)))

  -- the path of the root is empty
  pub root-bytes : (k n : ℕ) → n ≡ root → IsSome (path_within t k n) → path_bytes (path_within t k n) ≡ []
  root-bytes zero n same is = refl
  root-bytes (suc k) n same is = ap (λ m. path_bytes (path_within t (suc k) m)) same

  text-after : (name : Bytes) (o : Option Bytes) → IsSome o → (34 ∷ []) ++ path_bytes (option_map (with_name name) o) ++ (34 ∷ []) ≡ path_text (option_map (with_name name) o)
  text-after name None is = cc is
  text-after name (Some []) is = refl
  text-after name (Some (b ∷ path)) is = refl

  text-within : (k n : ℕ) → n ≢ root → IsSome (path_within t k n) → (34 ∷ []) ++ path_bytes (path_within t k n) ++ (34 ∷ []) ≡ path_text (path_within t k n)
  text-within zero n other is = cc is
  text-within (suc k) n other is = by (least_name t n) refl
    where
      by : (o : Option Named) → least_name t n ≡ o → (34 ∷ []) ++ path_bytes (path_within t (suc k) n) ++ (34 ∷ []) ≡ path_text (path_within t (suc k) n)
      by None least = absurd (path-least (suc k) n other is least)
      by (Some (d, name)) least =
          let path = path-step k n d name other least in
          let some : IsSome (path_within t k d) = some-before name (path_within t k d) (subst (λ (o : Option Bytes). IsSome o) path is) in
          ap (λ (o : Option Bytes). (34 ∷ []) ++ path_bytes o ++ (34 ∷ [])) path ∙ text-after name (path_within t k d) some ∙ ap path_text (sym path)

  -- the text of a path between its quotation marks
  pub text-is : (n : ℕ) → n ≢ root → IsSome (node_path t n) → (34 ∷ []) ++ path_bytes (node_path t n) ++ (34 ∷ []) ≡ path_text (node_path t n)
  unfolding node_path
  text-is n other is = text-within (length t.nodes) n other is

  pub within-path : (n k : ℕ) → k ≡ length t.nodes → path_within t k n ≡ node_path t n
  unfolding node_path
  within-path n k same = ap (λ j. path_within t j n) same

-- ---- the nodes that have a path

module _ (t : Tree) (w : IsWellFormed t) where
  abbrev s : Rattle.pv_calls_state.specs.OfLawsTrees.Tree.IsSoundTree t
  s = sound t w

  pub named-path : (n d : ℕ) (name : Bytes) → n ≢ root → least_name t n ≡ Some (d, name) → IsSome (node_path t n)
  unfolding node_path
  named-path n d name other is =
      let up = above-least t n d name other is in
      let found = parent-entry t (ordered t w.each_node) n d other up in
      let high = reached-below t s d (entry-reached t s d found.0 n found.1) (has_entry-directory t d found.0 n found.1) in
      let deep = one_below n d high.0 other up high.1 in
      path-below t n (suc high.0) deep (length t.nodes) (depth-below t s n (suc high.0) deep)

  pub root-path : is_some (node_path t root) ≡ true
  unfolding node_path
  root-path = ap (λ k. is_some (path_within t k root)) w.numbers

  by_least : (n : ℕ) → n ≢ root → (o : Option Named) → least_name t n ≡ o → is_some (node_path t n) ≡ is_some o
  unfolding node_path
  by_least n other None is = ap is_some (path-none t (length t.nodes) n other is)
  by_least n other (Some (d, name)) is = named-path n d name other is

  pub root-text : (n : ℕ) → n ≡ root → codes "\"/\"" ≡ path_text (node_path t n)
  unfolding node_path
  root-text n same = sym (ap (λ m. path_text (path_within t (length t.nodes) m)) same ∙ ap (λ k. path_text (path_within t k root)) w.numbers)

  -- exactly the nodes with a name have a path
  pub path-named : (n : ℕ) → n ≢ root → is_some (node_path t n) ≡ is_some (least_name t n)
  path-named n other = by_least n other (least_name t n) refl

  -- an unused number has no name
  pub unused-path : (n : ℕ) → n ≢ root → is_some (node_at t n) ≡ false → is_some (node_path t n) ≡ false
  unused-path n other none = path-named n other ∙ by (least_name t n) refl
    where
      by : (o : Option Named) → least_name t n ≡ o → is_some o ≡ false
      by None is = refl
      by (Some (d, name)) is =
          let found = parent-entry t (ordered t w.each_node) n d other (above-least t n d name other is) in
          let both : true ≡ false = sym (w.entries_are_nodes d found.0 n found.1) ∙ none in cc both

  some-names : (names : List Named) → is_some (first_of names) ≡ Rattle.std.specs.Prelude.nat_lt 0 (length names)
  some-names [] = refl
  some-names (x ∷ names) = sym (Rattle.std.proofs.lemmas.Bool.lt-ltb 0 (length (x ∷ names)) (omega arith))

  pub counted-path : (n : ℕ) → n ≢ root → is_some (node_path t n) ≡ Rattle.std.specs.Prelude.nat_lt 0 (length (names_of t n))
  counted-path n other = path-named n other ∙ some-names (names_of t n)

  pub no-root : (n : ℕ) → is_directory_at t n ≡ false → n ≢ root
  no-root n is same = let both : true ≡ false = sym w.root_is_directory ∙ ap (is_directory_at t) (sym same) ∙ is in cc both

  -- a file or link with a path has it by its least name
  pub file-named : (n : ℕ) → is_directory_at t n ≡ false → is_some (node_path t n) ≡ true → None ≢ least_name t n
  file-named n is path none = let both : true ≡ false = sym path ∙ path-named n (no-root n is) ∙ ap is_some (sym none) in cc both

  -- the path of a file or link, and the path of the directory of its name
  pub record IsFileStep (n d : ℕ) (name : Bytes) (k : ℕ) : Type 0 where
    pub directory : IsTrue (is_directory_at t d)
    pub above : IsSome (path_within t (k - 1) d)
    pub bytes : path_bytes (path_within t (k - 1) d) ++ flat_map quote_byte (codes "/" ++ name) ≡ path_bytes (node_path t n)

  pub file-step : (n d : ℕ) (name : Bytes) (k : ℕ) → k ≡ length t.nodes → is_directory_at t n ≡ false → is_some (node_path t n) ≡ true → least_name t n ≡ Some (d, name)
      → IsFileStep n d name k
  file-step n d name k many is path least =
      let other = no-root n is in
      let up = above-least t n d name other least in
      let found = parent-entry t (ordered t w.each_node) n d other up in
      let within = within-path t n k many in
      let step = step-is t k n d other up (subst (λ (o : Option Bytes). IsSome o) (sym within) path) in
      record {
        directory = has_entry-directory t d found.0 n found.1;
        above = step.above;
        bytes =
            sym (ap (λ (o : Option Named). path_bytes (path_within t (k - 1) d) ++ flat_map quote_byte (own_step o)) least) ∙ sym step.bytes ∙ ap path_bytes within;
      }

-- the nodes of a tree are numbered from 0 to the number of its inodes
pub node-count : (t : Tree) (inodes : ℕ) → IsWellFormed t → inodes ≡ t.inodes → inodes + 1 ≡ length t.nodes
node-count t inodes w is = omega (arith, is, w.numbers)

pub unused-by : (t : Tree) (n : ℕ) (used : Bool) → used ≡ false → (IsSome (node_at t n) → IsTrue used) → is_some (node_at t n) ≡ false
unused-by t n used is holds = by (is_some (node_at t n)) refl
  where
    by : (b : Bool) → is_some (node_at t n) ≡ b → b ≡ false
    by true some = let both : true ≡ false = sym (holds some) ∙ is in cc both
    by false none = refl
