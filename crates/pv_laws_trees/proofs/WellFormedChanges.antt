-- Changes that keep a tree well-formed.
use Rattle.std.proofs.Common.{◌≡◌, ◌≢◌, ℕ, suc, ◌<◌, ◌≤◌, true, false, [], ◌∷◌, drop, length, Option, None, Some, is_some, refl, ap, ap₂, sym, subst, ◌∙◌, arith, inl, inr, ◌⊎◌, ⊎_elim}
use Rattle.std.specs.FinMap.Entries.{find}
use Rattle.std.proofs.lemmas.Bool.{cases_eq}
use Rattle.pv_model.specs.Machine.{Bytes, with_content, with_content_of, contains_directory, entries_there, Numbered, at_number, least_free, Node, directory_node, file_node, link_node, Tree, root, node_at, entries_of, entries_at, is_directory, is_directory_at, find_entry, parent, with_node, new_number, with_new_node, with_entry, without_entry, is_name, is_node, IsReached, from_root, by_entry, IsWellFormed}
use Rattle.pv_laws_trees.specs.Tree.{IsSoundTree, Appears}
use Rattle.pv_laws_trees.proofs.Ancestors.{appears-reached, entry-reached, ReachedWithout, root_without, entry_without, not_contained}
use Rattle.pv_laws_trees.proofs.TreeChanges.{SameShape, shape-along, shape-with_entry, shape-without_entry, node_at-same, node_at-other, directory-below, has_entry-directory, entries-other, found-with, with_entry-cases, with_entry-stays, without_entry-was, without_entry-stays}
use Rattle.pv_laws_trees.proofs.DirectoryEntries.{by_name}
use Rattle.pv_laws_trees.proofs.NumberedMaps.{at_number-below, length-with_number, least_free-free}
use Rattle.pv_laws_trees.proofs.Trees.{ordered, sound, well_formed, parent-entry, parent-none_named}
use Rattle.pv_laws_trees.proofs.Collection.{reached-along}

not_some : (o : Option Node) → o ≡ None → is_some o ≡ true → ⊥
not_some o none is = let said = ap is_some none in cc

-- there is no entry among no entries
no_entry : {P : Type 0} (t : Tree) (d : ℕ) (name : Bytes) (n : ℕ) → entries_at t d ≡ [] → find_entry t d name ≡ Some n → P
no_entry t d name n empty found = let none : find_entry t d name ≡ None = ap (λ es. find by_name name es) empty in cc

-- ---- a node replaced by one without entries

-- if the node's entries stay, all entries stay
pub same_entries : (t : Tree) (m : ℕ) (node : Node) → m < length t.nodes → entries_of (Some node) ≡ entries_at t m → (d : ℕ) → entries_at (with_node t m node) d ≡ entries_at t d
same_entries t m node below same d =
    ⊎_elim (λ here. ap (entries_at (with_node t m node)) here ∙ ap entries_of (node_at-same t m node below) ∙ same ∙ ap (entries_at t) (sym here))
    (λ away. entries-other t m node d below away) (cases_eq d m)

-- a node with the same entries, which is a directory only if it was one or has no name
pub sound-with_node : (t : Tree) → IsSoundTree t → (m : ℕ) (node : Node) → m ≢ 0 → m < length t.nodes → is_node t.version node ≡ true
    → entries_of (Some node) ≡ entries_at t m
    → (is_directory_at t m ≡ true → is_directory (Some node) ≡ true)
    → (is_directory (Some node) ≡ true → (is_directory_at t m ≡ true) ⊎ (node_at t m ≡ None))
    → (is_directory (Some node) ≡ true → entries_of (Some node) ≡ [])
    → IsSoundTree (with_node t m node)
sound-with_node t s m node positive below good same stays was empty =
    let u : Tree = with_node t m node in
    let es = same_entries t m node below same in
    let here : node_at u m ≡ Some node = node_at-same t m node below in
    let finds : (d : ℕ) (name : Bytes) → find_entry u d name ≡ find_entry t d name = λ d name. ap (λ es. find by_name name es) (es d) in
    let back : (d : ℕ) (name : Bytes) (n : ℕ) → find_entry u d name ≡ Some n → find_entry t d name ≡ Some n = λ d name n found. sym (finds d name) ∙ found in
    let is_here : (n : ℕ) → n ≡ m → node_at u n ≡ Some node = λ n same. ap (node_at u) same ∙ here in
    record {
      numbers = length-with_number t.nodes m node below ∙ s.numbers;
      no_zero = λ n x at. ⊎_elim (λ same zero. positive (sym same ∙ zero)) (λ other. s.no_zero n x (sym (node_at-other t m node n below other) ∙ at)) (cases_eq n m);
      each_node = λ n x at. ⊎_elim
          (λ same. let eq : node ≡ x = cc (sym (is_here n same) ∙ at) in ap (is_node t.version) (sym eq) ∙ good)
          (λ other. s.each_node n x (sym (node_at-other t m node n below other) ∙ at)) (cases_eq n m);
      root_is_directory = ⊎_elim
          (λ same. ap is_directory (is_here root same) ∙ stays (ap (is_directory_at t) (sym same) ∙ s.root_is_directory))
          (λ other. ap is_directory (node_at-other t m node root below other) ∙ s.root_is_directory) (cases_eq root m);
      root_is_unnamed = λ d name n found. s.root_is_unnamed d name n (back d name n found);
      entries_are_nodes = λ d name n found. ⊎_elim
          (λ same. ap is_some (is_here n same))
          (λ other. ap is_some (node_at-other t m node n below other) ∙ s.entries_are_nodes d name n (back d name n found)) (cases_eq n m);
      directories_once = λ n is d name e other a b. ⊎_elim
          (λ same. ⊎_elim
          (λ dir. s.directories_once n (ap (is_directory_at t) same ∙ dir) d name e other (back d name n a) (back e other n b))
          (λ none. absurd (not_some (node_at t n) (ap (node_at t) same ∙ none) (s.entries_are_nodes d name n (back d name n a))))
          (was (sym (ap is_directory (is_here n same)) ∙ is)))
          (λ away. s.directories_once n (sym (ap is_directory (node_at-other t m node n below away)) ∙ is) d name e other (back d name n a) (back e other n b)) (cases_eq n m);
      named_are_reached = λ d name n found. reached-along t u (λ e q x is. finds e q ∙ is) n (s.named_are_reached d name n (back d name n found));
      removed_are_empty = λ d is other none. ⊎_elim
          (λ same. ap entries_of (is_here d same) ∙ empty (sym (ap is_directory (is_here d same)) ∙ is))
          (λ away. es d ∙ s.removed_are_empty d (sym (ap is_directory (node_at-other t m node d below away)) ∙ is) other (λ e name found. none e name (finds e name ∙ found))) (cases_eq d m);
    }

-- the bytes of a file may change
content_of : (t : Tree) → IsSoundTree t → (f : ℕ) (bytes : Bytes) (o : Option Node) → node_at t f ≡ o → IsSoundTree (with_content_of t f o bytes)
content_of t s f bytes None at = s
content_of t s f bytes (Some (directory_node es)) at = s
content_of t s f bytes (Some (link_node text)) at = s
content_of t s f bytes (Some (file_node executable old)) at =
    sound-with_node t s f (file_node executable bytes) (s.no_zero f (file_node executable old) at) (at_number-below t.nodes f (file_node executable old) at) refl
    (sym (ap entries_of at)) (λ is. let isnt = ap is_directory at in cc) (λ is. cc) (λ is. cc)

pub sound-content : (t : Tree) → IsSoundTree t → (f : ℕ) (bytes : Bytes) → IsSoundTree (with_content t f bytes)
sound-content t s f bytes = content_of t s f bytes (node_at t f) refl

-- ---- one more entry

pub shape-no_zero : (t u : Tree) → IsSoundTree t → SameShape t u → (m : ℕ) (node : Node) → node_at u m ≡ Some node → m ≢ 0
shape-no_zero t u s shape m node at none = by (node_at t m) refl (sym (shape.there m) ∙ ap is_some at)
  where
    by : (o : Option Node) → node_at t m ≡ o → is_some o ≡ true → ⊥
    by None is there = cc
    by (Some x) is there = s.no_zero m x is none

-- a directory that is reached, other than the root, has a name
pub reached-named : (t : Tree) (d : ℕ) → d ≢ root → IsReached t d → (e : ℕ) × (q : Bytes) × (find_entry t e q ≡ Some d)
reached-named t _ below from_root = absurd (below refl)
reached-named t _ below (by_entry d name n above found) = (d, name, found)

pub sound-with_entry : (t : Tree) → IsSoundTree t → (d : ℕ) (name : Bytes) (n : ℕ) → is_directory_at t d ≡ true → IsReached t d → find_entry t d name ≡ None → is_name t.version name ≡ true
    → is_some (node_at t n) ≡ true → n ≢ root → (is_directory_at t n ≡ true → (e : ℕ) (q : Bytes) → find_entry t e q ≢ Some n) → IsSoundTree (with_entry t d name n)
sound-with_entry t s d name n is reached free good there other unnamed =
    let u : Tree = with_entry t d name n in
    let shape = shape-with_entry t d name n is s.each_node good in
    let stay : (e : ℕ) (q : Bytes) (m : ℕ) → find_entry t e q ≡ Some m → find_entry u e q ≡ Some m =
    λ e q m found. with_entry-stays t d name is n e q m found (λ here same. let none = ap₂ (find_entry t) here same ∙ free in cc) in
    let parts = with_entry-cases t d name is n in
    let up : (x : ℕ) → IsReached t x → IsReached u x = reached-along t u stay in
    record {
      numbers = shape.numbers ∙ s.numbers;
      no_zero = shape-no_zero t u s shape;
      each_node = shape.each_node;
      root_is_directory = shape.directory root ∙ s.root_is_directory;
      root_is_unnamed = λ e q m found. ⊎_elim (λ new top. other (sym new.2 ∙ top)) (λ old. s.root_is_unnamed e q m old.1) (parts e q m found);
      entries_are_nodes = λ e q m found. shape.there m ∙ ⊎_elim (λ new. ap (λ k. is_some (node_at t k)) new.2 ∙ there) (λ old. s.entries_are_nodes e q m old.1) (parts e q m found);
      directories_once = λ m dir a p b q first second.
          let was : is_directory_at t m ≡ true = sym (shape.directory m) ∙ dir in
          ⊎_elim
          (λ new. ⊎_elim (λ too. (new.0 ∙ sym too.0, new.1 ∙ sym too.1))
          (λ old. absurd (unnamed (ap (is_directory_at t) (sym new.2) ∙ was) b q (old.1 ∙ ap Some new.2))) (parts b q m second))
          (λ old. ⊎_elim (λ new. absurd (unnamed (ap (is_directory_at t) (sym new.2) ∙ was) a p (old.1 ∙ ap Some new.2)))
          (λ too. s.directories_once m was a p b q old.1 too.1) (parts b q m second))
          (parts a p m first);
      named_are_reached = λ e q m found. ⊎_elim
          (λ new. subst (IsReached u) (sym new.2) (by_entry d name n (up d reached) (found-with t d name is n)))
          (λ old. up m (s.named_are_reached e q m old.1)) (parts e q m found);
      removed_are_empty = λ x dir below none.
          let away : x ≢ d = λ same. let top = reached-named t d (λ r. below (same ∙ r)) reached in none top.0 top.1 (stay top.0 top.1 x (top.2 ∙ ap Some (sym same))) in
          entries-other t d (directory_node _) x (directory-below t d is) away
          ∙ s.removed_are_empty x (sym (shape.directory x) ∙ dir) below (λ e q found. none e q (stay e q x found));
    }

-- ---- one entry less

-- a node with entries is still reached after the removal of an entry whose node has none
still : (t : Tree) → IsSoundTree t → (d : ℕ) (name : Bytes) (n : ℕ) → find_entry t d name ≡ Some n → entries_at t n ≡ []
    → ((e : ℕ) (q : Bytes) (m : ℕ) → find_entry t e q ≡ Some m → ((e ≡ d) → (q ≡ name) → ⊥) → find_entry (without_entry t d name) e q ≡ Some m)
    → (x : ℕ) → IsReached t x → (q : Bytes) (m : ℕ) → find_entry t x q ≡ Some m → IsReached (without_entry t d name) x
still t s d name n found empty stays _ from_root q m has = from_root
still t s d name n found empty stays _ (by_entry e p x above is) q m has =
    by_entry e p x (still t s d name n found empty stays e above p x is)
    (stays e p x is (λ here same. let value : Some n ≡ Some x = sym found ∙ ap₂ (find_entry t) (sym here) (sym same) ∙ is in let eq : n ≡ x = cc value in
    no_entry t x q m (ap (entries_at t) (sym eq) ∙ empty) has))

pub sound-without_entry : (t : Tree) → IsSoundTree t → (d : ℕ) (name : Bytes) (n : ℕ) → find_entry t d name ≡ Some n → entries_at t n ≡ [] → IsSoundTree (without_entry t d name)
sound-without_entry t s d name n found empty =
    let is = has_entry-directory t d name n found in
    let u : Tree = without_entry t d name in
    let shape = shape-without_entry t d name is s.each_node in
    let was = without_entry-was t d name is in
    let apart : d ≢ n = λ same. no_entry t d name n (ap (entries_at t) same ∙ empty) found in
    let up : (x : ℕ) → IsReached t x → (q : Bytes) (m : ℕ) → find_entry t x q ≡ Some m → IsReached u x =
    still t s d name n found empty (λ e q m has other. without_entry-stays t d name is e q m has other) in
    record {
      numbers = shape.numbers ∙ s.numbers;
      no_zero = shape-no_zero t u s shape;
      each_node = shape.each_node;
      root_is_directory = shape.directory root ∙ s.root_is_directory;
      root_is_unnamed = λ e q m has. s.root_is_unnamed e q m (was e q m has).1;
      entries_are_nodes = λ e q m has. shape.there m ∙ s.entries_are_nodes e q m (was e q m has).1;
      directories_once = λ m dir a p b q first second. s.directories_once m (sym (shape.directory m) ∙ dir) a p b q (was a p m first).1 (was b q m second).1;
      named_are_reached = λ e q m has. by_entry e q m (up e (entry-reached t s e q m (was e q m has).1) q m (was e q m has).1) has;
      removed_are_empty = λ x dir below none. ⊎_elim
          (λ same. let away : x ≢ d = λ here. apart (sym here ∙ same) in entries-other t d (directory_node _) x (directory-below t d is) away ∙ ap (entries_at t) same ∙ empty)
          (λ other.
          let none_before : (e : ℕ) (q : Bytes) → find_entry t e q ≢ Some x = λ e q has.
          none e q (without_entry-stays t d name is e q x has (λ here as_named. let value : Some n ≡ Some x = sym found ∙ ap₂ (find_entry t) (sym here) (sym as_named) ∙ has in let same : n ≡ x = cc value in other (sym same))) in
          let bare = s.removed_are_empty x (sym (shape.directory x) ∙ dir) below none_before in
          let away : x ≢ d = λ here. no_entry t d name n (ap (entries_at t) (sym here) ∙ bare) found in
          entries-other t d (directory_node _) x (directory-below t d is) away ∙ bare)
          (cases_eq x n);
    }

-- ---- a rename

module _ (t : Tree) (s : IsSoundTree t) (d : ℕ) (name : Bytes) (e : ℕ) (new : Bytes) (n : ℕ)
    (found : find_entry t d name ≡ Some n) (is : is_directory_at t e ≡ true) (good : is_name t.version new ≡ true)
    (without : ReachedWithout t n e) (another : find_entry t e new ≢ Some n) (empty : (m : ℕ) → find_entry t e new ≡ Some m → entries_at t m ≡ []) where
  abbrev between : Tree
  between = without_entry t d name

  abbrev moved : Tree
  moved = with_entry between e new n

  from : is_directory_at t d ≡ true
  from = has_entry-directory t d name n found

  shape_between : SameShape t between
  shape_between = shape-without_entry t d name from s.each_node

  into : is_directory_at between e ≡ true
  into = shape_between.directory e ∙ is

  shape_moved : SameShape t moved
  shape_moved =
      shape-along t between moved shape_between
      (shape-with_entry between e new n into shape_between.each_node (ap (λ v. is_name v new) shape_between.version ∙ good))

  -- each entry is the new one, or existed before under a third name
  parts : (a : ℕ) (q : Bytes) (m : ℕ) → find_entry moved a q ≡ Some m
      → ((a ≡ e) × (q ≡ new) × (m ≡ n)) ⊎ (((a ≡ d) → (q ≡ name) → ⊥) × (find_entry t a q ≡ Some m))
  parts a q m has = ⊎_elim (λ at_new. inl at_new) (λ old. inr (without_entry-was t d name from a q m old.1)) (with_entry-cases between e new into n a q m has)

  stays : (a : ℕ) (q : Bytes) (m : ℕ) → find_entry t a q ≡ Some m → ((a ≡ d) → (q ≡ name) → ⊥) → ((a ≡ e) → (q ≡ new) → ⊥) → find_entry moved a q ≡ Some m
  stays a q m has other beside = with_entry-stays between e new into n a q m (without_entry-stays t d name from a q m has other) beside

  -- the removed entry names n
  for_n : (a : ℕ) (q : Bytes) (x : ℕ) → find_entry t a q ≡ Some x → a ≡ d → q ≡ name → x ≡ n
  for_n a q x has here same = let value : Some n ≡ Some x = sym found ∙ ap₂ (find_entry t) (sym here) (sym same) ∙ has in cc value

  -- the previous node of the new name has no entries
  bare : (a : ℕ) (q : Bytes) (x : ℕ) → find_entry t a q ≡ Some x → a ≡ e → q ≡ new → entries_at t x ≡ []
  bare a q x has here same = empty x (ap₂ (find_entry t) (sym here) (sym same) ∙ has)

  -- the path to e avoids n
  to_e : (x : ℕ) → ReachedWithout t n x → (x ≡ e) ⊎ ((q : Bytes) × (m : ℕ) × (find_entry t x q ≡ Some m)) → IsReached moved x
  to_e _ (root_without other) why = from_root
  to_e _ (entry_without a q x above has other) why =
      by_entry a q x (to_e a above (inr (q, x, has)))
      (stays a q x has (λ here same. other (for_n a q x has here same))
      (λ here same.
      let none = bare a q x has here same in
      ⊎_elim (λ top. no_entry t x new x none (ap₂ (find_entry t) (top ∙ sym here) (sym same) ∙ has)) (λ more. no_entry t x more.0 more.1 none more.2) why))

  pub reached_e : IsReached moved e
  reached_e = to_e e without (inl refl)

  reached_n : IsReached moved n
  reached_n = by_entry e new n reached_e (found-with between e new into n)

  to_all : (x : ℕ) → IsReached t x → (p : Bytes) (m : ℕ) → find_entry t x p ≡ Some m → IsReached moved x
  to_all _ from_root p m more = from_root
  to_all _ (by_entry a q x above has) p m more =
      ⊎_elim
      (λ same. subst (IsReached moved) (sym same) reached_n)
      (λ other. by_entry a q x (to_all a above q x has)
      (stays a q x has (λ here same. other (for_n a q x has here same)) (λ here same. no_entry t x p m (bare a q x has here same) more)))
      (cases_eq x n)

  pub sound-moved : IsSoundTree moved
  sound-moved = record {
    numbers = shape_moved.numbers ∙ s.numbers;
    no_zero = shape-no_zero t moved s shape_moved;
    each_node = shape_moved.each_node;
    root_is_directory = shape_moved.directory root ∙ s.root_is_directory;
    root_is_unnamed = λ a q m has. ⊎_elim (λ new top. s.root_is_unnamed d name n found (sym new.2 ∙ top)) (λ old. s.root_is_unnamed a q m old.1) (parts a q m has);
    entries_are_nodes = λ a q m has. shape_moved.there m
        ∙ ⊎_elim (λ new. ap (λ k. is_some (node_at t k)) new.2 ∙ s.entries_are_nodes d name n found) (λ old. s.entries_are_nodes a q m old.1) (parts a q m has);
    directories_once = λ m dir a p b q first second.
        let was : is_directory_at t m ≡ true = sym (shape_moved.directory m) ∙ dir in
        let clash : (c : ℕ) (r : Bytes) → m ≡ n → ((c ≡ d) → (r ≡ name) → ⊥) → find_entry t c r ≡ Some m → ⊥ = λ c r same other has.
        let once = s.directories_once m was c r d name has (found ∙ ap Some (sym same)) in other once.0 once.1 in
        ⊎_elim
        (λ new. ⊎_elim (λ too. (new.0 ∙ sym too.0, new.1 ∙ sym too.1)) (λ old. absurd (clash b q new.2 old.0 old.1)) (parts b q m second))
        (λ old. ⊎_elim (λ new. absurd (clash a p new.2 old.0 old.1)) (λ too. s.directories_once m was a p b q old.1 too.1) (parts b q m second))
        (parts a p m first);
    named_are_reached = λ a q m has. ⊎_elim
        (λ new. subst (IsReached moved) (sym new.2) reached_n)
        (λ old. by_entry a q m (to_all a (entry-reached t s a q m old.1) q m old.1) has)
        (parts a q m has);
    removed_are_empty = λ x dir below none.
        let apart : x ≢ n = λ same. none e new (found-with between e new into n ∙ ap Some (sym same)) in
        let away_e : x ≢ e = λ same. let top = reached-named moved e (λ r. below (same ∙ r)) reached_e in none top.0 top.1 (top.2 ∙ ap Some (sym same)) in
        let is_bare : entries_at t x ≡ [] = by_parent x (sym (shape_moved.directory x) ∙ dir) below apart none (parent t x) refl in
        let away_d : x ≢ d = λ same. no_entry t d name n (ap (entries_at t) (sym same) ∙ is_bare) found in
        entries-other between e (directory_node _) x (directory-below between e into) away_e
        ∙ entries-other t d (directory_node _) x (directory-below t d from) away_d ∙ is_bare;
  }
    where
      by_parent : (x : ℕ) → is_directory_at t x ≡ true → x ≢ root → x ≢ n → ((a : ℕ) (q : Bytes) → find_entry moved a q ≢ Some x) → (o : Option ℕ) → parent t x ≡ o → entries_at t x ≡ []
      by_parent x dir below apart none None up = s.removed_are_empty x dir below (parent-none_named t x up).1
      by_parent x dir below apart none (Some a) up =
          let entry = parent-entry t (ordered t s.each_node) x a below up in
          ⊎_elim
          (λ here. ⊎_elim (λ same. bare a entry.0 x entry.1 here same)
          (λ other. absurd (none a entry.0 (stays a entry.0 x entry.1 (λ h k. apart (for_n a entry.0 x entry.1 h k)) (λ _ k. other k)))) (Rattle.pv_laws_trees.proofs.TreeChanges.cases_name entry.0 new))
          (λ away. absurd (none a entry.0 (stays a entry.0 x entry.1 (λ h k. apart (for_n a entry.0 x entry.1 h k)) (λ h _. away h)))) (cases_eq a e)

-- ---- a new node

at_drop : {X : Type 0} (xs : Numbered X) (k : ℕ) → at_number xs (suc k) ≡ at_number (drop 1 xs) k
at_drop [] k = refl
at_drop (x ∷ xs) k = refl

pub new_number-free : (t : Tree) → node_at t (new_number t) ≡ None
new_number-free t = at_drop t.nodes (least_free (drop 1 t.nodes)) ∙ least_free-free (drop 1 t.nodes)

pub sound-with_new_node : (t : Tree) → IsSoundTree t → (d : ℕ) (name : Bytes) (node : Node) → is_directory_at t d ≡ true → IsReached t d → find_entry t d name ≡ None → is_name t.version name ≡ true
    → is_node t.version node ≡ true → entries_of (Some node) ≡ [] → new_number t < length t.nodes → IsSoundTree (with_new_node t d name node)
sound-with_new_node t s d name node is reached none good fine empty below =
    let m = new_number t in
    let free : node_at t m ≡ None = new_number-free t in
    let bare : entries_at t m ≡ [] = ap entries_of free in
    let t1 : Tree = with_node t m node in
    let s1 : IsSoundTree t1 = sound-with_node t s m node (λ same. absurd (omega arith)) below fine (empty ∙ sym bare)
    (λ dir. let isnt = ap is_directory free in cc) (λ _. inr free) (λ _. empty) in
    let apart : d ≢ m = λ same. let isnt : is_directory_at t d ≡ false = ap (is_directory_at t) same ∙ ap is_directory free in cc in
    let same : (e : ℕ) (q : Bytes) → find_entry t1 e q ≡ find_entry t e q = λ e q. ap (λ es. find by_name q es) (same_entries t m node below (empty ∙ sym bare) e) in
    sound-with_entry t1 s1 d name m (ap is_directory (node_at-other t m node d below apart) ∙ is) (reached-along t t1 (λ e q x has. same e q ∙ has) d reached) (same d name ∙ none) good
    (ap is_some (node_at-same t m node below))
    (λ top. let isnt : is_directory_at t root ≡ false = ap (is_directory_at t) (sym top) ∙ ap is_directory free in let dir = s.root_is_directory in cc)
    (λ _ e q has. not_some (node_at t m) free (s.entries_are_nodes e q m (sym (same e q) ∙ has)))

-- ---- well-formed trees

pub stays-content : (t : Tree) → IsWellFormed t → (f : ℕ) (bytes : Bytes) → IsWellFormed (with_content t f bytes)
stays-content t w f bytes = well_formed (with_content t f bytes) (sound-content t (sound t w) f bytes)

pub stays-new_node : (t : Tree) → IsWellFormed t → (d : ℕ) (name : Bytes) (node : Node) → Appears t d → find_entry t d name ≡ None → is_name t.version name ≡ true
    → is_node t.version node ≡ true → entries_of (Some node) ≡ [] → new_number t ≤ t.inodes → IsWellFormed (with_new_node t d name node)
stays-new_node t w d name node appears none good fine empty within =
    let s = sound t w in
    well_formed (with_new_node t d name node)
    (sound-with_new_node t s d name node appears.0 (appears-reached t s d appears.1) none good fine empty (omega (arith, s.numbers)))

pub stays-with_entry : (t : Tree) → IsWellFormed t → (d : ℕ) (name : Bytes) (n : ℕ) → Appears t d → find_entry t d name ≡ None → is_name t.version name ≡ true
    → is_some (node_at t n) ≡ true → is_directory_at t n ≡ false → IsWellFormed (with_entry t d name n)
stays-with_entry t w d name n appears none good there plain =
    let s = sound t w in
    well_formed (with_entry t d name n)
    (sound-with_entry t s d name n appears.0 (appears-reached t s d appears.1) none good there
    (λ top. let dir = s.root_is_directory in let isnt : is_directory_at t root ≡ false = ap (is_directory_at t) (sym top) ∙ plain in cc)
    (λ dir. cc))

pub stays-without_entry : (t : Tree) → IsWellFormed t → (d : ℕ) (name : Bytes) (n : ℕ) → find_entry t d name ≡ Some n → entries_at t n ≡ [] → IsWellFormed (without_entry t d name)
stays-without_entry t w d name n found empty = well_formed (without_entry t d name) (sound-without_entry t (sound t w) d name n found empty)

pub stays-renamed : (t : Tree) → IsWellFormed t → (d : ℕ) (name : Bytes) (e : ℕ) (new : Bytes) (n : ℕ) → find_entry t d name ≡ Some n → Appears t e → is_name t.version new ≡ true
    → contains_directory t n e ≡ false → find_entry t e new ≢ Some n → entries_there t (find_entry t e new) ≡ [] → IsWellFormed (with_entry (without_entry t d name) e new n)
stays-renamed t w d name e new n found appears good clear another empty =
    let s = sound t w in
    well_formed (with_entry (without_entry t d name) e new n)
    (sound-moved t s d name e new n found appears.0 good (not_contained t s n e appears.0 appears.1 clear) another (λ m has. ap (entries_there t) (sym has) ∙ empty))
