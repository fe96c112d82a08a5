-- The effect of moving an entry.
use Rattle.std.proofs.Common.{◌≡◌, ◌≢◌, ℕ, suc, ◌+◌, ◌-◌, ◌<◌, ◌≤◌, true, false, cond, List, [], length, Option, None, Some, is_some, Result, Ok, Err, refl, ap, ap₂, sym, subst, ◌∙◌, arith, ⊎_elim}
use Rattle.std.specs.Prelude.{slice_index, slice_set, OnOk, IfErr, IfSome, IfNone}
use Rattle.std.specs.FinMap.Entries.{put, where_key, is_sorted, length-put}
use Rattle.std.proofs.lemmas.Bool.{cases_eq}
use Rattle.std.proofs.lemmas.Cmp.{nat_list_cmp_total}
use Rattle.std.proofs.lemmas.List.{length-set}
use Rattle.pv_dirs.specs.OfInodes.declared.space.Space.{Space}
use Rattle.pv_model.specs.Machine.{Bytes, contains_directory, entries_there, entry_length, fits, Entries, Node, directory_node, file_node, link_node, Tree, node_at, entries_of, entries_at, is_directory, is_directory_at, find_entry, parent, with_node, with_entry, without_entry, is_name, is_node, IsWellFormed}
use Rattle.pv_laws_trees.specs.Room.{IsNoLonger, IsNoLarger}
use Rattle.pv_laws_trees.specs.Encoded.{are_bytes, AllBytes}
use Rattle.pv_laws_trees.specs.Tree.{IsSoundTree, Appears}
use Rattle.pv_laws_trees.proofs.Ancestors.{not_contained}
use Rattle.pv_laws_trees.proofs.TreeChanges.{SameShape, shape-along, shape-with_entry, shape-without_entry, directory-below, node_at-same, node_at-other, has_entry-directory, entries-with_node, entries-good, found-with, found-without, with_entry-cases, with_entry-stays, without_entry-was, without_entry-stays}
use Rattle.pv_laws_trees.proofs.WellFormedChanges.{sound-moved}
use Rattle.pv_laws_trees.proofs.DirectoryEntries.{by_name, is_other, find-list_all, report}
use Rattle.pv_laws_trees.proofs.NodeRoom.{no_larger-without}
use Rattle.pv_laws_trees.proofs.TreeBytes.{bytes-with_entry, bytes-without_entry}
use Rattle.pv_laws_trees.proofs.Trees.{ordered, sound, entry-parent, parent-unnamed}
use Rattle.pv_tree.specs.Changes.{moved, moved_node, without_if_unreferenced}
use Rattle.pv_tree.specs.Holding.{collected}
use Rattle.pv_tree.specs.Rooms.{room_error}
use Rattle.pv_tree.specs.Present.{stored, IsShaped, HasTreeCounts, IsTied}
use Rattle.pv_tree.proofs.CarriedData.{carried}
use Rattle.pv_tree.proofs.CollectionCounts.{below, read-same, read-other, preserved-more, without_if_unreferenced-is}
use Rattle.pv_tree.proofs.DirectoryEntries.{one_if, put_back, put_over, none_taken}
use Rattle.pv_tree.proofs.CollectedNodes.{is_preserved, collected-all, all-preserved}
use Rattle.pv_tree.proofs.LinkCounts.{one_if-same, one_if-other}
use Rattle.pv_tree.proofs.NodeCreation.{with_node-twice, filled}
use Rattle.pv_laws_trees.proofs.NameCounts.{name_count}
use Rattle.pv_laws_trees.proofs.ListTests.{not-there}
use Rattle.pv_tree.proofs.NameCounts.{names-with_entry, names-without_entry}
use Rattle.pv_tree.proofs.ParentChanges.{parent-same}
use Rattle.pv_tree.proofs.RoomForEntries.{room_error-none, room_error-fits, no_longer, no_longer-self, smaller-allowed}

-- ---- entries that are removed and restored

directory-node : (t : Tree) (d : ℕ) → is_directory_at t d ≡ true → node_at t d ≡ Some (directory_node (entries_at t d))
directory-node t d is = by (node_at t d) refl is
  where
    by : (o : Option Node) → node_at t d ≡ o → is_directory o ≡ true → o ≡ Some (directory_node (entries_of o))
    by None at is = cc
    by (Some (directory_node es)) at is = refl
    by (Some (file_node executable bytes)) at is = cc
    by (Some (link_node text)) at is = cc

module _ (t : Tree) (d : ℕ) (name : Bytes) (is : is_directory_at t d ≡ true) (sorted : is_sorted by_name (entries_at t d) ≡ true) where
  abbrev less : Entries
  less = where_key by_name (is_other name) (entries_at t d)

  entered : (n : ℕ) → with_entry (without_entry t d name) d name n ≡ with_node t d (directory_node (put by_name name n less))
  entered n =
      ap (λ es. with_node (without_entry t d name) d (directory_node (put by_name name n es))) (entries-with_node t d less (directory-below t d is))
      ∙ with_node-twice t d (directory_node less) (directory_node (put by_name name n less)) (directory-below t d is)

  -- an entry that is restored
  pub entered-back : (n : ℕ) → find_entry t d name ≡ Some n → with_entry (without_entry t d name) d name n ≡ t
  entered-back n found =
      entered n ∙ ap (λ es. with_node t d (directory_node es)) (put_back name n (entries_at t d) sorted found)
      ∙ sym (filled t d (directory_node (entries_at t d)) (directory-node t d is))

  -- an entry that replaces another
  pub entered-over : (n : ℕ) → with_entry (without_entry t d name) d name n ≡ with_entry t d name n
  entered-over n = entered n ∙ ap (λ es. with_node t d (directory_node es)) (put_over name n (entries_at t d) sorted)

  -- no entry is removed if none has the name
  pub without-nothing : find_entry t d name ≡ None → without_entry t d name ≡ t
  without-nothing none =
      ap (λ es. with_node t d (directory_node es)) (none_taken name (entries_at t d) sorted none)
      ∙ sym (filled t d (directory_node (entries_at t d)) (directory-node t d is))

-- ---- room

abbrev pub GoodNodes : Tree → Type 0
GoodNodes t = (n : ℕ) (node : Node) → node_at t n ≡ Some node → is_node t.version node ≡ true

pub shaped-less : (t : Tree) → IsShaped t → GoodNodes t → (d : ℕ) (name : Bytes) → is_directory_at t d ≡ true → IsShaped (without_entry t d name)
shaped-less t s each d name is =
    let shape = shape-without_entry t d name is each in
    record {
      numbers = shape.numbers ∙ s.numbers;
      no_zero = not-there (node_at (without_entry t d name) 0) (shape.there 0 ∙ ap is_some s.no_zero);
      ordered = ordered (without_entry t d name) shape.each_node;
      short = no_longer t (without_entry t d name) (no_larger-without t d name is) s.short;
    }

-- replacing an entry needs no more room
module _ (t : Tree) (d : ℕ) (name : Bytes) (n m : ℕ) (is : is_directory_at t d ≡ true) (sorted : is_sorted by_name (entries_at t d) ≡ true) (found : find_entry t d name ≡ Some m) where
  abbrev over : Entries
  over = put by_name name n (entries_at t d)

  same-length : length over ≡ length (entries_at t d)
  same-length = length-put by_name nat_list_cmp_total name n (entries_at t d) (report _ sorted) ∙ ap (λ o. cond (is_some o) (length (entries_at t d)) (length (entries_at t d) + 1)) found

  longer : (o : Option Node) → node_at t d ≡ o → is_directory o ≡ true → IsNoLonger t.version (Some (directory_node over)) o
  longer None at dir = cc
  longer (Some (directory_node es)) at dir =
      let same : entries_at t d ≡ es = ap entries_of at in Rattle.std.proofs.Common.mul-le-mul_left (entry_length t.version) (omega (arith, same-length, ap length same))
  longer (Some (file_node executable bytes)) at dir = cc
  longer (Some (link_node text)) at dir = cc

  pub no_larger-over : IsNoLarger (with_entry t d name n) t
  no_larger-over =
      let below = directory-below t d is in
      record {
        blocks = refl;
        inodes = refl;
        version = refl;
        nodes = λ k. ⊎_elim
            (λ same. subst (λ j. IsNoLonger t.version (node_at (with_entry t d name n) j) (node_at t j)) (sym same)
            (subst (λ o. IsNoLonger t.version o (node_at t d)) (sym (node_at-same t d (directory_node over) below)) (longer (node_at t d) refl is)))
            (λ other. subst (λ o. IsNoLonger t.version o (node_at t k)) (sym (node_at-other t d (directory_node over) k below other)) (no_longer-self t.version (node_at t k)))
            (cases_eq k d);
      }

-- an operation that cannot fail succeeds
pub done : {P : Type 0} (t : Tree) (r : Result (Unit {0}) Space) → room_error t ≡ None → IfErr r (λ why. room_error t ≡ Some why) → OnOk r P → P
done t (Ok x) allowed refused p = p
done t (Err why) allowed refused p = cc (sym allowed ∙ refused)

-- ---- the steps

pub value-of : (o : Option ℕ) → is_some o ≡ true → (m : ℕ) × (o ≡ Some m)
value-of None is = cc
value-of (Some m) is = (m, refl)

module _ (t : Tree) (wf : IsWellFormed t) (sh : IsShaped t) (fit : fits t ≡ true) (d : ℕ) (name : Bytes) (e : ℕ) (other : Bytes) (n : ℕ)
    (has : find_entry t d name ≡ Some n) (dir : is_directory_at t e ≡ true) where
  abbrev between : Tree
  between = without_entry t d name

  at-from : is_directory_at t d ≡ true
  at-from = has_entry-directory t d name n has

  shape-between : SameShape t between
  shape-between = shape-without_entry t d name at-from wf.each_node

  pub between-shaped : IsShaped between
  between-shaped = shaped-less t sh wf.each_node d name at-from

  pub between-directory : is_directory_at between e ≡ true
  between-directory = shape-between.directory e ∙ dir

  pub between-from : is_directory_at between d ≡ true
  between-from = shape-between.directory d ∙ at-from

  pub between-absent : find_entry between d name ≡ None
  between-absent = found-without t d name at-from

  pub between-free : find_entry t e other ≡ None → find_entry between e other ≡ None
  between-free free = by (find_entry between e other) refl
    where
      by : (o : Option ℕ) → find_entry between e other ≡ o → o ≡ None
      by None is = refl
      by (Some x) is = let was = (without_entry-was t d name at-from e other x is).1 in cc

  pub name-good : is_name t.version name ≡ true
  name-good =
      find-list_all (λ (x : Bytes × ℕ). is_name t.version x.0) name n (entries_at t d) (entries-good t d wf.each_node).1 has

  -- the entry can be restored
  pub back-is : with_entry between d name n ≡ t
  back-is = entered-back t d name at-from (sh.ordered d) n has

  -- the node under the other name is the same in between
  pub found-between : find_entry t e other ≢ Some n → find_entry between e other ≡ find_entry t e other
  found-between apart = by (find_entry t e other) refl
    where
      by : (o : Option ℕ) → find_entry t e other ≡ o → find_entry between e other ≡ find_entry t e other
      by None is = between-free is ∙ sym is
      by (Some m) is = without_entry-stays t d name at-from e other m is (λ here same. apart (ap₂ (find_entry t) here same ∙ has)) ∙ sym is

  -- ---- without both entries
  abbrev bared : Tree
  bared = without_entry between e other

  shape-bared : SameShape between bared
  shape-bared = shape-without_entry between e other between-directory shape-between.each_node

  pub bared-by : (r : Option ℕ) (u : Tree) → r ≡ find_entry between e other → IfSome r (λ _. u ≡ bared) → IfNone r (u ≡ between) → u ≡ bared
  bared-by None u is some none = none ∙ sym (without-nothing between e other between-directory (between-shaped.ordered e) (sym is))
  bared-by (Some m) u is some none = some

  pub bared-shaped : IsShaped bared
  bared-shaped = shaped-less between between-shaped shape-between.each_node e other between-directory

  pub bared-directory : is_directory_at bared e ≡ true
  bared-directory = shape-bared.directory e ∙ between-directory

  pub bared-from : is_directory_at bared d ≡ true
  bared-from = shape-bared.directory d ∙ between-from

  pub bared-absent : find_entry bared e other ≡ None
  bared-absent = found-without between e other between-directory

  pub bared-first : find_entry bared d name ≡ None
  bared-first = by (find_entry bared d name) refl
    where
      by : (o : Option ℕ) → find_entry bared d name ≡ o → o ≡ None
      by None is = refl
      by (Some x) is = sym (without_entry-was between e other between-directory d name x is).1 ∙ between-absent

  pub replaced-is : with_entry bared e other n ≡ with_entry between e other n
  replaced-is = entered-over between e other between-directory (between-shaped.ordered e) n

  replaced-allowed : (m : ℕ) → find_entry between e other ≡ Some m → room_error (with_entry bared e other n) ≡ None
  replaced-allowed m had =
      let fewer = no_larger-over between e other n m between-directory (between-shaped.ordered e) had in
      let room = room_error-none between (smaller-allowed t between (no_larger-without t d name at-from) sh.short fit) in
      ap room_error replaced-is
      ∙ smaller-allowed between (with_entry between e other n) fewer room.0 room.1

  -- room is lacking only if no node had the other name
  pub refused-free : (why : Space) → find_entry t e other ≢ Some n → room_error (with_entry bared e other n) ≡ Some why → find_entry t e other ≡ None
  refused-free why apart refused = by (find_entry t e other) refl
    where
      by : (o : Option ℕ) → find_entry t e other ≡ o → o ≡ None
      by None is = refl
      by (Some m) is = let allowed = replaced-allowed m (found-between apart ∙ is) in cc (sym allowed ∙ refused)

  pub bared-back : find_entry t e other ≡ None → with_entry bared d name n ≡ t
  bared-back free =
      ap (λ (u : Tree). with_entry u d name n) (without-nothing between e other between-directory (between-shaped.ordered e) (between-free free)) ∙ back-is

  pub bared-allowed : find_entry t e other ≡ None → room_error (with_entry bared d name n) ≡ None
  bared-allowed free = ap room_error (bared-back free) ∙ room_error-fits t sh.short fit

-- ---- the node under the other name

-- the facts that a caller has before it moves an entry
pub record IsMove (t : Tree) (d : ℕ) (name : Bytes) (e : ℕ) (other : Bytes) (n : ℕ) : Type 0 where
  pub found : find_entry t d name ≡ Some n
  pub appears : Appears t e
  pub good : is_name t.version other ≡ true
  pub encoded : are_bytes other ≡ true
  pub clear : contains_directory t n e ≡ false
  pub apart : find_entry t e other ≢ Some n
  pub empty : entries_there t (find_entry t e other) ≡ []

pub is-move : (t u : Tree) → t ≡ u → (d : ℕ) (name : Bytes) (e : ℕ) (other : Bytes) (n : ℕ) → find_entry t d name ≡ Some n → Appears u e → is_name u.version other ≡ true → are_bytes other ≡ true
    → IfSome (find_entry u d name) (λ k. contains_directory u k e ≡ false) → find_entry u e other ≢ find_entry u d name → entries_there u (find_entry u e other) ≡ [] → IsMove t d name e other n
is-move t u same d name e other n found appears good encoded clear apart empty = record {
  found = found;
  appears = subst (λ (v : Tree). Appears v e) (sym same) appears;
  good = ap (λ (v : Tree). is_name v.version other) same ∙ good;
  encoded = encoded;
  clear = subst (λ o. IfSome o (λ k. contains_directory t k e ≡ false)) found
      (subst (λ (v : Tree). IfSome (find_entry v d name) (λ k. contains_directory v k e ≡ false)) (sym same) clear);
  apart = λ is. apart (ap (λ (v : Tree). find_entry v e other) (sym same) ∙ is ∙ sym found ∙ ap (λ (v : Tree). find_entry v d name) same);
  empty = ap (λ (v : Tree). entries_there v (find_entry v e other)) same ∙ empty;
}

pub moved-is : (t u : Tree) → t ≡ u → (d : ℕ) (name : Bytes) (e : ℕ) (other : Bytes) (n : ℕ) → find_entry t d name ≡ Some n
    → with_entry (without_entry t d name) e other n ≡ moved u d name e other
moved-is t u same d name e other n found = ap (moved_node t d name e other) (sym found) ∙ ap (λ (v : Tree). moved v d name e other) same

module _ (t : Tree) (parents names holds : List ℕ) (tied : IsTied t parents names holds) (d : ℕ) (name : Bytes) (e : ℕ) (other : Bytes) (n : ℕ) (mv : IsMove t d name e other n) where
  found : find_entry t d name ≡ Some n
  found = mv.found

  appears : Appears t e
  appears = mv.appears

  good : is_name t.version other ≡ true
  good = mv.good

  clear : contains_directory t n e ≡ false
  clear = mv.clear

  apart : find_entry t e other ≢ Some n
  apart = mv.apart

  empty : entries_there t (find_entry t e other) ≡ []
  empty = mv.empty

  c : HasTreeCounts t parents names holds
  c = tied.counted

  s : IsSoundTree t
  s = sound t c.well_formed

  abbrev b : Tree
  b = without_entry t d name

  abbrev u : Tree
  u = with_entry b e other n

  from : is_directory_at t d ≡ true
  from = has_entry-directory t d name n found

  shape-b : SameShape t b
  shape-b = shape-without_entry t d name from s.each_node

  into : is_directory_at b e ≡ true
  into = shape-b.directory e ∙ appears.0

  shape-u : SameShape t u
  shape-u = shape-along t b u shape-b (shape-with_entry b e other n into shape-b.each_node good)

  r : IsSoundTree u
  r = sound-moved t s d name e other n found appears.0 good (not_contained t s n e appears.0 appears.1 clear) apart (λ m has. ap (entries_there t) (sym has) ∙ empty)

  sorted-b : (x : ℕ) → is_sorted by_name (entries_at b x) ≡ true
  sorted-b = ordered b shape-b.each_node

  node-there : is_some (node_at t n) ≡ true
  node-there = s.entries_are_nodes d name n found

  for_n : (a : ℕ) (q : Bytes) (x : ℕ) → find_entry t a q ≡ Some x → a ≡ d → q ≡ name → n ≡ x
  for_n a q x has here same = let value : Some n ≡ Some x = sym found ∙ ap₂ (find_entry t) (sym here) (sym same) ∙ has in cc value

  names-b : (x : ℕ) → one_if n x + name_count b x ≡ name_count t x
  names-b x = names-without_entry t (ordered t s.each_node) x d name n from found

  -- the parent of the moved directory
  new-parent : is_directory_at u n ≡ true → parent u n ≡ Some e
  new-parent is = entry-parent u r n e other is (found-with b e other into n)

  -- the parent of another directory
  same-parent : (x : ℕ) → x ≢ n → find_entry t e other ≢ Some x → is_directory_at u x ≡ true → parent u x ≡ parent t x
  same-parent x away beside is =
      parent-same t u s r x is
      (λ a q has. with_entry-stays b e other into n a q x
      (without_entry-stays t d name from a q x has (λ here same. away (sym (for_n a q x has here same))))
      (λ here same. beside (ap₂ (find_entry t) (sym here) (sym same) ∙ has)))
      (λ a q has. ⊎_elim (λ new. absurd (away new.2)) (λ old. (without_entry-was t d name from a q x old.1).1) (with_entry-cases b e other into n a q x has))

  bytes-u : AllBytes u
  bytes-u = bytes-with_entry b e other n into mv.encoded (bytes-without_entry t d name from c.bytes)

  abbrev moved_parents : List ℕ
  moved_parents = slice_set parents n e

  place-n : n < length parents
  place-n = omega (arith, below t parents names holds c n node-there, c.places_of_parents)

  -- ---- if no node had the name

  module _ (free : find_entry t e other ≡ None) where
    pub free-between : find_entry b e other ≡ None
    free-between = by (find_entry b e other) refl
      where
        by : (o : Option ℕ) → find_entry b e other ≡ o → o ≡ None
        by None is = refl
        by (Some x) is = let was = (without_entry-was t d name from e other x is).1 in cc

    names-u : (x : ℕ) → name_count u x ≡ name_count t x
    names-u x = omega (arith, names-b x, names-with_entry b x e other n into free-between)

    pub moved-collected : collected u holds ≡ u
    moved-collected =
        collected-all u holds (λ x is. ap (λ k. is_preserved x k (slice_index holds x)) (names-u x) ∙ all-preserved t holds tied.is_collected x (sym (shape-u.there x) ∙ is))

    pub moved-tied : room_error u ≡ None → IsTied u moved_parents names holds
    moved-tied allowed =
        record {
          counted = carried t u parents names holds c moved_parents names holds r refl allowed bytes-u (length-set parents n e) refl refl
              (λ x more. shape-u.there x ∙ c.held_are_nodes x more)
              (λ x is.
              ⊎_elim
              (λ same. ap (slice_index moved_parents) same ∙ read-same parents n e place-n
              ∙ ap stored (sym (new-parent (ap (is_directory_at u) (sym same) ∙ is))) ∙ ap (λ y. stored (parent u y)) (sym same))
              (λ away. read-other parents n x e away ∙ c.parents_stored x (sym (shape-u.directory x) ∙ is)
              ∙ ap stored (sym (same-parent x away (λ has. cc (sym free ∙ has)) is)))
              (cases_eq x n))
              (λ x. c.names_counted x ∙ sym (names-u x));
          is_collected = moved-collected;
        }

  -- ---- if another node had it

  module _ (m : ℕ) (had : find_entry t e other ≡ Some m) where
    differs : m ≢ n
    differs same = apart (had ∙ ap Some same)

    pub had-between : find_entry b e other ≡ Some m
    had-between = without_entry-stays t d name from e other m had (λ here same. differs (sym (for_n e other m had here same)))

    abbrev w : Tree
    w = without_entry b e other

    names-w : (x : ℕ) → one_if m x + name_count u x ≡ name_count t x
    names-w x =
        let dir : is_directory_at w e ≡ true = (shape-without_entry b e other into shape-b.each_node).directory e ∙ into in
        let same : name_count (with_entry w e other n) x ≡ name_count u x = ap (λ v. name_count v x) (entered-over b e other into (sorted-b e) n) in
        omega (arith, names-b x, names-without_entry b sorted-b x e other m into had-between, names-with_entry w x e other n dir (found-without b e other into), same)

    pub less-moved : IsNoLarger u b
    less-moved = no_larger-over b e other n m into (sorted-b e) had-between

    pub moved-allowed : room_error u ≡ None
    moved-allowed =
        let between = room_error-none b (smaller-allowed t b (no_larger-without t d name from) c.short c.fits) in
        smaller-allowed b u less-moved between.0 between.1

    there-m : is_some (node_at t m) ≡ true
    there-m = s.entries_are_nodes e other m had

    place-m : m < 4097
    place-m = below t parents names holds c m there-m

    pub gone-there : is_some (node_at u m) ≡ true
    gone-there = shape-u.there m ∙ there-m

    pub gone-named : 1 ≤ slice_index names m
    gone-named = omega (arith, c.names_counted m, names-w m, one_if-same m m refl)

    abbrev left_parents : List ℕ
    left_parents = slice_set moved_parents m 0

    abbrev fewer : List ℕ
    fewer = slice_set names m (slice_index names m - 1)

    no-parent : is_directory_at u m ≡ true → parent u m ≡ None
    no-parent is =
        parent-unnamed u (ordered u r.each_node) m (s.root_is_unnamed e other m had)
        (λ a q has. ⊎_elim
        (λ new. differs new.2)
        (λ old. let once = s.directories_once m (sym (shape-u.directory m) ∙ is) a q e other (without_entry-was t d name from a q m old.1).1 had in old.0 once.0 once.1)
        (with_entry-cases b e other into n a q m has))

    other-parent : (x : ℕ) → is_directory_at u x ≡ true → x ≢ m → slice_index moved_parents x ≡ stored (parent u x)
    other-parent x is away =
        ⊎_elim
        (λ same. ap (slice_index moved_parents) same ∙ read-same parents n e place-n
        ∙ ap stored (sym (new-parent (ap (is_directory_at u) (sym same) ∙ is))) ∙ ap (λ y. stored (parent u y)) (sym same))
        (λ apart_n. read-other parents n x e apart_n ∙ c.parents_stored x (sym (shape-u.directory x) ∙ is)
        ∙ ap stored (sym (same-parent x apart_n (λ has. let value : Some m ≡ Some x = sym had ∙ has in let eq : m ≡ x = cc value in away (sym eq)) is)))
        (cases_eq x n)

    pub replaced-counted : HasTreeCounts u left_parents fewer holds
    replaced-counted =
        carried t u parents names holds c left_parents fewer holds r refl moved-allowed bytes-u (length-set moved_parents m 0 ∙ length-set parents n e)
        (length-set names m (slice_index names m - 1)) refl (λ x more. shape-u.there x ∙ c.held_are_nodes x more)
        (λ x is.
        ⊎_elim
        (λ same. ap (slice_index left_parents) same ∙ read-same moved_parents m 0 (omega (arith, place-m, c.places_of_parents, length-set parents n e))
        ∙ ap stored (sym (no-parent (ap (is_directory_at u) (sym same) ∙ is))) ∙ ap (λ y. stored (parent u y)) (sym same))
        (λ away. read-other moved_parents m x 0 away ∙ other-parent x is away)
        (cases_eq x m))
        (λ x.
        ⊎_elim
        (λ same. ap (slice_index fewer) same ∙ read-same names m (slice_index names m - 1) (omega (arith, place-m, c.places_of_names))
        ∙ omega (arith, c.names_counted m, names-w m, one_if-same m m refl) ∙ ap (name_count u) (sym same))
        (λ away. read-other names m x (slice_index names m - 1) away ∙ omega (arith, c.names_counted x, names-w x, one_if-other m x away))
        (cases_eq x m))

    pub without_if_unreferenced-replaced : without_if_unreferenced u m (slice_index fewer m) (slice_index holds m) ≡ collected u holds
    without_if_unreferenced-replaced =
        without_if_unreferenced-is u left_parents fewer holds replaced-counted m (λ x away is.
        preserved-more x (name_count t x) (name_count u x) (slice_index holds x) (slice_index holds x)
        (omega (arith, names-w x, one_if-other m x away)) (omega arith)
        (all-preserved t holds tied.is_collected x (sym (shape-u.there x) ∙ is)))
