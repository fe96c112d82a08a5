-- The effect of changing the contents of a file.
use Rattle.std.proofs.Common.{◌≡◌, ◌↔◌, ℕ, ◌+◌, ◌-◌, ◌<◌, ◌≤◌, Bool, true, false, List, [], ◌∷◌, length, Option, None, Some, is_some, Result, Ok, Err, refl, ap, sym, subst, ◌∙◌, arith, length-append, length-drop, ⊎_elim}
use Rattle.std.specs.Prelude.{slice_index, OnOk, OnErr, IfErr}
use Rattle.std.specs.FinMap.Entries.{find}
use Rattle.std.specs.Result.{is_err}
use Rattle.std.proofs.lemmas.Bool.{cases_eq, cases_lt, lt-ltb}
use Rattle.std.proofs.lemmas.List.{length-take, length-replicate}
use Rattle.pv_dirs.specs.OfInodes.declared.space.Space.{Space}
use Rattle.pv_dirs.specs.OfInodes.declared.space.Space.TheVariants.{Full, TooBig}
use Rattle.pv_model.specs.Machine.{Bytes, with_content, with_content_of, bytes_of, overwrite, resize, node_length, greatest_length, is_too_long, is_file, Node, directory_node, file_node, link_node, Tree, node_at, entries_of, entries_at, is_directory, find_entry, with_node}
use Rattle.pv_dirs.specs.Trees.{written_tree, truncated_tree, with_node_replaced, total_need, LacksRoomForTree, stored_bytes_of as content_of}
use Rattle.pv_laws_trees.specs.Encoded.{are_bytes}
use Rattle.pv_laws_trees.specs.Room.{IsNoLonger, IsNoLarger}
use Rattle.pv_laws_trees.specs.Tree.{IsSoundTree}
use Rattle.pv_laws_trees.proofs.TreeChanges.{node_at-same, node_at-other}
use Rattle.pv_laws_trees.proofs.WellFormedChanges.{sound-content}
use Rattle.pv_laws_trees.proofs.DirectoryEntries.{by_name}
use Rattle.pv_laws_trees.proofs.TreeBytes.{bytes-with_node, bytes-overwrite, bytes-resize}
use Rattle.pv_laws_trees.proofs.NumberedMaps.{at_number-below, length-with_number}
use Rattle.pv_laws_trees.proofs.NodeRoom.{too_long-at, length-within}
use Rattle.pv_laws_trees.proofs.Trees.{sound, well_formed}
use Rattle.pv_dirs.proofs.OfInodes.ByteLists.{length-resize}
use Rattle.pv_tree.specs.Changes.{overwritten, resized_tree}
use Rattle.pv_tree.specs.Rooms.{room_error}
use Rattle.pv_tree.specs.Present.{stored, HasTreeCounts, IsTied}
use Rattle.pv_tree.proofs.CarriedData.{carried}
use Rattle.pv_tree.proofs.CollectedNodes.{is_preserved, collected-all, all-preserved}
use Rattle.pv_laws_trees.proofs.NameCounts.{name_count, names-same}
use Rattle.pv_tree.proofs.ParentChanges.{parent-same}
use Rattle.pv_tree.proofs.RoomForEntries.{no_longer-self, smaller-allowed, room_error-fits, room_error-long, room_error-full, short-with_node, fits-from, fits-lacks}

-- ---- files

pub file-of : (o : Option Node) → is_file o ≡ true → (x : Bool) × (old : Bytes) × (o ≡ Some (file_node x old))
file-of None is = cc
file-of (Some (directory_node es)) is = cc
file-of (Some (file_node x old)) is = (x, old, refl)
file-of (Some (link_node text)) is = cc

written_tree-file : (t : Tree) (f at : ℕ) (bytes : Bytes) (x : Bool) (old : Bytes) → node_at t f ≡ Some (file_node x old) → written_tree t f at bytes ≡ overwritten t f at bytes
written_tree-file t f at [] x old is = refl
written_tree-file t f at (b ∷ bytes) x old is =
    ap (λ o. with_node_replaced t f o (overwrite (content_of o) at (b ∷ bytes))) is ∙ ap (λ o. with_content_of t f o (overwrite (bytes_of o) at (b ∷ bytes))) (sym is)

truncated_tree-file : (t : Tree) (f size : ℕ) (x : Bool) (old : Bytes) → node_at t f ≡ Some (file_node x old) → truncated_tree t f size ≡ resized_tree t f size
truncated_tree-file t f size x old is = ap (λ o. with_node_replaced t f o (resize (content_of o) size)) is ∙ ap (λ o. with_content_of t f o (resize (bytes_of o) size)) (sym is)

length-overwrite : (old : Bytes) (at : ℕ) (new : Bytes) → length (overwrite old at new) ≡ (at + length new) + (length old - (at + length new))
length-overwrite old at new = simp (length-append, length-take, length-append, length-replicate, length-drop) (omega arith)

-- ---- other bytes in a file

module _ (t : Tree) (parents names holds : List ℕ) (tied : IsTied t parents names holds) (f : ℕ) (x : Bool) (old new : Bytes) (is : node_at t f ≡ Some (file_node x old)) (encoded : are_bytes new ≡ true) where
  c : HasTreeCounts t parents names holds
  c = tied.counted

  s : IsSoundTree t
  s = sound t c.well_formed

  abbrev v : Tree
  v = with_node t f (file_node x new)

  pub content-is : with_content t f new ≡ v
  content-is = ap (λ o. with_content_of t f o new) is

  within : f < length t.nodes
  within = at_number-below t.nodes f (file_node x old) is

  here : node_at v f ≡ Some (file_node x new)
  here = node_at-same t f (file_node x new) within

  same-as : {X : Type 0} (g : Option Node → X) → g (Some (file_node x new)) ≡ g (Some (file_node x old)) → (n : ℕ) → g (node_at v n) ≡ g (node_at t n)
  same-as g same n =
      ⊎_elim
      (λ at. ap (λ k. g (node_at v k)) at ∙ ap g here ∙ same ∙ ap g (sym is) ∙ ap (λ k. g (node_at t k)) (sym at))
      (λ other. ap g (node_at-other t f (file_node x new) n within other)) (cases_eq n f)

  same-entries : (d : ℕ) → entries_at v d ≡ entries_at t d
  same-entries = same-as entries_of refl

  same-found : (d : ℕ) (q : Bytes) → find_entry v d q ≡ find_entry t d q
  same-found d q = ap (find by_name q) (same-entries d)

  same-names : (n : ℕ) → name_count v n ≡ name_count t n
  same-names = names-same t v (length-with_number t.nodes f (file_node x new) within) same-entries

  r : IsSoundTree v
  r = subst IsSoundTree content-is (sound-content t s f new)

  pub content-tied : room_error v ≡ None → IsTied v parents names holds
  content-tied allowed =
      record {
        counted = carried t v parents names holds c parents names holds r refl allowed (bytes-with_node t f (file_node x new) within encoded c.bytes) refl refl refl
            (λ n more. same-as is_some refl n ∙ c.held_are_nodes n more)
            (λ n dir.
            c.parents_stored n (sym (same-as is_directory refl n) ∙ dir)
            ∙ ap stored (sym (parent-same t v s r n dir (λ d q found. same-found d q ∙ found) (λ d q found. sym (same-found d q) ∙ found))))
            (λ n. c.names_counted n ∙ sym (same-names n));
        is_collected = collected-all v holds (λ n there.
            ap (λ k. is_preserved n k (slice_index holds n)) (same-names n) ∙ all-preserved t holds tied.is_collected n (sym (same-as is_some refl n) ∙ there));
      }

  -- the old bytes do not exceed the maximum
  pub old-within : length old ≤ greatest_length t.version
  old-within = omega (arith, length-within t f (file_node x old) is c.short)

  too_long : greatest_length t.version < length new → is_too_long v ≡ true
  too_long past = too_long-at v f (file_node x new) here (lt-ltb (greatest_length t.version) (length new) (omega (arith)))

  not_too_long : length new ≤ greatest_length t.version → is_too_long v ≡ false
  not_too_long few = short-with_node t f (file_node x new) c.short (omega (arith))

  fits-v : total_need v ≤ v.blocks → Rattle.pv_model.specs.Room.fits v ≡ true
  fits-v room = fits-from v (r.numbers) (well_formed v r).no_zero room

  module _ (a : Result (Unit {0}) Space) (too_big : (a ≡ Err TooBig) ↔ (greatest_length t.version < length new)) (full : (a ≡ Err Full) ↔ ((length new ≤ greatest_length t.version) × LacksRoomForTree v)) where
    pub content-allowed : OnOk a (room_error v ≡ None)
    content-allowed = by a refl
      where
        by : (o : Result (Unit {0}) Space) → a ≡ o → OnOk o (room_error v ≡ None)
        by (Err why) at = tt
        by (Ok done) at =
            ⊎_elim
            (λ past. let bad = too_big.1 past in cc)
            (λ few.
            ⊎_elim
            (λ lacks. let bad = full.1 (few, lacks) in cc)
            (λ room. room_error-fits v (not_too_long few) (fits-v room))
            (cases_lt v.blocks (total_need v)))
            (cases_lt (greatest_length t.version) (length new))

    pub content-refused : IfErr a (λ why. room_error v ≡ Some why)
    content-refused = by a refl
      where
        by : (o : Result (Unit {0}) Space) → a ≡ o → IfErr o (λ why. room_error v ≡ Some why)
        by (Ok done) at = tt
        by (Err TooBig) at = room_error-long v (too_long (too_big.0 at))
        by (Err Full) at = let why = full.0 at in room_error-full v (not_too_long why.0) (fits-lacks v why.1)

  -- fewer bytes have room
  less : length new ≤ length old → IsNoLarger v t
  less few = record {
    blocks = refl;
    inodes = refl;
    version = refl;
    nodes = λ n. ⊎_elim
        (λ same. subst (λ k. IsNoLonger t.version (node_at v k) (node_at t k)) (sym same)
        (subst (λ o. IsNoLonger t.version o (node_at t f)) (sym here) (subst (λ o. IsNoLonger t.version (Some (file_node x new)) o) (sym is) few)))
        (λ other. subst (λ o. IsNoLonger t.version o (node_at t n)) (sym (node_at-other t f (file_node x new) n within other)) (no_longer-self t.version (node_at t n)))
        (cases_eq n f);
  }

  pub shorter-allowed : length new ≤ length old → room_error v ≡ None
  shorter-allowed few = smaller-allowed t v (less few) c.short c.fits

-- ---- the results of the calls below

-- a call that has room succeeds
pub not-refused : (a : Result (Unit {0}) Space) (o : Option Space) → IfErr a (λ why. o ≡ Some why) → o ≡ None → is_err a ≡ false
not-refused (Ok done) o refused room = refl
not-refused (Err why) o refused room = let both : ◌≡◌ {A = Option Space} None (Some why) = sym room ∙ refused in cc both

-- a write that succeeds ends within the maximum length
pub write-ends : (most at : ℕ) (bytes : Bytes) (a : Result (Unit {0}) Space) → ((a ≡ Err TooBig) ↔ ((0 < length bytes) × (most < at + length bytes)))
    → OnOk a (0 < length bytes → at + length bytes ≤ most)
write-ends most at bytes (Err why) too_big = tt
write-ends most at bytes (Ok done) too_big = λ some. ⊎_elim (λ past. let bad = too_big.1 (some, past) in cc bad) (λ within. omega (arith, within)) (cases_lt most (at + length bytes))

-- a change of a file, as the call below states it
pub record IsAnswer (t u after : Tree) (parents names holds : List ℕ) (a : Result (Unit {0}) Space) : Type 0 where
  pub tied : IsTied u parents names holds
  pub ok : OnOk a (u ≡ after)
  pub allowed : OnOk a (room_error after ≡ None)
  pub refused : IfErr a (λ why. room_error after ≡ Some why)

answered : (t u v : Tree) (parents names holds : List ℕ) → IsTied t parents names holds → (a : Result (Unit {0}) Space) → OnOk a (u ≡ v) → OnErr a (u ≡ t) → OnOk a (room_error v ≡ None)
    → (room_error v ≡ None → IsTied v parents names holds) → IsTied u parents names holds
answered t u v parents names holds tied (Ok done) same none allowed then' = subst (λ w. IsTied w parents names holds) (sym same) (then' allowed)
answered t u v parents names holds tied (Err why) none same allowed then' = subst (λ w. IsTied w parents names holds) (sym same) tied

module _ (t u : Tree) (parents names holds : List ℕ) (tied : IsTied t parents names holds) (f : ℕ) (x : Bool) (old : Bytes) (is : node_at t f ≡ Some (file_node x old)) (a : Result (Unit {0}) Space) where
  old-bytes : are_bytes old ≡ true
  old-bytes = tied.counted.bytes f (file_node x old) is

  pub resize-answer : (size : ℕ) → OnOk a (u ≡ truncated_tree t f size) → OnErr a (u ≡ t)
      → ((a ≡ Err TooBig) ↔ (greatest_length t.version < size)) → ((a ≡ Err Full) ↔ ((size ≤ greatest_length t.version) × LacksRoomForTree (truncated_tree t f size))) → IsAnswer t u (resized_tree t f size) parents names holds a
  resize-answer size ok err too_big full =
      let new = resize old size in
      let encoded = bytes-resize old size old-bytes in
      let long = length-resize old size in
      let v : Tree = with_node t f (file_node x new) in
      let after : resized_tree t f size ≡ v = ap (λ o. with_content_of t f o (resize (bytes_of o) size)) is in
      let cut_is : truncated_tree t f size ≡ v = truncated_tree-file t f size x old is ∙ after in
      let big : (a ≡ Err TooBig) ↔ (greatest_length t.version < length new) = (λ at. let past = too_big.0 at in omega arith, λ past. too_big.1 (omega arith)) in
      let wanting : (a ≡ Err Full) ↔ ((length new ≤ greatest_length t.version) × LacksRoomForTree v) =
      (λ at. (let why = (full.0 at).0 in omega arith, subst LacksRoomForTree cut_is (full.0 at).1), λ why. full.1 (let few = why.0 in omega arith, subst LacksRoomForTree (sym cut_is) why.1)) in
      let allowed = content-allowed t parents names holds tied f x old new is encoded a big wanting in
      record {
        tied = answered t u v parents names holds tied a (Rattle.std.proofs.lemmas.Result.on_ok_weaker a (λ same. same ∙ cut_is) ok) err allowed (content-tied t parents names holds tied f x old new is encoded);
        ok = Rattle.std.proofs.lemmas.Result.on_ok_weaker a (λ same. same ∙ truncated_tree-file t f size x old is) ok;
        allowed = subst (λ w. OnOk a (room_error w ≡ None)) (sym after) allowed;
        refused = subst (λ w. IfErr a (λ why. room_error w ≡ Some why)) (sym after) (content-refused t parents names holds tied f x old new is encoded a big wanting);
      }

  -- a truncation has room
  pub resize-shorter : (size : ℕ) → size ≤ length (content_of (node_at t f)) → room_error (resized_tree t f size) ≡ None
  resize-shorter size few =
      let new = resize old size in
      ap (λ o. room_error (with_content_of t f o (resize (bytes_of o) size))) is
      ∙ shorter-allowed t parents names holds tied f x old new is (bytes-resize old size old-bytes) (omega (arith, length-resize old size, few, ap (λ o. length (content_of o)) is))

  pub write-answer : (at : ℕ) (bytes : Bytes) → are_bytes bytes ≡ true → OnOk a (u ≡ written_tree t f at bytes) → OnErr a (u ≡ t)
      → ((a ≡ Err TooBig) ↔ ((0 < length bytes) × (greatest_length t.version < at + length bytes)))
      → ((a ≡ Err Full) ↔ ((0 < length bytes) × (at + length bytes ≤ greatest_length t.version) × LacksRoomForTree (written_tree t f at bytes))) → IsAnswer t u (overwritten t f at bytes) parents names holds a
  write-answer at [] given ok err too_big full = by a refl ok err
    where
      by : (o : Result (Unit {0}) Space) → a ≡ o → OnOk o (u ≡ t) → OnErr o (u ≡ t) → IsAnswer t u t parents names holds a
      by (Ok done) same ok err = subst (λ o. IsAnswer t u t parents names holds o) (sym same) (record {
        tied = subst (λ w. IsTied w parents names holds) (sym ok) tied;
        ok = ok;
        allowed = room_error-fits t tied.counted.short tied.counted.fits;
        refused = tt;
      })
      by (Err TooBig) same ok err = let why = (too_big.0 same).0 in absurd (omega arith)
      by (Err Full) same ok err = let why = (full.0 same).0 in absurd (omega arith)
  write-answer at (b ∷ bytes) given ok err too_big full =
      let new = overwrite old at (b ∷ bytes) in
      let long = length-overwrite old at (b ∷ bytes) in
      let encoded = bytes-overwrite old at (b ∷ bytes) old-bytes given in
      let few = old-within t parents names holds tied f x old new is encoded in
      let v : Tree = with_node t f (file_node x new) in
      let after : overwritten t f at (b ∷ bytes) ≡ v = ap (λ o. with_content_of t f o (overwrite (bytes_of o) at (b ∷ bytes))) is in
      let written_is : written_tree t f at (b ∷ bytes) ≡ v = written_tree-file t f at (b ∷ bytes) x old is ∙ after in
      let big : (a ≡ Err TooBig) ↔ (greatest_length t.version < length new) = (λ e. let past = (too_big.0 e).1 in omega arith, λ past. too_big.1 (omega arith, omega arith)) in
      let wanting : (a ≡ Err Full) ↔ ((length new ≤ greatest_length t.version) × LacksRoomForTree v) =
      (λ e. (let why = (full.0 e).1 in omega arith, subst LacksRoomForTree written_is (full.0 e).2), λ why. full.1 (omega arith, let enough = why.0 in omega arith, subst LacksRoomForTree (sym written_is) why.1)) in
      let allowed = content-allowed t parents names holds tied f x old new is encoded a big wanting in
      record {
        tied = answered t u v parents names holds tied a (Rattle.std.proofs.lemmas.Result.on_ok_weaker a (λ same. same ∙ written_is) ok) err allowed (content-tied t parents names holds tied f x old new is encoded);
        ok = Rattle.std.proofs.lemmas.Result.on_ok_weaker a (λ same. same ∙ written_tree-file t f at (b ∷ bytes) x old is) ok;
        allowed = subst (λ w. OnOk a (room_error w ≡ None)) (sym after) allowed;
        refused = subst (λ w. IfErr a (λ why. room_error w ≡ Some why)) (sym after) (content-refused t parents names holds tied f x old new is encoded a big wanting);
      }
