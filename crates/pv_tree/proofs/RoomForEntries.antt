-- Whether an image has room for one more entry.
use Rattle.std.proofs.Common.{◌≡◌, ◌≢◌, ◌↔◌, ℕ, zero, suc, ◌+◌, ◌*◌, ◌<◌, ◌≤◌, Bool, true, false, cond, ◌&&◌, ◌||◌, nat_le, nat_lt, List, [], ◌∷◌, drop, length, sum_by, Option, None, Some, Result, Ok, Err, refl, ap, ap₂, sym, subst, ◌∙◌, arith, ⊎_elim}
use Rattle.std.specs.Prelude.{OnOk, IfErr}
use Rattle.std.specs.FinMap.Entries.{put, is_sorted}
use Rattle.std.specs.List.{list_any}
use Rattle.std.proofs.lemmas.Bool.{and_parts, and_from, or_parts, cases_eq, cases_lt, cases_Bool, lt-ltb, le-ltb, lt-leb, le-leb, leb-true, and_right, or_from}
use Rattle.pv_dirs.specs.OfInodes.declared.space.Space.{Space}
use Rattle.pv_dirs.specs.OfInodes.declared.space.Space.TheVariants.{Full, TooBig}
use Rattle.pv_model.specs.declared.version.Version.{Version}
use Rattle.pv_model.specs.Machine.{Bytes, Numbered, with_number, present, entry_length, node_length, greatest_entries, greatest_length, is_too_long, fits, Entries, Node, directory_node, file_node, link_node, Tree, node_at, entries_of, entries_at, is_directory, is_directory_at, find_entry, with_node, with_entry, IsWellFormed}
use Rattle.pv_dirs.specs.Trees.{total_need, LacksRoomForTree, grown_length}
use Rattle.pv_laws_trees.proofs.TreeChanges.{directory-below, node_at-same, node_at-other}
use Rattle.pv_laws_trees.proofs.DirectoryEntries.{by_name}
use Rattle.pv_laws_trees.proofs.NodeRoom.{too_long-at, smaller-fits, smaller-not_too_long}
use Rattle.pv_laws_trees.proofs.NodeRoom.{preserved-no_larger}
use Rattle.pv_tree.specs.Holding.{referenced_numbers, collected}
use Rattle.pv_laws_trees.specs.Room.{IsNoLonger, IsNoLarger}
use Rattle.pv_laws_trees.proofs.Trees.{ordered}
use Rattle.pv_laws_trees.proofs.NumberedMaps.{present-within}
use Rattle.pv_tree.specs.Rooms.{room_error}
use Rattle.pv_tree.specs.Present.{IsShaped, HasTreeCounts}
use Rattle.pv_tree.proofs.DirectoryEntries.{length_more}
use Rattle.pv_tree.proofs.VersionSizes.{entries_allowed}

-- ---- errors

pub room_error-none : (t : Tree) → room_error t ≡ None → (is_too_long t ≡ false) × (fits t ≡ true)
room_error-none t none =
    elim (is_too_long t) as (λ b. cond b (Some TooBig) (cond (fits t) None (Some Full)) ≡ None → (b ≡ false) × (fits t ≡ true)) [
      | true ↦ λ is. cc is
      | false ↦ elim (fits t) as (λ b. cond b None (Some Full) ≡ None → (false ≡ false) × (b ≡ true)) [ true ↦ λ is. (refl, refl) | false ↦ λ is. cc is ]
    ] none

pub room_error-fits : (t : Tree) → is_too_long t ≡ false → fits t ≡ true → room_error t ≡ None
room_error-fits t short room = ap₂ (λ a b. cond a (Some TooBig) (cond b None (Some Full))) short room

pub room_error-long : (t : Tree) → is_too_long t ≡ true → room_error t ≡ Some TooBig
room_error-long t long = ap (λ a. cond a (Some TooBig) (cond (fits t) None (Some Full))) long

pub room_error-full : (t : Tree) → is_too_long t ≡ false → fits t ≡ false → room_error t ≡ Some Full
room_error-full t short full = ap₂ (λ a b. cond a (Some TooBig) (cond b None (Some Full))) short full

pub no_longer-self : (v : Version) (o : Option Node) → IsNoLonger v o o
no_longer-self v None = tt
no_longer-self v (Some node) = Rattle.std.proofs.Common.le_refl _

pub no_longer : (t u : Tree) → IsNoLarger u t → is_too_long t ≡ false → is_too_long u ≡ false
no_longer t u less short = ⊎_elim (λ long. let was = smaller-not_too_long t u less long in cc) (λ no_long. no_long) (cases_Bool (is_too_long u))

-- a tree that needs no more room fits
pub smaller-allowed : (t u : Tree) → IsNoLarger u t → is_too_long t ≡ false → fits t ≡ true → room_error u ≡ None
smaller-allowed t u less short room = room_error-fits u (no_longer t u less short) (smaller-fits t u less room)

-- and it still fits after the collection
pub collected-allowed : (t : Tree) (holds : List ℕ) → room_error t ≡ None → room_error (collected t holds) ≡ None
collected-allowed t holds allowed = let room = room_error-none t allowed in smaller-allowed t (collected t holds) (preserved-no_larger t (referenced_numbers holds)) room.0 room.1

-- ---- whether a tree fits

present-few : (xs : Numbered Node) (n : ℕ) → length xs ≡ suc n → Rattle.pv_model.specs.Numbered.at_number xs 0 ≡ None → length (present xs) ≤ n
present-few [] n long none = absurd (omega arith)
present-few (None ∷ xs) n long none = omega (arith, present-within xs)
present-few (Some x ∷ xs) n long none = cc none

pub fits-from : (t : Tree) → length t.nodes ≡ suc t.inodes → node_at t 0 ≡ None → total_need t ≤ t.blocks → fits t ≡ true
unfolding fits
fits-from t numbers no_zero room =
    and_from _ _ (le-leb (length (present t.nodes)) t.inodes (present-few t.nodes t.inodes numbers no_zero)) (le-leb (total_need t) t.blocks room)

pub fits-lacks : (t : Tree) → LacksRoomForTree t → fits t ≡ false
unfolding fits
fits-lacks t lacks = and_right (nat_le (length (present t.nodes)) t.inodes) _ (lt-leb (total_need t) t.blocks lacks)

pub fits-few : (t : Tree) → fits t ≡ true → length (present t.nodes) ≤ t.inodes
unfolding fits
fits-few t is = leb-true (length (present t.nodes)) t.inodes (and_parts (nat_le (length (present t.nodes)) t.inodes) _ is).0

-- ---- whether a node is too long

any-with_number : (test : Node → Bool) (xs : Numbered Node) (n : ℕ) (node : Node) → list_any test (present xs) ≡ false → test node ≡ false → list_any test (present (with_number xs n node)) ≡ false
any-with_number test [] n node none no_one = or_from (test node) false no_one refl
any-with_number test (None ∷ xs) zero node none no_one = or_from (test node) (list_any test (present xs)) no_one none
any-with_number test (None ∷ xs) (suc n) node none no_one = any-with_number test xs n node none no_one
any-with_number test (Some x ∷ xs) zero node none no_one = or_from (test node) (list_any test (present xs)) no_one (or_parts (test x) (list_any test (present xs)) none).1
any-with_number test (Some x ∷ xs) (suc n) node none no_one =
    let parts = or_parts (test x) (list_any test (present xs)) none in
    or_from (test x) (list_any test (present (with_number xs n node))) parts.0 (any-with_number test xs n node parts.1 no_one)

pub short-with_node : (t : Tree) (n : ℕ) (node : Node) → is_too_long t ≡ false → node_length t.version node ≤ greatest_length t.version → is_too_long (with_node t n node) ≡ false
unfolding is_too_long
short-with_node t n node short allowed =
    any-with_number (λ x. nat_lt (greatest_length t.version) (node_length t.version x)) t.nodes n node short (le-ltb (greatest_length t.version) (node_length t.version node) allowed)

-- ---- one more entry

pub shaped : (t : Tree) (parents names holds : List ℕ) → HasTreeCounts t parents names holds → IsShaped t
shaped t parents names holds c = record {
  numbers = c.well_formed.numbers;
  no_zero = c.well_formed.no_zero;
  ordered = ordered t c.well_formed.each_node;
  short = c.short;
}

module _ (t : Tree) (d : ℕ) (sorted : is_sorted by_name (entries_at t d) ≡ true) (name : Bytes) (n : ℕ)
    (is : is_directory_at t d ≡ true) (none : find_entry t d name ≡ None) where
  abbrev more : Entries
  more = put by_name name n (entries_at t d)

  count : length more ≡ suc (length (entries_at t d))
  count = length_more name n (entries_at t d) sorted none

  long : node_length t.version (directory_node more) ≡ grown_length t d
  long = ap (λ n. entry_length t.version * n) count

  pub too_long-more : greatest_length t.version < grown_length t d → is_too_long (with_entry t d name n) ≡ true
  too_long-more past =
      too_long-at (with_entry t d name n) d (directory_node more) (node_at-same t d (directory_node more) (directory-below t d is))
      (lt-ltb (greatest_length t.version) (node_length t.version (directory_node more)) (omega (arith, long)))

  pub short-more : is_too_long t ≡ false → grown_length t d ≤ greatest_length t.version → is_too_long (with_entry t d name n) ≡ false
  short-more short within = short-with_node t d (directory_node more) short (omega (arith, long))

  -- a directory with one more entry needs no less room
  longer : (o : Option Node) → node_at t d ≡ o → IsNoLonger t.version o (Some (directory_node more))
  longer None at = tt
  longer (Some (directory_node es)) at =
      let same : entries_at t d ≡ es = ap entries_of at in
      Rattle.std.proofs.Common.mul-le-mul_left (entry_length t.version) (omega (arith, count, ap length same))
  longer (Some (file_node executable bytes)) at = let isnt = ap is_directory at in cc
  longer (Some (link_node text)) at = let isnt = ap is_directory at in cc

  pub no_larger-more : IsNoLarger t (with_entry t d name n)
  no_larger-more =
      let below = directory-below t d is in
      record {
        blocks = refl;
        inodes = refl;
        version = refl;
        nodes = λ m. ⊎_elim
            (λ same. subst (λ k. IsNoLonger t.version (node_at t k) (node_at (with_entry t d name n) k)) (sym same)
            (subst (λ o. IsNoLonger t.version (node_at t d) o) (sym (node_at-same t d (directory_node more) below)) (longer (node_at t d) refl)))
            (λ other. subst (λ o. IsNoLonger t.version (node_at t m) o) (sym (node_at-other t d (directory_node more) m below other)) (no_longer-self t.version (node_at t m)))
            (cases_eq m d);
      }

module _ (t : Tree) (s : IsShaped t) (d : ℕ) (name : Bytes) (n : ℕ) (is : is_directory_at t d ≡ true) (none : find_entry t d name ≡ None) where
  abbrev u : Tree
  u = with_entry t d name n

  abbrev entered : Entries
  entered = put by_name name n (entries_at t d)

  below : d < length t.nodes
  below = directory-below t d is

  too_long : greatest_length t.version < grown_length t d → is_too_long u ≡ true
  too_long = too_long-more t d (s.ordered d) name n is none

  not_too_long : grown_length t d ≤ greatest_length t.version → is_too_long u ≡ false
  not_too_long within = short-more t d (s.ordered d) name n is none s.short within

  numbers : length u.nodes ≡ suc u.inodes
  numbers = Rattle.pv_laws_trees.proofs.NumberedMaps.length-with_number t.nodes d (directory_node entered) below ∙ s.numbers

  no_zero : node_at u 0 ≡ None
  no_zero = ⊎_elim
      (λ here. let gone : is_directory_at t d ≡ false = ap (is_directory_at t) (sym here) ∙ ap Rattle.pv_model.specs.Tree.is_directory s.no_zero in cc)
      (λ away. Rattle.pv_laws_trees.proofs.TreeChanges.node_at-other t d (directory_node entered) 0 below away ∙ s.no_zero)
      (Rattle.std.proofs.lemmas.Bool.cases_eq 0 d)

  -- if there is no room without the entry, there is none with it
  pub refused-before : length (entries_at t d) < greatest_entries t.version → LacksRoomForTree t → room_error u ≡ Some Full
  refused-before few lacks =
      room_error-full u (not_too_long (entries_allowed t.version (length (entries_at t d)) few))
      (⊎_elim
      (λ is_room. let before = smaller-fits u t (no_larger-more t d (s.ordered d) name n is none) is_room in let isnt = fits-lacks t lacks in cc)
      (λ no_room. no_room)
      (cases_Bool (fits u)))

  module _ (r : Result (Unit {0}) Space)
      (too_big : (r ≡ Err TooBig) ↔ (greatest_length t.version < grown_length t d)) (full : (r ≡ Err Full) ↔ ((grown_length t d ≤ greatest_length t.version) × LacksRoomForTree u)) where
    pub add-allowed : OnOk r (room_error u ≡ None)
    add-allowed = by r refl
      where
        by : (a : Result (Unit {0}) Space) → r ≡ a → OnOk a (room_error u ≡ None)
        by (Err why) at = tt
        by (Ok x) at =
            ⊎_elim
            (λ past. let bad = too_big.1 past in cc)
            (λ within.
            ⊎_elim
            (λ lacks. let bad = full.1 (within, lacks) in cc)
            (λ room. room_error-fits u (not_too_long within) (fits-from u numbers no_zero room))
            (cases_lt u.blocks (total_need u)))
            (cases_lt (greatest_length t.version) (grown_length t d))

    pub add-refused : IfErr r (λ why. room_error u ≡ Some why)
    add-refused = by r refl
      where
        by : (a : Result (Unit {0}) Space) → r ≡ a → IfErr a (λ why. room_error u ≡ Some why)
        by (Ok x) at = tt
        by (Err TooBig) at = room_error-long u (too_long (too_big.0 at))
        by (Err Full) at = let why = full.0 at in room_error-full u (not_too_long why.0) (fits-lacks u why.1)
