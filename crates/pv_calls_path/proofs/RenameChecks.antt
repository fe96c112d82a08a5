-- rename(2): its checks, and the names in directories after it.
use Rattle.std.proofs.Common.{◌≡◌, ◌≢◌, ◌∙◌, ℕ, Bool, true, false, if◌then◌else◌, not, ◌||◌, ◌==◌, [], Option, None, Some, refl, sym, ap, arith}
use Rattle.pv_calls_plain.specs.Space.{space_errno}
use Rattle.pv_calls_path.specs.Moving.{check_move}
use Rattle.pv_calls_plain.specs.declared.answer.Refused.{Refused}
use Rattle.pv_calls_path.specs.Reached.{IsMissedByBoth, IsPlaceReached}
use Rattle.pv_calls_plain.specs.OfCallsState.Attempts.{collected_attempt}
use Rattle.pv_calls_plain.proofs.OfCallsState.AttemptSequences.{after_none, given, passed}
use Rattle.pv_calls_plain.proofs.RoomForCalls.{crowded}
use Rattle.pv_calls_path.proofs.DirectoryNames.{alike_collect}
use Rattle.pv_calls_path.proofs.CheckedWalks.{both_reached_then}
use Rattle.pv_namei.specs.OfInodes.declared.space.Space.{Space}
use Rattle.pv_laws_states.specs.States.{IsValid}
use Rattle.pv_laws_states.proofs.ValidByTree.{empty-is}
use Rattle.pv_model.specs.declared.errno.Errno.{Errno}
use Rattle.pv_model.specs.declared.errno.Errno.TheVariants.{EBUSY, ENOTDIR, EISDIR, EINVAL, ENOTEMPTY}
use Rattle.pv_model.specs.declared.outcome.Cause.TheVariants.{Plain}
use Rattle.pv_model.specs.declared.place.Place.{Place}
use Rattle.pv_model.specs.Machine.{Attempt, done, refused, after_walks, demand, give, refuse_if, ◌>>◌, ◌>>=◌, Bytes, contains_directory, entries_there, same_node, ends_in_dot, move_entry, rename, Effect, answers, returns, with_room, node_of, name_of, collect, rename_walk, fits, is_too_long, Process, State, with_tree, Tree, is_directory_at, find_entry, is_name, with_entry, without_entry}
use Rattle.pv_namei.specs.OfTree.Changes.{moved, moved_node}
use Rattle.pv_namei.specs.OfTree.Rooms.{room_error}
use Rattle.pv_laws_trees.specs.Found.{AreEqualExceptAtTwo}
use Rattle.pv_laws_trees.specs.Tree.{Appears}
use Rattle.pv_laws_trees.proofs.WellFormedChanges.{stays-renamed}
use Rattle.pv_laws_trees.proofs.LookupsAfterChanges.{alike-then, alike-moved}

-- ---- the four checks

abbrev tests : (a b c d : Bool) → Attempt (Unit {0})
tests a b c d = refuse_if EINVAL a >> (refuse_if EISDIR b >> (refuse_if ENOTDIR c >> refuse_if ENOTEMPTY d))

abbrev tests_then : (a b c d : Bool) → Attempt Effect → Attempt Effect
tests_then a b c d rest = refuse_if EINVAL a >> (refuse_if EISDIR b >> (refuse_if ENOTDIR c >> (refuse_if ENOTEMPTY d >> rest)))

clear_first : (a b c d : Bool) → tests a b c d ≡ give tt → a ≡ false
clear_first true b c d is = cc
clear_first false b c d is = refl

clear_last : (a b c d : Bool) → tests a b c d ≡ give tt → d ≡ false
clear_last true b c d is = cc
clear_last false true c d is = cc
clear_last false false true d is = cc
clear_last false false false true is = cc
clear_last false false false false is = refl

then_given : (a b c d : Bool) (rest : Attempt Effect) → tests a b c d ≡ give tt → tests_then a b c d rest ≡ rest
then_given true b c d rest is = cc
then_given false true c d rest is = cc
then_given false false true d rest is = cc
then_given false false false true rest is = cc
then_given false false false false rest is = rw (after_none rest, after_none rest, after_none rest) (after_none rest)

same_errno : (x e : Errno) → ◌≡◌ {A = Attempt (Unit {0})} (refused 0 x Plain) (refused 0 e Plain) → ◌≡◌ {A = Attempt Effect} (refused 0 x Plain) (refused 0 e Plain)
same_errno x e is = let same : x ≡ e = cc is in ap (λ y. refused 0 y Plain) same

then_refused : (a b c d : Bool) (rest : Attempt Effect) (e : Errno) → tests a b c d ≡ refused 0 e Plain → tests_then a b c d rest ≡ refused 0 e Plain
then_refused true b c d rest e is = same_errno EINVAL e is
then_refused false true c d rest e is = same_errno EISDIR e is
then_refused false false true d rest e is = same_errno ENOTDIR e is
then_refused false false false true rest e is = same_errno ENOTEMPTY e is
then_refused false false false false rest e is = cc

-- a move that passes the checks does not put a directory into itself, and replaces no directory with entries
pub move_clear : (t : Tree) (n e : ℕ) (there : Option ℕ) → check_move t n e there ≡ give tt → contains_directory t n e ≡ false
move_clear t n e there is = clear_first _ _ _ _ is

pub move_empty : (t : Tree) (n e : ℕ) (there : Option ℕ) → check_move t n e there ≡ give tt → entries_there t there ≡ []
move_empty t n e there is = empty-is (entries_there t there) (clear_last _ _ _ _ is)

same_is : (n : ℕ) → (n == n) ≡ true
same_is n = grind (arith)

-- two different nodes
pub apart_from : (o : Option ℕ) (n : ℕ) → same_node o n ≡ false → o ≢ Some n
apart_from None n is same = cc
apart_from (Some m) n is same = let equal : m ≡ n = cc same in let one = same_is n in let other : (n == n) ≡ false = ap (λ k. k == n) (sym equal) ∙ is in cc

-- ---- the call after both walks

module _ (s : State) (pid : ℕ) (me : Process) (n d : ℕ) (name : Bytes) (e : ℕ) (new : Bytes) (there : Option ℕ) where
  pub move_refused : (errno : Errno) → check_move s.tree n e there ≡ refused 0 errno Plain → move_entry s pid me n d name e new there ≡ refused 0 errno Plain
  move_refused errno is = then_refused _ _ _ _ _ errno is

  move_goes : check_move s.tree n e there ≡ give tt
      → move_entry s pid me n d name e new there ≡ (with_room (with_tree s (with_entry (without_entry s.tree d name) e new n)) >>= (λ after. answers after 0))
  move_goes is = then_given _ _ _ _ _ is

  pub move_crowded : (why : Space) → check_move s.tree n e there ≡ give tt → find_entry s.tree d name ≡ Some n
      → room_error (collect (with_tree s (moved s.tree d name e new))).tree ≡ Some why → move_entry s pid me n d name e new there ≡ refused 0 (space_errno why) Plain
  move_crowded why is found full_after =
      let u : State = with_tree s (with_entry (without_entry s.tree d name) e new n) in
      let full : room_error (collect u).tree ≡ Some why = ap (λ o. room_error (collect (with_tree s (moved_node s.tree d name e new o))).tree) (sym found) ∙ full_after in
      move_goes is ∙ rw (crowded u why full) refl

  -- a move that passes the checks and has room
  pub move_made : (after : State) → check_move s.tree n e there ≡ give tt → find_entry s.tree d name ≡ Some n → after ≡ collect (with_tree s (moved s.tree d name e new))
      → is_too_long after.tree ≡ false → fits after.tree ≡ true → collected_attempt (after_walks 2 (move_entry s pid me n d name e new there)) ≡ done 2 (after, returns 0)
  move_made after is found left short_after roomy_after =
      let u : State = with_tree s (with_entry (without_entry s.tree d name) e new n) in
      let same : after ≡ collect u = left ∙ ap (λ o. collect (with_tree s (moved_node s.tree d name e new o))) found in
      let short : is_too_long (collect u).tree ≡ false = ap (λ (x : State). is_too_long x.tree) (sym same) ∙ short_after in
      let roomy : fits (collect u).tree ≡ true = ap (λ (x : State). fits x.tree) (sym same) ∙ roomy_after in
      let goes : move_entry s pid me n d name e new there ≡ give (u, returns 0) = move_goes is ∙ rw (short, roomy) refl in
      ap (λ a. collected_attempt (after_walks 2 a)) goes ∙ ap (λ (x : State). done 2 (x, returns 0)) (sym same)

module _ (s : State) (pid : ℕ) (me : Process) (path new : Bytes) (fine : ends_in_dot path ≡ false) (other_fine : ends_in_dot new ≡ false) where
  no_dots : refuse_if EINVAL (ends_in_dot path || ends_in_dot new) ≡ give tt
  no_dots = rw (fine, other_fine) refl

  pub rename_missed : (r : Refused) → IsMissedByBoth s me (rename_walk path) (rename_walk new) r → rename s pid me path new ≡ refused r.walks r.errno r.cause
  rename_missed r missed = passed (refuse_if EINVAL (ends_in_dot path || ends_in_dot new)) tt _ no_dots ∙ missed _

module _ (s : State) (pid : ℕ) (me : Process) (path new : Bytes) (fine : ends_in_dot path ≡ false) (other_fine : ends_in_dot new ≡ false)
    (place other : Place) (first : IsPlaceReached s me me.directory (rename_walk path) place) (second : IsPlaceReached s me me.directory (rename_walk new) other)
    (n : ℕ) (there : node_of place ≡ Some n) (d : ℕ) (name : Bytes) (named : name_of place ≡ Some (d, name))
    (e : ℕ) (new_name : Bytes) (new_named : name_of other ≡ Some (e, new_name)) (differs : same_node (node_of other) n ≡ false) where
  after_names : (demand EBUSY (name_of place) >>= (λ p. demand EBUSY (name_of other) >>= (λ q. if same_node (node_of other) n then answers s 0 else move_entry s pid me n p.0 p.1 q.0 q.1 (node_of other))))
      ≡ move_entry s pid me n d name e new_name (node_of other)
  after_names =
      given (demand EBUSY (name_of place)) (d, name) (λ p. demand EBUSY (name_of other) >>= (λ q. if same_node (node_of other) n then answers s 0 else move_entry s pid me n p.0 p.1 q.0 q.1 (node_of other))) (ap (λ o. demand EBUSY o) named)
      ∙ given (demand EBUSY (name_of other)) (e, new_name) (λ q. if same_node (node_of other) n then answers s 0 else move_entry s pid me n d name q.0 q.1 (node_of other)) (ap (λ o. demand EBUSY o) new_named)
      ∙ rw differs refl

  -- rename(2) after both walks
  pub rename_reached : (old_there : Option ℕ) → old_there ≡ node_of other → rename s pid me path new ≡ after_walks 2 (move_entry s pid me n d name e new_name old_there)
  rename_reached old_there is =
      passed (refuse_if EINVAL (ends_in_dot path || ends_in_dot new)) tt _ (no_dots s pid me path new fine other_fine)
      ∙ both_reached_then s me (rename_walk path) (rename_walk new) place other first second n there
      (λ p o m. demand EBUSY (name_of p) >>= (λ x. demand EBUSY (name_of o) >>= (λ y. if same_node (node_of o) m then answers s 0 else move_entry s pid me m x.0 x.1 y.0 y.1 (node_of o))))
      ∙ ap (after_walks 2) (after_names ∙ ap (move_entry s pid me n d name e new_name) (sym is))

-- ---- names

-- the names in directories after a move
pub names_moved : (s : State) → IsValid s → (d : ℕ) (name : Bytes) (e : ℕ) (new : Bytes) (n : ℕ) → is_directory_at s.tree d ≡ true → find_entry s.tree d name ≡ Some n
    → Appears s.tree e → is_name s.tree.version new ≡ true → contains_directory s.tree n e ≡ false → find_entry s.tree e new ≢ Some n
    → entries_there s.tree (find_entry s.tree e new) ≡ [] → (after : State) → after ≡ collect (with_tree s (moved s.tree d name e new))
    → AreEqualExceptAtTwo d name e new (find_entry s.tree) (find_entry after.tree)
names_moved s whole d name e new n from found appears good clear apart empty after left =
    let u : State = with_tree s (with_entry (without_entry s.tree d name) e new n) in
    let same : after ≡ collect u = left ∙ ap (λ o. collect (with_tree s (moved_node s.tree d name e new o))) found in
    let wf = whole.tree.well_formed in
    let both = alike-moved s.tree wf d name e new n from appears.0 in (
      both.0,
      both.1,
      alike-then e new both.0 (find_entry u.tree) (find_entry after.tree) both.2
          (alike_collect u after same (stays-renamed s.tree wf d name e new n found appears good clear apart empty)),
    )
