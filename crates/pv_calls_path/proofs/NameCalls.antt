-- Calls that change names: the case without room, and the names in directories after them.
use Rattle.std.proofs.lemmas.Bool.{and_from, and_parts, le-leb}
use Rattle.std.proofs.Common.{◌≤◌, List, ◌==◌, ◌≡◌, ◌∙◌, ℕ, Bool, true, false, not, nat_lt, [], ◌∷◌, length, None, Some, is_some, refl, sym, ap, arith}
use Rattle.pv_calls_plain.specs.Space.{space_errno}
use Rattle.pv_calls_plain.specs.declared.answer.Refused.{Refused}
use Rattle.pv_calls_path.specs.Linking.{link_at}
use Rattle.pv_calls_path.specs.Reached.{IsMissed, IsPlaceReached}
use Rattle.pv_calls_plain.proofs.OfCallsState.AttemptSequences.{passed}
use Rattle.pv_calls_plain.proofs.RoomForCalls.{crowded}
use Rattle.pv_calls_path.proofs.DirectoryNames.{but_collect}
use Rattle.pv_calls_path.proofs.CheckedWalks.{both_reached_then}
use Rattle.pv_namei.specs.OfInodes.declared.space.Space.{Space}
use Rattle.pv_laws_states.specs.States.{IsValid, IsFinePlace, is_text, is_text_byte, is_byte}
use Rattle.pv_laws_states.proofs.ValidByTree.{FineName, named-place}
use Rattle.pv_laws_states.proofs.GrownTrees.{new-below}
use Rattle.pv_laws_states.proofs.ChangedStates.{text-bytes}
use Rattle.pv_laws_trees.proofs.WalkPlaces.{list_all-weaker, not_zero}
use Rattle.pv_laws_states.proofs.CollectedStates.{held_after, tree-collect}
use Rattle.pv_model.specs.declared.call.Start.TheVariants.{WorkingDirectory}
use Rattle.pv_model.specs.declared.outcome.Cause.TheVariants.{Plain}
use Rattle.pv_model.specs.declared.place.Place.{Place}
use Rattle.pv_model.specs.Machine.{after_walks, refused, refuse_if, Bytes, is_empty, link, symlink, rmdir, ends_in_dot, node_of, name_of, collect, fits, Process, State, with_tree, Node, link_node, node_at, entries_of, entries_at, is_directory_at, find_entry, is_node, is_link_text, with_entry, without_entry, with_new_node, Walk}
use Rattle.pv_model.specs.declared.errno.Errno.TheVariants.{ENOENT, EINVAL, ENAMETOOLONG, ENOTEMPTY}
use Rattle.pv_model.specs.Calls.Paths.{make}
use Rattle.pv_model.specs.Walks.{linked_walk, new_link_walk, rmdir_walk, symlink_walk}
use Rattle.pv_namei.specs.OfTree.Rooms.{room_error}
use Rattle.pv_laws_trees.specs.Found.{AreEqualExceptAt}
use Rattle.pv_laws_trees.proofs.WellFormedChanges.{stays-new_node, stays-with_entry, stays-without_entry}
use Rattle.pv_laws_trees.proofs.LookupsAfterChanges.{alike-new, alike-with, alike-without}
use Rattle.pv_laws_trees.proofs.ListTests.{not-there}

pub some_left : {X : Type 0} (xs : List X) (r : Bool) → (xs ≡ [] → r ≡ true) → r ≡ false → is_empty xs ≡ false
some_left [] r says is = let yes = says refl in cc
some_left (x ∷ xs) r says is = refl

pub empty_by_length : (text : Bytes) → (length text == 0) ≡ false → is_empty text ≡ false
empty_by_length [] is = cc
empty_by_length (b ∷ bs) is = refl

-- a program's text that is neither empty nor too long can be the text of a link
pub link_text_good : (text : Bytes) → is_text text ≡ true → is_empty text ≡ false → length text ≤ 1023 → is_link_text text ≡ true
link_text_good text is filled short =
    and_from _ _ (and_from _ _ (ap not filled) (le-leb (length text) 1023 short))
    (list_all-weaker is_text_byte not_zero (λ b good. (and_parts (not_zero b) (is_byte b) good).0) text (text-bytes text is))

module _ (s : State) (pid : ℕ) (me : Process) where
  pub symlink_makes : (text path : Bytes) → is_empty text ≡ false → nat_lt 1023 (length text) ≡ false → symlink s pid me text path ≡ make s pid me (symlink_walk path) (link_node text)
  symlink_makes text path filled short =
      passed (refuse_if ENOENT (is_empty text)) tt _ (ap (refuse_if ENOENT) filled)
      ∙ passed (refuse_if ENAMETOOLONG (nat_lt 1023 (length text))) tt (make s pid me (symlink_walk path) (link_node text)) (ap (refuse_if ENAMETOOLONG) short)

  pub rmdir_missed : (path : Bytes) → ends_in_dot path ≡ false → (r : Refused) → IsMissed s me me.directory (rmdir_walk path) r → rmdir s pid me path ≡ refused r.walks r.errno r.cause
  rmdir_missed path fine r missed = passed (refuse_if EINVAL (ends_in_dot path)) tt _ (ap (refuse_if EINVAL) fine) ∙ missed _

  pub rmdir_full : (path : Bytes) → ends_in_dot path ≡ false → (place : Place) → IsPlaceReached s me me.directory (rmdir_walk path) place → (n : ℕ) → node_of place ≡ Some n
      → is_directory_at s.tree n ≡ true → (d : ℕ) (name : Bytes) → name_of place ≡ Some (d, name) → is_empty (entries_at s.tree n) ≡ false → rmdir s pid me path ≡ refused 1 ENOTEMPTY Plain
  rmdir_full path fine place reached n there directory d name named full = rw (fine, reached.walked, reached.judged, there, directory, named, full) refl

  pub make_crowded : (w : Walk) → w.start ≡ WorkingDirectory → (node : Node) (place : Place) → IsPlaceReached s me me.directory w place
      → is_some (node_of place) ≡ false → (d : ℕ) (name : Bytes) → name_of place ≡ Some (d, name) → (why : Space)
      → room_error (collect (with_tree s (with_new_node s.tree d name node))).tree ≡ Some why → make s pid me w node ≡ refused 1 (space_errno why) Plain
  make_crowded w here node place reached free d name named why is =
      rw (here, reached.walked, reached.judged, free, named, crowded (with_tree s (with_new_node s.tree d name node)) why is) refl

  -- link(2) after both walks
  pub link_reached : (path new : Bytes) (place other : Place) → IsPlaceReached s me me.directory (linked_walk path) place → IsPlaceReached s me me.directory (new_link_walk new) other
      → (n : ℕ) → node_of place ≡ Some n → link s pid me path new ≡ after_walks 2 (link_at s n other)
  link_reached path new place other first second n there =
      both_reached_then s me (linked_walk path) (new_link_walk new) place other first second n there (λ _ o n. link_at s n o)

pub link_crowded : (s : State) (n : ℕ) (other : Place) → is_directory_at s.tree n ≡ false → is_some (node_of other) ≡ false → (d : ℕ) (name : Bytes) → name_of other ≡ Some (d, name) → (why : Space)
    → room_error (collect (with_tree s (with_entry s.tree d name n))).tree ≡ Some why → link_at s n other ≡ refused 0 (space_errno why) Plain
link_crowded s n other plain free d name named why is =
    rw (plain, free, named, crowded (with_tree s (with_entry s.tree d name n)) why is) refl

module _ (s : State) (whole : IsValid s) (place : Place) (fine : IsFinePlace s.tree place) (d : ℕ) (name : Bytes) (named : name_of place ≡ Some (d, name)) where
  -- the name of a place
  pub fine_name : FineName s.tree (d, name) (node_of place)
  fine_name = named-place s.tree place (d, name) fine named

  free_name : is_some (node_of place) ≡ false → find_entry s.tree d name ≡ None
  free_name free = fine_name.found ∙ not-there (node_of place) free

  -- the names after a node is made
  pub names_made : is_some (node_of place) ≡ false → (node : Node) → is_node s.tree.version node ≡ true → entries_of (Some node) ≡ [] → (new : State)
      → new ≡ collect (with_tree s (with_new_node s.tree d name node)) → fits new.tree ≡ true → AreEqualExceptAt d name (find_entry s.tree) (find_entry new.tree)
  names_made free node good bare new is fit =
      let u : State = with_tree s (with_new_node s.tree d name node) in
      let below = new-below s whole d name node (held_after u) fine_name.directory (free_name free) bare (λ n is. is) (ap fits (sym (tree-collect u)) ∙ ap (λ (x : State). fits x.tree) (sym is) ∙ fit) in
      but_collect d name s u new is
      (stays-new_node s.tree whole.tree.well_formed d name node (fine_name.directory, fine_name.appears) (free_name free) fine_name.name good bare (omega (arith, whole.tree.well_formed.numbers)))
      (alike-new s.tree d name node fine_name.directory (free_name free) bare (omega arith))

  -- the names after a link is made
  pub names_linked : is_some (node_of place) ≡ false → (n : ℕ) → is_some (node_at s.tree n) ≡ true → is_directory_at s.tree n ≡ false → (new : State)
      → new ≡ collect (with_tree s (with_entry s.tree d name n)) → AreEqualExceptAt d name (find_entry s.tree) (find_entry new.tree)
  names_linked free n there plain new is =
      but_collect d name s (with_tree s (with_entry s.tree d name n)) new is
      (stays-with_entry s.tree whole.tree.well_formed d name n (fine_name.directory, fine_name.appears) (free_name free) fine_name.name there plain)
      (alike-with s.tree d name n fine_name.directory)

  -- the names after a name is removed
  pub names_left : (n : ℕ) → node_of place ≡ Some n → entries_at s.tree n ≡ [] → (new : State)
      → new ≡ collect (with_tree s (without_entry s.tree d name)) → AreEqualExceptAt d name (find_entry s.tree) (find_entry new.tree)
  names_left n there bare new is =
      but_collect d name s (with_tree s (without_entry s.tree d name)) new is
      (stays-without_entry s.tree whole.tree.well_formed d name n (fine_name.found ∙ there) bare)
      (alike-without s.tree d name fine_name.directory)
