-- Carrying the stored data of a tree over to the next tree.
use Rattle.std.proofs.Common.{◌≡◌, ℕ, ◌+◌, ◌-◌, ◌<◌, ◌≤◌, true, List, ◌++◌, length, take, drop, replicate, None, is_some, refl, sym, ◌∙◌}
use Rattle.std.specs.Prelude.{slice_index}
use Rattle.pv_model.specs.Machine.{Tree, node_at, is_directory_at, names_of, parent}
use Rattle.pv_laws_trees.specs.Encoded.{AllBytes}
use Rattle.pv_laws_trees.specs.Tree.{IsSoundTree}
use Rattle.pv_laws_trees.proofs.Trees.{well_formed}
use Rattle.pv_tree.specs.Rooms.{room_error}
use Rattle.pv_tree.specs.Present.{stored, HasTreeCounts}
use Rattle.pv_tree.proofs.RoomForEntries.{room_error-none}

-- another tree of the same image with other stored numbers: the properties of the new numbers, and those of the old
-- tree
pub carried : (t u : Tree) (parents names holds : List ℕ) → HasTreeCounts t parents names holds → (new_parents new_names new_holds : List ℕ)
    → IsSoundTree u → u.inodes ≡ t.inodes → room_error u ≡ None → AllBytes u
    → length new_parents ≡ length parents → length new_names ≡ length names → length new_holds ≡ length holds
    → ((n : ℕ) → 0 < slice_index new_holds n → is_some (node_at u n) ≡ true)
    → ((n : ℕ) → is_directory_at u n ≡ true → slice_index new_parents n ≡ stored (parent u n))
    → ((n : ℕ) → slice_index new_names n ≡ length (names_of u n))
    → HasTreeCounts u new_parents new_names new_holds
carried t u parents names holds c new_parents new_names new_holds sound inodes allowed bytes as_many_parents as_many_names as_many_holds held above named =
    let room = room_error-none u allowed in
    record {
      well_formed = well_formed u sound;
      few = Rattle.std.proofs.Common.subst (λ n. n ≤ 4096) (sym inodes) c.few;
      fits = room.1;
      short = room.0;
      bytes = bytes;
      held_are_nodes = held;
      places_of_parents = as_many_parents ∙ c.places_of_parents;
      places_of_names = as_many_names ∙ c.places_of_names;
      places_of_holds = as_many_holds ∙ c.places_of_holds;
      parents_stored = above;
      names_counted = named;
    }
