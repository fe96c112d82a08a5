-- The blocks that contents need, and whether trees fit.
use Rattle.std.specs.Prelude.{◌≡◌, ◌*◌, Bool, true, false, List, [], ◌∷◌, codes, Option, Some, option_map, refl}
use Rattle.pv_model.specs.declared.version.Version.TheVariants.{V1, V2}
use Rattle.pv_model.specs.Machine.{Bytes, need, fits, Tree, with_entry, without_entry}
use Rattle.pv_laws_worked.specs.Bundles.{bundles_on_literals, tree_of_lines}

pub ten_blocks : need V1 5120 ≡ 10
unfolding bundles_on_literals
ten_blocks = refl

pub eleven_blocks : need V1 5121 ≡ 12
unfolding bundles_on_literals
eleven_blocks = refl

pub greatest_in_version_1 : need V1 136192 ≡ 267
unfolding bundles_on_literals
greatest_in_version_1 = refl

pub greatest_in_version_2 : need V2 660480 ≡ 1295
unfolding bundles_on_literals
greatest_in_version_2 = refl

-- a directory with eight entries in version 2
pub eight_entries : need V2 (260 * 8) ≡ 5
unfolding bundles_on_literals
eight_entries = refl

-- three data blocks: `/a` with `f`, and `/b` with eight names of one empty file
abbrev pub three_blocks : List Bytes
three_blocks =
    codes "image 5 16" ∷
    codes "dir \"/a\"" ∷
    codes "dir \"/b\"" ∷
    codes "bytes \"/a/f\" \"\"" ∷
    codes "bytes \"/b/0\" \"\"" ∷
    codes "name \"/b/1\" \"/b/0\"" ∷
    codes "name \"/b/2\" \"/b/0\"" ∷
    codes "name \"/b/3\" \"/b/0\"" ∷
    codes "name \"/b/4\" \"/b/0\"" ∷
    codes "name \"/b/5\" \"/b/0\"" ∷
    codes "name \"/b/6\" \"/b/0\"" ∷
    codes "name \"/b/7\" \"/b/0\"" ∷ []

-- whether the tree after a change fits
abbrev pub has_room_after : (Tree → Tree) → Option Bool
has_room_after change = option_map (λ t. fits (change t)) (tree_of_lines three_blocks)

pub full : has_room_after (λ t. t) ≡ Some true
unfolding bundles_on_literals
full = refl

-- a ninth entry needs the block that the first directory no longer needs
pub room_after_move : has_room_after (λ t. with_entry (without_entry t 2 (codes "f")) 3 (codes "g") 4) ≡ Some true
unfolding bundles_on_literals
room_after_move = refl

pub added : has_room_after (λ t. with_entry t 3 (codes "g") 4) ≡ Some false
unfolding bundles_on_literals
added = refl
