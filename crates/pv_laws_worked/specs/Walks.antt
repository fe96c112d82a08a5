-- Walks along paths in the tree of a manifest.
use Rattle.std.specs.Prelude.{◌≡◌, ℕ, List, [], ◌∷◌, ◌++◌, flat_map, replicate, codes, Option, None, Some, option_map, Result, Ok, Err, refl}
use Rattle.pv_model.specs.declared.errno.Errno.{Errno}
use Rattle.pv_model.specs.declared.errno.Errno.TheVariants.{ENOENT, ENOTDIR, ENAMETOOLONG}
use Rattle.pv_model.specs.declared.follow.Follow.{Follow}
use Rattle.pv_model.specs.declared.follow.Follow.TheVariants.{Last, Keep, KeepTrimmed}
use Rattle.pv_model.specs.declared.place.Place.{Place}
use Rattle.pv_model.specs.declared.place.Place.TheVariants.{At, Node as Unnamed}
use Rattle.pv_model.specs.Machine.{Bytes, root, resolve}
use Rattle.pv_laws_worked.specs.Bundles.{bundles_on_literals, tree_of_lines}

-- the place where a path from the root leads
abbrev pub place_of_walk : List Bytes → Follow → Bytes → Option (Result Place Errno)
place_of_walk lines follow path = option_map (λ t. resolve t follow root path) (tree_of_lines lines)

-- a file, a directory, and links to them: nodes 2 to 5
abbrev pub few : List Bytes
few =
    codes "image 64 64" ∷
    codes "bytes \"/f\" \"\"" ∷
    codes "dir \"/d\"" ∷
    codes "link \"/l\" \"d\"" ∷
    codes "link \"/m\" \"f/\"" ∷ []

pub preserved_link : place_of_walk few Keep (codes "/l") ≡ Some (Ok (At root (codes "l") (Some 4)))
unfolding bundles_on_literals
preserved_link = refl

pub link_with_slash : place_of_walk few Keep (codes "/l/") ≡ Some (Ok (At root (codes "d") (Some 3)))
unfolding bundles_on_literals
link_with_slash = refl

pub file_with_slash : place_of_walk few Keep (codes "/f/") ≡ Some (Err ENOTDIR)
unfolding bundles_on_literals
file_with_slash = refl

pub absent_with_slash : place_of_walk few Keep (codes "/no/") ≡ Some (Err ENOENT)
unfolding bundles_on_literals
absent_with_slash = refl

pub after_file : place_of_walk few Keep (codes "/f/x") ≡ Some (Err ENOTDIR)
unfolding bundles_on_literals
after_file = refl

pub link_text_with_slash : place_of_walk few Last (codes "/m") ≡ Some (Err ENOTDIR)
unfolding bundles_on_literals
link_text_with_slash = refl

pub slash_dropped : place_of_walk few KeepTrimmed (codes "/no/") ≡ Some (Ok (At root (codes "no") None))
unfolding bundles_on_literals
slash_dropped = refl

pub slashes_alone : place_of_walk few KeepTrimmed (codes "//") ≡ Some (Ok (Unnamed 1))
unfolding bundles_on_literals
slashes_alone = refl

abbrev pub names : ℕ → Bytes
names n = flat_map (λ slash. slash ∷ replicate 60 97) (replicate n 47)

-- a link whose text has 16 names of 60 bytes
abbrev pub heavy : List Bytes
heavy = codes "image 64 64" ∷ (codes "link \"/k\" \"" ++ replicate 60 97 ++ names 15 ++ codes "\"") ∷ []

pub weight_at_most : place_of_walk heavy Last (codes "/k/" ++ replicate 47 98) ≡ Some (Err ENOENT)
unfolding bundles_on_literals
weight_at_most = refl

pub weight_above : place_of_walk heavy Last (codes "/k/" ++ replicate 48 98) ≡ Some (Err ENAMETOOLONG)
unfolding bundles_on_literals
weight_above = refl
