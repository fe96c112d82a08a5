-- The walk along a path as a relation, case by case, and its laws: symlink(7).
use Rattle.std.specs.Prelude.{◌≡◌, ◌↔◌, ℕ, suc, ◌<◌, ◌≤◌, Bool, true, false, not, ◌&&◌, ◌||◌, if◌then◌else◌, ◌==◌, IsTrue, IsFalse, List, [], ◌∷◌, ◌++◌, length, Option, None, Some, Ok, Err}
use Rattle.std.specs.List.{list_all}
use Rattle.pv_model.specs.declared.limits.TheConstants.{PATH, LINKS, WEIGHT}
use Rattle.pv_model.specs.declared.errno.Errno.TheVariants.{ENOENT, ENOTDIR, ELOOP, ENAMETOOLONG}
use Rattle.pv_model.specs.declared.follow.Follow.{Follow}
use Rattle.pv_model.specs.declared.place.Place.{Place}
use Rattle.pv_model.specs.declared.place.Place.TheVariants.{At, Node as Unnamed}
use Rattle.pv_model.specs.Machine.{Bytes, is_empty, Node, directory_node, file_node, link_node, Tree, greatest_name, root, node_at, entries_at, is_directory_at, find_entry, parent, is_removed, is_name, IsWellFormed, components, is_absolute, weight, follows_last, end_mark, Walked, resolve}
use Rattle.pv_model.specs.Walk.{ends_in_slash, is_dot, is_dot_dot}

-- the component is a name whose length the tree allows
pub record IsLookedUp (t : Tree) (component : Bytes) : Type 0 where
  pub no_dot : IsFalse (is_dot component)
  pub no_dot_dot : IsFalse (is_dot_dot component)
  pub short : length component ≤ greatest_name t.version

-- the directory is not removed and has the node under the component
pub record HasNodeAt (t : Tree) (at : ℕ) (component : Bytes) (n : ℕ) (node : Node) : Type 0 where
  pub name : IsLookedUp t component
  pub appears : IsFalse (is_removed t at)
  pub entry : find_entry t at component ≡ Some n
  pub is : node_at t n ≡ Some node

-- a link is followed if a component remains, the end mark is set, or final links are followed
abbrev pub is_followed : List Bytes → Bool → Bool → Bool
is_followed rest mark last = not (is_empty rest && not mark && not last)

-- the result of a walk from a directory along components, with a number of links that it may still follow
pub data Walks (t : Tree) (last : Bool) : ℕ → List Bytes → Bool → ℕ → Walked → Type 0 where
  -- 1. no component is left: the directory, without a name
  arrives : (links : ℕ) (mark : Bool) (at : ℕ) → Walks t last links [] mark at (Ok (Unnamed at))
  -- 2. `.` is the directory itself, and `..` is its parent, if it has one
  stays : (links : ℕ) (component : Bytes) (rest : List Bytes) (mark : Bool) (at : ℕ) (r : Walked) → IsTrue (is_dot component)
      → Walks t last links rest mark at r → Walks t last links (component ∷ rest) mark at r
  climbs : (links : ℕ) (component : Bytes) (rest : List Bytes) (mark : Bool) (at above : ℕ) (r : Walked) → IsTrue (is_dot_dot component) → parent t at ≡ Some above
      → Walks t last links rest mark above r → Walks t last links (component ∷ rest) mark at r
  no_parent : (links : ℕ) (component : Bytes) (rest : List Bytes) (mark : Bool) (at : ℕ) → IsTrue (is_dot_dot component) → parent t at ≡ None
      → Walks t last links (component ∷ rest) mark at (Err ENOENT)
  -- 3. the name is too long
  name_too_long : (links : ℕ) (component : Bytes) (rest : List Bytes) (mark : Bool) (at : ℕ) → IsFalse (is_dot component) → IsFalse (is_dot_dot component)
      → greatest_name t.version < length component → Walks t last links (component ∷ rest) mark at (Err ENAMETOOLONG)
  -- 4. a removed directory has no names
  in_removed : (links : ℕ) (component : Bytes) (rest : List Bytes) (mark : Bool) (at : ℕ) → IsLookedUp t component → IsTrue (is_removed t at)
      → Walks t last links (component ∷ rest) mark at (Err ENOENT)
  -- 5. the name is absent: an error, unless it is the last component and no slash follows
  absent : (links : ℕ) (component : Bytes) (rest : List Bytes) (mark : Bool) (at : ℕ) → IsLookedUp t component → IsFalse (is_removed t at) → find_entry t at component ≡ None
      → IsFalse (is_empty rest && not mark) → Walks t last links (component ∷ rest) mark at (Err ENOENT)
  vacant : (links : ℕ) (component : Bytes) (at : ℕ) → IsLookedUp t component → IsFalse (is_removed t at) → find_entry t at component ≡ None
      → Walks t last links (component ∷ []) false at (Ok (At at component None))
  -- 6. a link is followed: its components come before the rest, from its directory or from the root
  out_of_links : (component : Bytes) (rest : List Bytes) (mark : Bool) (at n : ℕ) (text : Bytes) → HasNodeAt t at component n (link_node text) → IsTrue (is_followed rest mark last)
      → Walks t last 0 (component ∷ rest) mark at (Err ELOOP)
  too_heavy : (links : ℕ) (component : Bytes) (rest : List Bytes) (mark : Bool) (at n : ℕ) (text : Bytes) → HasNodeAt t at component n (link_node text) → IsTrue (is_followed rest mark last)
      → WEIGHT < weight (components text ++ rest) → Walks t last (suc links) (component ∷ rest) mark at (Err ENAMETOOLONG)
  through : (links : ℕ) (component : Bytes) (rest : List Bytes) (mark : Bool) (at n : ℕ) (text : Bytes) (r : Walked)
      → HasNodeAt t at component n (link_node text) → IsTrue (is_followed rest mark last) → weight (components text ++ rest) ≤ WEIGHT
      → Walks t last links (components text ++ rest) (mark || (is_empty rest && ends_in_slash text)) (if is_absolute text then root else at) r
      → Walks t last (suc links) (component ∷ rest) mark at r
  -- 7. a component remains: a directory is entered, and a file is an error
  enters : (links : ℕ) (component : Bytes) (next : Bytes) (rest : List Bytes) (mark : Bool) (at n : ℕ) (es : List (Bytes × ℕ)) (r : Walked) → HasNodeAt t at component n (directory_node es)
      → Walks t last links (next ∷ rest) mark n r → Walks t last links (component ∷ next ∷ rest) mark at r
  not_entered : (links : ℕ) (component : Bytes) (next : Bytes) (rest : List Bytes) (mark : Bool) (at n : ℕ) (executable : Bool) (bytes : Bytes)
      → HasNodeAt t at component n (file_node executable bytes) → Walks t last links (component ∷ next ∷ rest) mark at (Err ENOTDIR)
  -- 8. the last component: the place, but a file before a final slash is an error
  finds_directory : (links : ℕ) (component : Bytes) (mark : Bool) (at n : ℕ) (es : List (Bytes × ℕ)) → HasNodeAt t at component n (directory_node es)
      → Walks t last links (component ∷ []) mark at (Ok (At at component (Some n)))
  finds_file : (links : ℕ) (component : Bytes) (at n : ℕ) (executable : Bool) (bytes : Bytes) → HasNodeAt t at component n (file_node executable bytes)
      → Walks t last links (component ∷ []) false at (Ok (At at component (Some n)))
  finds_link : (links : ℕ) (component : Bytes) (rest : List Bytes) (mark : Bool) (at n : ℕ) (text : Bytes) → HasNodeAt t at component n (link_node text) → IsFalse (is_followed rest mark last)
      → Walks t last links (component ∷ rest) mark at (Ok (At at component (Some n)))
  wants_directory : (links : ℕ) (component : Bytes) (at n : ℕ) (executable : Bool) (bytes : Bytes) → HasNodeAt t at component n (file_node executable bytes)
      → Walks t last links (component ∷ []) true at (Err ENOTDIR)
  -- an entry without a node, which a well-formed tree does not have
  lost : (links : ℕ) (component : Bytes) (rest : List Bytes) (mark : Bool) (at n : ℕ) → IsLookedUp t component → IsFalse (is_removed t at) → find_entry t at component ≡ Some n → node_at t n ≡ None
      → Walks t last links (component ∷ rest) mark at (Err ENOENT)

-- the walk of a path: an empty path and a path of more than 1,023 bytes are errors; otherwise it starts at the root or
-- at the starting directory, with 32 links
pub data Resolves (t : Tree) (follow : Follow) (start : ℕ) (path : Bytes) : Walked → Type 0 where
  empty : IsTrue (is_empty path) → Resolves t follow start path (Err ENOENT)
  too_long : PATH < length path → Resolves t follow start path (Err ENAMETOOLONG)
  walks : (r : Walked) → IsFalse (is_empty path) → length path ≤ PATH
      → Walks t (follows_last follow) LINKS (components path) (end_mark follow path) (if is_absolute path then root else start) r → Resolves t follow start path r

-- `resolve` computes the relation
abbrev pub ResolvesAsWalked : Type 0
ResolvesAsWalked =
    (t : Tree) (follow : Follow) (start : ℕ) (path : Bytes) (r : Walked) → (resolve t follow start path ≡ r) ↔ Resolves t follow start path r

-- the relation has at most one result
abbrev pub WalksOnce : Type 0
WalksOnce =
    (t : Tree) (last : Bool) (links : ℕ) (ps : List Bytes) (mark : Bool) (at : ℕ) (r q : Walked)
    → Walks t last links ps mark at r → Walks t last links ps mark at q → r ≡ q

-- a path of slashes names the root
abbrev pub SlashesAreRoot : Type 0
SlashesAreRoot =
    (t : Tree) (follow : Follow) (start : ℕ) (path : Bytes) → IsFalse (is_empty path) → IsTrue (list_all (λ b. b == 47) path) → length path ≤ PATH
    → resolve t follow start path ≡ Ok (Unnamed root)

-- a valid place: a directory that exists, or a valid name in a directory that is not removed, with the node that the
-- name has there
abbrev pub IsPlace : Tree → Place → Type 0
IsPlace t (Unnamed d) = IsTrue (is_directory_at t d)
IsPlace t (At d name n) = IsTrue (is_directory_at t d) × IsFalse (is_removed t d) × (find_entry t d name ≡ n) × IsTrue (is_name t.version name)

-- a path without zero bytes leads from a directory to a valid place
abbrev pub LeadsToPlace : Type 0
LeadsToPlace =
    (t : Tree) → IsWellFormed t → (follow : Follow) (start : ℕ) (path : Bytes) (place : Place) → IsTrue (is_directory_at t start) → IsTrue (list_all (λ b. not (b == 0)) path)
    → resolve t follow start path ≡ Ok place → IsPlace t place

-- the part of a node that a walk reads: its kind, and the text of a link
pub data WalkedNode : Type 0 where
  no_node : WalkedNode
  a_directory : WalkedNode
  a_file : WalkedNode
  a_link : (text : Bytes) → WalkedNode

abbrev pub walked_node : Option Node → WalkedNode
walked_node None = no_node
walked_node (Some (directory_node es)) = a_directory
walked_node (Some (file_node executable bytes)) = a_file
walked_node (Some (link_node text)) = a_link text

-- two trees with the same entries, the same kinds of nodes and the same links
pub record LooksTheSame (t u : Tree) : Type 0 where
  pub version : u.version ≡ t.version
  pub entries : (d : ℕ) → entries_at u d ≡ entries_at t d
  pub nodes : (n : ℕ) → walked_node (node_at u n) ≡ walked_node (node_at t n)

-- a walk reads nothing else; in particular, it does not read the bytes of files
abbrev pub WalksAreEqual : Type 0
WalksAreEqual = (t u : Tree) → LooksTheSame t u → (follow : Follow) (start : ℕ) (path : Bytes) → resolve u follow start path ≡ resolve t follow start path
