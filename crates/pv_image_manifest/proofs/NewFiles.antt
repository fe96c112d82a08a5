-- Whether an image has room for a tree, and a new file with its bytes.
use Rattle.std.proofs.Common.{◌≡◌, ◌≢◌, ◌∙◌, ap, ℕ, zero, suc, ◌<◌, ◌≤◌, Bool, true, false, not, cond, ◌||◌, [], ◌∷◌, length, drop, Option, None, Some, Ok, Err, refl, sym, subst, arith, ⊎_elim, le_refl}
use Rattle.std.specs.FinMap.Entries.{put}
use Rattle.std.proofs.lemmas.Bool.{cases_eq}
use Rattle.pv_tree.specs.OfInodes.declared.space.Space.{Space}
use Rattle.pv_tree.specs.OfInodes.declared.space.Space.TheVariants.{Full, TooBig}
use Rattle.pv_model.specs.declared.fault.ManifestFault.TheVariants.{Room}
use Rattle.pv_model.specs.declared.version.Version.{Version}
use Rattle.pv_model.specs.Machine.{Bytes, with_content_of, bytes_of, overwrite, Numbered, with_number, is_too_long, fits, Node, directory_node, file_node, Tree, node_at, entries_at, is_directory, is_directory_at, find_entry, with_node, with_new_node, new_number, IsWellFormed}
use Rattle.pv_model.specs.Grammar.Manifests.{if_room}
use Rattle.pv_tree.specs.Changes.{overwritten}
use Rattle.pv_tree.specs.Rooms.{room_error}
use Rattle.pv_laws_trees.specs.Room.{IsNoLonger, IsNoLarger}
use Rattle.pv_laws_trees.proofs.TreeChanges.{node_at-other, directory-below}
use Rattle.pv_laws_trees.proofs.WellFormedChanges.{new_number-free}
use Rattle.pv_laws_trees.proofs.DirectoryEntries.{by_name}
use Rattle.pv_laws_trees.proofs.NewNodes.{new-same, dir-new, entries-new}
use Rattle.pv_laws_trees.proofs.NumberedMaps.{at_number-below, least_free-within, length-drop_one}
use Rattle.pv_laws_trees.proofs.NodeRoom.{smaller-fits, smaller-not_too_long}
use Rattle.pv_tree.proofs.NodeCreation.{overwrite-none}
use Rattle.pv_image_manifest.specs.Building.{lacks_room}

-- ---- room

pub room-none : (t : Tree) → room_error t ≡ None → lacks_room t ≡ false
room-none t allowed = by (is_too_long t) (fits t) allowed
  where
    by : (long fit : Bool) → cond long (Some TooBig) (cond fit None (Some Full)) ≡ None → (long || not fit) ≡ false
    by true fit is = cc
    by false true is = refl
    by false false is = cc

pub room-some : (t : Tree) (why : Space) → room_error t ≡ Some why → lacks_room t ≡ true
room-some t why refused = by (is_too_long t) (fits t) refused
  where
    by : (long fit : Bool) → cond long (Some TooBig) (cond fit None (Some Full)) ≡ Some why → (long || not fit) ≡ true
    by true fit is = refl
    by false true is = cc
    by false false is = refl

-- a larger tree does not fit either
lacks-along : (t u : Tree) → IsNoLarger u t → lacks_room u ≡ true → lacks_room t ≡ true
lacks-along t u less lacks =
    by (is_too_long t) (fits t) (is_too_long u) (fits u) refl refl (smaller-not_too_long t u less) (smaller-fits t u less) lacks
  where
    by : (long fit long' fit' : Bool) → is_too_long t ≡ long → fits t ≡ fit → (long' ≡ true → is_too_long t ≡ true) → (fits t ≡ true → fit' ≡ true) → (long' || not fit') ≡ true → (long || not fit) ≡ true
    by true fit long' fit' p q longer room is = refl
    by false false long' fit' p q longer room is = refl
    by false true true fit' p q longer room is = let invalid = longer refl in cc
    by false true false true p q longer room is = cc
    by false true false false p q longer room is = let invalid = room q in cc

pub in-room : (line : ℕ) (t : Tree) → room_error t ≡ None → if_room line t ≡ Ok t
in-room line t allowed = ap (λ b. cond b (Err (Room line)) (Ok t)) (room-none t allowed)

pub out-of-room : (line : ℕ) (t : Tree) → lacks_room t ≡ true → if_room line t ≡ Err (Room line)
out-of-room line t lacks = ap (λ b. cond b (Err (Room line)) (Ok t)) lacks

-- ---- a new file, and then its bytes

module _ {X : Type 0} where
  twice : (xs : Numbered X) (n : ℕ) (a b : X) → n ≤ length xs → with_number (with_number xs n a) n b ≡ with_number xs n b
  twice [] zero a b within = refl
  twice [] (suc n) a b within = absurd (omega (arith, within))
  twice (x ∷ xs) zero a b within = refl
  twice (x ∷ xs) (suc n) a b within = ap (λ ys. x ∷ ys) (twice xs n a b (omega (arith, within)))

  over : (xs : Numbered X) (n d : ℕ) (a b c : X) → n ≤ length xs → d ≢ n → with_number (with_number (with_number xs n a) d c) n b ≡ with_number (with_number xs n b) d c
  over [] zero zero a b c within apart = absurd (apart refl)
  over [] zero (suc d) a b c within apart = refl
  over [] (suc n) d a b c within apart = absurd (omega (arith, within))
  over (x ∷ xs) zero zero a b c within apart = absurd (apart refl)
  over (x ∷ xs) zero (suc d) a b c within apart = refl
  over (x ∷ xs) (suc n) zero a b c within apart = ap (λ ys. Some c ∷ ys) (twice xs n a b (omega (arith, within)))
  over (x ∷ xs) (suc n) (suc d) a b c within apart = ap (λ ys. x ∷ ys) (over xs n d a b c (omega (arith, within)) (λ same. apart (ap suc same)))

pub new-within : (t : Tree) → IsWellFormed t → new_number t ≤ length t.nodes
new-within t w = omega (arith, least_free-within (drop 1 t.nodes), length-drop_one t.nodes t.inodes w.numbers, w.numbers)

module _ (t : Tree) (w : IsWellFormed t) (d : ℕ) (name : Bytes) (x : Bool) (dir : is_directory_at t d ≡ true) (absent : find_entry t d name ≡ None) where
  abbrev n0 : ℕ
  n0 = new_number t

  -- the tree with the file of these bytes
  abbrev filled : Bytes → Tree
  filled bytes = with_new_node t d name (file_node x bytes)

  within : n0 ≤ length t.nodes
  within = new-within t w

  apart : d ≢ n0
  apart same = let isnt : is_directory_at t d ≡ false = ap (is_directory_at t) same ∙ ap is_directory (new_number-free t) in cc

  pub file-there : (bytes : Bytes) → node_at (filled bytes) n0 ≡ Some (file_node x bytes)
  file-there bytes =
      let t1 = with_node t n0 (file_node x bytes) in
      node_at-other t1 d (directory_node (put by_name name n0 (entries_at t1 d))) n0 (directory-below t1 d (dir-new t d name (file_node x bytes) dir absent refl within)) (λ same. apart (sym same))
      ∙ new-same t d name (file_node x bytes) dir absent refl within

  -- bytes in an empty file are a file of these bytes
  file-filled : (bytes : Bytes) → with_node (filled []) n0 (file_node x bytes) ≡ filled bytes
  file-filled bytes =
      let entries : entries_at (with_node t n0 (file_node x [])) d ≡ entries_at (with_node t n0 (file_node x bytes)) d =
      entries-new t d name (file_node x []) dir absent refl within d ∙ sym (entries-new t d name (file_node x bytes) dir absent refl within d)
      in
      ap (λ es. with_node (with_node (with_node t n0 (file_node x [])) d (directory_node (put by_name name n0 es))) n0 (file_node x bytes)) entries
      ∙ ap (λ nodes. record t { nodes = nodes }) (over t.nodes n0 d (file_node x []) (file_node x bytes) (directory_node (put by_name name n0 (entries_at (with_node t n0 (file_node x bytes)) d))) within apart)

  file-written : (bytes : Bytes) → overwritten (filled []) n0 0 bytes ≡ filled bytes
  file-written [] = refl
  file-written (b ∷ bytes) =
      ap (λ o. with_content_of (filled []) n0 o (overwrite (bytes_of o) 0 (b ∷ bytes))) (file-there [])
      ∙ ap (λ bs. with_node (filled []) n0 (file_node x bs)) (overwrite-none (b ∷ bytes)) ∙ file-filled (b ∷ bytes)

  -- the same for a tree in which an empty file was created
  pub file-written-in : (bytes : Bytes) (u : Tree) (node : Node) (n : ℕ) → u ≡ with_new_node t d name node → node ≡ file_node x [] → n ≡ n0 → overwritten u n 0 bytes ≡ filled bytes
  file-written-in bytes u node n is empty number =
      ap (λ v. overwritten v n 0 bytes) is ∙ ap (λ made. overwritten (with_new_node t d name made) n 0 bytes) empty ∙ ap (λ m. overwritten (filled []) m 0 bytes) number
      ∙ file-written bytes

  no_longer-self : (v : Version) (o : Option Node) → IsNoLonger v o o
  no_longer-self v None = tt
  no_longer-self v (Some node) = le_refl _

  empty-smaller : (bytes : Bytes) → IsNoLarger (filled []) (filled bytes)
  empty-smaller bytes = record {
    blocks = refl;
    inodes = refl;
    version = refl;
    nodes = λ k.
        ⊎_elim
        (λ same.
        subst (λ m. IsNoLonger t.version (node_at (filled []) m) (node_at (filled bytes) m)) (sym same)
        (subst (λ o. IsNoLonger t.version (node_at (filled []) n0) o) (sym (file-there bytes)) (subst (λ o. IsNoLonger t.version o (Some (file_node x bytes))) (sym (file-there [])) (omega arith))))
        (λ other.
        let here : n0 < length (filled []).nodes = at_number-below (filled []).nodes n0 (file_node x []) (file-there []) in
        let alike : node_at (filled bytes) k ≡ node_at (filled []) k =
        ap (λ u. node_at u k) (sym (file-filled bytes)) ∙ node_at-other (filled []) n0 (file_node x bytes) k here other
        in
        subst (λ o. IsNoLonger t.version (node_at (filled []) k) o) (sym alike) (no_longer-self t.version (node_at (filled []) k))) (cases_eq k n0);
  }

  -- if there is no room for the empty file, there is none for the file
  pub no-room-empty : (bytes : Bytes) (why : Space) → room_error (filled []) ≡ Some why → lacks_room (filled bytes) ≡ true
  no-room-empty bytes why refused = lacks-along (filled bytes) (filled []) (empty-smaller bytes) (room-some (filled []) why refused)
