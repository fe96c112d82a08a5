-- New nodes, and the effect of creating one.
use Rattle.std.proofs.Common.{◌≡◌, ◌≢◌, ◌↔◌, ℕ, zero, suc, ◌+◌, ◌<◌, ◌≤◌, true, false, not, ◌&&◌, nat_le, [], ◌∷◌, ◌++◌, append-nil, drop, length, Option, None, Some, is_some, Result, Ok, Err, refl, ap, sym, subst, ◌∙◌, arith, le_of_suc-le-suc, ⊎_elim}
use Rattle.std.specs.Prelude.{OnOk, OnErr, option_map}
use Rattle.std.specs.Result.{is_err}
use Rattle.std.specs.FinMap.Entries.{find, put, is_sorted}
use Rattle.std.proofs.lemmas.Bool.{and_parts, leb-true, cases_eq, cases_lt, cases_Bool}
use Rattle.pv_dirs.specs.OfInodes.declared.space.Space.{Space}
use Rattle.pv_dirs.specs.OfInodes.declared.space.Space.TheVariants.{Full, TooBig}
use Rattle.pv_dirs.proofs.OfInodes.NumberMaps.{with_number-itself, without_number-with_number}
use Rattle.pv_model.specs.declared.kind.NewNode.{NewNode}
use Rattle.pv_model.specs.declared.kind.NewNode.TheVariants.{Directory, File, Executable, Symlink}
use Rattle.pv_model.specs.declared.version.Version.{Version}
use Rattle.pv_model.specs.Machine.{Bytes, is_empty, overwrite, size_of, Numbered, at_number, with_number, without_number, node_length, greatest_entries, greatest_length, is_too_long, fits, Node, directory_node, file_node, link_node, Tree, node_at, entries_of, entries_at, is_directory, is_directory_at, find_entry, with_node, with_entry, with_new_node, new_number, is_node, is_link_text, IsWellFormed}
use Rattle.pv_dirs.specs.Trees.{empty_node, written_tree, with_node_replaced, stored_bytes_of, without_node, LacksRoomForTree}
use Rattle.pv_laws_trees.specs.Encoded.{has_bytes}
use Rattle.pv_laws_trees.proofs.TreeChanges.{directory-below, node_at-same, still-there}
use Rattle.pv_laws_trees.proofs.WellFormedChanges.{new_number-free}
use Rattle.pv_laws_trees.proofs.DirectoryEntries.{by_name}
use Rattle.pv_laws_trees.proofs.NewNodes.{new-entries}
use Rattle.pv_laws_trees.proofs.NumberedMaps.{at_number-below, at_number-drop, length-with_number, with_number-other, with_number-same_within, with_number-other_within, without_number-same, without_number-other, length-without_number, length-drop_one, least_free-within, least_free-below, present-all, present-drop, same_numbered}
use Rattle.pv_laws_trees.proofs.Trees.{ordered}
use Rattle.pv_tree.specs.Changes.{new_node, kind_of_new}
use Rattle.pv_tree.specs.Rooms.{room_error}
use Rattle.pv_tree.specs.Present.{IsShaped}
use Rattle.pv_tree.proofs.VersionSizes.{entries_allowed, entries_past, text_allowed}
use Rattle.pv_tree.proofs.RoomForEntries.{room_error-long, room_error-full, short-with_node, too_long-more, short-more, fits-few}

-- ---- results

pub at-err : {P : Type 0} (r : Result (Unit {0}) Space) → is_err r ≡ true → OnErr r P → P
at-err (Ok x) is p = cc
at-err (Err why) is p = p

pub at-ok : {P : Type 0} (r : Result (Unit {0}) Space) → is_err r ≡ false → OnOk r P → P
at-ok (Ok x) is p = p
at-ok (Err why) is p = cc

pub always : {P : Type 0} (r : Result (Unit {0}) Space) → P → OnOk r P
always (Ok x) p = p
always (Err why) p = tt

-- ---- the contents of a new node

pub overwrite-none : (new : Bytes) → overwrite [] 0 new ≡ new
overwrite-none new = ap (λ r. new ++ r) (drop-none (0 + length new)) ∙ append-nil new
  where
    drop-none : (n : ℕ) → drop {A = ℕ} n [] ≡ []
    drop-none zero = refl
    drop-none (suc n) = refl

pub wrote-link : (t : Tree) (n : ℕ) (text : Bytes) → node_at t n ≡ Some (link_node []) → written_tree t n 0 text ≡ with_node t n (link_node text)
wrote-link t n [] at = ap (λ nodes. record t { nodes = nodes }) (sym (with_number-itself t.nodes n (link_node []) at))
wrote-link t n (b ∷ text) at =
    ap (λ o. with_node_replaced t n o (overwrite (stored_bytes_of o) 0 (b ∷ text))) at ∙ ap (λ bytes. with_node t n (link_node bytes)) (overwrite-none (b ∷ text))

link-length : (text : Bytes) → is_link_text text ≡ true → length text ≤ 1023
link-length text is = leb-true (length text) 1023 (and_parts (not (is_empty text)) (nat_le (length text) 1023) (and_parts (not (is_empty text) && nat_le (length text) 1023) _ is).0).1

pub lacks-link : (t : Tree) (n : ℕ) (text : Bytes) → node_at t n ≡ Some (link_node []) → is_link_text text ≡ true → (r : Result (Unit {0}) Space)
    → ((r ≡ Err TooBig) ↔ ((0 < length text) × (greatest_length t.version < 0 + length text)))
    → ((r ≡ Err Full) ↔ ((0 < length text) × (0 + length text ≤ greatest_length t.version) × LacksRoomForTree (written_tree t n 0 text)))
    → OnErr r (LacksRoomForTree (with_node t n (link_node text)))
lacks-link t n text at good r too_big full = by r refl
  where
    by : (a : Result (Unit {0}) Space) → r ≡ a → OnErr a (LacksRoomForTree (with_node t n (link_node text)))
    by (Ok x) is = tt
    by (Err TooBig) is = let short = link-length text good in let long = (too_big.0 is).1 in absurd (omega (arith, text_allowed t.version))
    by (Err Full) is = subst LacksRoomForTree (wrote-link t n text at) (full.0 is).2

pub same-empty : (k : NewNode) → ((x : _) → k ≡ Symlink x → ⊥) → new_node k ≡ empty_node (kind_of_new k)
same-empty Directory other = refl
same-empty File other = refl
same-empty Executable other = refl
same-empty (Symlink text) other = absurd (other text refl)

pub bytes-other : (k : NewNode) → ((x : _) → k ≡ Symlink x → ⊥) → has_bytes (new_node k) ≡ true
bytes-other Directory other = refl
bytes-other File other = refl
bytes-other Executable other = refl
bytes-other (Symlink text) other = absurd (other text refl)

pub filled : (t : Tree) (n : ℕ) (node : Node) → node_at t n ≡ Some node → t ≡ with_node t n node
filled t n node at = ap (λ nodes. record t { nodes = nodes }) (sym (with_number-itself t.nodes n node at))

pub there-filled : (t : Tree) (n : ℕ) (old node : Node) → node_at t n ≡ Some old → is_some (node_at (with_node t n node) n) ≡ true
there-filled t n old node at = ap is_some (node_at-same t n node (at_number-below t.nodes n old at))

pub emptied-again : (t : Tree) (n : ℕ) (old node : Node) → node_at t n ≡ Some old → without_node (with_node t n node) n ≡ without_node t n
emptied-again t n old node at = ap (λ nodes. record t { nodes = nodes }) (without_number-with_number t.nodes n old node at)

-- ---- the number of a new node

with_number-twice : (xs : Numbered Node) (n : ℕ) (a b : Node) → n < length xs → with_number (with_number xs n a) n b ≡ with_number xs n b
with_number-twice [] n a b below = absurd (omega arith)
with_number-twice (x ∷ xs) zero a b below = refl
with_number-twice (x ∷ xs) (suc n) a b below = ap (λ (ys : Numbered Node). x ∷ ys) (with_number-twice xs n a b (le_of_suc-le-suc below))

pub with_node-twice : (t : Tree) (n : ℕ) (a b : Node) → n < length t.nodes → with_node (with_node t n a) n b ≡ with_node t n b
with_node-twice t n a b below = ap (λ nodes. record t { nodes = nodes }) (with_number-twice t.nodes n a b below)

-- a new node that is removed again
pub taken_away : (t : Tree) (n : ℕ) (node : Node) → node_at t n ≡ None → n < length t.nodes → without_node (with_node t n node) n ≡ t
taken_away t n node free below =
    ap (λ nodes. record t { nodes = nodes })
    (same_numbered (without_number (with_number t.nodes n node) n) t.nodes (length-without_number (with_number t.nodes n node) n ∙ length-with_number t.nodes n node below)
    (λ m. ⊎_elim
    (λ same. ap (at_number (without_number (with_number t.nodes n node) n)) same ∙ without_number-same (with_number t.nodes n node) n ∙ sym free ∙ ap (node_at t) (sym same))
    (λ other. without_number-other (with_number t.nodes n node) n m other ∙ with_number-other t.nodes n node m below other)
    (cases_eq m n)))

new-length : (v : Version) (k : NewNode) → is_node v (new_node k) ≡ true → node_length v (new_node k) ≤ 1023
new-length v Directory good = omega arith
new-length v File good = omega arith
new-length v Executable good = omega arith
new-length v (Symlink text) good = link-length text.now good

pub size-entries : (t : Tree) (d k : ℕ) → is_directory_at t d ≡ true → option_map size_of (node_at t d) ≡ Some k → k ≡ length (entries_at t d)
size-entries t d k is size = by (node_at t d) refl is size
  where
    by : (o : Option Node) → node_at t d ≡ o → is_directory o ≡ true → option_map size_of o ≡ Some k → k ≡ length (entries_of o)
    by None at is size = cc
    by (Some (directory_node es)) at is size = let same : length es ≡ k = cc size in sym same
    by (Some (file_node executable bytes)) at is size = cc
    by (Some (link_node text)) at is size = cc

module _ (t : Tree) (w : IsWellFormed t) (short : is_too_long t ≡ false) (d : ℕ) (name : Bytes) (k : NewNode)
    (is : is_directory_at t d ≡ true) (free : find_entry t d name ≡ None) (good : is_node t.version (new_node k) ≡ true) where
  abbrev m : ℕ
  m = new_number t

  abbrev node : Node
  node = new_node k

  abbrev t1 : Tree
  t1 = with_node t m node

  abbrev u : Tree
  u = with_entry t1 d name m

  within : m ≤ length t.nodes
  within =
      let low = least_free-within (drop 1 t.nodes) in
      let long = length-drop_one t.nodes t.inodes w.numbers in
      omega (arith, w.numbers)

  apart : d ≢ m
  apart same = let isnt : is_directory_at t d ≡ false = ap (is_directory_at t) same ∙ ap is_directory (new_number-free t) in cc

  pub entries-one : (e : ℕ) → entries_at t1 e ≡ entries_at t e
  entries-one e =
      ⊎_elim
      (λ same. ap (entries_at t1) same ∙ ap entries_of (with_number-same_within t.nodes m node within) ∙ new-entries k ∙ sym (ap entries_of (new_number-free t)) ∙ ap (entries_at t) (sym same))
      (λ other. ap entries_of (with_number-other_within t.nodes m node e within other)) (cases_eq e m)

  pub directory-one : is_directory_at t1 d ≡ true
  directory-one = ap is_directory (with_number-other_within t.nodes m node d within apart) ∙ is

  pub absent-one : find_entry t1 d name ≡ None
  absent-one = ap (find by_name name) (entries-one d) ∙ free

  sorted-one : (e : ℕ) → is_sorted by_name (entries_at t1 e) ≡ true
  sorted-one e = ap (is_sorted by_name) (entries-one e) ∙ ordered t w.each_node e

  short-one : is_too_long t1 ≡ false
  short-one =
      short-with_node t m node short (omega (arith, new-length t.version k good, text_allowed t.version))

  pub few-one : length (entries_at t d) < greatest_entries t.version → length (entries_at t1 d) < greatest_entries t.version
  few-one few = omega (arith, ap length (entries-one d))

  -- a directory that is full
  pub refused-long : greatest_entries t.version ≤ length (entries_at t d) → room_error u ≡ Some TooBig
  refused-long many = room_error-long u (too_long-more t1 d (sorted-one d) name m directory-one absent-one (entries_past t.version (length (entries_at t1 d)) (omega (arith, ap length (entries-one d)))))

  there-one : (n : ℕ) → is_some (node_at t1 n) ≡ true → is_some (node_at u n) ≡ true
  there-one n there = still-there t1 d (directory_node (put by_name name m (entries_at t1 d))) (directory-below t1 d directory-one) n there

  crowd : m ≡ length t.nodes → (n : ℕ) → n < suc t.inodes → is_some (at_number (drop 1 u.nodes) n) ≡ true
  crowd full n below =
      ap is_some (sym (at_number-drop u.nodes n))
      ∙ there-one (suc n)
      (⊎_elim
      (λ low. ap is_some (with_number-other_within t.nodes m node (suc n) within (λ same. absurd (omega (arith, w.numbers)))) ∙ ap is_some (at_number-drop t.nodes n)
      ∙ least_free-below (drop 1 t.nodes) n (omega (arith, w.numbers)))
      (λ high. let last : suc n ≡ m = omega (arith, w.numbers) in ap (λ j. is_some (node_at t1 j)) last ∙ ap is_some (with_number-same_within t.nodes m node within))
      (cases_lt n t.inodes))

  -- an image whose inodes are all in use
  pub refused-crowded : length (entries_at t d) < greatest_entries t.version → m ≡ length t.nodes → room_error u ≡ Some Full
  refused-crowded few full =
      room_error-full u (short-more t1 d (sorted-one d) name m directory-one absent-one short-one (entries_allowed t.version (length (entries_at t1 d)) (few-one few)))
      (⊎_elim
      (λ room.
      let many = present-all (drop 1 u.nodes) (suc t.inodes) (crowd full) in
      let enough = fits-few u room in
      absurd (omega (arith, present-drop u.nodes)))
      (λ no_room. no_room)
      (cases_Bool (fits u)))

  -- the tree with the node, if its number is one of the image's
  pub shaped-one : m < length t.nodes → IsShaped t1
  shaped-one below = record {
    numbers = length-with_number t.nodes m node below ∙ w.numbers;
    no_zero = with_number-other_within t.nodes m node 0 within (λ same. absurd (omega arith)) ∙ w.no_zero;
    ordered = sorted-one;
    short = short-one;
  }

-- ---- the steps of creating a node

module _ (t v : Tree) (n : ℕ) (k : NewNode) (sort : Rattle.pv_model.specs.declared.kind.Kind.Kind) (taken : v ≡ with_node t n (empty_node sort)) (kind : sort ≡ kind_of_new k)
    (below : n < length t.nodes) (least : n ≡ new_number t) where
  pub fresh-is : v ≡ with_node t n (empty_node (kind_of_new k))
  fresh-is = taken ∙ ap (λ s. with_node t n (empty_node s)) kind

  pub furnished-is : with_node v n (new_node k) ≡ with_node t (new_number t) (new_node k)
  furnished-is =
      ap (λ (x : Tree). with_node x n (new_node k)) fresh-is ∙ with_node-twice t n (empty_node (kind_of_new k)) (new_node k) below ∙ ap (λ i. with_node t i (new_node k)) least

  pub entered-is : (d : ℕ) (name : Bytes) → with_entry (with_node v n (new_node k)) d name n ≡ with_new_node t d name (new_node k)
  entered-is d name =
      ap (λ (x : Tree). with_entry x d name n) furnished-is ∙ ap (λ i. with_entry (with_node t (new_number t) (new_node k)) d name i) least
