-- The stored data of a tree, as nodes get and lose names.
use Rattle.std.proofs.Common.{◌≡◌, ◌≢◌, ℕ, ◌+◌, ◌-◌, ◌^◌, ◌<◌, ◌≤◌, true, false, cond, List, [], None, Some, is_some, refl, ap, ap₂, sym, ◌∙◌, arith, ⊎_elim}
use Rattle.std.specs.Prelude.{slice_index, slice_set}
use Rattle.std.proofs.lemmas.Bool.{cases_eq, eq-eqb, ne_eqb}
use Rattle.std.proofs.lemmas.List.{length-set}
use Rattle.pv_model.specs.Machine.{Bytes, entries_there, Tree, root, node_at, entries_at, is_directory_at, find_entry, parent, with_entry, without_entry, is_name}
use Rattle.pv_laws_trees.specs.Encoded.{are_bytes}
use Rattle.pv_laws_trees.specs.Tree.{IsSoundTree, Appears}
use Rattle.pv_laws_trees.proofs.Ancestors.{appears-reached}
use Rattle.pv_laws_trees.proofs.TreeChanges.{SameShape, shape-with_entry, shape-without_entry, has_entry-directory, with_entry-cases, with_entry-stays, without_entry-was, without_entry-stays}
use Rattle.pv_laws_trees.proofs.WellFormedChanges.{sound-with_entry, sound-without_entry}
use Rattle.pv_laws_trees.proofs.NodeRoom.{no_larger-without}
use Rattle.pv_laws_trees.proofs.TreeBytes.{bytes-with_entry, bytes-without_entry}
use Rattle.pv_laws_trees.proofs.Trees.{ordered, sound, parent-unnamed}
use Rattle.pv_tree.specs.Changes.{without_if_unreferenced}
use Rattle.pv_tree.specs.Holding.{collected}
use Rattle.pv_tree.specs.Rooms.{room_error}
use Rattle.pv_tree.specs.Present.{stored, HasTreeCounts, IsTied}
use Rattle.pv_tree.proofs.CarriedData.{carried}
use Rattle.pv_tree.proofs.CollectionCounts.{below, read-same, read-other, preserved-more, without_if_unreferenced-is}
use Rattle.pv_tree.proofs.DirectoryEntries.{one_if}
use Rattle.pv_tree.proofs.CollectedNodes.{collected-all, all-preserved}
use Rattle.pv_laws_trees.proofs.NameCounts.{name_count, names-most}
use Rattle.pv_tree.proofs.NameCounts.{names-with_entry, names-without_entry}
use Rattle.pv_tree.proofs.ParentChanges.{parent-same}
use Rattle.pv_tree.proofs.RoomForEntries.{smaller-allowed}

pub one_if-same : (m n : ℕ) → n ≡ m → one_if m n ≡ 1
one_if-same m n same = ap (λ b. cond b 1 0) (eq-eqb m n (sym same))

pub one_if-other : (m n : ℕ) → n ≢ m → one_if m n ≡ 0
one_if-other m n other = ap (λ b. cond b 1 0) (ne_eqb m n (λ same. other (sym same)))

-- ---- one more name

module _ (t : Tree) (parents names holds : List ℕ) (tied : IsTied t parents names holds) where
  c : HasTreeCounts t parents names holds
  c = tied.counted

  -- the count of names does not overflow
  pub count-fits : (n : ℕ) → slice_index names n + 1 < 2 ^ 32
  count-fits n = omega (arith, c.names_counted n, names-most t c.short n, c.well_formed.numbers, c.few)

module _ (t : Tree) (parents names holds : List ℕ) (tied : IsTied t parents names holds) (d : ℕ) (name : Bytes) (n : ℕ)
    (appears : Appears t d) (free : find_entry t d name ≡ None) (good : is_name t.version name ≡ true) (encoded : are_bytes name ≡ true) (there : is_some (node_at t n) ≡ true) (plain : is_directory_at t n ≡ false) where
  abbrev u : Tree
  u = with_entry t d name n

  cl : HasTreeCounts t parents names holds
  cl = tied.counted

  sl : IsSoundTree t
  sl = sound t cl.well_formed

  shape : SameShape t u
  shape = shape-with_entry t d name n appears.0 sl.each_node good

  r : IsSoundTree u
  r = sound-with_entry t sl d name n appears.0 (appears-reached t sl d appears.1) free good there
      (λ top. let is = sl.root_is_directory in let isnt : is_directory_at t root ≡ false = ap (is_directory_at t) (sym top) ∙ plain in cc) (λ is. cc)

  abbrev counts : List ℕ
  counts = slice_set names n (slice_index names n + 1)

  same-parent : (m : ℕ) → is_directory_at u m ≡ true → parent u m ≡ parent t m
  same-parent m is =
      let other : m ≢ n = λ same. let isnt : is_directory_at t m ≡ false = ap (is_directory_at t) same ∙ plain in let was = sym (shape.directory m) ∙ is in cc in
      parent-same t u sl r m is
      (λ e q found. with_entry-stays t d name appears.0 n e q m found (λ here same. let none = ap₂ (find_entry t) here same ∙ free in cc))
      (λ e q found. ⊎_elim (λ new. absurd (other new.2)) (λ old. old.1) (with_entry-cases t d name appears.0 n e q m found))

  counted-names : (m : ℕ) → slice_index counts m ≡ name_count u m
  counted-names m =
      ⊎_elim
      (λ same. ap (slice_index counts) same ∙ read-same names n (slice_index names n + 1) (omega (arith, below t parents names holds cl n there, cl.places_of_names))
      ∙ omega (arith, cl.names_counted n, names-with_entry t n d name n appears.0 free, one_if-same n n refl) ∙ ap (name_count u) (sym same))
      (λ other. read-other names n m (slice_index names n + 1) other ∙ omega (arith, cl.names_counted m, names-with_entry t m d name n appears.0 free, one_if-other n m other))
      (cases_eq m n)

  pub linked-tied : room_error u ≡ None → IsTied u parents counts holds
  linked-tied allowed =
      record {
        counted = carried t u parents names holds cl parents counts holds r refl allowed (bytes-with_entry t d name n appears.0 encoded cl.bytes)
            refl (length-set names n (slice_index names n + 1)) refl (λ m more. shape.there m ∙ cl.held_are_nodes m more)
            (λ m is. cl.parents_stored m (sym (shape.directory m) ∙ is) ∙ ap stored (sym (same-parent m is))) counted-names;
        is_collected = collected-all u holds (λ m is.
            preserved-more m (name_count t m) (name_count u m) (slice_index holds m) (slice_index holds m)
            (omega (arith, names-with_entry t m d name n appears.0 free)) (omega arith)
            (all-preserved t holds tied.is_collected m (sym (shape.there m) ∙ is)));
      }

-- ---- the node under a name

pub found-place : (t : Tree) (parents names holds : List ℕ) → IsTied t parents names holds → (d : ℕ) (name : Bytes) (n : ℕ) → find_entry t d name ≡ Some n → n < 4097
found-place t parents names holds tied d name n found =
    below t parents names holds tied.counted n (tied.counted.well_formed.entries_are_nodes d name n found)

-- the node that a caller sees under a name has no entries
pub emptied : (t u : Tree) → t ≡ u → (d : ℕ) (name : Bytes) (n : ℕ) → find_entry t d name ≡ Some n → entries_there u (find_entry u d name) ≡ [] → entries_at t n ≡ []
emptied t u same d name n found empty =
    ap (entries_there t) (sym found) ∙ ap (λ v. entries_there v (find_entry v d name)) same ∙ empty

-- ---- one less name

module _ (t : Tree) (parents names holds : List ℕ) (tied : IsTied t parents names holds) (d : ℕ) (name : Bytes) (n : ℕ)
    (found : find_entry t d name ≡ Some n) (empty : entries_at t n ≡ []) where
  abbrev w : Tree
  w = without_entry t d name

  cu : HasTreeCounts t parents names holds
  cu = tied.counted

  su : IsSoundTree t
  su = sound t cu.well_formed

  dir : is_directory_at t d ≡ true
  dir = has_entry-directory t d name n found

  shape-less : SameShape t w
  shape-less = shape-without_entry t d name dir su.each_node

  ru : IsSoundTree w
  ru = sound-without_entry t su d name n found empty

  place : n < 4097
  place = below t parents names holds cu n (su.entries_are_nodes d name n found)

  abbrev fewer : List ℕ
  fewer = slice_set names n (slice_index names n - 1)

  abbrev orphaned : List ℕ
  orphaned = slice_set parents n 0

  counts-less : (m : ℕ) → one_if n m + name_count w m ≡ name_count t m
  counts-less m = names-without_entry t (ordered t su.each_node) m d name n dir found

  pub still-there : is_some (node_at w n) ≡ true
  still-there = shape-less.there n ∙ su.entries_are_nodes d name n found

  -- a node that loses a name has one
  pub has-name : 1 ≤ slice_index names n
  has-name = omega (arith, cu.names_counted n, counts-less n, one_if-same n n refl)

  no-parent : is_directory_at w n ≡ true → parent w n ≡ None
  no-parent is =
      parent-unnamed w (ordered w ru.each_node) n (su.root_is_unnamed d name n found)
      (λ e q has. let was = without_entry-was t d name dir e q n has in
      let once = su.directories_once n (sym (shape-less.directory n) ∙ is) e q d name was.1 found in was.0 once.0 once.1)

  same-parent-less : (m : ℕ) → m ≢ n → is_directory_at w m ≡ true → parent w m ≡ parent t m
  same-parent-less m other is =
      parent-same t w su ru m is
      (λ e q has. without_entry-stays t d name dir e q m has
      (λ here same. let value : Some n ≡ Some m = sym found ∙ ap₂ (find_entry t) (sym here) (sym same) ∙ has in let eq : n ≡ m = cc value in other (sym eq)))
      (λ e q has. (without_entry-was t d name dir e q m has).1)

  pub unlinked-counted : HasTreeCounts w orphaned fewer holds
  unlinked-counted =
      carried t w parents names holds cu orphaned fewer holds ru refl (smaller-allowed t w (no_larger-without t d name dir) cu.short cu.fits) (bytes-without_entry t d name dir cu.bytes)
      (length-set parents n 0) (length-set names n (slice_index names n - 1)) refl (λ m more. shape-less.there m ∙ cu.held_are_nodes m more)
      (λ m is.
      ⊎_elim
      (λ same. ap (slice_index orphaned) same ∙ read-same parents n 0 (omega (arith, place, cu.places_of_parents))
      ∙ ap stored (sym (no-parent (ap (is_directory_at w) (sym same) ∙ is))) ∙ ap (λ k. stored (parent w k)) (sym same))
      (λ other. read-other parents n m 0 other ∙ cu.parents_stored m (sym (shape-less.directory m) ∙ is) ∙ ap stored (sym (same-parent-less m other is)))
      (cases_eq m n))
      (λ m.
      ⊎_elim
      (λ same. ap (slice_index fewer) same ∙ read-same names n (slice_index names n - 1) (omega (arith, place, cu.places_of_names))
      ∙ omega (arith, cu.names_counted n, counts-less n, one_if-same n n refl) ∙ ap (name_count w) (sym same))
      (λ other. read-other names n m (slice_index names n - 1) other ∙ omega (arith, cu.names_counted m, counts-less m, one_if-other n m other))
      (cases_eq m n))

  -- the node is removed, or stays
  pub without_if_unreferenced-unlinked : without_if_unreferenced w n (slice_index fewer n) (slice_index holds n) ≡ collected w holds
  without_if_unreferenced-unlinked =
      without_if_unreferenced-is w orphaned fewer holds unlinked-counted n (λ m other is.
      preserved-more m (name_count t m) (name_count w m) (slice_index holds m) (slice_index holds m)
      (omega (arith, counts-less m, one_if-other n m other)) (omega arith)
      (all-preserved t holds tied.is_collected m (sym (shape-less.there m) ∙ is)))
