-- The inodes of an image: kinds and sizes, slots, and contents.
use Rattle.std.proofs.Common.{◌≡◌, ◌≢◌, ℕ, codes, ◌*◌, ◌/◌, ◌%◌, ◌≤◌, Bool, true, false, not, ◌&&◌, ◌==◌, nat_le, List, [], ◌∷◌, map, length, Option, None, Some, is_some, bytes_eq, IsPermutation, ap, sym, subst, ◌∙◌, refl, arith}
use Rattle.std.specs.FinMap.Entries.{find, is_sorted}
use Rattle.std.specs.List.{AllByRecursion, list_any, list_all}
use Rattle.std.proofs.lemmas.Bool.{and_parts, or_from, eqb-true, ne_eqb, leb-true}
use Rattle.std.proofs.lemmas.List.Elements.{All-from_recursion, recursion_from_All}
use Rattle.std.proofs.lemmas.List.Sorted.{IsPermutation-sym, IsPermutation-trans, All-permutation, length_permutation}
use Rattle.pv_model.specs.declared.limits.TheConstants.{LINK_TEXT}
use Rattle.pv_model.specs.declared.version.Version.{Version}
use Rattle.pv_model.specs.declared.version.Version.TheVariants.{V1, V2}
use Rattle.pv_model.specs.Machine.{Bytes, is_empty, size, content, Holds, HoldsAny, IsImageOf, slots_of, slot_name, appears_twice, inode_number, kind, is_free, slots_at, entry_length, Entries, Node, directory_node, file_node, link_node, Tree, node_at, entries_of, is_directory, is_name_byte, is_name, greatest_name, is_link_text}
use Rattle.pv_model.specs.Mount.{entries_in, node_in}
use Rattle.pv_laws_trees.specs.Inodes.{EachOnce, IsFineContent, IsFineInode, IsFineSlot}
use Rattle.pv_laws_trees.specs.Slots.{entry_in_slot, IsMeasured}
use Rattle.pv_laws_trees.proofs.SlotEntries.{read}
use Rattle.pv_laws_trees.proofs.DirectoryEntries.{by_name}
use Rattle.pv_laws_trees.proofs.Directories.{permuted, sorted-put_all}
use Rattle.pv_laws_trees.proofs.HeldNodes.{node-within, node-held}
use Rattle.pv_laws_trees.proofs.SortedEntries.{entry_name, each-found, permuted-once, one-order}
use Rattle.pv_laws_trees.proofs.InodeNodes.{node_of, slots-directory, slots-other}

-- ---- lengths and lists

times_whole : (v : Version) (k : ℕ) → (entry_length v * k) % entry_length v ≡ 0
times_whole V1 k = omega arith
times_whole V2 k = omega arith

times_over : (v : Version) (k : ℕ) → (entry_length v * k) / entry_length v ≡ k
times_over V1 k = omega arith
times_over V2 k = omega arith

map_again : (slots : List Bytes) → map entry_name (map entry_in_slot slots) ≡ map slot_name slots
map_again [] = refl
map_again (slot ∷ slots) = ap (λ (names : List Bytes). slot_name slot ∷ names) (map_again slots)

module _ {X : Type 0} where
  passed : (p : X → Bool) (xs : List X) → list_all p xs ≡ true → AllByRecursion (λ x. p x ≡ true) xs
  passed p [] all = tt
  passed p (x ∷ xs) all = let parts = and_parts (p x) (list_all p xs) all in (parts.0, passed p xs parts.1)

  none_passed : (p : X → Bool) (xs : List X) → list_all (λ x. not (p x)) xs ≡ true → list_any p xs ≡ false
  none_passed p [] all = refl
  none_passed p (x ∷ xs) all =
      let parts = and_parts (not (p x)) (list_all (λ x. not (p x)) xs) all in
      or_from (p x) (list_any p xs) (elim (p x) as (λ b. not b ≡ true → b ≡ false) [ true ↦ λ h. cc h | false ↦ λ h. refl ] parts.0) (none_passed p xs parts.1)

  each_both : (P Q R : X → Type 0) → ((x : X) → P x → Q x → R x) → (xs : List X) → AllByRecursion P xs → AllByRecursion Q xs → AllByRecursion R xs
  each_both P Q R both [] all too = tt
  each_both P Q R both (x ∷ xs) all too = (both x all.0 too.0, each_both P Q R both xs all.1 too.1)

  each_permuted : (P : X → Type 0) (xs ys : List X) → IsPermutation xs ys → AllByRecursion P xs → AllByRecursion P ys
  each_permuted P xs ys same all = recursion_from_All P ys (All-permutation P xs ys same (All-from_recursion P xs all))

each_map : {X Y : Type 0} (P : Y → Type 0) (f : X → Y) (xs : List X) → AllByRecursion P (map f xs) → AllByRecursion (λ x. P (f x)) xs
each_map P f [] all = tt
each_map P f (x ∷ xs) all = (all.0, each_map P f xs all.1)

name_short : (v : Version) (name : Bytes) → is_name v name ≡ true → length name ≤ greatest_name v
name_short v name is =
    let a = and_parts (not (is_empty name) && nat_le (length name) (greatest_name v) && list_all is_name_byte name && not (bytes_eq name (codes "."))) (not (bytes_eq name (codes ".."))) is in
    let b = and_parts (not (is_empty name) && nat_le (length name) (greatest_name v) && list_all is_name_byte name) (not (bytes_eq name (codes "."))) a.0 in
    let c = and_parts (not (is_empty name) && nat_le (length name) (greatest_name v)) (list_all is_name_byte name) b.0 in
    leb-true (length name) (greatest_name v) (and_parts (not (is_empty name)) (nat_le (length name) (greatest_name v)) c.0).1

some_length : (bs : Bytes) → not (is_empty bs) ≡ true → 1 ≤ length bs
some_length [] some = cc some
some_length (b ∷ bs) some = omega arith

record IsText (text : Bytes) : Type 0 where
  some : 1 ≤ length text
  few : length text ≤ LINK_TEXT
  no_zero : list_any (λ b. b == 0) text ≡ false

link-text : (text : Bytes) → is_link_text text ≡ true → IsText text
link-text text is =
    let a = and_parts (not (is_empty text) && nat_le (length text) LINK_TEXT) (list_all (λ b. not (b == 0)) text) is in
    let b = and_parts (not (is_empty text)) (nat_le (length text) LINK_TEXT) a.0 in
    record { some = some_length text b.0; few = leb-true (length text) LINK_TEXT b.1; no_zero = none_passed (λ b. b == 0) text a.1 }

module _ (bytes : Bytes) (t : Tree) (is : IsImageOf bytes t) where
  abbrev v : Version
  v = t.version

  abbrev last : ℕ
  last = inode_number bytes

  abbrev IsHeld : ℕ → Option Node → Type 0
  IsHeld n o = (node_at t n ≡ o) × HoldsAny v bytes t n o

  held : (n : ℕ) → 1 ≤ n → n ≤ last → IsHeld n (node_at t n)
  held n low high = let inodes = is.all_inodes in (refl, is.each_inode n low (omega (arith, high, inodes)))

  -- ---- kinds and sizes

  kind_fine : (n : ℕ) (o : Option Node) → IsHeld n o → IsFineInode v (kind v bytes n) (size v bytes n)
  kind_fine n None (at, free) = record {
    kinds = omega (arith, free);
    allowed = λ used. absurd (used free);
    whole = λ one. absurd (omega (arith, one, free));
    text = λ four. absurd (omega (arith, four, free));
  }
  kind_fine n (Some (directory_node es)) (at, h) =
      let k : kind v bytes n ≡ 1 = h.kind in
      record {
        kinds = omega (arith, k);
        allowed = λ used. h.length_allowed;
        whole = λ one. ap (λ s. s % entry_length v) h.length_stored ∙ times_whole v (length es);
        text = λ four. absurd (omega (arith, four, k));
      }
  kind_fine n (Some (file_node false contained)) (at, h) =
      let k : kind v bytes n ≡ 2 = h.kind in
      record {
        kinds = omega (arith, k);
        allowed = λ used. h.length_allowed;
        whole = λ one. absurd (omega (arith, one, k));
        text = λ four. absurd (omega (arith, four, k));
      }
  kind_fine n (Some (file_node true contained)) (at, h) =
      let k : kind v bytes n ≡ 3 = h.kind in
      record {
        kinds = omega (arith, k);
        allowed = λ used. h.length_allowed;
        whole = λ one. absurd (omega (arith, one, k));
        text = λ four. absurd (omega (arith, four, k));
      }
  kind_fine n (Some (link_node text)) (at, h) =
      let k : kind v bytes n ≡ 4 = h.kind in
      let good = link-text text (is.well_formed.each_node n (link_node text) at) in
      let long : size v bytes n ≡ length text = h.length_stored in
      let some : 1 ≤ length text = good.some in
      let few : length text ≤ LINK_TEXT = good.few in
      record {
        kinds = omega (arith, k);
        allowed = λ used. h.length_allowed;
        whole = λ one. absurd (omega (arith, one, k));
        text = λ four. (omega (arith, long, some), omega (arith, long, few));
      }

  pub image-fine : (n : ℕ) → 1 ≤ n → n ≤ last → IsFineInode v (kind v bytes n) (size v bytes n)
  image-fine n low high = kind_fine n (node_at t n) (held n low high)

  -- the inode of a node is in use
  kind-used : (n : ℕ) (node : Node) → Holds v bytes t n node → kind v bytes n ≢ 0
  kind-used n (directory_node es) h free = let k : kind v bytes n ≡ 1 = h.kind in absurd (omega (arith, k, free))
  kind-used n (file_node false contained) h free = let k : kind v bytes n ≡ 2 = h.kind in absurd (omega (arith, k, free))
  kind-used n (file_node true contained) h free = let k : kind v bytes n ≡ 3 = h.kind in absurd (omega (arith, k, free))
  kind-used n (link_node text) h free = let k : kind v bytes n ≡ 4 = h.kind in absurd (omega (arith, k, free))

  -- ---- the slots of a directory

  record IsRead (n : ℕ) (es : Entries) : Type 0 where
    same : IsPermutation (map entry_in_slot (slots_at v bytes n)) es
    once : appears_twice bytes_eq (map slot_name (slots_at v bytes n)) ≡ false
    measured : AllByRecursion IsMeasured (slots_at v bytes n)

  directory-read : (n : ℕ) (es : Entries) → Holds v bytes t n (directory_node es) → is_sorted by_name es ≡ true → IsRead n es
  directory-read n es h sorted =
      let listed = h.has_content.0 in
      let read_as = read v (content v bytes n) listed h.has_content.1 in
      let many : size v bytes n / entry_length v ≡ length listed =
      ap (λ s. s / entry_length v) h.length_stored ∙ times_over v (length es) ∙ length_permutation listed es h.has_content.2 in
      let slots : slots_at v bytes n ≡ slots_of v (length listed) (content v bytes n) = slots-directory v bytes n h.kind ∙ ap (λ k. slots_of v k (content v bytes n)) many in
      let same : IsPermutation (map entry_in_slot (slots_at v bytes n)) es =
      subst (λ (l : Entries). IsPermutation l es) (read_as.entries ∙ ap (map entry_in_slot) (sym slots)) h.has_content.2 in
      record {
        same = same;
        once = ap (appears_twice bytes_eq) (sym (map_again (slots_at v bytes n))) ∙ permuted-once (map entry_in_slot (slots_at v bytes n)) es same sorted;
        measured = subst (AllByRecursion IsMeasured) (sym slots) read_as.measured;
      }

  sorted : (n : ℕ) (es : Entries) → node_at t n ≡ Some (directory_node es) → (is_sorted by_name es ≡ true) × (list_all (λ (e : Bytes × ℕ). is_name v e.0) es ≡ true)
  sorted n es at = and_parts (is_sorted by_name es) (list_all (λ (e : Bytes × ℕ). is_name v e.0) es) (is.well_formed.each_node n (directory_node es) at)

  entries-same : (n : ℕ) (es : Entries) → node_at t n ≡ Some (directory_node es) → Holds v bytes t n (directory_node es) → entries_in v bytes (slots_at v bytes n) ≡ es
  entries-same n es at h =
      let order = (sorted n es at).0 in
      let reads = directory-read n es h order in
      one-order (entries_in v bytes (slots_at v bytes n)) es
      (IsPermutation-trans (entries_in v bytes (slots_at v bytes n)) (map entry_in_slot (slots_at v bytes n)) es
      (IsPermutation-sym (map entry_in_slot (slots_at v bytes n)) (entries_in v bytes (slots_at v bytes n)) (permuted v bytes (slots_at v bytes n) reads.once)) reads.same)
      (sorted-put_all v bytes (slots_at v bytes n)) order

  slots_none : (n : ℕ) (o : Option Node) → IsHeld n o → is_directory o ≡ false → slots_at v bytes n ≡ []
  slots_none n None (at, free) plain = slots-other v bytes n (λ one. absurd (omega (arith, one, free)))
  slots_none n (Some (directory_node es)) (at, h) plain = cc plain
  slots_none n (Some (file_node false contained)) (at, h) plain = slots-other v bytes n (λ one. let k : kind v bytes n ≡ 2 = h.kind in absurd (omega (arith, one, k)))
  slots_none n (Some (file_node true contained)) (at, h) plain = slots-other v bytes n (λ one. let k : kind v bytes n ≡ 3 = h.kind in absurd (omega (arith, one, k)))
  slots_none n (Some (link_node text)) (at, h) plain = slots-other v bytes n (λ one. let k : kind v bytes n ≡ 4 = h.kind in absurd (omega (arith, one, k)))

  -- ---- the node

  node_same : (n : ℕ) (o : Option Node) → IsHeld n o → node_in v bytes n ≡ o
  node_same n None (at, free) = ap (λ k. node_of k (entries_in v bytes (slots_at v bytes n)) (content v bytes n)) free
  node_same n (Some (directory_node es)) (at, h) =
      ap (λ k. node_of k (entries_in v bytes (slots_at v bytes n)) (content v bytes n)) h.kind ∙ ap (λ (es : Entries). Some (directory_node es)) (entries-same n es at h)
  node_same n (Some (file_node false contained)) (at, h) =
      ap (λ k. node_of k (entries_in v bytes (slots_at v bytes n)) (content v bytes n)) h.kind ∙ ap (λ (c : Bytes). Some (file_node false c)) h.has_content
  node_same n (Some (file_node true contained)) (at, h) =
      ap (λ k. node_of k (entries_in v bytes (slots_at v bytes n)) (content v bytes n)) h.kind ∙ ap (λ (c : Bytes). Some (file_node true c)) h.has_content
  node_same n (Some (link_node text)) (at, h) =
      ap (λ k. node_of k (entries_in v bytes (slots_at v bytes n)) (content v bytes n)) h.kind ∙ ap (λ (c : Bytes). Some (link_node c)) h.has_content

  pub image-node : (n : ℕ) → 1 ≤ n → n ≤ last → node_in v bytes n ≡ node_at t n
  image-node n low high = node_same n (node_at t n) (held n low high)

  -- ---- the content

  -- an entry of a directory
  record IsGood (e : Bytes × ℕ) : Type 0 where
    low : 1 ≤ e.1
    high : e.1 ≤ last
    used : is_free v bytes e.1 ≡ false
    named : is_name v e.0 ≡ true

  pub some-node : (n : ℕ) → is_some (node_at t n) ≡ true → (1 ≤ n) × (n ≤ last) × (kind v bytes n ≢ 0)
  some-node n there = by (node_at t n) refl there
    where
      by : (o : Option Node) → node_at t n ≡ o → is_some o ≡ true → (1 ≤ n) × (n ≤ last) × (kind v bytes n ≢ 0)
      by None at h = cc h
      by (Some node) at h =
          let within = node-within bytes t is n node at in
          let inodes = is.all_inodes in
          let high : n ≤ t.inodes = within.1 in
          (within.0, omega (arith, high, inodes), kind-used n node (node-held bytes t is n node at))

  good-entries : (n : ℕ) (es : Entries) → node_at t n ≡ Some (directory_node es) → AllByRecursion IsGood es
  good-entries n es at =
      let order = sorted n es at in
      each_both (λ (e : Bytes × ℕ). find by_name e.0 es ≡ Some e.1) (λ (e : Bytes × ℕ). is_name v e.0 ≡ true) IsGood
      (λ e found name.
      let there = some-node e.1 (is.well_formed.entries_are_nodes n e.0 e.1 (ap (λ o. find by_name e.0 (entries_of o)) at ∙ found)) in
      record { low = there.0; high = there.1; used = ne_eqb (kind v bytes e.1) 0 there.2; named = name })
      es (each-found es order.0) (passed (λ (e : Bytes × ℕ). is_name v e.0) es order.1)

  slots_fine : (n : ℕ) (o : Option Node) → IsHeld n o → AllByRecursion (IsFineSlot v bytes) (slots_at v bytes n)
  slots_fine n (Some (directory_node es)) (at, h) =
      let reads = directory-read n es h (sorted n es at).0 in
      each_both (λ slot. IsGood (entry_in_slot slot)) IsMeasured (IsFineSlot v bytes)
      (λ slot good measured.
      let few = name_short v (slot_name slot) good.named in
      record { from_one = good.low; in_table = good.high; used = good.used; short = omega (arith, few, measured); named = good.named })
      (slots_at v bytes n)
      (each_map IsGood entry_in_slot (slots_at v bytes n)
      (each_permuted IsGood es (map entry_in_slot (slots_at v bytes n)) (IsPermutation-sym (map entry_in_slot (slots_at v bytes n)) es reads.same) (good-entries n es at)))
      reads.measured
  slots_fine n None h = subst (AllByRecursion (IsFineSlot v bytes)) (sym (slots_none n None h refl)) tt
  slots_fine n (Some (file_node executable contained)) h = subst (AllByRecursion (IsFineSlot v bytes)) (sym (slots_none n (Some (file_node executable contained)) h refl)) tt
  slots_fine n (Some (link_node text)) h = subst (AllByRecursion (IsFineSlot v bytes)) (sym (slots_none n (Some (link_node text)) h refl)) tt

  slots_once : (n : ℕ) (o : Option Node) → IsHeld n o → appears_twice bytes_eq (map slot_name (slots_at v bytes n)) ≡ false
  slots_once n (Some (directory_node es)) (at, h) = (directory-read n es h (sorted n es at).0).once
  slots_once n None h = ap (λ (l : List Bytes). appears_twice bytes_eq (map slot_name l)) (slots_none n None h refl)
  slots_once n (Some (file_node executable contained)) h = ap (λ (l : List Bytes). appears_twice bytes_eq (map slot_name l)) (slots_none n (Some (file_node executable contained)) h refl)
  slots_once n (Some (link_node text)) h = ap (λ (l : List Bytes). appears_twice bytes_eq (map slot_name l)) (slots_none n (Some (link_node text)) h refl)

  text_fine : (n : ℕ) (o : Option Node) → IsHeld n o → kind v bytes n ≡ 4 → list_any (λ b. b == 0) (content v bytes n) ≡ false
  text_fine n None (at, free) four = absurd (omega (arith, four, free))
  text_fine n (Some (directory_node es)) (at, h) four = let k : kind v bytes n ≡ 1 = h.kind in absurd (omega (arith, four, k))
  text_fine n (Some (file_node false contained)) (at, h) four = let k : kind v bytes n ≡ 2 = h.kind in absurd (omega (arith, four, k))
  text_fine n (Some (file_node true contained)) (at, h) four = let k : kind v bytes n ≡ 3 = h.kind in absurd (omega (arith, four, k))
  text_fine n (Some (link_node text)) (at, h) four = ap (list_any (λ b. b == 0)) h.has_content ∙ (link-text text (is.well_formed.each_node n (link_node text) at)).no_zero

  pub image-content : (n : ℕ) → 1 ≤ n → n ≤ last → IsFineContent v bytes n
  image-content n low high =
      let h = held n low high in
      record {
        slots = slots_fine n (node_at t n) h;
        once = slots_once n (node_at t n) h;
        text = λ four. text_fine n (node_at t n) h (eqb-true (kind v bytes n) 4 four);
      }

  pub image-once : EachOnce v bytes
  image-once = record { once = λ d low high. slots_once d (node_at t d) (held d low high) }
