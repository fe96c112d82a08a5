-- The slots of bytes: appending one, and filling a hole with the last.
use Rattle.std.proofs.Common.{min, ◌≡◌, ◌≢◌, ℕ, zero, suc, ◌+◌, ◌-◌, ◌*◌, ◌/◌, ◌%◌, ◌<◌, ◌≤◌, IsTrue, [], ◌∷◌, ◌++◌, length, take, drop, get_or, set, None, Some, not, bytes_eq, refl, ap, ap₂, sym, subst, ◌∙◌, arith, inl, inr, zero-add, mul-le-mul_left}
use Rattle.std.specs.FinMap.Entries.{find, where_key}
use Rattle.std.proofs.lemmas.Bool.{cases_lt, cases_eq}
use Rattle.std.proofs.lemmas.List.{same_lists, append-nil, length-append, length-set, length-take-le, length-drop, get_or-take, get_or-drop, get_or_append_left, get_or-append_right, get_or_push, get_or-set_same, get_or-set_other, take_all, drop_all, drop-take, take_more}
use Rattle.std.proofs.lemmas.List.FromFn.{get_or-map-range_with_len, length-map-range_with_len}
use Rattle.pv_model.specs.declared.version.Version.{Version}
use Rattle.pv_model.specs.Machine.{Bytes, overwrite, resize, entry_length, Entries, is_name}
use Rattle.pv_inodes.proofs.ByteLists.{same_bytes, overwrite-over, length-resize_shorter, get_or-resize_shorter, length-overwrite}
use Rattle.pv_inodes.proofs.BlockNumbers.{over, get_or-over_below, get_or-over_within, get_or-over_above}
use Rattle.pv_dirs.specs.Slots.{slot_at, slot_count, inode_in_slot, name_in_slot, slot_entry, slot_entries, in_order, IsDistinct, IsSlotted}
use Rattle.pv_dirs.proofs.EqualParts.{slot_some, component_before, component_within, components_more, whole_more, whole_is, components_of, whole_of}
use Rattle.pv_dirs.proofs.SortedEntries.{by_name, distinct-append, find_at}
use Rattle.pv_dirs.proofs.EntryReplacement.{closed, distinct-closed, in_order-closed}

-- writing after the end appends
pub overwrite-end : (old : Bytes) (new : Bytes) → overwrite old (length old) new ≡ old ++ new
overwrite-end old new =
    overwrite-over old (length old) new (omega arith)
    ∙ ap (λ (xs : Bytes). xs ++ (new ++ drop (length old + length new) old)) (take_all (length old) old (omega arith))
    ∙ ap (λ (xs : Bytes). old ++ (new ++ xs)) (drop_all (length old + length new) old (omega arith))
    ∙ ap (λ (xs : Bytes). old ++ xs) (append-nil new)

-- ---- a slot before other bytes

front_part : (n l : ℕ) (xs : Bytes) → 4 + n ≤ l → take n (drop 4 (take l xs)) ≡ take n (drop 4 xs)
front_part n l xs fits =
    let whole : l ≡ 4 + (l - 4) = omega arith in
    ap (λ k. take n (drop 4 (take k xs))) whole ∙ ap (take n) (drop-take 4 (l - 4) xs) ∙ take_front n (l - 4) (drop 4 xs) (omega arith)
  where
    take_front : (n m : ℕ) (ys : Bytes) → n ≤ m → take n (take m ys) ≡ take n ys
    take_front zero m ys less = refl
    take_front (suc n) zero ys less = absurd (omega arith)
    take_front (suc n) (suc m) [] less = refl
    take_front (suc n) (suc m) (y ∷ ys) less = ap (λ (zs : Bytes). y ∷ zs) (take_front n m ys (omega arith))

pub front_name : (l : ℕ) (xs : Bytes) → 4 + get_or xs 2 0 ≤ l → name_in_slot (take l xs) ≡ name_in_slot xs
unfolding name_in_slot
front_name l xs fits = ap (λ n. take n (drop 4 (take l xs))) (get_or-take l xs 2 0 (omega arith)) ∙ front_part (get_or xs 2 0) l xs fits

pub front_number : (l : ℕ) (xs : Bytes) → 2 ≤ l → inode_in_slot (take l xs) ≡ inode_in_slot xs
unfolding inode_in_slot
front_number l xs fits = ap₂ (λ a b. a + 256 * (b + 256 * 0)) (get_or-take l xs 0 0 (omega arith)) (get_or-take l xs 1 0 (omega arith))

module _ (v : Version) where
  abbrev L : ℕ
  L = entry_length v

  some : 0 < L
  some = slot_some v

  pub length-slot_at : (bytes : Bytes) (k : ℕ) → L * k + L ≤ length bytes → length (slot_at v bytes k) ≡ L
  unfolding slot_at
  length-slot_at bytes k within = length-take-le L (drop (L * k) bytes) (omega (arith, length-drop (L * k) bytes))

  pub get_or-slot_at : (bytes : Bytes) (k x : ℕ) → x < L → get_or (slot_at v bytes k) x 0 ≡ get_or bytes (L * k + x) 0
  unfolding slot_at
  get_or-slot_at bytes k x within = get_or-take L (drop (L * k) bytes) x 0 within ∙ get_or-drop (L * k) bytes x 0

  -- a slot that was read
  pub slot_read : (bytes old : Bytes) (k n : ℕ) → length old ≡ L → k < slot_count v bytes → n ≡ min (length old) (length bytes - L * k) → take n (drop (L * k) bytes) ++ drop n old ≡ slot_at v bytes k
  unfolding slot_at
  slot_read bytes old k n long within count =
      let fits = component_within L some k (length bytes) within in
      let all : n ≡ L = omega arith in
      rw all (ap (λ (xs : Bytes). take L (drop (L * k) bytes) ++ xs) (drop_all L old (omega arith)) ∙ append-nil (take L (drop (L * k) bytes)))

  -- the same, by its offset
  pub slot_taken : (bytes old new : Bytes) (k n at : ℕ) → at ≡ L * k → k < slot_count v bytes → n ≡ min (length old) (length bytes - at) → new ≡ take n (drop at bytes) ++ drop n old → length old ≡ L
      → new ≡ slot_at v bytes k
  slot_taken bytes old new k n at begins within count is long =
      is ∙ ap (λ p. take n (drop p bytes) ++ drop n old) begins ∙ slot_read bytes old k n long within (count ∙ ap (λ p. min (length old) (length bytes - p)) begins)

  -- a slot by its bytes
  pub slot_at-is : (bytes : Bytes) (k : ℕ) (slot : Bytes) → L * k + L ≤ length bytes → length slot ≡ L → ((x : ℕ) → x < L → get_or bytes (L * k + x) 0 ≡ get_or slot x 0) → slot_at v bytes k ≡ slot
  slot_at-is bytes k slot within whole same =
      let long = length-slot_at bytes k within in
      same_bytes (slot_at v bytes k) slot (long ∙ sym whole) (λ x below. let fits : x < L = omega arith in get_or-slot_at bytes k x fits ∙ same x fits)

  pub slot_at-same : (xs ys : Bytes) (i j : ℕ) → L * i + L ≤ length xs → L * j + L ≤ length ys → ((x : ℕ) → x < L → get_or xs (L * i + x) 0 ≡ get_or ys (L * j + x) 0) → slot_at v xs i ≡ slot_at v ys j
  slot_at-same xs ys i j in_xs in_ys same = slot_at-is xs i (slot_at v ys j) in_xs (length-slot_at ys j in_ys) (λ x below. same x below ∙ sym (get_or-slot_at ys j x below))

  -- ---- the entries

  pub length-slot_entries : (bytes : Bytes) → length (slot_entries v bytes) ≡ slot_count v bytes
  unfolding slot_entries
  length-slot_entries bytes = length-map-range_with_len (slot_entry v bytes) 0 (slot_count v bytes)

  pub get_or-slot_entries : (bytes : Bytes) (k : ℕ) (d : Bytes × ℕ) → k < slot_count v bytes → get_or (slot_entries v bytes) k d ≡ slot_entry v bytes k
  unfolding slot_entries
  get_or-slot_entries bytes k d within = get_or-map-range_with_len (slot_entry v bytes) 0 (slot_count v bytes) k k d within (zero-add k)

  -- the entry of a slot is found by its name
  pub find-slot_entries : (bytes : Bytes) (k : ℕ) (name : Bytes) → IsDistinct (slot_entries v bytes) → k < slot_count v bytes → name_in_slot (slot_at v bytes k) ≡ name → find by_name name (slot_entries v bytes) ≡ Some (inode_in_slot (slot_at v bytes k))
  find-slot_entries bytes k name distinct within named =
      ap (λ (q : Bytes). find by_name q (slot_entries v bytes)) (sym named)
      ∙ find_at (slot_entries v bytes) k (slot_entry v bytes k) distinct (omega (arith, length-slot_entries bytes)) (get_or-slot_entries bytes k (slot_entry v bytes k) within)

  -- ---- one more slot

  module _ (bytes : Bytes) (slot : Bytes) (whole : length bytes % L ≡ 0) (long : length slot ≡ L) where
    length_more : length (bytes ++ slot) ≡ length bytes + L
    length_more = length-append bytes slot ∙ ap (λ n. length bytes + n) long

    pub slot_count-append : slot_count v (bytes ++ slot) ≡ slot_count v bytes + 1
    slot_count-append = ap (λ n. n / L) length_more ∙ components_more L some (length bytes)

    pub slot_at-append_before : (k : ℕ) → k < slot_count v bytes → slot_at v (bytes ++ slot) k ≡ slot_at v bytes k
    slot_at-append_before k within =
        let fits = component_within L some k (length bytes) within in
        slot_at-same (bytes ++ slot) bytes k k (omega (arith, length_more)) fits (λ x below. get_or_append_left bytes slot 0 (L * k + x) (omega arith))

    pub slot_at-append_last : (k : ℕ) → k ≡ slot_count v bytes → slot_at v (bytes ++ slot) k ≡ slot
    slot_at-append_last k last =
        let end : L * k ≡ length bytes = ap (λ n. L * n) last ∙ sym (whole_is L some (length bytes) whole) in
        slot_at-is (bytes ++ slot) k slot (omega (arith, length_more)) long
        (λ x below. get_or-append_right bytes slot (length bytes) (L * k + x) 0 refl (omega arith) ∙ ap (λ p. get_or slot p 0) (omega arith))

    pub slot_entries-append : slot_entries v (bytes ++ slot) ≡ slot_entries v bytes ++ (name_in_slot slot, inode_in_slot slot) ∷ []
    slot_entries-append =
        let count = slot_count-append in
        let all = length-slot_entries (bytes ++ slot) in
        let before = length-slot_entries bytes in
        same_lists (slot_entries v (bytes ++ slot)) (slot_entries v bytes ++ (name_in_slot slot, inode_in_slot slot) ∷ [])
        (all ∙ count ∙ ap (λ n. n + 1) (sym before) ∙ sym (length-append (slot_entries v bytes) ((name_in_slot slot, inode_in_slot slot) ∷ [])))
        (λ k d within.
        get_or-slot_entries (bytes ++ slot) k d (omega arith)
        ∙ elim (cases_lt k (slot_count v bytes)) [
          | inl less ↦
              ap (λ (s : Bytes). (name_in_slot s, inode_in_slot s)) (slot_at-append_before k less)
              ∙ sym (get_or-slot_entries bytes k d less)
              ∙ sym (get_or_append_left (slot_entries v bytes) ((name_in_slot slot, inode_in_slot slot) ∷ []) d k (omega arith))
          | inr not_less ↦
              ap (λ (s : Bytes). (name_in_slot s, inode_in_slot s)) (slot_at-append_last k (omega arith))
              ∙ sym (get_or_push (slot_entries v bytes) (name_in_slot slot, inode_in_slot slot) d k (omega arith))
        ])

  pub slotted-append : (bytes : Bytes) (slot : Bytes) → IsSlotted v bytes → length slot ≡ L → IsTrue (is_name v (name_in_slot slot)) → get_or slot 2 0 ≡ length (name_in_slot slot)
      → find by_name (name_in_slot slot) (slot_entries v bytes) ≡ None → IsSlotted v (bytes ++ slot)
  slotted-append bytes slot s long named measured absent =
      let whole : length bytes % L ≡ 0 = s.whole in
      let count = slot_count-append bytes slot whole long in
      record {
        whole = ap (λ n. n % L) (length_more bytes slot whole long) ∙ whole_more L some (length bytes) whole;
        named = λ k within. elim (cases_lt k (slot_count v bytes)) [
          | inl less ↦ rw (slot_at-append_before bytes slot whole long k less) (s.named k less)
          | inr not_less ↦ rw (slot_at-append_last bytes slot whole long k (omega arith)) named
        ];
        measured = λ k within. elim (cases_lt k (slot_count v bytes)) [
          | inl less ↦ rw (slot_at-append_before bytes slot whole long k less) (s.measured k less)
          | inr not_less ↦ rw (slot_at-append_last bytes slot whole long k (omega arith)) measured
        ];
        distinct = rw (slot_entries-append bytes slot whole long) (distinct-append (slot_entries v bytes) (name_in_slot slot) (inode_in_slot slot) s.distinct absent);
      }

  -- ---- a hole that is filled with the last slot

  abbrev pub closed_bytes : Bytes → ℕ → ℕ → Bytes
  closed_bytes bytes k last = resize (overwrite bytes (L * k) (slot_at v bytes last)) (L * last)

  module _ (bytes : Bytes) (k last : ℕ) (long : length bytes ≡ L * suc last) (within : k ≤ last) where
    front : L * k ≤ L * last
    front = mul-le-mul_left L within

    moved : length (slot_at v bytes last) ≡ L
    moved = length-slot_at bytes last (omega arith)

    length_preserved : length (overwrite bytes (L * k) (slot_at v bytes last)) ≡ length bytes
    length_preserved = length-overwrite bytes (L * k) (slot_at v bytes last) (omega (arith, moved, front))

    pub length-closed_bytes : length (closed_bytes bytes k last) ≡ L * last
    length-closed_bytes = length-resize_shorter (overwrite bytes (L * k) (slot_at v bytes last)) (L * last) (omega (arith, length_preserved))

    get_or-closed : (x : ℕ) → x < L * last → get_or (closed_bytes bytes k last) x 0 ≡ get_or (over bytes (L * k) (slot_at v bytes last)) x 0
    get_or-closed x below =
        get_or-resize_shorter (overwrite bytes (L * k) (slot_at v bytes last)) (L * last) (omega (arith, length_preserved)) x below
        ∙ ap (λ (xs : Bytes). get_or xs x 0) (overwrite-over bytes (L * k) (slot_at v bytes last) (omega (arith, front)))

    fits : L * k + length (slot_at v bytes last) ≤ length bytes
    fits = omega (arith, moved, front)

    pub slot_at-closed_hole : k < last → slot_at v (closed_bytes bytes k last) k ≡ slot_at v bytes last
    slot_at-closed_hole less =
        let component = component_before L some k last less in
        slot_at-is (closed_bytes bytes k last) k (slot_at v bytes last) (omega (arith, length-closed_bytes)) moved
        (λ x below. get_or-closed (L * k + x) (omega arith) ∙ get_or-over_within bytes (L * k) (slot_at v bytes last) fits x (omega (arith, moved)))

    pub slot_at-closed_other : (i : ℕ) → i < last → i ≢ k → slot_at v (closed_bytes bytes k last) i ≡ slot_at v bytes i
    slot_at-closed_other i less other =
        let component = component_before L some i last less in
        slot_at-same (closed_bytes bytes k last) bytes i i (omega (arith, length-closed_bytes)) (omega arith)
        (λ x below.
        get_or-closed (L * i + x) (omega arith)
        ∙ elim (cases_lt i k) [
          | inl before ↦ get_or-over_below bytes (L * k) (slot_at v bytes last) fits (L * i + x) (omega (arith, component_before L some i k before))
          | inr not_before ↦ let following : k < i = omega arith in get_or-over_above bytes (L * k) (slot_at v bytes last) fits (L * i + x) (omega (arith, moved, component_before L some k i following))
        ])

    pub slot_count-closed : slot_count v (closed_bytes bytes k last) ≡ last
    slot_count-closed = ap (λ n. n / L) length-closed_bytes ∙ components_of L some last

    pub slot_count-old : slot_count v bytes ≡ suc last
    slot_count-old = ap (λ n. n / L) long ∙ components_of L some (suc last)

    slot_entries-closed : slot_entries v (closed_bytes bytes k last) ≡ take last (set (slot_entries v bytes) k (slot_entry v bytes last))
    slot_entries-closed =
        let count = slot_count-closed in
        let old = slot_count-old in
        let all = length-slot_entries (closed_bytes bytes k last) in
        let before = length-slot_entries bytes in
        let changed = length-set (slot_entries v bytes) k (slot_entry v bytes last) in
        same_lists (slot_entries v (closed_bytes bytes k last)) (take last (set (slot_entries v bytes) k (slot_entry v bytes last)))
        (all ∙ count ∙ sym (length-take-le last (set (slot_entries v bytes) k (slot_entry v bytes last)) (omega arith)))
        (λ i d below.
        let less : i < last = omega arith in
        get_or-slot_entries (closed_bytes bytes k last) i d (omega arith)
        ∙ elim (cases_eq i k) [
          | inl same ↦
              let hole : k < last = omega arith in
              ap (λ n. slot_entry v (closed_bytes bytes k last) n) same
              ∙ ap (λ (s : Bytes). (name_in_slot s, inode_in_slot s)) (slot_at-closed_hole hole)
              ∙ sym (get_or-set_same (slot_entries v bytes) k (slot_entry v bytes last) d (omega arith))
              ∙ ap (λ n. get_or (set (slot_entries v bytes) k (slot_entry v bytes last)) n d) (sym same)
          | inr other ↦
              ap (λ (s : Bytes). (name_in_slot s, inode_in_slot s)) (slot_at-closed_other i less other)
              ∙ sym (get_or-slot_entries bytes i d (omega arith))
              ∙ sym (get_or-set_other (slot_entries v bytes) k i (slot_entry v bytes last) d other)
        ]
        ∙ sym (get_or-take last (set (slot_entries v bytes) k (slot_entry v bytes last)) i d less))

    -- the entries are those before the last, and the last
    pub slot_entries-last : slot_entries v bytes ≡ take last (slot_entries v bytes) ++ slot_entry v bytes last ∷ []
    slot_entries-last =
        let all = length-slot_entries bytes in
        let old = slot_count-old in
        sym (take_all (last + 1) (slot_entries v bytes) (omega arith))
        ∙ take_more (slot_entries v bytes) last (slot_entry v bytes last) (omega arith)
        ∙ ap (λ (e : Bytes × ℕ). take last (slot_entries v bytes) ++ e ∷ []) (get_or-slot_entries bytes last (slot_entry v bytes last) (omega arith))

    length_front : length (take last (slot_entries v bytes)) ≡ last
    length_front = length-take-le last (slot_entries v bytes) (omega (arith, length-slot_entries bytes, slot_count-old))

    pub slot_entries-closed_front : slot_entries v (closed_bytes bytes k last) ≡ closed (take last (slot_entries v bytes)) (slot_entry v bytes last) k
    slot_entries-closed_front =
        slot_entries-closed
        ∙ ap (λ (es : Entries). take last (set es k (slot_entry v bytes last))) slot_entries-last
        ∙ ap (λ n. take n (set (take last (slot_entries v bytes) ++ slot_entry v bytes last ∷ []) k (slot_entry v bytes last))) (sym length_front)

    in_front : k ≤ length (take last (slot_entries v bytes))
    in_front = omega (arith, length_front)

    pub slotted-closed : IsSlotted v bytes → IsSlotted v (closed_bytes bytes k last)
    slotted-closed s =
        let count = slot_count-closed in
        let old = slot_count-old in
        record {
          whole = ap (λ n. n % L) length-closed_bytes ∙ whole_of L some last;
          named = λ i below. let less : i < last = omega arith in elim (cases_eq i k) [
            | inl same ↦ rw (same, slot_at-closed_hole (omega arith)) (s.named last (omega arith))
            | inr other ↦ rw (slot_at-closed_other i less other) (s.named i (omega arith))
          ];
          measured = λ i below. let less : i < last = omega arith in elim (cases_eq i k) [
            | inl same ↦ rw (same, slot_at-closed_hole (omega arith)) (s.measured last (omega arith))
            | inr other ↦ rw (slot_at-closed_other i less other) (s.measured i (omega arith))
          ];
          distinct = rw slot_entries-closed_front (distinct-closed (take last (slot_entries v bytes)) (slot_entry v bytes last) k (subst IsDistinct slot_entries-last s.distinct) in_front);
        }

    -- the entry in the hole is removed
    pub in_order-closed_bytes : IsDistinct (slot_entries v bytes) → (name : Bytes) → name_in_slot (slot_at v bytes k) ≡ name
        → in_order (slot_entries v (closed_bytes bytes k last)) ≡ where_key by_name (λ other. not (bytes_eq other name)) (in_order (slot_entries v bytes))
    in_order-closed_bytes distinct name is =
        let at : get_or (take last (slot_entries v bytes) ++ slot_entry v bytes last ∷ []) k (slot_entry v bytes k) ≡ slot_entry v bytes k =
        ap (λ (es : Entries). get_or es k (slot_entry v bytes k)) (sym slot_entries-last) ∙ get_or-slot_entries bytes k (slot_entry v bytes k) (omega (arith, slot_count-old)) in
        ap in_order slot_entries-closed_front
        ∙ in_order-closed (take last (slot_entries v bytes)) (slot_entry v bytes last) (slot_entry v bytes k) k (subst IsDistinct slot_entries-last distinct) in_front at
        ∙ ap (λ (other_name : Bytes). where_key by_name (λ other. not (bytes_eq other other_name)) (in_order (take last (slot_entries v bytes) ++ slot_entry v bytes last ∷ []))) is
        ∙ ap (λ (es : Entries). where_key by_name (λ other. not (bytes_eq other name)) (in_order es)) (sym slot_entries-last)
