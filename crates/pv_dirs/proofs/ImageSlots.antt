-- Slots in the image format.
use Rattle.std.proofs.Common.{◌≡◌, ℕ, zero, suc, ◌+◌, ◌*◌, ◌/◌, ◌%◌, ◌<◌, [], ◌∷◌, ◌++◌, length, take, drop, get_or, refl, ap, sym, subst, ◌∙◌, arith}
use Rattle.std.specs.Prelude.{slice_index}
use Rattle.std.proofs.lemmas.List.{same_lists, length-append, length-drop, length-take-le, get_or_append_left, get_or-append_right, take_at, take-append-drop}
use Rattle.pv_model.specs.declared.version.Version.{Version}
use Rattle.pv_model.specs.Machine.{Bytes, number_of, AreSlots, entry_length, Entries}
use Rattle.pv_model.specs.Image.{IsSlot, no_slot, another_slot}
use Rattle.pv_dirs.specs.Slots.{slot_at, slot_count, name_in_slot, inode_in_slot, slot_entries, IsSlotted}
use Rattle.pv_dirs.proofs.SlotBytes.{length-slot_entries, get_or-slot_entries, slot_at-is, slot_at-same}
use Rattle.pv_dirs.proofs.EqualParts.{slot_some, slot_least, no_entries, none_counted, none_left, component_within, components_of, components_more, whole_more, whole_is}

-- ---- one slot in front

module _ (v : Version) (slot rest : Bytes) (long : length slot ≡ entry_length v) where
  abbrev L : ℕ
  L = entry_length v

  length_front : length (slot ++ rest) ≡ length rest + L
  length_front = omega (arith, length-append slot rest)

  count_front : slot_count v (slot ++ rest) ≡ slot_count v rest + 1
  count_front = ap (λ n. n / L) length_front ∙ components_more L (slot_some v) (length rest)

  first : slot_at v (slot ++ rest) 0 ≡ slot
  first = slot_at-is v (slot ++ rest) 0 slot (omega (arith, length_front)) long (λ x below. let here : L * 0 + x ≡ x = omega arith in ap (λ k. get_or (slot ++ rest) k 0) here ∙ get_or_append_left slot rest 0 x (omega arith))

  pub later : (k : ℕ) → k < slot_count v rest → slot_at v (slot ++ rest) (suc k) ≡ slot_at v rest k
  later k within =
      let fits = component_within L (slot_some v) k (length rest) within in
      slot_at-same v (slot ++ rest) rest (suc k) k (omega (arith, length_front)) fits
      (λ x below. get_or-append_right slot rest (length slot) (L * suc k + x) 0 refl (omega arith) ∙ ap (λ p. get_or rest p 0) (omega arith))

  pub entries_front : slot_entries v (slot ++ rest) ≡ (name_in_slot slot, inode_in_slot slot) ∷ slot_entries v rest
  entries_front =
      let all = length-slot_entries v (slot ++ rest) in
      let following = length-slot_entries v rest in
      same_lists (slot_entries v (slot ++ rest)) ((name_in_slot slot, inode_in_slot slot) ∷ slot_entries v rest)
      (omega (arith, count_front)) each
    where
      each : (k : ℕ) (d : Bytes × ℕ) → k < length (slot_entries v (slot ++ rest)) → get_or (slot_entries v (slot ++ rest)) k d ≡ get_or ((name_in_slot slot, inode_in_slot slot) ∷ slot_entries v rest) k d
      each zero d within =
          get_or-slot_entries v (slot ++ rest) 0 d (omega (arith, count_front)) ∙ ap (λ (s : Bytes). (name_in_slot s, inode_in_slot s)) first
      each (suc k) d within =
          let less : k < slot_count v rest = omega (arith, count_front, length-slot_entries v (slot ++ rest)) in
          get_or-slot_entries v (slot ++ rest) (suc k) d (omega (arith, count_front)) ∙ ap (λ (s : Bytes). (name_in_slot s, inode_in_slot s)) (later k less)
          ∙ sym (get_or-slot_entries v rest k d less)

-- ---- the encoded entries

parts : (number name left : Bytes) (unread : ℕ) → length number ≡ 2
    → (name_in_slot (number ++ length name ∷ unread ∷ name ++ left) ≡ name) × (inode_in_slot (number ++ length name ∷ unread ∷ name ++ left) ≡ number_of number)
unfolding name_in_slot inode_in_slot
parts [] name left unread two = absurd (omega arith)
parts (a ∷ []) name left unread two = absurd (omega arith)
parts (a ∷ b ∷ []) name left unread two = (take_at name left (length name) refl, refl)
parts (a ∷ b ∷ c ∷ more) name left unread two = absurd (omega arith)

slot_encoded : (v : Version) (slot name : Bytes) (n : ℕ) → IsSlot v slot name n → (name_in_slot slot ≡ name) × (inode_in_slot slot ≡ n)
slot_encoded v slot name n s =
    let both = parts s.number name s.left s.unread s.two_bytes in
    (ap name_in_slot s.is_encoded ∙ both.0, ap inode_in_slot s.is_encoded ∙ both.1 ∙ s.is_number)

pub encoded_are : (v : Version) (bytes : Bytes) (es : Entries) → AreSlots v bytes es → (slot_entries v bytes ≡ es) × (length bytes % entry_length v ≡ 0)
encoded_are v _ _ no_slot = (no_entries v, none_left v)
encoded_are v _ _ (another_slot slot rest name n others is following) =
    let both = slot_encoded v slot name n is in
    let before = encoded_are v rest others following in (
      entries_front v slot rest is.is_whole ∙ (λ i. (both.0 i, both.1 i) ∷ before.0 i),
      ap (λ k. k % entry_length v) (length_front v slot rest is.is_whole) ∙ whole_more (entry_length v) (slot_some v) (length rest) before.1,
    )

-- ---- the entries in slots

encodes : (v : Version) (slot : Bytes) → length slot ≡ entry_length v → slice_index slot 2 ≡ length (name_in_slot slot) → IsSlot v slot (name_in_slot slot) (inode_in_slot slot)
unfolding name_in_slot inode_in_slot
encodes v [] long measured = absurd (omega (arith, slot_least v))
encodes v (a ∷ []) long measured = absurd (omega (arith, slot_least v))
encodes v (a ∷ b ∷ []) long measured = absurd (omega (arith, slot_least v))
encodes v (a ∷ b ∷ c ∷ []) long measured = absurd (omega (arith, slot_least v))
encodes v (a ∷ b ∷ c ∷ d ∷ more) long measured = record {
  number = a ∷ b ∷ [];
  unread = d;
  left = drop c more;
  is_encoded = λ i. a ∷ b ∷ measured i ∷ d ∷ sym (take-append-drop c more) i;
  two_bytes = refl;
  is_number = refl;
  is_whole = long;
}

pub slots_encode : (v : Version) (m : ℕ) (bytes : Bytes) → length bytes ≡ entry_length v * m → ((k : ℕ) → k < m → slice_index (slot_at v bytes k) 2 ≡ length (name_in_slot (slot_at v bytes k))) → AreSlots v bytes (slot_entries v bytes)
slots_encode v zero [] long measured = subst (AreSlots v []) (sym (no_entries v)) no_slot
slots_encode v zero (b ∷ bytes) long measured = absurd (omega arith)
slots_encode v (suc m) bytes long measured =
    let l = entry_length v in
    let slot = take l bytes in
    let rest = drop l bytes in
    let split : slot ++ rest ≡ bytes = take-append-drop l bytes in
    let whole : length slot ≡ l = length-take-le l bytes (omega arith) in
    let following : length rest ≡ l * m = omega (arith, length-drop l bytes) in
    let counted : slot_count v rest ≡ m = ap (λ n. n / l) following ∙ components_of l (slot_some v) m in
    let here : slice_index slot 2 ≡ length (name_in_slot slot) =
    ap (λ (s : Bytes). slice_index s 2) (sym (first v slot rest whole) ∙ ap (λ (xs : Bytes). slot_at v xs 0) split) ∙ measured 0 (omega arith)
    ∙ ap (λ (s : Bytes). length (name_in_slot s)) (sym (ap (λ (xs : Bytes). slot_at v xs 0) split) ∙ first v slot rest whole) in
    let others = slots_encode v m rest following (λ k less.
    let same : slot_at v bytes (suc k) ≡ slot_at v rest k = sym (ap (λ (xs : Bytes). slot_at v xs (suc k)) split) ∙ later v slot rest whole k (omega arith) in
    ap (λ (s : Bytes). slice_index s 2) (sym same) ∙ measured (suc k) (omega arith) ∙ ap (λ (s : Bytes). length (name_in_slot s)) same) in
    subst (λ (xs : Bytes). AreSlots v xs (slot_entries v xs)) split
    (subst (AreSlots v (slot ++ rest)) (sym (entries_front v slot rest whole)) (another_slot slot rest (name_in_slot slot) (inode_in_slot slot) (slot_entries v rest) (encodes v slot whole here) others))

pub entries_encoded : (v : Version) (bytes : Bytes) → IsSlotted v bytes → AreSlots v bytes (slot_entries v bytes)
entries_encoded v bytes s = slots_encode v (slot_count v bytes) bytes (whole_is (entry_length v) (slot_some v) (length bytes) s.whole) s.measured

-- each encoded name has the length in the byte before it
measured_slot : (v : Version) (slot name : Bytes) (n : ℕ) → IsSlot v slot name n → slice_index slot 2 ≡ length (name_in_slot slot)
measured_slot v slot name n s = reported s.number s.two_bytes s.is_encoded ∙ ap length (sym (slot_encoded v slot name n s).0)
  where
    reported : (number : Bytes) → length number ≡ 2 → slot ≡ number ++ length name ∷ s.unread ∷ name ++ s.left → slice_index slot 2 ≡ length name
    reported [] two is = absurd (omega arith)
    reported (a ∷ []) two is = absurd (omega arith)
    reported (a ∷ b ∷ []) two is = ap (λ (xs : Bytes). slice_index xs 2) is
    reported (a ∷ b ∷ c ∷ more) two is = absurd (omega arith)

pub measured_are : (v : Version) (bytes : Bytes) (es : Entries) → AreSlots v bytes es → (k : ℕ) → k < slot_count v bytes → slice_index (slot_at v bytes k) 2 ≡ length (name_in_slot (slot_at v bytes k))
measured_are v _ _ no_slot k within = absurd (omega (arith, none_counted v))
measured_are v _ _ (another_slot slot rest name n others is following) zero within =
    ap (λ (s : Bytes). slice_index s 2) (first v slot rest is.is_whole) ∙ measured_slot v slot name n is ∙ ap (λ (s : Bytes). length (name_in_slot s)) (sym (first v slot rest is.is_whole))
measured_are v _ _ (another_slot slot rest name n others is following) (suc k) within =
    let less : k < slot_count v rest = omega (arith, count_front v slot rest is.is_whole) in
    ap (λ (s : Bytes). slice_index s 2) (later v slot rest is.is_whole k less) ∙ measured_are v rest others following k less ∙ ap (λ (s : Bytes). length (name_in_slot s)) (sym (later v slot rest is.is_whole k less))
