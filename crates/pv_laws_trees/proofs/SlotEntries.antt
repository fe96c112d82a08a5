-- The entry read from a slot is the entry that it contains.
use Rattle.std.proofs.Common.{◌≡◌, ℕ, zero, suc, ◌+◌, ◌*◌, ◌≤◌, [], ◌∷◌, ◌++◌, length, map, take, drop, ap, sym, subst, ◌∙◌, refl, arith}
use Rattle.std.specs.List.{AllByRecursion}
use Rattle.std.proofs.Math.Seq.{take-append_seam, drop-append_seam}
use Rattle.std.proofs.lemmas.List.{length-append, length-take-le, length-drop, take-append-drop}
use Rattle.pv_model.specs.declared.version.Version.{Version}
use Rattle.pv_model.specs.declared.version.Version.TheVariants.{V1, V2}
use Rattle.pv_model.specs.Machine.{Bytes, number_of, AreSlots, slots_of, slot_number, slot_name, entry_length, Entries}
use Rattle.pv_model.specs.Image.{IsSlot, no_slot, another_slot}
use Rattle.pv_laws_trees.specs.Slots.{entry_in_slot, IsMeasured, AreRead}

times : (a k : ℕ) → a + a * k ≡ a * suc k
times a k = omega arith

long_enough : (v : Version) → 4 ≤ entry_length v
long_enough V1 = omega arith
long_enough V2 = omega arith

-- the fields of a slot that contains an entry
record IsReadAs (slot name : Bytes) (n : ℕ) : Type 0 where
  measured : IsMeasured slot
  entry : entry_in_slot slot ≡ (name, n)

encoded : (number name left : Bytes) (unread : ℕ) → length number ≡ 2 → IsReadAs (number ++ length name ∷ unread ∷ name ++ left) name (number_of number)
encoded [] name left unread two = absurd (omega arith)
encoded (a ∷ []) name left unread two = absurd (omega arith)
encoded (a ∷ b ∷ []) name left unread two =
    let reported : length name + 256 * 0 ≡ length name = omega arith in
    let front : take (length name + 256 * 0) (name ++ left) ≡ name = ap (λ k. take k (name ++ left)) reported ∙ take-append_seam name left in
    record { measured = reported ∙ sym (ap length front); entry = ap (λ (bs : Bytes). let e : Bytes × ℕ = (bs, number_of (a ∷ b ∷ [])) in e) front }
encoded (a ∷ b ∷ c ∷ number) name left unread two = absurd (omega arith)

of_slot : (v : Version) (slot name : Bytes) (n : ℕ) → IsSlot v slot name n → IsReadAs slot name n
of_slot v slot name n is =
    subst (λ (k : ℕ). IsReadAs slot name k) is.is_number
    (subst (λ (s : Bytes). IsReadAs s name (number_of is.number)) (sym is.is_encoded) (encoded is.number name is.left is.unread is.two_bytes))

pub read : (v : Version) (bytes : Bytes) (es : Entries) → AreSlots v bytes es → AreRead v bytes es
read v _ _ no_slot = record { whole = omega arith; measured = tt; entries = refl }
read v _ _ (another_slot slot rest name n others is more) =
    let below = read v rest others more in
    let here = of_slot v slot name n is in
    let front : take (entry_length v) (slot ++ rest) ≡ slot = ap (λ k. take k (slot ++ rest)) (sym is.is_whole) ∙ take-append_seam slot rest in
    let back : drop (entry_length v) (slot ++ rest) ≡ rest = ap (λ k. drop k (slot ++ rest)) (sym is.is_whole) ∙ drop-append_seam slot rest in
    let slots : slots_of v (suc (length others)) (slot ++ rest) ≡ slot ∷ slots_of v (length others) rest =
    ap (λ (s : Bytes). s ∷ slots_of v (length others) (drop (entry_length v) (slot ++ rest))) front ∙ ap (λ (r : Bytes). slot ∷ slots_of v (length others) r) back in
    let sum : length (slot ++ rest) ≡ entry_length v + entry_length v * length others = length-append slot rest ∙ ap (λ k. k + length rest) is.is_whole ∙ ap (λ k. entry_length v + k) below.whole in
    record {
      whole = sum ∙ times (entry_length v) (length others);
      measured = subst (AllByRecursion IsMeasured) (sym slots) (here.measured, below.measured);
      entries = ap (λ (rows : Entries). (name, n) ∷ rows) below.entries ∙ ap (λ (e : Bytes × ℕ). e ∷ map entry_in_slot (slots_of v (length others) rest)) (sym here.entry) ∙ ap (map entry_in_slot) (sym slots);
    }

-- a slot of the right length contains the entry that is read from it
appears : (v : Version) (slot : Bytes) → length slot ≡ entry_length v → 4 ≤ length slot → IsMeasured slot → IsSlot v slot (slot_name slot) (slot_number slot)
appears v [] whole some measured = absurd (omega arith)
appears v (a ∷ []) whole some measured = absurd (omega arith)
appears v (a ∷ b ∷ []) whole some measured = absurd (omega arith)
appears v (a ∷ b ∷ c ∷ []) whole some measured = absurd (omega arith)
appears v (a ∷ b ∷ c ∷ d ∷ tail) whole some measured =
    let reported : c ≡ length (take (c + 256 * 0) tail) = (let e : c ≡ c + 256 * 0 = omega arith in e) ∙ measured in
    record {
      number = a ∷ b ∷ [];
      unread = d;
      left = drop (c + 256 * 0) tail;
      is_encoded = ap (λ (bs : Bytes). a ∷ b ∷ c ∷ d ∷ bs) (sym (take-append-drop (c + 256 * 0) tail)) ∙ ap (λ k. a ∷ b ∷ k ∷ d ∷ take (c + 256 * 0) tail ++ drop (c + 256 * 0) tail) reported;
      two_bytes = refl;
      is_number = refl;
      is_whole = whole;
    }

appear_all : (v : Version) (k : ℕ) (bytes : Bytes) → length bytes ≡ entry_length v * k → AllByRecursion IsMeasured (slots_of v k bytes) → AreSlots v bytes (map entry_in_slot (slots_of v k bytes))
appear_all v zero [] whole measured = no_slot
appear_all v zero (b ∷ bytes) whole measured = absurd (omega arith)
appear_all v (suc k) bytes whole measured =
    let first = take (entry_length v) bytes in
    let rest = drop (entry_length v) bytes in
    let sum : length bytes ≡ entry_length v + entry_length v * k = whole ∙ sym (times (entry_length v) k) in
    let fits : entry_length v ≤ length bytes = omega (arith, sum) in
    let long : length first ≡ entry_length v = length-take-le (entry_length v) bytes fits in
    let enough : 4 ≤ length first = omega (arith, long, long_enough v) in
    let left : length rest ≡ entry_length v * k = length-drop (entry_length v) bytes ∙ omega (arith, sum) in
    subst (λ (bs : Bytes). AreSlots v bs (entry_in_slot first ∷ map entry_in_slot (slots_of v k rest))) (take-append-drop (entry_length v) bytes)
    (another_slot first rest (slot_name first) (slot_number first) (map entry_in_slot (slots_of v k rest)) (appears v first long enough measured.0) (appear_all v k rest left measured.1))

pub appear : (v : Version) (bytes : Bytes) (es : Entries) → AreRead v bytes es → AreSlots v bytes es
appear v bytes es is = subst (AreSlots v bytes) (sym is.entries) (appear_all v (length es) bytes is.whole is.measured)
