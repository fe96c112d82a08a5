-- The contents of a node: their length, and the slots of a directory.
use Rattle.std.proofs.Common.{◌≡◌, ℕ, suc, ◌+◌, ◌-◌, ◌*◌, ◌<◌, ◌≤◌, [], ◌∷◌, ◌++◌, length, replicate, Some, refl, ap, ◌∙◌, arith}
use Rattle.std.specs.Prelude.{flat_map, slice_get}
use Rattle.std.proofs.lemmas.List.{length-append}
use Rattle.pv_model.specs.declared.version.Version.{Version}
use Rattle.pv_model.specs.declared.version.Version.TheVariants.{V1, V2}
use Rattle.pv_model.specs.Machine.{Bytes, little_endian, AreSlots, entry_length, node_length, Entries, Node, directory_node, file_node, link_node, greatest_name}
use Rattle.pv_model.specs.Image.{IsSlot, no_slot, another_slot}
use Rattle.pv_image_write.specs.Encoding.{padded, slot_of, node_content}
use Rattle.pv_image_write.proofs.PartConcatenation.{length-padded}
use Rattle.pv_image_write.proofs.NumberRanges.{two-bytes}

-- a property of each entry of a list
abbrev pub Each : (Bytes × ℕ → Type 0) → Entries → Type 0
Each P es = (i : ℕ) (e : Bytes × ℕ) → slice_get es i ≡ Some e → P e

-- an entry whose name fits in a slot
abbrev pub HasShortName : Version → Bytes × ℕ → Type 0
HasShortName v e = length e.0 ≤ greatest_name v

room-in_slot : (v : Version) (n : ℕ) → n ≤ greatest_name v → 4 + n ≤ entry_length v
room-in_slot V1 n short = omega arith
room-in_slot V2 n short = omega arith

pub length-slot_of : (v : Version) (e : Bytes × ℕ) → HasShortName v e → length (slot_of v e) ≡ entry_length v
unfolding slot_of
length-slot_of v e short =
    length-padded (entry_length v) (little_endian 2 e.1 ++ length e.0 ∷ 0 ∷ e.0)
    (omega (arith, room-in_slot v (length e.0) short))

pub length-slots : (v : Version) (es : Entries) → Each (HasShortName v) es → length (flat_map (slot_of v) es) ≡ entry_length v * length es
length-slots v [] short = omega arith
length-slots v (e ∷ es) short =
    let rest = length-slots v es (λ i f is. short (suc i) f is) in
    let next : entry_length v + entry_length v * length es ≡ entry_length v * suc (length es) = omega arith in
    length-append (slot_of v e) (flat_map (slot_of v) es) ∙ ap (λ k. k + length (flat_map (slot_of v) es)) (length-slot_of v e (short 0 e refl)) ∙ ap (λ k. entry_length v + k) rest ∙ next

slot-is : (v : Version) (e : Bytes × ℕ) → HasShortName v e → e.1 < 65536 → IsSlot v (slot_of v e) e.0 e.1
unfolding slot_of padded
slot-is v e short small = record {
  number = little_endian 2 e.1;
  unread = 0;
  left = replicate (entry_length v - length (little_endian 2 e.1 ++ length e.0 ∷ 0 ∷ e.0)) 0;
  is_encoded = refl;
  two_bytes = refl;
  is_number = two-bytes e.1 small;
  is_whole = length-slot_of v e short;
}

pub slots-are : (v : Version) (es : Entries) → Each (HasShortName v) es → Each (λ e. e.1 < 65536) es → AreSlots v (flat_map (slot_of v) es) es
slots-are v [] short small = no_slot
slots-are v (e ∷ es) short small =
    another_slot (slot_of v e) (flat_map (slot_of v) es) e.0 e.1 es (slot-is v e (short 0 e refl) (small 0 e refl))
    (slots-are v es (λ i f is. short (suc i) f is) (λ i f is. small (suc i) f is))

-- the same for the entries of a node
abbrev pub EachOf : (Bytes × ℕ → Type 0) → Node → Type 0
EachOf P (directory_node es) = Each P es
EachOf P (file_node executable bytes) = Unit {0}
EachOf P (link_node text) = Unit {0}

pub length-node_content : (v : Version) (node : Node) → EachOf (HasShortName v) node → length (node_content v node) ≡ node_length v node
length-node_content v (directory_node es) short = length-slots v es short
length-node_content v (file_node executable bytes) short = refl
length-node_content v (link_node text) short = refl
