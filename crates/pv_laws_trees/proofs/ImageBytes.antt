-- The names and contents in an image of bytes consist of bytes.
use Rattle.std.proofs.Common.{◌≡◌, ℕ, zero, suc, ◌*◌, ◌/◌, true, ◌&&◌, List, [], ◌∷◌, ◌++◌, length, take, drop, refl, ap, sym, ◌∙◌}
use Rattle.std.specs.List.{list_all, flat_map}
use Rattle.std.proofs.lemmas.Bool.{and_parts, and_from}
use Rattle.std.proofs.lemmas.List.Folds.{list_all-append}
use Rattle.std.proofs.lemmas.List.Elements.{All-drop, All-take}
use Rattle.std.proofs.lemmas.List.Sorted.{All-permutation}
use Rattle.std.proofs.lemmas.List.Sums.{AllPass-from_list_all, list_all-from_AllPass}
use Rattle.pv_model.specs.declared.version.Version.{Version}
use Rattle.pv_model.specs.Machine.{Bytes, little_endian, block, size, content, used_content, AreSlots, Entries, Node, directory_node, file_node, link_node}
use Rattle.pv_model.specs.Image.{IsSlot, no_slot, another_slot, HasContent}
use Rattle.pv_laws_trees.specs.Encoded.{is_byte, are_bytes, has_bytes}

pub length-little_endian : (k n : ℕ) → length (little_endian k n) ≡ k
length-little_endian zero n = refl
length-little_endian (suc k) n = ap suc (length-little_endian k (n / 256))

pub join-bytes : (a b : Bytes) → are_bytes a ≡ true → are_bytes b ≡ true → are_bytes (a ++ b) ≡ true
join-bytes a b first second = list_all-append is_byte a b ∙ and_from (are_bytes a) (are_bytes b) first second

pub split-bytes : (a b : Bytes) → are_bytes (a ++ b) ≡ true → (are_bytes a ≡ true) × (are_bytes b ≡ true)
split-bytes a b all = and_parts (are_bytes a) (are_bytes b) (sym (list_all-append is_byte a b) ∙ all)

take-bytes : (n : ℕ) (xs : Bytes) → are_bytes xs ≡ true → are_bytes (take n xs) ≡ true
take-bytes n xs all = list_all-from_AllPass is_byte (take n xs) (All-take (λ b. is_byte b ≡ true) n xs (AllPass-from_list_all is_byte xs all))

drop-bytes : (n : ℕ) (xs : Bytes) → are_bytes xs ≡ true → are_bytes (drop n xs) ≡ true
drop-bytes n xs all = list_all-from_AllPass is_byte (drop n xs) (All-drop (λ b. is_byte b ≡ true) n xs (AllPass-from_list_all is_byte xs all))

-- the blocks of bytes are bytes
block-bytes : (bytes : Bytes) → are_bytes bytes ≡ true → (ks : List ℕ) → are_bytes (flat_map (block bytes) ks) ≡ true
block-bytes bytes all [] = refl
block-bytes bytes all (k ∷ ks) =
    join-bytes (block bytes k) (flat_map (block bytes) ks) (take-bytes 512 (drop (512 * k) bytes) (drop-bytes (512 * k) bytes all)) (block-bytes bytes all ks)

content-bytes : (v : Version) (bytes : Bytes) (n : ℕ) → are_bytes bytes ≡ true → are_bytes (content v bytes n) ≡ true
content-bytes v bytes n all = take-bytes (size v bytes n) (flat_map (block bytes) (used_content v bytes n)) (block-bytes bytes all (used_content v bytes n))

-- the name in a slot of bytes consists of bytes
slot-bytes : (v : Version) (slot name : Bytes) (n : ℕ) → IsSlot v slot name n → are_bytes slot ≡ true → are_bytes name ≡ true
slot-bytes v slot name n s all =
    let front = split-bytes (s.number ++ length name ∷ s.unread ∷ name) s.left (ap are_bytes (sym s.is_encoded) ∙ all) in
    let following = split-bytes s.number (length name ∷ s.unread ∷ name) front.0 in
    let first = and_parts (is_byte (length name)) (is_byte s.unread && are_bytes name) following.1 in
    (and_parts (is_byte s.unread) (are_bytes name) first.1).1

slots-bytes : (v : Version) (bytes : Bytes) (es : Entries) → AreSlots v bytes es → are_bytes bytes ≡ true → list_all (λ e. are_bytes e.0) es ≡ true
slots-bytes v _ _ no_slot all = refl
slots-bytes v _ _ (another_slot slot rest name n others is more) all =
    let parts = split-bytes slot rest all in
    and_from (are_bytes name) (list_all (λ e. are_bytes e.0) others) (slot-bytes v slot name n is parts.0) (slots-bytes v rest others more parts.1)

-- a node with its content in the bytes
pub node-bytes : (v : Version) (bytes : Bytes) (n : ℕ) (node : Node) → HasContent v bytes n node → are_bytes bytes ≡ true → has_bytes node ≡ true
node-bytes v bytes n (directory_node es) has all =
    list_all-from_AllPass (λ e. are_bytes e.0) es
    (All-permutation (λ e. are_bytes e.0 ≡ true) has.0 es has.2
    (AllPass-from_list_all (λ e. are_bytes e.0) has.0 (slots-bytes v (content v bytes n) has.0 has.1 (content-bytes v bytes n all))))
node-bytes v bytes n (file_node executable contained) has all = ap are_bytes (sym has) ∙ content-bytes v bytes n all
node-bytes v bytes n (link_node text) has all = ap are_bytes (sym has) ∙ content-bytes v bytes n all
