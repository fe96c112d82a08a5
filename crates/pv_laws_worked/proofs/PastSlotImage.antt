-- A root whose one slot states a name longer than the slot is not the root of a tree.
use Rattle.std.proofs.Common.{◌≡◌, ℕ, suc, ◌+◌, ◌<◌, ◌≤◌, [], ◌∷◌, ◌++◌, length, length-append, slice_index, Option, None, Some, ap, sym, subst, ◌∙◌, refl, arith}
use Rattle.std.specs.Prelude.{IsTrue}
use Rattle.pv_model.specs.declared.version.Version.{Version}
use Rattle.pv_model.specs.declared.version.Version.TheVariants.{V1, V2}
use Rattle.pv_model.specs.Machine.{Bytes, magic, content, AreSlots, HoldsAny, IsImageOf, Entries, Node, directory_node, file_node, link_node, Tree, node_at, is_directory}
use Rattle.pv_model.specs.Image.{no_slot, another_slot}
use Rattle.pv_laws_worked.specs.Images.{past_slot}

-- the length stated in a slot fits in the slot
measured : (number name left rest : Bytes) (unread : ℕ) → length number ≡ 2
    → (slice_index ((number ++ length name ∷ unread ∷ name ++ left) ++ rest) 2 ≡ length name) × (length (number ++ length name ∷ unread ∷ name ++ left) ≡ 4 + (length name + length left))
measured [] name left rest unread two = absurd (omega arith)
measured (a ∷ []) name left rest unread two = absurd (omega arith)
measured (a ∷ b ∷ []) name left rest unread two = (refl, ap (λ n. suc (suc (suc (suc n)))) (length-append name left) ∙ omega arith)
measured (a ∷ b ∷ c ∷ number) name left rest unread two = absurd (omega arith)

-- the length stated in the first of several slots is that of its name
first_length : (bytes : Bytes) (es : Entries) → AreSlots V1 bytes es → 0 < length bytes → slice_index bytes 2 ≤ 60
first_length _ _ no_slot some = absurd (omega arith)
first_length _ _ (another_slot slot rest name n others is more) some =
    let parts = measured is.number name is.left rest is.unread is.two_bytes in
    let reported : slice_index (slot ++ rest) 2 ≡ length name = ap (λ (bs : Bytes). slice_index (bs ++ rest) 2) is.is_encoded ∙ parts.0 in
    let long : 64 ≡ 4 + (length name + length is.left) = sym is.is_whole ∙ ap length is.is_encoded ∙ parts.1 in
    omega (arith, reported, long)

root_held : (long : ℕ) (t : Tree) (o : Option Node) → 60 < long → IsTrue (is_directory o) → HoldsAny V1 (past_slot long) t 1 o → ⊥
root_held long t None more is held = cc
root_held long t (Some (directory_node es)) more is held =
    let slots : AreSlots V1 (content V1 (past_slot long) 1) held.has_content.0 = held.has_content.1 in
    let some : 0 < 64 = omega arith in
    let short : long ≤ 60 = first_length (content V1 (past_slot long) 1) held.has_content.0 slots some in
    omega (arith, short)
root_held long t (Some (file_node executable bytes)) more is held = cc
root_held long t (Some (link_node text)) more is held = cc

other_magic : magic V1 ≡ magic V2 → ⊥
other_magic same = let byte : ◌≡◌ {A = ℕ} 49 50 = ap (λ (bs : Bytes). slice_index bs 7) same in omega arith

by_version : (long : ℕ) (t : Tree) (v : Version) → t.version ≡ v → 60 < long → IsImageOf (past_slot long) t → ⊥
by_version long t V1 is more image =
    let one : 1 ≤ 1 = omega arith in
    root_held long t (node_at t 1) more image.well_formed.root_is_directory
    (subst (λ v. HoldsAny v (past_slot long) t 1 (node_at t 1)) is (image.each_inode 1 one image.inodes_allowed.0))
by_version long t V2 is more image = other_magic (image.has_magic ∙ ap magic is)

pub past_slot_has_no_tree : (long : ℕ) (t : Tree) → 60 < long → IsImageOf (past_slot long) t → ⊥
past_slot_has_no_tree long t more image = by_version long t t.version refl more image
