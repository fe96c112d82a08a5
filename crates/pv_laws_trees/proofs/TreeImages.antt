-- If all tests pass, the bytes are an image of the tree that the inodes hold.
use Rattle.std.specs.Prelude.{◌==◌}
use Rattle.std.proofs.Common.{◌≡◌, ◌≢◌, ℕ, zero, suc, ◌+◌, ◌-◌, ◌*◌, ◌/◌, ◌%◌, ◌≤◌, List, map, length, take, drop, Ok, ap, sym, subst, ◌∙◌, refl, arith}
use Rattle.std.specs.List.{AllByRecursion, IsDistinct}
use Rattle.std.proofs.lemmas.List.{length-map, length-take-le, length-drop}
use Rattle.pv_model.specs.declared.version.Version.{Version}
use Rattle.pv_model.specs.declared.version.Version.TheVariants.{V1, V2}
use Rattle.pv_model.specs.Machine.{Bytes, size, inode, inode_blocks, content, used_blocks, Holds, HoldsAny, IsImageOf, slots_of, slot_length, block_number, inode_number, kind, slots_at, tree_in, mounted, entry_length, directory_node, Tree, node_at, names_of, greatest_name}
use Rattle.pv_model.specs.Image.{stored_count}
use Rattle.pv_model.specs.Mount.{entries_in}
use Rattle.pv_laws_trees.specs.Inodes.{IsData, IsFineSlot}
use Rattle.pv_laws_trees.specs.Slots.{entry_in_slot, IsMeasured}
use Rattle.pv_laws_trees.proofs.SlotEntries.{appear}
use Rattle.pv_laws_trees.proofs.PassedTests.{IsPassed, mounted-passed}
use Rattle.pv_laws_trees.proofs.Directories.{permuted, length-put_all}
use Rattle.pv_laws_trees.proofs.InodeNodes.{by_kind, node_of, node_at-in, slots-directory}
use Rattle.pv_laws_trees.proofs.InodeNames.{as_many_names}
use Rattle.pv_laws_trees.proofs.InodeBlocks.{used_first, all-once, all-data, used-all}
use Rattle.pv_laws_trees.proofs.ImageTrees.{sizes, fine, blocks, contents, each_once, place, content-long, unnamed-root, well_formed-in}
use Rattle.pv_laws_trees.proofs.Ranges.{once-distinct}

-- ---- slots

pub length-slots_of : (v : Version) (k : ℕ) (bs : Bytes) → length (slots_of v k bs) ≡ k
length-slots_of v zero bs = refl
length-slots_of v (suc k) bs = ap suc (length-slots_of v k (drop (entry_length v) bs))

pub whole_times : (v : Version) (s : ℕ) → s % entry_length v ≡ 0 → s ≡ entry_length v * (s / entry_length v)
whole_times V1 s whole = omega (arith, whole)
whole_times V2 s whole = omega (arith, whole)

one_fewer : (e k l : ℕ) → l ≡ e * suc k → (e ≤ l) × (l - e ≡ e * k)
one_fewer e k l is = let more : e * suc k ≡ e + e * k = omega arith in (omega (arith, is, more), omega (arith, is, more))

-- each slot has room for the longest name
pub room_for : (v : Version) → 4 + greatest_name v ≤ entry_length v
room_for V1 = omega arith
room_for V2 = omega arith

module _ (v : Version) (bytes : Bytes) where
  measured : (k : ℕ) (bs : Bytes) → length bs ≡ entry_length v * k → AllByRecursion (IsFineSlot v bytes) (slots_of v k bs) → AllByRecursion IsMeasured (slots_of v k bs)
  measured zero bs whole all = tt
  measured (suc k) bs whole all =
      let slot = take (entry_length v) bs in
      let less = one_fewer (entry_length v) k (length bs) whole in
      let fits : entry_length v ≤ length bs = less.0 in
      let rest : length bs - entry_length v ≡ entry_length v * k = less.1 in
      let long : length slot ≡ entry_length v = length-take-le (entry_length v) bs fits in
      let short : slot_length slot ≤ greatest_name v = all.0.short in (
        sym (length-take-le (slot_length slot) (drop 4 slot) (omega (arith, long, short, room_for v, length-drop 4 slot))),
        measured k (drop (entry_length v) bs) (length-drop (entry_length v) bs ∙ rest) all.1,
      )

-- ---- the image

module _ (v : Version) (bytes : Bytes) (is : IsPassed v bytes) where
  abbrev t : Tree
  t = tree_in v bytes

  abbrev last : ℕ
  last = inode_number bytes

  count-stored : (n : ℕ) → 1 ≤ n → n ≤ last → kind v bytes n ≢ 0 → stored_count v (inode v bytes n) ≡ length (names_of t n)
  count-stored n low high used = (place v bytes is n low high used).stored ∙ sym (as_many_names v bytes (each_once v bytes is) n)

  module _ (n : ℕ) (low : 1 ≤ n) (high : n ≤ last) (one : kind v bytes n ≡ 1) where
    used : kind v bytes n ≢ 0
    used free = absurd (omega (arith, one, free))

    abbrev slots : List Bytes
    slots = slots_at v bytes n

    abbrev many : ℕ
    many = size v bytes n / entry_length v

    sized : size v bytes n ≡ entry_length v * many
    sized = whole_times v (size v bytes n) ((fine v bytes is n low high).whole one)

    holds-directory : Holds v bytes t n (directory_node (entries_in v bytes slots))
    holds-directory =
        let same = slots-directory v bytes n one in
        let long : length slots ≡ many = ap length same ∙ length-slots_of v many (content v bytes n) in
        let as_many : length (map entry_in_slot slots) ≡ many = length-map slots entry_in_slot ∙ long in
        let whole : length (content v bytes n) ≡ entry_length v * many = content-long v bytes is n low high used ∙ sized in
        let good = contents v bytes is n low high in
        record {
          kind = one;
          length_stored = sized ∙ ap (λ k. entry_length v * k) (sym (length-put_all v bytes slots good.once ∙ long));
          length_allowed = (fine v bytes is n low high).allowed used;
          count = count-stored n low high used;
          has_content = (
            map entry_in_slot slots,
            appear v (content v bytes n) (map entry_in_slot slots) (record {
              whole = whole ∙ ap (λ k. entry_length v * k) (sym as_many);
              measured =
                  subst (λ k. AllByRecursion IsMeasured (slots_of v k (content v bytes n))) (sym as_many)
                  (measured v bytes many (content v bytes n) whole (subst (AllByRecursion (IsFineSlot v bytes)) same good.slots));
              entries = ap (map entry_in_slot) (same ∙ ap (λ k. slots_of v k (content v bytes n)) (sym as_many));
            }),
            permuted v bytes slots good.once,
          );
        }

  holds : (n : ℕ) → 1 ≤ n → n ≤ last → HoldsAny v bytes t n (node_at t n)
  holds n low high =
      let long = content-long v bytes is n low high in
      let allowed = (fine v bytes is n low high).allowed in
      subst (HoldsAny v bytes t n) (sym (node_at-in v bytes n low high))
      (by_kind (λ k. kind v bytes n ≡ k → HoldsAny v bytes t n (node_of k (entries_in v bytes (slots_at v bytes n)) (content v bytes n)))
      (λ free. free)
      (λ here. holds-directory n low high here)
      (λ here. let used : kind v bytes n ≢ 0 = λ free. absurd (omega (arith, here, free)) in
      record { kind = here; length_stored = sym (long used); length_allowed = allowed used; count = count-stored n low high used; has_content = refl })
      (λ here. let used : kind v bytes n ≢ 0 = λ free. absurd (omega (arith, here, free)) in
      record { kind = here; length_stored = sym (long used); length_allowed = allowed used; count = count-stored n low high used; has_content = refl })
      (λ here. let used : kind v bytes n ≢ 0 = λ free. absurd (omega (arith, here, free)) in
      record { kind = here; length_stored = sym (long used); length_allowed = allowed used; count = count-stored n low high used; has_content = refl })
      (kind v bytes n) (fine v bytes is n low high).kinds refl)

  pub blocks-used : used_blocks bytes t ≡ used_first v bytes last
  blocks-used = used-all v bytes (λ n low high. (fine v bytes is n low high).kinds)

  pub passed-image : IsImageOf bytes t
  passed-image =
      let s = sizes v bytes is.sizes.sizes in
      let some : inode_blocks v last + 1 ≤ block_number bytes = s.some_blocks in
      record {
        has_magic = is.sizes.has_magic;
        all_blocks = s.long;
        all_inodes = refl;
        inodes_allowed = (s.some_inodes, s.few_inodes);
        blocks_allowed = (some, s.few_blocks);
        data_blocks = omega (arith, some);
        each_inode = holds;
        in_data = subst (AllByRecursion (IsData v bytes)) (sym blocks-used) (all-data v bytes (blocks v bytes is));
        used_once = subst (IsDistinct ◌==◌) (sym blocks-used) (once-distinct ◌==◌ (used_first v bytes last) (all-once v bytes last (blocks v bytes is)));
        well_formed = well_formed-in v bytes is;
        each_named = unnamed-root v bytes is;
      }

pub mounted-image : (bytes : Bytes) (t : Tree) → mounted bytes ≡ Ok t → IsImageOf bytes t
mounted-image bytes t mounts = let passed = mounted-passed bytes t mounts in subst (IsImageOf bytes) passed.2 (passed-image passed.0 bytes passed.1)
