-- The places of inodes: their names, and whether they are reached.
use Rattle.std.proofs.Common.{◌≡◌, ◌≢◌, ℕ, Bool, true, false, not, ◌&&◌, ◌||◌, ◌==◌, nat_le, ap, ◌∙◌, refl}
use Rattle.std.specs.Prelude.{if◌then◌else◌}
use Rattle.std.proofs.lemmas.Bool.{and_parts, and_from, or_parts, or_from, eqb-true, eq-eqb, ne_eqb}
use Rattle.pv_model.specs.declared.version.Version.{Version}
use Rattle.pv_model.specs.Machine.{Bytes, inode, inode_number, kind, name_count, is_reached_within, root}
use Rattle.pv_model.specs.Image.{stored_count}
use Rattle.pv_model.specs.Mount.{may_be_named, has_bad_place}
use Rattle.pv_laws_trees.specs.Inodes.{IsInPlace, is_placed}
use Rattle.pv_laws_trees.proofs.Inodes.{under_false, over_false}

is_not : (b : Bool) → not b ≡ false → b ≡ true
is_not true is = refl
is_not false is = cc is

module _ (v : Version) (bytes : Bytes) where
  abbrev count : ℕ → ℕ
  count = name_count v bytes

  pub place-fine : (n : ℕ) → has_bad_place v bytes n ≡ false → is_placed v bytes n ≡ true → IsInPlace v bytes n
  unfolding has_bad_place
  place-fine n none placed =
      let bad = under_false (is_placed v bytes n) (not (may_be_named v bytes n (count n)) || not (stored_count v (inode v bytes n) == count n) || not (is_reached_within v bytes (inode_number bytes) n)) none placed in
      let a = or_parts (not (may_be_named v bytes n (count n)) || not (stored_count v (inode v bytes n) == count n)) (not (is_reached_within v bytes (inode_number bytes) n)) bad in
      let b = or_parts (not (may_be_named v bytes n (count n))) (not (stored_count v (inode v bytes n) == count n)) a.0 in
      record {
        named = is_not (may_be_named v bytes n (count n)) b.0;
        stored = eqb-true (stored_count v (inode v bytes n)) (count n) (is_not (stored_count v (inode v bytes n) == count n) b.1);
        reached = is_not (is_reached_within v bytes (inode_number bytes) n) a.1;
      }

  pub fine-place : (n : ℕ) → (is_placed v bytes n ≡ true → IsInPlace v bytes n) → has_bad_place v bytes n ≡ false
  unfolding has_bad_place
  fine-place n fine =
      over_false (is_placed v bytes n) (not (may_be_named v bytes n (count n)) || not (stored_count v (inode v bytes n) == count n) || not (is_reached_within v bytes (inode_number bytes) n))
      (λ placed.
      or_from (not (may_be_named v bytes n (count n)) || not (stored_count v (inode v bytes n) == count n)) (not (is_reached_within v bytes (inode_number bytes) n))
      (or_from (not (may_be_named v bytes n (count n))) (not (stored_count v (inode v bytes n) == count n))
      (ap not (fine placed).named) (ap not (eq-eqb (stored_count v (inode v bytes n)) (count n) (fine placed).stored)))
      (ap not (fine placed).reached))

  -- ---- the number of names

  abbrev by_sort : Bool → Bool → ℕ → Bool
  by_sort is_root is_directory k = if is_root then is_directory && (k == 0) else if is_directory then k == 1 else nat_le 1 k

  pub root-named : (k : ℕ) → may_be_named v bytes root k ≡ true → (kind v bytes root ≡ 1) × (k ≡ 0)
  root-named k is = let parts = and_parts (kind v bytes root == 1) (k == 0) is in (eqb-true (kind v bytes root) 1 parts.0, eqb-true k 0 parts.1)

  pub named-root : kind v bytes root ≡ 1 → may_be_named v bytes root 0 ≡ true
  named-root is = and_from (kind v bytes root == 1) true (eq-eqb (kind v bytes root) 1 is) refl

  pub directory-named : (n k : ℕ) → n ≢ root → kind v bytes n ≡ 1 → may_be_named v bytes n k ≡ (k == 1)
  directory-named n k other is =
      ap (λ b. by_sort b (kind v bytes n == 1) k) (ne_eqb n root other) ∙ ap (λ b. by_sort false b k) (eq-eqb (kind v bytes n) 1 is)

  pub other-named : (n k : ℕ) → n ≢ root → kind v bytes n ≢ 1 → may_be_named v bytes n k ≡ nat_le 1 k
  other-named n k other is =
      ap (λ b. by_sort b (kind v bytes n == 1) k) (ne_eqb n root other) ∙ ap (λ b. by_sort false b k) (ne_eqb (kind v bytes n) 1 is)
