-- One inode: its kind and size, its blocks, and its content.
use Rattle.std.proofs.Common.{◌≡◌, ◌≢◌, ℕ, zero, suc, ◌+◌, ◌-◌, ◌*◌, ◌%◌, ◌<◌, ◌≤◌, Bool, true, false, not, ◌&&◌, ◌||◌, ◌==◌, nat_lt, nat_le, cond, List, [], ◌∷◌, ◌++◌, flat_map, length, drop, ap, ◌∙◌, refl, arith}
use Rattle.std.specs.List.{AllByRecursion}
use Rattle.std.proofs.lemmas.Bool.{and_parts, and_from, or_parts, or_from, eq-eqb, ne_eqb, eqb-true, ltb-false, le-ltb, leb-true, leb-false, le-leb}
use Rattle.std.proofs.lemmas.List.{length-append, length-take-le, length-drop}
use Rattle.pv_model.specs.declared.limits.TheConstants.{BLOCK, LINK_TEXT}
use Rattle.pv_model.specs.declared.version.Version.{Version}
use Rattle.pv_model.specs.declared.version.Version.TheVariants.{V1, V2}
use Rattle.pv_model.specs.Machine.{Bytes, block, index_pointers, inode, size, block_count, used_index, used_content, content, kind, has_bad_inode, rounded_up, entry_length, greatest_length, need}
use Rattle.pv_model.specs.Image.{pointers}
use Rattle.pv_model.specs.Room.{index_blocks}
use Rattle.pv_laws_trees.specs.Inodes.{IsFineInode}

-- ---- tests

pub under : (x y : Bool) → (x && not y) ≡ false → x ≡ true → y ≡ true
under true true is here = refl
under true false is here = cc is
under false y is here = cc here

pub over : (x y : Bool) → (x ≡ true → y ≡ true) → (x && not y) ≡ false
over true y then = ap not (then refl)
over false y then = refl

pub under_false : (x y : Bool) → (x && y) ≡ false → x ≡ true → y ≡ false
under_false true y is here = is
under_false false y is here = cc here

pub over_false : (x y : Bool) → (x ≡ true → y ≡ false) → (x && y) ≡ false
over_false true y then = then refl
over_false false y then = refl

pub not_free : (k : ℕ) → k ≢ 0 → not (k == 0) ≡ true
not_free k other = ap not (ne_eqb k 0 other)

pub free_not : (k : ℕ) → not (k == 0) ≡ true → k ≢ 0
free_not k is same = let zero_too = ap not (eq-eqb k 0 same) in cc

-- ---- kinds and sizes

module _ (v : Version) (k s : ℕ) where
  abbrev text_test : Bool
  text_test = nat_le 1 s && nat_le s LINK_TEXT

  abbrev whole_test : Bool
  whole_test = s % entry_length v == 0

  abbrev bad_used : Bool
  bad_used = nat_lt 4 k || nat_lt (greatest_length v) s || ((k == 1) && not whole_test) || ((k == 4) && not text_test)

  record AllFail : Type 0 where
    kinds : nat_lt 4 k ≡ false
    allowed : nat_lt (greatest_length v) s ≡ false
    whole : ((k == 1) && not whole_test) ≡ false
    text : ((k == 4) && not text_test) ≡ false

  all_fail : bad_used ≡ false → AllFail
  all_fail none =
      let a = or_parts (nat_lt 4 k || nat_lt (greatest_length v) s || ((k == 1) && not whole_test)) ((k == 4) && not text_test) none in
      let b = or_parts (nat_lt 4 k || nat_lt (greatest_length v) s) ((k == 1) && not whole_test) a.0 in
      let c = or_parts (nat_lt 4 k) (nat_lt (greatest_length v) s) b.0 in
      record { kinds = c.0; allowed = c.1; whole = b.1; text = a.1 }

  used_fine : (k ≢ 0 → bad_used ≡ false) → IsFineInode v k s
  used_fine none = record {
    kinds = by k refl;
    allowed = λ used. ltb-false (greatest_length v) s (all_fail (none used)).allowed;
    whole = λ is. eqb-true (s % entry_length v) 0 (under (k == 1) whole_test (all_fail (none (λ no. absurd (omega (arith, is, no))))).whole (eq-eqb k 1 is));
    text = λ is.
        let both = and_parts (nat_le 1 s) (nat_le s LINK_TEXT) (under (k == 4) text_test (all_fail (none (λ no. absurd (omega (arith, is, no))))).text (eq-eqb k 4 is)) in
        (leb-true 1 s both.0, leb-true s LINK_TEXT both.1);
  }
    where
      by : (j : ℕ) → k ≡ j → k ≤ 4
      by zero is = omega (arith, is)
      by (suc j) is = ltb-false 4 k (all_fail (none (λ no. absurd (omega (arith, is, no))))).kinds

  fine_used : IsFineInode v k s → k ≢ 0 → bad_used ≡ false
  fine_used is used =
      or_from (nat_lt 4 k || nat_lt (greatest_length v) s || ((k == 1) && not whole_test)) ((k == 4) && not text_test)
      (or_from (nat_lt 4 k || nat_lt (greatest_length v) s) ((k == 1) && not whole_test)
      (or_from (nat_lt 4 k) (nat_lt (greatest_length v) s) (le-ltb 4 k is.kinds) (le-ltb (greatest_length v) s (is.allowed used)))
      (over (k == 1) whole_test (λ one. eq-eqb (s % entry_length v) 0 (is.whole (eqb-true k 1 one)))))
      (over (k == 4) text_test (λ four. let both = is.text (eqb-true k 4 four) in and_from (nat_le 1 s) (nat_le s LINK_TEXT) (le-leb 1 s both.0) (le-leb s LINK_TEXT both.1)))

module _ (v : Version) (bytes : Bytes) (n : ℕ) where
  pub inode-fine : has_bad_inode v bytes n ≡ false → IsFineInode v (kind v bytes n) (size v bytes n)
  unfolding has_bad_inode
  inode-fine is = used_fine v (kind v bytes n) (size v bytes n) (λ used. under_false _ _ is (not_free (kind v bytes n) used))

  pub fine-inode : IsFineInode v (kind v bytes n) (size v bytes n) → has_bad_inode v bytes n ≡ false
  unfolding has_bad_inode
  fine-inode is = over_false _ _ (λ used. fine_used v (kind v bytes n) (size v bytes n) is (free_not (kind v bytes n) used))

-- ---- the blocks of an inode

pub length-pointers : (k : ℕ) (bs : Bytes) → length (pointers k bs) ≡ k
length-pointers zero bs = refl
length-pointers (suc k) bs = ap suc (length-pointers k (drop 2 bs))

pub length-even : {X Y : Type 0} (f : X → List Y) (k : ℕ) (xs : List X) → AllByRecursion (λ x. length (f x) ≡ k) xs → length (flat_map f xs) ≡ k * length xs
length-even f k [] all = omega arith
length-even f k (x ∷ xs) all =
    let here : length (f x) ≡ k = all.0 in
    let more : k + k * length xs ≡ k * suc (length xs) = omega arith in
    omega (arith, length-append (f x) (flat_map f xs), here, length-even f k xs all.1, more)

each : {X : Type 0} (P : X → Type 0) → ((x : X) → P x) → (xs : List X) → AllByRecursion P xs
each P all [] = tt
each P all (x ∷ xs) = (all x, each P all xs)

few_rows : (v : Version) (s : ℕ) → s ≤ greatest_length v → rounded_up (rounded_up s BLOCK - 10) 256 ≤ index_pointers v
few_rows V1 s allowed = omega (arith, allowed)
few_rows V2 s allowed = omega (arith, allowed)

rows_needed : (v : Version) (b : ℕ) → rounded_up (b - 10) 256 ≤ index_pointers v → index_blocks v b ≡ rounded_up (b - 10) 256
rows_needed V1 b few =
    elim (nat_le b 10) as (λ c. nat_le b 10 ≡ c → cond c 0 1 ≡ rounded_up (b - 10) 256) [
      | true ↦ λ is. omega (arith, leb-true b 10 is)
      | false ↦ λ is. omega (arith, few, leb-false b 10 is)
    ] refl
rows_needed V2 b few = refl

module _ (v : Version) (bytes : Bytes) (n : ℕ) (allowed : size v bytes n ≤ greatest_length v) where
  abbrev rows : ℕ
  rows = rounded_up (block_count v bytes n - 10) 256

  pub length-index : length (used_index v bytes n) ≡ rows
  length-index =
      length-take-le rows (pointers (index_pointers v) (drop 28 (inode v bytes n)))
      (omega (arith, few_rows v (size v bytes n) allowed, length-pointers (index_pointers v) (drop 28 (inode v bytes n))))

  abbrev further : List ℕ
  further = flat_map (λ k. pointers 256 (block bytes k)) (used_index v bytes n)

  pub length-used : length (used_content v bytes n) ≡ block_count v bytes n
  length-used =
      let inner : length further ≡ 256 * length (used_index v bytes n) =
      length-even (λ k. pointers 256 (block bytes k)) 256 (used_index v bytes n) (each (λ k. length (pointers 256 (block bytes k)) ≡ 256) (λ k. length-pointers 256 (block bytes k)) (used_index v bytes n)) in
      length-take-le (block_count v bytes n) (pointers 10 (drop 8 (inode v bytes n)) ++ further)
      (omega (arith, length-append (pointers 10 (drop 8 (inode v bytes n))) further, length-pointers 10 (drop 8 (inode v bytes n)), inner, length-index))

  -- the blocks that the content needs are those that the inode uses
  pub need-used : need v (size v bytes n) ≡ length (used_content v bytes n ++ used_index v bytes n)
  unfolding need
  need-used =
      ap (λ k. block_count v bytes n + k) (rows_needed v (block_count v bytes n) (few_rows v (size v bytes n) allowed))
      ∙ omega (arith, length-append (used_content v bytes n) (used_index v bytes n), length-used, length-index)

  -- the length of a content is its size, if its blocks exist
  module _ (blocks : ℕ) (long : length bytes ≡ BLOCK * blocks) where
    whole_block : (k : ℕ) → k < blocks → length (block bytes k) ≡ BLOCK
    whole_block k below = length-take-le BLOCK (drop (BLOCK * k) bytes) (omega (arith, length-drop (BLOCK * k) bytes, long, below))

    pub length-content : AllByRecursion (λ k. k < blocks) (used_content v bytes n) → length (content v bytes n) ≡ size v bytes n
    length-content there =
        let joined : length (flat_map (block bytes) (used_content v bytes n)) ≡ BLOCK * length (used_content v bytes n) =
        length-even (block bytes) BLOCK (used_content v bytes n) (weaker (used_content v bytes n) there) in
        length-take-le (size v bytes n) (flat_map (block bytes) (used_content v bytes n)) (omega (arith, joined, length-used))
      where
        weaker : (ks : List ℕ) → AllByRecursion (λ k. k < blocks) ks → AllByRecursion (λ k. length (block bytes k) ≡ BLOCK) ks
        weaker [] all = tt
        weaker (k ∷ ks) all = (whole_block k all.0, weaker ks all.1)
