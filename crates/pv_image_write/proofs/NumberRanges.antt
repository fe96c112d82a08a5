-- Sequences of numbers, and numbers as bytes.
use Rattle.std.proofs.Common.{◌≡◌, ℕ, zero, suc, ◌+◌, ◌-◌, ◌*◌, ◌<◌, ◌≤◌, Bool, true, false, cond, ◌&&◌, ◌==◌, List, [], ◌∷◌, ◌++◌, length, take, drop, refl, ap, sym, ◌∙◌, arith}
use Rattle.std.specs.Prelude.{filter, flat_map}
use Rattle.std.specs.List.{IsDistinct, list_all, range_with_len}
use Rattle.std.proofs.lemmas.Bool.{ne_eqb}
use Rattle.std.proofs.lemmas.Grind.{flat_map-append}
use Rattle.std.proofs.lemmas.List.{take-take, drop-take, drop-drop}
use Rattle.std.proofs.lemmas.List.Folds.{list_all-append}
use Rattle.std.proofs.lemmas.List.FromFn.{length-range_with_len}
use Rattle.std.proofs.Math.Seq.{take-add}
use Rattle.pv_model.specs.Machine.{Bytes, little_endian, number_of, field, block}
use Rattle.pv_model.specs.Image.{pointers}
use Rattle.pv_laws_trees.proofs.Ranges.{each_in_range}
use Rattle.pv_image_write.specs.Encoding.{encoded_numbers}

pub range_with_len-add : (a m n : ℕ) → range_with_len a (m + n) ≡ range_with_len a m ++ range_with_len (a + m) n
range_with_len-add a zero n =
    let none : 0 + n ≡ n = omega arith in
    let same : a ≡ a + 0 = omega arith in
    ap (range_with_len a) none ∙ ap (λ k. range_with_len k n) same
range_with_len-add a (suc m) n =
    let all : suc m + n ≡ suc (m + n) = omega arith in
    let same : a + 1 + m ≡ a + suc m = omega arith in
    ap (range_with_len a) all ∙ ap (λ (ks : List ℕ). a ∷ ks) (range_with_len-add (a + 1) m n ∙ ap (λ k. range_with_len (a + 1) m ++ range_with_len k n) same)

-- a property of each number of a sequence
pub distinct-range : (a n : ℕ) → IsDistinct ◌==◌ (range_with_len a n)
unfolding IsDistinct
distinct-range a zero = tt
distinct-range a (suc n) = (each_in_range (λ k. (a == k) ≡ false) (a + 1) n (λ k from below. ne_eqb a k (λ same. absurd (omega arith))), distinct-range (a + 1) n)

-- a test of all bytes for the numbers of a sequence that pass another test
pub list_all-picked : (f : ℕ → Bytes) (p test : ℕ → Bool) (a n : ℕ) → ((k : ℕ) → a ≤ k → k < a + n → test k ≡ true → list_all p (f k) ≡ true)
    → list_all p (flat_map f (filter test (range_with_len a n))) ≡ true
list_all-picked f p test a zero each = refl
list_all-picked f p test a (suc n) each =
    let rest = list_all-picked f p test (a + 1) n (λ k from below. each k (omega arith) (omega arith)) in
    let tail = filter test (range_with_len (a + 1) n) in
    elim (test a) as (λ b. test a ≡ b → list_all p (flat_map f (cond b (a ∷ tail) tail)) ≡ true) [
      | true ↦ λ is. list_all-both p (f a) (flat_map f tail) (each a (omega arith) (omega arith) is) rest
      | false ↦ λ is. rest
    ] refl
  where
    list_all-both : (q : ℕ → Bool) (xs ys : Bytes) → list_all q xs ≡ true → list_all q ys ≡ true → list_all q (xs ++ ys) ≡ true
    list_all-both q xs ys first second = list_all-append q xs ys ∙ ap (λ b. b && list_all q ys) first ∙ second

-- ---- numbers in bytes

pub two-bytes : (n : ℕ) → n < 65536 → number_of (little_endian 2 n) ≡ n
two-bytes n small = omega arith

pub four-bytes : (n : ℕ) → n < 4294967296 → number_of (little_endian 4 n) ≡ n
four-bytes n small = omega arith

pub length-encoded_numbers : (ks : List ℕ) → length (encoded_numbers ks) ≡ 2 * length ks
unfolding encoded_numbers
length-encoded_numbers [] = refl
length-encoded_numbers (k ∷ ks) = omega (arith, length-encoded_numbers ks)

pub length-encoded_row : (a n : ℕ) → length (encoded_numbers (range_with_len a n)) ≡ 2 * n
length-encoded_row a n = length-encoded_numbers (range_with_len a n) ∙ ap (λ k. 2 * k) (length-range_with_len a n)

pub encoded_numbers-more : (a n : ℕ) → encoded_numbers (range_with_len a (n + 1)) ≡ encoded_numbers (range_with_len a n) ++ little_endian 2 (a + n)
unfolding encoded_numbers
encoded_numbers-more a n =
    ap (flat_map (little_endian 2)) (range_with_len-add a n 1)
    ∙ flat_map-append (little_endian 2) (range_with_len a n) (range_with_len (a + n) 1)

pub pointers-encoded_numbers : (a n : ℕ) (rest : Bytes) → a + n ≤ 65536 → pointers n (encoded_numbers (range_with_len a n) ++ rest) ≡ range_with_len a n
unfolding encoded_numbers
pointers-encoded_numbers a zero rest small = refl
pointers-encoded_numbers a (suc n) rest small =
    ap (λ k. k ∷ pointers n (encoded_numbers (range_with_len (a + 1) n) ++ rest)) (two-bytes a (omega arith))
    ∙ ap (λ (ks : List ℕ). a ∷ ks) (pointers-encoded_numbers (a + 1) n rest (omega arith))

pub pointers-add : (m n : ℕ) (xs : Bytes) → pointers (m + n) xs ≡ pointers m xs ++ pointers n (drop (2 * m) xs)
pointers-add zero n xs = let none : 0 + n ≡ n = omega arith in ap (λ k. pointers k xs) none
pointers-add (suc m) n xs =
    let all : suc m + n ≡ suc (m + n) = omega arith in
    let same : 2 + 2 * m ≡ 2 * suc m = omega arith in
    ap (λ k. pointers k xs) all
    ∙ ap (λ (ks : List ℕ). field xs 0 2 ∷ ks) (pointers-add m n (drop 2 xs) ∙ ap (λ (ys : Bytes). pointers m (drop 2 xs) ++ pointers n ys) (drop-drop (2 * m) 2 xs ∙ ap (λ k. drop k xs) same))

-- pointers are read only from the first bytes
pub pointers-take : (n c : ℕ) (xs : Bytes) → 2 * n ≤ c → pointers n (take c xs) ≡ pointers n xs
pointers-take zero c xs enough = refl
pointers-take (suc n) c xs enough =
    let two : 2 ≤ c = omega arith in
    let more : c ≡ 2 + (c - 2) = omega arith in
    ap (λ (ys : Bytes). number_of ys ∷ pointers n (drop 2 (take c xs))) (take-take 2 c xs two)
    ∙ ap (λ (ks : List ℕ). field xs 0 2 ∷ ks)
    (ap (λ k. pointers n (drop 2 (take k xs))) more ∙ ap (pointers n) (drop-take 2 (c - 2) xs) ∙ pointers-take n (c - 2) (drop 2 xs) (omega arith))

-- ---- consecutive blocks

pub blocks-row : (bytes : Bytes) (k m : ℕ) → flat_map (block bytes) (range_with_len k m) ≡ take (512 * m) (drop (512 * k) bytes)
blocks-row bytes k zero = refl
blocks-row bytes k (suc m) =
    let all : 512 * suc m ≡ 512 + 512 * m = omega arith in
    let next : 512 * k + 512 ≡ 512 * (k + 1) = omega arith in
    ap (λ (ys : Bytes). block bytes k ++ ys) (blocks-row bytes (k + 1) m ∙ ap (λ j. take (512 * m) (drop j bytes)) (sym next) ∙ ap (take (512 * m)) (sym (drop-drop 512 (512 * k) bytes)))
    ∙ sym (take-add 512 (512 * m) (drop (512 * k) bytes))
    ∙ ap (λ j. take j (drop (512 * k) bytes)) (sym all)

pub pointers-row : (bytes : Bytes) (k m : ℕ) → flat_map (λ j. pointers 256 (block bytes j)) (range_with_len k m) ≡ pointers (256 * m) (drop (512 * k) bytes)
pointers-row bytes k zero = refl
pointers-row bytes k (suc m) =
    let all : 256 * suc m ≡ 256 + 256 * m = omega arith in
    let next : 512 * k + 512 ≡ 512 * (k + 1) = omega arith in
    ap (λ (ks : List ℕ). ks ++ flat_map (λ j. pointers 256 (block bytes j)) (range_with_len (k + 1) m)) (pointers-take 256 512 (drop (512 * k) bytes) (omega arith))
    ∙ ap (λ (ks : List ℕ). pointers 256 (drop (512 * k) bytes) ++ ks)
    (pointers-row bytes (k + 1) m ∙ ap (λ j. pointers (256 * m) (drop j bytes)) (sym next) ∙ ap (pointers (256 * m)) (sym (drop-drop 512 (512 * k) bytes)))
    ∙ sym (pointers-add 256 (256 * m) (drop (512 * k) bytes))
    ∙ ap (λ j. pointers j (drop (512 * k) bytes)) (sym all)
