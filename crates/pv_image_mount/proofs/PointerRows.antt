-- Sequences of pointers, and their number in an inode.
use Rattle.std.proofs.Common.{◌≡◌, ℕ, zero, suc, ◌+◌, ◌-◌, ◌*◌, ◌≤◌, ◌<◌, List, [], ◌∷◌, ◌++◌, length, take, drop, get_or, min, ap, sym, subst, ◌∙◌, refl, arith}
use Rattle.std.proofs.lemmas.List.{drop-drop, drop_all, drop_more, flat_map_more, length-take, take_all, take_min, take_more, take_rest}
use Rattle.std.specs.Prelude.{flat_map}
use Rattle.pv_model.specs.declared.version.Version.{Version}
use Rattle.pv_model.specs.declared.version.Version.TheVariants.{V1, V2}
use Rattle.pv_model.specs.Machine.{Bytes, field, index_pointers, block, block_count, inode, size, used_content, used_index, rounded_up, greatest_length}
use Rattle.pv_model.specs.Image.{pointers}
use Rattle.pv_laws_trees.proofs.Inodes.{length-pointers}
use Rattle.pv_image_mount.specs.Rows.{pointed_row, pointer_row}

-- one more pointer
pointers_more : (n : ℕ) (bytes : Bytes) → pointers (n + 1) bytes ≡ pointers n bytes ++ field bytes (2 * n) 2 ∷ []
pointers_more zero bytes = refl
pointers_more (suc n) bytes =
    let rest = pointers_more n (drop 2 bytes) in
    let same : 2 + 2 * n ≡ 2 * suc n = omega arith in
    let plus : suc n + 1 ≡ suc (n + 1) = omega arith in
    ap (λ m. pointers m bytes) plus
    ∙ ap (λ ps. field bytes 0 2 ∷ ps) rest
    ∙ ap (λ bs. field bytes 0 2 ∷ (pointers n (drop 2 bytes) ++ field bs 0 2 ∷ [])) (drop-drop (2 * n) 2 bytes ∙ ap (λ m. drop m bytes) same)

-- the first of some pointers
take-pointers : (k n : ℕ) (bytes : Bytes) → k ≤ n → take k (pointers n bytes) ≡ pointers k bytes
take-pointers zero n bytes few = refl
take-pointers (suc k) zero bytes few = absurd (omega arith)
take-pointers (suc k) (suc n) bytes few = ap (λ ps. field bytes 0 2 ∷ ps) (take-pointers k n (drop 2 bytes) (omega arith))

-- an inode has pointers to all index blocks that it uses
index_fits : (v : Version) (size : ℕ) → size ≤ greatest_length v → rounded_up (rounded_up size 512 - 10) 256 ≤ index_pointers v
index_fits V1 size most = omega arith
index_fits V2 size most = omega arith

pub row_none : (bytes : Bytes) → pointer_row 0 bytes ≡ []
unfolding pointer_row
row_none bytes = refl

pub row_more : (n : ℕ) (bytes : Bytes) → pointer_row (n + 1) bytes ≡ pointer_row n bytes ++ field bytes (2 * n) 2 ∷ []
unfolding pointer_row
row_more n bytes = pointers_more n bytes

-- the index blocks of an inode
pub used_index-row : (v : Version) (bytes : Bytes) (n : ℕ) → size v bytes n ≤ greatest_length v
    → used_index v bytes n ≡ pointer_row (rounded_up (block_count v bytes n - 10) 256) (drop 28 (inode v bytes n))
unfolding pointer_row
used_index-row v bytes n most =
    take-pointers (rounded_up (block_count v bytes n - 10) 256) (index_pointers v) (drop 28 (inode v bytes n)) (index_fits v (size v bytes n) most)

-- the blocks of its contents
pub used_content-rows : (v : Version) (bytes : Bytes) (n : ℕ)
    → used_content v bytes n ≡ take (block_count v bytes n) (pointer_row 10 (drop 8 (inode v bytes n)) ++ flat_map (λ k. pointer_row 256 (block bytes k)) (used_index v bytes n))
unfolding pointer_row
used_content-rows v bytes n = refl

-- one more list after a prefix
pub joined_more : {X : Type 0} (front : List X) (f : ℕ → List X) (xs : List ℕ) (i : ℕ) → i < length xs → (list new part : List X)
    → list ≡ front ++ flat_map f (take i xs) → new ≡ list ++ part → part ≡ f (get_or xs i 0) → new ≡ front ++ flat_map f (take (i + 1) xs)
joined_more front f xs i within list new part so_far more is =
    more ∙ ap (λ l. l ++ part) so_far ∙ ap (λ p. (front ++ flat_map f (take i xs)) ++ p) is ∙ flat_map_more f front (take i xs) (get_or xs i 0)
    ∙ ap (λ ys. front ++ flat_map f ys) (sym (take_more xs i 0 within))

pub length-row : (n : ℕ) (bytes : Bytes) → length (pointer_row n bytes) ≡ n
unfolding pointer_row
length-row n bytes = length-pointers n bytes

-- a prefix of a sequence
pub take-row : (k n : ℕ) (bytes : Bytes) → take k (pointer_row n bytes) ≡ pointer_row (min k n) bytes
unfolding pointer_row
take-row k n bytes =
    sym (take_min k (pointers n bytes)) ∙ ap (λ m. take (min k m) (pointers n bytes)) (length-pointers n bytes) ∙ take-pointers (min k n) n bytes (let few : min k n ≤ n = omega arith in few)

get_or-pointers : (n i : ℕ) (bytes : Bytes) → i < n → get_or (pointers n bytes) i 0 ≡ field bytes (2 * i) 2
get_or-pointers zero i bytes within = absurd (omega arith)
get_or-pointers (suc n) zero bytes within = refl
get_or-pointers (suc n) (suc i) bytes within =
    let same : 2 + 2 * i ≡ 2 * suc i = omega arith in
    get_or-pointers n i (drop 2 bytes) (omega arith) ∙ ap (λ bs. field bs 0 2) (drop-drop (2 * i) 2 bytes ∙ ap (λ m. drop m bytes) same)

pub get_or-row : (n i : ℕ) (bytes : Bytes) → i < n → get_or (pointer_row n bytes) i 0 ≡ field bytes (2 * i) 2
unfolding pointer_row
get_or-row n i bytes within = get_or-pointers n i bytes within

-- a sequence from one of its pointers on
pub row_from : (n i : ℕ) (bytes : Bytes) → i < n → drop i (pointer_row n bytes) ≡ field bytes (2 * i) 2 ∷ drop (i + 1) (pointer_row n bytes)
row_from n i bytes within =
    let row = pointer_row n bytes in
    let inside : i < length row = subst (λ m. i < m) (sym (length-row n bytes)) within in
    drop_more row i 0 inside ∙ ap (λ k. k ∷ drop (i + 1) row) (get_or-row n i bytes within)

pub row_end : (n i : ℕ) (bytes : Bytes) → n ≤ i → drop i (pointer_row n bytes) ≡ []
row_end n i bytes past = drop_all i (pointer_row n bytes) (subst (λ m. m ≤ i) (sym (length-row n bytes)) past)

-- a prefix of the concatenation of two lists
take_across : {X : Type 0} (n : ℕ) (xs ys : List X) → take n (xs ++ ys) ≡ take n xs ++ take (n - length xs) ys
take_across zero xs ys = ap (λ m. take m ys) (let none : 0 ≡ 0 - length xs = omega arith in none)
take_across (suc n) [] ys = ap (λ m. take m ys) (let all : suc n ≡ suc n - 0 = omega arith in all)
take_across (suc n) (x ∷ xs) ys = ap (λ l. x ∷ l) (take_across n xs ys) ∙ ap (λ m. x ∷ take n xs ++ take m ys) (let same : n - length xs ≡ suc n - suc (length xs) = omega arith in same)

-- the pointers in one block, and those in the others
pub pointed-cons : (count : ℕ) (bytes : Bytes) (k : ℕ) (ks : List ℕ) → pointed_row count bytes (k ∷ ks) ≡ pointer_row (min count 256) (block bytes k) ++ pointed_row (count - 256) bytes ks
pointed-cons count bytes k ks =
    let row = pointer_row 256 (block bytes k) in
    let others = flat_map (λ k. pointer_row 256 (block bytes k)) ks in
    take_across count row others ∙ ap (λ l. l ++ take (count - length row) others) (take-row count 256 (block bytes k))
    ∙ ap (λ m. pointer_row (min count 256) (block bytes k) ++ take (count - m) others) (length-row 256 (block bytes k))

-- the same from one of the blocks on
pub pointed_from : (count : ℕ) (bytes : Bytes) (n i : ℕ) (index : Bytes) → i < n
    → pointed_row (count - 256 * i) bytes (drop i (pointer_row n index))
    ≡ pointer_row (min (count - 256 * i) 256) (block bytes (field index (2 * i) 2)) ++ pointed_row (count - 256 * (i + 1)) bytes (drop (i + 1) (pointer_row n index))
pointed_from count bytes n i index within =
    let k = field index (2 * i) 2 in
    let others = drop (i + 1) (pointer_row n index) in
    let less : count - 256 * i - 256 ≡ count - 256 * (i + 1) = omega arith in
    ap (pointed_row (count - 256 * i) bytes) (row_from n i index within) ∙ pointed-cons (count - 256 * i) bytes k others
    ∙ ap (λ m. pointer_row (min (count - 256 * i) 256) (block bytes k) ++ pointed_row m bytes others) less

pub pointed_end : (count : ℕ) (bytes : Bytes) (n i : ℕ) (index : Bytes) → n ≤ i → pointed_row count bytes (drop i (pointer_row n index)) ≡ []
pointed_end count bytes n i index past = ap (pointed_row count bytes) (row_end n i index past) ∙ take_all count [] (omega arith)

-- the blocks of an inode's contents: those to which it points, and those to which its index blocks point
pub used_content-parts : (v : Version) (bytes : Bytes) (n : ℕ)
    → used_content v bytes n ≡ pointer_row (min (block_count v bytes n) 10) (drop 8 (inode v bytes n)) ++ pointed_row (block_count v bytes n - 10) bytes (used_index v bytes n)
used_content-parts v bytes n =
    let count = block_count v bytes n in
    let direct = pointer_row 10 (drop 8 (inode v bytes n)) in
    let others = flat_map (λ k. pointer_row 256 (block bytes k)) (used_index v bytes n) in
    used_content-rows v bytes n ∙ take_across count direct others ∙ ap (λ l. l ++ take (count - length direct) others) (take-row count 10 (drop 8 (inode v bytes n)))
    ∙ ap (λ m. pointer_row (min count 10) (drop 8 (inode v bytes n)) ++ take (count - m) others) (length-row 10 (drop 8 (inode v bytes n)))

-- its index blocks and these, as they are read from the bytes of the inode
pub used_rows : (v : Version) (bytes : Bytes) (n : ℕ) → size v bytes n ≤ greatest_length v → (here : Bytes) → here ≡ inode v bytes n → (first pointed : ℕ)
    → first ≡ min (block_count v bytes n) 10 → pointed ≡ block_count v bytes n - 10 → (indexed : ℕ) → indexed ≡ rounded_up pointed 256
    → used_index v bytes n ++ used_content v bytes n
    ≡ pointer_row indexed (take (length here - 28) (drop 28 here))
    ++ (pointer_row first (take (length here - 8) (drop 8 here)) ++ pointed_row pointed bytes (pointer_row (rounded_up pointed 256) (take (length here - 28) (drop 28 here))))
used_rows v bytes n most here is first pointed few others indexed many =
    let count = block_count v bytes n in
    let direct = pointer_row (min count 10) (drop 8 (inode v bytes n)) in
    let following = λ (at : ℕ). take_rest here at ∙ ap (drop at) is in
    let row : pointer_row (rounded_up pointed 256) (take (length here - 28) (drop 28 here)) ≡ used_index v bytes n =
    ap (pointer_row (rounded_up pointed 256)) (following 28) ∙ ap (λ m. pointer_row (rounded_up m 256) (drop 28 (inode v bytes n))) others ∙ sym (used_index-row v bytes n most) in
    let front : pointer_row first (take (length here - 8) (drop 8 here)) ≡ direct = ap (pointer_row first) (following 8) ∙ ap (λ m. pointer_row m (drop 8 (inode v bytes n))) few in
    rw (many, row, front, others, used_content-parts v bytes n) refl

-- the first of its blocks, with those of one more index block
pub content_more : (count : ℕ) (front : List ℕ) (bytes : Bytes) (index : List ℕ) (i : ℕ) → i < length index → (list : List ℕ)
    → list ≡ take count (front ++ flat_map (λ k. pointer_row 256 (block bytes k)) (take i index))
    → list ++ pointer_row (min (count - length list) 256) (block bytes (get_or index i 0)) ≡ take count (front ++ flat_map (λ k. pointer_row 256 (block bytes k)) (take (i + 1) index))
content_more count front bytes index i within list so_far =
    let f = λ (k : ℕ). pointer_row 256 (block bytes k) in
    let all = front ++ flat_map f (take i index) in
    let part = f (get_or index i 0) in
    let short : length list ≡ min count (length all) = ap length so_far ∙ length-take count all in
    let left : count - length all ≡ count - length list = omega (arith, short) in
    ap (λ l. list ++ l) (sym (take-row (count - length list) 256 (block bytes (get_or index i 0))))
    ∙ ap (λ l. l ++ take (count - length list) part) so_far
    ∙ sym (ap (take count) (sym (joined_more front f index i within all (all ++ part) part refl refl refl)) ∙ take_across count all part ∙ ap (λ m. take count all ++ take m part) left)
