-- Numbers in blocks, and the effect of a write to a block on them.
use Rattle.std.proofs.Common.{◌≡◌, ℕ, zero, suc, ◌+◌, ◌-◌, ◌^◌, ◌<◌, ◌≤◌, ◌≢◌, List, [], ◌∷◌, ◌++◌, length, get_or, take, drop, refl, sym, ap, ◌∙◌, arith, zero-add}
use Rattle.byteorder.specs.Endian.{little_from, little_bytes}
use Rattle.byteorder.specs.Numbers.{little_number-reads_back, length-bytes_low_first}
use Rattle.pv_model.specs.Machine.{Bytes}
use Rattle.pv_inodes.specs.Layout.{block_at, number, splice}
use Rattle.std.proofs.lemmas.List.{get_or-set_same, get_or-set_other, length-set, length-take, length-take-le, length-drop, length-append, get_or-take, get_or-drop, get_or_append_left, get_or-append_right}

-- a number after an offset
pub little_from-drop : (at i n : ℕ) (xs : Bytes) → little_from i n (drop at xs) ≡ little_from (at + i) n xs
little_from-drop at i zero xs = refl
little_from-drop at i (suc n) xs =
    let rest = little_from-drop at (suc i) n xs in
    let next : at + suc i ≡ suc (at + i) = omega arith in
    rw (get_or-drop at xs i 0, rest, next) refl

-- a number depends only on its bytes
pub little_from-same : (n i j : ℕ) (xs ys : Bytes) → ((k : ℕ) → k < n → get_or xs (i + k) 0 ≡ get_or ys (j + k) 0) → little_from i n xs ≡ little_from j n ys
little_from-same zero i j xs ys same = refl
little_from-same (suc n) i j xs ys same =
    let first : get_or xs i 0 ≡ get_or ys j 0 = ap (λ p. get_or xs p 0) (omega arith) ∙ same 0 (omega arith) ∙ ap (λ p. get_or ys p 0) (omega arith) in
    let rest = little_from-same n (suc i) (suc j) xs ys (λ k below. ap (λ p. get_or xs p 0) (omega arith) ∙ same (suc k) (omega arith) ∙ ap (λ p. get_or ys p 0) (omega arith)) in
    rw (first, rest) refl

-- bytes overwritten by others
abbrev pub over : Bytes → ℕ → Bytes → Bytes
over old at new = take at old ++ (new ++ drop (at + length new) old)

module _ (old : Bytes) (at : ℕ) (new : Bytes) (fits : at + length new ≤ length old) where
  pub length-over : length (over old at new) ≡ length old
  length-over = simp (length-append, length-take, length-drop) (omega arith)

  front : length (take at old) ≡ at
  front = length-take-le at old (omega arith)

  pub get_or-over_below : (k : ℕ) → k < at → get_or (over old at new) k 0 ≡ get_or old k 0
  get_or-over_below k below =
      let in_front : k < length (take at old) = rw front below in
      get_or_append_left (take at old) _ 0 k in_front ∙ get_or-take at old k 0 below

  pub get_or-over_within : (k : ℕ) → k < length new → get_or (over old at new) (at + k) 0 ≡ get_or new k 0
  get_or-over_within k within =
      let gap : at + k - at ≡ k = omega arith in
      get_or-append_right (take at old) _ at (at + k) 0 front (omega arith)
      ∙ ap (λ p. get_or (new ++ drop (at + length new) old) p 0) gap
      ∙ get_or_append_left new _ 0 k within

  pub get_or-over_above : (k : ℕ) → at + length new ≤ k → get_or (over old at new) k 0 ≡ get_or old k 0
  get_or-over_above k above =
      get_or-append_right (take at old) _ at k 0 front (omega arith)
      ∙ get_or-append_right new _ (length new) (k - at) 0 refl (omega arith)
      ∙ get_or-drop (at + length new) old (k - at - length new) 0
      ∙ ap (λ p. get_or old p 0) (omega arith)

-- numbers in equal blocks
pub number-same : (bs cs : List Bytes) (k at n : ℕ) → block_at bs k ≡ block_at cs k → number bs k at n ≡ number cs k at n
unfolding number
number-same bs cs k at n same = ap (little_from at n) same

module _ (bs : List Bytes) (k at : ℕ) (new : Bytes) where
  pub length-splice : length (splice bs k at new) ≡ length bs
  unfolding splice
  length-splice = length-set bs k _

  pub block_at-splice_other : (j : ℕ) → j ≢ k → block_at (splice bs k at new) j ≡ block_at bs j
  unfolding splice
  block_at-splice_other j other = get_or-set_other bs k j _ [] other

  pub block_at-splice_same : k < length bs → block_at (splice bs k at new) k ≡ over (block_at bs k) at new
  unfolding splice
  block_at-splice_same within = get_or-set_same bs k _ [] within

  -- a number elsewhere does not change
  pub number-splice_other : (j i n : ℕ) → j ≢ k → number (splice bs k at new) j i n ≡ number bs j i n
  number-splice_other j i n other = number-same (splice bs k at new) bs j i n (block_at-splice_other j other)

  module _ (within : k < length bs) (fits : at + length new ≤ length (block_at bs k)) where
    pub length-block_splice : length (block_at (splice bs k at new) k) ≡ length (block_at bs k)
    length-block_splice = ap length (block_at-splice_same within) ∙ length-over (block_at bs k) at new fits

    pub number-splice_below : (i n : ℕ) → i + n ≤ at → number (splice bs k at new) k i n ≡ number bs k i n
    unfolding number
    number-splice_below i n below =
        ap (little_from i n) (block_at-splice_same within)
        ∙ little_from-same n i i _ _ (λ p in_range. get_or-over_below (block_at bs k) at new fits (i + p) (omega arith))

    pub number-splice_above : (i n : ℕ) → at + length new ≤ i → number (splice bs k at new) k i n ≡ number bs k i n
    unfolding number
    number-splice_above i n above =
        ap (little_from i n) (block_at-splice_same within)
        ∙ little_from-same n i i _ _ (λ p in_range. get_or-over_above (block_at bs k) at new fits (i + p) (omega arith))

-- a number that was written is read back
pub number-splice_same : (bs : List Bytes) (k at n x : ℕ) → k < length bs → at + n ≤ length (block_at bs k) → x < 256 ^ n → number (splice bs k at (little_bytes n x)) k at n ≡ x
unfolding number
number-splice_same bs k at n x within fits small =
    let size = length-bytes_low_first 0 n x in
    let room : at + length (little_bytes n x) ≤ length (block_at bs k) = rw size fits in
    ap (little_from at n) (block_at-splice_same bs k at (little_bytes n x) within)
    ∙ little_from-same n at 0 _ (little_bytes n x ++ []) (λ p in_range.
    get_or-over_within (block_at bs k) at (little_bytes n x) room p (rw size in_range)
    ∙ sym (get_or_append_left (little_bytes n x) [] 0 p (rw size in_range))
    ∙ ap (λ q. get_or (little_bytes n x ++ []) q 0) (sym (zero-add p)))
    ∙ little_number-reads_back n x [] small

-- a byte is read back too
pub number-splice_byte : (bs : List Bytes) (k at x : ℕ) → k < length bs → at + 1 ≤ length (block_at bs k) → number (splice bs k at (x ∷ [])) k at 1 ≡ x
unfolding number
number-splice_byte bs k at x within fits =
    let here : at + 0 ≡ at = omega arith in
    let read = rw here at (get_or-over_within (block_at bs k) at (x ∷ []) fits 0 (omega arith)) in
    let byte : get_or (block_at (splice bs k at (x ∷ [])) k) at 0 ≡ x = rw (block_at-splice_same bs k at (x ∷ []) within) read in
    rw byte (omega arith)
