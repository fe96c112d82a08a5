-- Lines and words, by the positions of their ends.
use Rattle.std.proofs.Common.{◌≡◌, ◌∙◌, ap, ℕ, suc, ◌+◌, ◌-◌, ◌≤◌, ◌<◌, Bool, true, false, not, cond, eqb, ltb, [], ◌∷◌, ◌++◌, length, take, drop, Option, None, Some, refl, sym, inl, inr, arith}
use Rattle.std.specs.Prelude.{◌==◌, unwrap_or}
use Rattle.std.specs.List.{position, position_or_len}
use Rattle.std.proofs.lemmas.Bool.{cases_lt, lt-ltb, le-ltb, false≢true}
use Rattle.std.proofs.lemmas.Bool.Decides.{eqb_tells}
use Rattle.std.proofs.lemmas.List.{drop-drop, length-drop, take_all}
use Rattle.std.proofs.lemmas.List.Quantifiers.{position-Some}
use Rattle.std.proofs.lemmas.List.Sums.{fails_before_first, prefix_len-le-length}
use Rattle.memchr.specs.Find.{IsFirstByte}
use Rattle.pv_model.specs.Machine.{Bytes, onto_first, lines_of}
use Rattle.pv_model.specs.Grammar.Lines.{word_of, after_word}
use Rattle.pv_text.specs.Lines.{IsSplit}

pub position_or_len-within : (p : ℕ → Bool) (bs : Bytes) → position_or_len p bs ≤ length bs
position_or_len-within p bs = prefix_len-le-length (λ b. not (p b)) bs

or_length : (n m : ℕ) → n ≤ m → unwrap_or (cond (ltb n m) (Some n) None) m ≡ n
or_length n m le =
    elim (cases_lt n m) [
      | inl lt ↦ let t : ltb n m ≡ true = lt-ltb n m lt in rw t refl
      | inr past ↦ let t : ltb n m ≡ false = le-ltb n m past in rw t (omega arith)
    ]

pub position_or_length : (p : ℕ → Bool) (bs : Bytes) → unwrap_or (position p bs) (length bs) ≡ position_or_len p bs
position_or_length p bs = or_length (position_or_len p bs) (length bs) (position_or_len-within p bs)

-- the index of the first byte that passes is its position
pub first_is_position : (p : ℕ → Bool) (bs : Bytes) (r : Option ℕ) → IsFirstByte p bs r → r ≡ position p bs
first_is_position p bs None none =
    elim (cases_lt (position_or_len p bs) (length bs)) [
      | inl within ↦
          let t : ltb (position_or_len p bs) (length bs) ≡ true = lt-ltb _ _ within in
          let passes = position-Some p bs (position_or_len p bs) 0 (rw t refl) in
          absurd (none (position_or_len p bs) (omega arith) within passes.1)
      | inr past ↦ let t : ltb (position_or_len p bs) (length bs) ≡ false = le-ltb _ _ past in rw t refl
    ]
first_is_position p bs (Some k) first =
    let n = position_or_len p bs in
    elim (cases_lt k n) [
      | inl below ↦ absurd (false≢true (sym (fails_before_first p bs k 0 below) ∙ first.1))
      | inr from ↦
          let within : n < length bs = omega (arith, first.0.high) in
          let t : ltb n (length bs) ≡ true = lt-ltb _ _ within in
          let passes = position-Some p bs n 0 (rw t refl) in
          elim (cases_lt n k) [
            | inl before ↦ absurd (first.0.before n (omega arith) before passes.1)
            | inr same ↦ let is : k ≡ n = omega arith in rw t (ap (λ i. Some i) is)
          ]
    ]

abbrev pub end_of_line : Bytes → ℕ
end_of_line bs = position_or_len (λ b. b == 10) bs

abbrev pub end_of_word : Bytes → ℕ
end_of_word bs = position_or_len (λ b. b == 32) bs

onto_line : (b : ℕ) (bs : Bytes) (end : ℕ) → lines_of bs ≡ take end bs ∷ lines_of (drop (end + 1) bs)
    → onto_first b (lines_of bs) ≡ take (1 + end) (b ∷ bs) ∷ lines_of (drop (1 + end + 1) (b ∷ bs))
onto_line b bs end h =
    let one_more : 1 + end ≡ suc end = omega arith in
    let two_more : 1 + end + 1 ≡ suc (end + 1) = omega arith in
    rw (h, two_more, one_more) refl

-- a text begins with its first line
pub first_line : (b : ℕ) (bs : Bytes) → lines_of (b ∷ bs) ≡ take (end_of_line (b ∷ bs)) (b ∷ bs) ∷ lines_of (drop (end_of_line (b ∷ bs) + 1) (b ∷ bs))
first_line b [] =
    elim (b == 10) as (λ t. cond t ([] ∷ []) ((b ∷ []) ∷ []) ≡ take (cond (not t) 1 0) (b ∷ []) ∷ lines_of (drop (cond (not t) 1 0 + 1) (b ∷ []))) [ true ↦ refl | false ↦ refl ]
first_line b (c ∷ bs) =
    elim (b == 10) as (λ t. cond t ([] ∷ lines_of (c ∷ bs)) (onto_first b (lines_of (c ∷ bs)))
    ≡ take (cond (not t) (1 + end_of_line (c ∷ bs)) 0) (b ∷ c ∷ bs) ∷ lines_of (drop (cond (not t) (1 + end_of_line (c ∷ bs)) 0 + 1) (b ∷ c ∷ bs))) [
      | true ↦ refl
      | false ↦ onto_line b (c ∷ bs) (end_of_line (c ∷ bs)) (first_line c bs)
    ]

onto_word : (b : ℕ) (bs word : Bytes) (end : ℕ) → word ≡ take end bs → b ∷ word ≡ take (1 + end) (b ∷ bs)
onto_word b bs word end h = let one_more : 1 + end ≡ suc end = omega arith in rw (h, one_more) refl

past_word : (b : ℕ) (bs following : Bytes) (end : ℕ) → following ≡ drop end bs → following ≡ drop (1 + end) (b ∷ bs)
past_word b bs following end h = let one_more : 1 + end ≡ suc end = omega arith in rw (h, one_more) refl

pub word_is : (bs : Bytes) → word_of bs ≡ take (end_of_word bs) bs
word_is [] = refl
word_is (b ∷ bs) =
    elim (b == 32) as (λ t. cond t [] (b ∷ word_of bs) ≡ take (cond (not t) (1 + end_of_word bs) 0) (b ∷ bs)) [
      | true ↦ refl
      | false ↦ onto_word b bs (word_of bs) (end_of_word bs) (word_is bs)
    ]

pub after_word_is : (bs : Bytes) → after_word bs ≡ drop (end_of_word bs) bs
after_word_is [] = refl
after_word_is (b ∷ bs) =
    elim (b == 32) as (λ t. cond t (b ∷ bs) (after_word bs) ≡ drop (cond (not t) (1 + end_of_word bs) 0) (b ∷ bs)) [
      | true ↦ refl
      | false ↦ past_word b bs (after_word bs) (end_of_word bs) (after_word_is bs)
    ]

-- a text that is split at the end of its first line
pub lines_split : (bs line rest : Bytes) (end : ℕ) → eqb (length bs) 0 ≡ false → end ≡ end_of_line bs → line ≡ take end bs → rest ≡ drop end bs → lines_of bs ≡ line ∷ lines_of (drop 1 rest)
lines_split [] line rest end some is front back = absurd cc
lines_split (b ∷ bs) line rest end some is front back =
    rw (front, back, is) (first_line b bs ∙ ap (λ d. take (end_of_line (b ∷ bs)) (b ∷ bs) ∷ lines_of d) (sym (drop-drop 1 (end_of_line (b ∷ bs)) (b ∷ bs))))

-- the text after a line feed, or no text
pub lines_past : (bs line rest : Bytes) (end : ℕ) → eqb (length bs) 0 ≡ false → end ≡ end_of_line bs → line ≡ take end bs → rest ≡ drop end bs → lines_of bs ≡ line ∷ lines_of (take (length rest - 1) (drop 1 rest))
lines_past bs line rest end some is front back =
    lines_split bs line rest end some is front back ∙ ap (λ d. line ∷ lines_of d) (sym (take_all (length rest - 1) (drop 1 rest) (omega (arith, length-drop 1 rest))))

pub lines_to_end : (bs line rest : Bytes) (end : ℕ) → eqb (length bs) 0 ≡ false → end ≡ end_of_line bs → line ≡ take end bs → rest ≡ drop end bs → length rest < 1 → lines_of bs ≡ line ∷ lines_of rest
lines_to_end bs line [] end some is front back short = lines_split bs line [] end some is front back
lines_to_end bs line (b ∷ rest) end some is front back short = absurd (omega arith)

-- ---- the bytes after a line

abbrev EndsAt : ℕ → Bytes → Type 0
EndsAt end bs = end < length bs → bs ≡ take end bs ++ 10 ∷ drop (end + 1) bs

one_further : (b : ℕ) (bs : Bytes) (end : ℕ) → EndsAt end bs → EndsAt (1 + end) (b ∷ bs)
one_further b bs end h inside =
    let one_more : 1 + end ≡ suc end = omega arith in
    let two_more : suc end + 1 ≡ suc (end + 1) = omega arith in
    rw (one_more, two_more) (ap (λ xs. b ∷ xs) (h (omega arith)))

at_end_of_line : (bs : Bytes) → EndsAt (end_of_line bs) bs
at_end_of_line [] = λ inside. absurd (omega arith)
at_end_of_line (b ∷ bs) =
    elim (eqb_tells b 10) [
      | inl same ↦ rw same.0 (λ inside. ap (λ x. x ∷ bs) same.1)
      | inr other ↦ rw other.0 (one_further b bs (end_of_line bs) (at_end_of_line bs))
    ]

pub split_past : (bs line rest : Bytes) (end : ℕ) → end ≡ end_of_line bs → line ≡ take end bs → rest ≡ drop end bs → 1 ≤ length rest → IsSplit bs line (take (length rest - 1) (drop 1 rest))
split_past bs line rest end is front back some =
    let past : take (length rest - 1) (drop 1 rest) ≡ drop (end + 1) bs =
    take_all (length rest - 1) (drop 1 rest) (omega (arith, length-drop 1 rest)) ∙ ap (drop 1) back ∙ drop-drop 1 end bs in
    let inside : end_of_line bs < length bs = omega (arith, some, ap length back, length-drop end bs, is) in
    inl (at_end_of_line bs inside ∙ rw (past, front, is) refl)

pub split_at_end : (bs line rest : Bytes) (end : ℕ) → line ≡ take end bs → rest ≡ drop end bs → length rest < 1 → IsSplit bs line rest
split_at_end bs line [] end front back short =
    inr (sym (front ∙ take_all end bs (omega (arith, ap length back, length-drop end bs))), refl)
split_at_end bs line (b ∷ rest) end front back short = absurd (omega arith)
