-- The leading bytes of a text that need no escape.
use Rattle.std.proofs.Common.{◌≡◌, ◌<◌, ◌≤◌, ◌∙◌, ℕ, zero, suc, ◌+◌, ◌-◌, Bool, true, false, cond, ltb, not, ◌&&◌, [], ◌∷◌, ◌++◌, None, Some, length, take, drop, get_or, flat_map, codes, refl, sym, ap, ap₂, inl, inr, arith}
use Rattle.std.specs.Prelude.{unwrap_or}
use Rattle.std.specs.List.{position, position_or_len, list_all}
use Rattle.std.proofs.Math.Seq.{take-add}
use Rattle.std.proofs.lemmas.Grind.{flat_map-append}
use Rattle.std.proofs.lemmas.List.{drop-drop}
use Rattle.std.proofs.lemmas.Bool.{cases_lt, lt-ltb, le-ltb, not-true, not-false, and_parts}
use Rattle.std.proofs.lemmas.List.Sums.{fails_before_first, passes_at_first, prefix_len-le-length}
use Rattle.pv_model.specs.Machine.{Bytes, is_plain, hex_byte, quote_byte}

-- bytes that represent themselves are quoted unchanged
quoted_same : (bs : Bytes) (n : ℕ) → ((k : ℕ) → k < n → not (is_plain (get_or bs k 0)) ≡ false) → flat_map quote_byte (take n bs) ≡ take n bs
quoted_same [] zero plain = refl
quoted_same [] (suc n) plain = refl
quoted_same (b ∷ bs) zero plain = refl
quoted_same (b ∷ bs) (suc n) plain =
    ap₂ (λ (p : Bool) (rest : Bytes). cond p (b ∷ []) (codes "\\x" ++ hex_byte b) ++ rest) (not-false (is_plain b) (plain 0 (omega arith)))
    (quoted_same bs n (λ k less. plain (suc k) (omega (arith, less))))

or_length : (n m : ℕ) → n ≤ m → unwrap_or (cond (ltb n m) (Some n) None) m ≡ n
or_length n m le =
    elim (cases_lt n m) [
      | inl lt ↦ let t : ltb n m ≡ true = lt-ltb n m lt in rw t refl
      | inr past ↦ let t : ltb n m ≡ false = le-ltb n m past in rw t (omega arith)
    ]

module _ (bs : Bytes) (count : ℕ) (is : count ≡ unwrap_or (position (λ b. not (is_plain b)) bs) (length bs)) where
  within : position_or_len (λ b. not (is_plain b)) bs ≤ length bs
  within = prefix_len-le-length (λ b. not (not (is_plain b))) bs

  at_first : count ≡ position_or_len (λ b. not (is_plain b)) bs
  at_first = is ∙ or_length _ _ within

  pub front_within : count ≤ length bs
  front_within = omega (arith, at_first, within)

  pub front_same : flat_map quote_byte (take count bs) ≡ take count bs
  front_same = quoted_same bs count (λ k less. fails_before_first (λ b. not (is_plain b)) bs k 0 (omega (arith, at_first, less)))

  pub front_ends : count < length bs → is_plain (get_or bs count 0) ≡ false
  front_ends more = rw at_first (not-true _ (passes_at_first (λ b. not (is_plain b)) bs 0 (omega (arith, at_first, more))))

-- the same if the bytes are tested together
all_same : (bs : Bytes) → list_all is_plain bs ≡ true → flat_map quote_byte bs ≡ bs
all_same [] plain = refl
all_same (b ∷ bs) plain =
    let both : (is_plain b ≡ true) × (list_all is_plain bs ≡ true) = and_parts (is_plain b) (list_all is_plain bs) plain in
    ap₂ (λ (p : Bool) (rest : Bytes). cond p (b ∷ []) (codes "\\x" ++ hex_byte b) ++ rest) both.0 (all_same bs both.1)

-- the rest of a text
module _ (bs rest : Bytes) (split : drop (length bs - length rest) bs ≡ rest) where
  module _ (same : flat_map quote_byte (take (length bs - length rest) bs) ≡ take (length bs - length rest) bs) where
    -- the bytes before it and its leading bytes are quoted unchanged
    pub onward_same : (m : ℕ) → flat_map quote_byte (take m rest) ≡ take m rest → flat_map quote_byte (take (length bs - length rest + m) bs) ≡ take (length bs - length rest + m) bs
    onward_same m front =
        let n : ℕ = length bs - length rest in
        let parts : take (n + m) bs ≡ take n bs ++ take m rest = take-add n m bs ∙ ap (λ r. take n bs ++ take m r) split in
        ap (flat_map quote_byte) parts ∙ flat_map-append quote_byte (take n bs) (take m rest) ∙ ap₂ (λ (a b : Bytes). a ++ b) same front ∙ sym parts

  -- the rest after some of its leading bytes
  module _ (m : ℕ) (following : Bytes) (inside : length rest ≤ length bs) (lengths : length following + m ≡ length rest) where
    count : length bs - length following ≡ length bs - length rest + m
    count = omega (arith, inside, lengths)

    pub after_component : following ≡ drop m rest → drop (length bs - length following) bs ≡ following
    after_component is = ap (λ k. drop k bs) count ∙ sym (drop-drop m (length bs - length rest) bs) ∙ ap (drop m) split ∙ sym is

    pub component_same : flat_map quote_byte (take (length bs - length rest) bs) ≡ take (length bs - length rest) bs → list_all is_plain (take m rest) ≡ true → flat_map quote_byte (take (length bs - length following) bs) ≡ take (length bs - length following) bs
    component_same same plain = rw count (onward_same same m (all_same (take m rest) plain))
