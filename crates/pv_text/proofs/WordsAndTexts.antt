-- Arguments, as their parsers process them.
use Rattle.std.proofs.Common.{◌≡◌, ◌∙◌, ap, ℕ, zero, suc, ◌+◌, ◌-◌, ◌*◌, ◌≤◌, ◌<◌, Bool, true, false, not, cond, eqb, leb, min, [], ◌∷◌, ◌++◌, length, get_or, take, drop, Option, None, Some, refl, sym, inl, inr, arith, append_assoc, negsuc}
use Rattle.std.specs.Prelude.{◌==◌, ◌&&◌, ◌||◌, nat_le, option_map}
use Rattle.std.specs.List.{list_all, position_or_len}
use Rattle.std.proofs.lemmas.Bool.{cases_lt, lt-leb, le-leb, ne_eqb, eq-eqb, not-false}
use Rattle.std.proofs.lemmas.List.{length-append, append-nil, drop_more, drop_all, take_all}
use Rattle.std.proofs.lemmas.Bool.Decides.{eqb_tells}
use Rattle.std.proofs.lemmas.List.Sums.{fails_before_first}
use Rattle.std.specs.Cmp.Lexicographic.{pointwise}
use Rattle.pv_model.specs.declared.open_flags.OpenFlags.{OpenFlags}
use Rattle.pv_model.specs.Machine.{Bytes, is_empty, Parsed, is_plain, decimal_of}
use Rattle.pv_model.specs.Grammar.Arguments.{outside, after_backslash, after_x, hex_value, first_digit, onto_text, if_short, text_rest, in_range, negative_of, parsed_number, without_front, if_nothing_left}
use Rattle.pv_model.specs.Grammar.Lines.{value_from, is_digit, is_decimal, has_leading_zero}
use Rattle.pv_text.proofs.TextLines.{position_or_len-within}
use Rattle.pv_text.specs.Reading.{onto_front, IsFront, text_end, up_to_greatest}

no_first_digit : (o : Option ℕ) → first_digit (text_rest []) o ≡ None
no_first_digit None = refl
no_first_digit (Some high) = refl

-- fewer than three bytes are not an escape
pub short_escape : (bs : Bytes) → length bs < 3 → text_rest bs after_backslash ≡ None
short_escape [] short = refl
short_escape (a ∷ []) short = elim (a == 120) as (λ t. cond t (text_rest [] after_x) None ≡ None) [ true ↦ refl | false ↦ refl ]
short_escape (a ∷ b ∷ []) short = elim (a == 120) as (λ t. cond t (text_rest (b ∷ []) after_x) None ≡ None) [ true ↦ no_first_digit (hex_value b) | false ↦ refl ]
short_escape (a ∷ b ∷ c ∷ bs) short = absurd (omega arith)

onto_more : (front : Bytes) (b : ℕ) (parsed : Parsed Bytes) → onto_front front (onto_text b parsed) ≡ onto_front (front ++ b ∷ []) parsed
onto_more front b None = refl
onto_more front b (Some p) = ap (λ (text : Bytes). Some (text, p.1)) (sym (append_assoc front (b ∷ []) p.0))

pub IsFront-start : (bytes : Bytes) → IsFront [] bytes bytes
IsFront-start bytes = whole (text_rest bytes outside)
  where
    whole : (parsed : Parsed Bytes) → onto_front [] parsed ≡ parsed
    whole None = refl
    whole (Some p) = refl

pub IsFront-step : (front rest bytes after : Bytes) (b : ℕ) → text_rest rest outside ≡ onto_text b (text_rest after outside) → IsFront front rest bytes → IsFront (front ++ b ∷ []) after bytes
IsFront-step front rest bytes after b read preserved = sym (onto_more front b (text_rest after outside)) ∙ ap (onto_front front) (sym read) ∙ preserved

-- a byte that represents itself is parsed as itself
plain_step : (b : ℕ) (bs : Bytes) → is_plain b ≡ true → text_rest (b ∷ bs) outside ≡ onto_text b (text_rest bs outside)
plain_step b bs plain = go (b == 34) (b == 92) (is_plain b) (nat_le 32 b && nat_le b 126) refl plain
  where
    go : (quote slash is front : Bool) → is ≡ (front && not quote && not slash) → is ≡ true
        → cond quote (Some ([], bs)) (cond slash (text_rest bs after_backslash) (cond is (onto_text b (text_rest bs outside)) None)) ≡ onto_text b (text_rest bs outside)
    go false false true front same t = refl
    go false true true true same t = absurd cc
    go false true true false same t = absurd cc
    go true slash true true same t = absurd cc
    go true slash true false same t = absurd cc
    go quote slash false front same t = absurd cc

onto_longer : (b : ℕ) (front : Bytes) (parsed : Parsed Bytes) → onto_front (b ∷ front) parsed ≡ onto_text b (onto_front front parsed)
onto_longer b front None = refl
onto_longer b front (Some p) = refl

-- bytes that represent themselves are parsed as themselves
pub IsFront-plain : (n : ℕ) (bs : Bytes) → n ≤ length bs → ((k : ℕ) → k < n → is_plain (get_or bs k 0) ≡ true) → IsFront (take n bs) (drop n bs) bs
IsFront-plain zero bs within plain = IsFront-start bs
IsFront-plain (suc n) [] within plain = absurd (omega arith)
IsFront-plain (suc n) (b ∷ bs) within plain =
    onto_longer b (take n bs) (text_rest (drop n bs) outside)
    ∙ ap (onto_text b) (IsFront-plain n bs (omega arith) (λ k below. plain (suc k) (omega arith)))
    ∙ sym (plain_step b bs (plain 0 (omega arith)))

-- this holds for the bytes before the first that does not represent itself
pub IsFront-split : (bs : Bytes) (end : ℕ) → end ≡ position_or_len (λ b. not (is_plain b)) bs → IsFront (take end bs) (drop end bs) bs
IsFront-split bs end is =
    IsFront-plain end bs (omega (arith, is, position_or_len-within (λ b. not (is_plain b)) bs))
    (λ k below. not-false (is_plain (get_or bs k 0)) (fails_before_first (λ b. not (is_plain b)) bs k 0 (omega (arith, is))))

past_limit : (front : Bytes) (b : ℕ) (parsed : Parsed Bytes) → length front ≡ 1100 → if_short (onto_front front (onto_text b parsed)) ≡ None
past_limit front b None full = refl
past_limit front b (Some p) full =
    let t : leb (length (front ++ b ∷ p.0)) 1100 ≡ false = lt-leb _ _ (omega (arith, length-append front (b ∷ p.0))) in rw t refl

-- a text that exceeds its limit is invalid
pub IsFront-full : (front rest bytes after : Bytes) (b : ℕ) → text_rest rest outside ≡ onto_text b (text_rest after outside) → length front ≡ 1100 → IsFront front rest bytes → if_short (text_rest bytes outside) ≡ None
IsFront-full front rest bytes after b read full preserved = ap if_short (sym preserved ∙ ap (onto_front front) read) ∙ past_limit front b (text_rest after outside) full

too_long : (front : Bytes) (parsed : Parsed Bytes) → 1100 < length front → if_short (onto_front front parsed) ≡ None
too_long front None long = refl
too_long front (Some p) long = let t : leb (length (front ++ p.0)) 1100 ≡ false = lt-leb _ _ (omega (arith, length-append front p.0)) in rw t refl

-- a text whose prefix exceeds the limit is invalid
pub IsFront-long : (front rest bytes : Bytes) → 1100 < length front → IsFront front rest bytes → if_short (text_rest bytes outside) ≡ None
IsFront-long front rest bytes long preserved = ap if_short (sym preserved) ∙ too_long front (text_rest rest outside) long

pub IsFront-ended : (front rest bytes following : Bytes) → text_rest rest outside ≡ text_end rest → text_end rest ≡ Some ([], following) → length front ≤ 1100 → IsFront front rest bytes → if_short (text_rest bytes outside) ≡ Some (front, following)
IsFront-ended front rest bytes following read ended short preserved =
    let t : leb (length front) 1100 ≡ true = le-leb _ _ short in
    ap if_short (sym preserved ∙ ap (onto_front front) (read ∙ ended) ∙ ap (λ (text : Bytes). Some (text, following)) (append-nil front)) ∙ rw t refl

pub IsFront-none : (front rest bytes : Bytes) → text_rest rest outside ≡ text_end rest → text_end rest ≡ None → IsFront front rest bytes → if_short (text_rest bytes outside) ≡ None
IsFront-none front rest bytes read none preserved = ap if_short (sym preserved ∙ ap (onto_front front) (read ∙ none))

-- ---- decimals

value_grows : (n : ℕ) (bs : Bytes) → n ≤ value_from n bs
value_grows n [] = omega arith
value_grows n (b ∷ bs) = let more = value_grows (10 * n + (b - 48)) bs in omega (arith, more)

-- saturation in between does not change the saturated value
held_at_greatest : (n : ℕ) (bs : Bytes) → up_to_greatest (value_from (up_to_greatest n) bs) ≡ up_to_greatest (value_from n bs)
held_at_greatest n bs =
    elim (cases_lt 4294967295 n) [
      | inl above ↦
          let held : up_to_greatest n ≡ 4294967295 = omega arith in
          rw held (omega (arith, value_grows 4294967295 bs, value_grows n bs))
      | inr within ↦ let held : up_to_greatest n ≡ n = omega arith in rw held refl
    ]

pub value_step : (v next d : ℕ) (bs : Bytes) → next ≡ min (min (v * 10) 4294967295 + (d - 48)) 4294967295
    → up_to_greatest (value_from next bs) ≡ up_to_greatest (value_from v (d ∷ bs))
value_step v next d bs is =
    let same : next ≡ up_to_greatest (10 * v + (d - 48)) = omega arith in
    rw same (held_at_greatest (10 * v + (d - 48)) bs)

pub decimal_step : (digits : Bytes) (i v next total : ℕ) → i < length digits → next ≡ min (min (v * 10) 4294967295 + (get_or digits i 0 - 48)) 4294967295
    → up_to_greatest (value_from v (drop i digits)) ≡ total → up_to_greatest (value_from next (drop (i + 1) digits)) ≡ total
decimal_step digits i v next total within is preserved =
    value_step v next (get_or digits i 0) (drop (i + 1) digits) is ∙ ap (λ (ds : Bytes). up_to_greatest (value_from v ds)) (sym (drop_more digits i 0 within)) ∙ preserved

and_rest : (a b : Bool) → a ≡ true → (a && b) ≡ b
and_rest true b e = refl
and_rest false b e = absurd cc

pub digits_step : (digits : Bytes) (i : ℕ) (all : Bool) → i < length digits → is_digit (get_or digits i 0) ≡ true
    → list_all is_digit (drop i digits) ≡ all → list_all is_digit (drop (i + 1) digits) ≡ all
digits_step digits i all within is preserved =
    sym (ap (list_all is_digit) (drop_more digits i 0 within) ∙ and_rest (is_digit (get_or digits i 0)) (list_all is_digit (drop (i + 1) digits)) is) ∙ preserved

both_hold : (none all padded : Bool) → (none || padded) ≡ false → true ≡ all → (not none && all && not padded) ≡ true
both_hold false true false e f = refl
both_hold false false false e f = absurd cc
both_hold false all true e f = absurd cc
both_hold true all padded e f = absurd cc

-- the value of a decimal after all its digits
pub decimal_is : (digits : Bytes) (v i : ℕ) → length digits ≤ i → (is_empty digits || has_leading_zero digits) ≡ false
    → list_all is_digit (drop i digits) ≡ list_all is_digit digits → up_to_greatest (value_from v (drop i digits)) ≡ up_to_greatest (value_from 0 digits) → v ≤ 4294967295
    → option_map up_to_greatest (decimal_of digits) ≡ Some v
decimal_is digits v i past plain all value within =
    let none : drop i digits ≡ [] = drop_all i digits past in
    let t : is_decimal digits ≡ true = both_hold (is_empty digits) (list_all is_digit digits) (has_leading_zero digits) plain (ap (list_all is_digit) (sym none) ∙ all) in
    let v-is : v ≡ up_to_greatest (value_from 0 digits) = sym (min_is v within) ∙ ap (λ (ds : Bytes). up_to_greatest (value_from v ds)) (sym none) ∙ value in
    rw t (ap (λ n. Some n) (sym v-is))
  where
    min_is : (n : ℕ) → n ≤ 4294967295 → up_to_greatest n ≡ n
    min_is n le = omega arith

negative_by : (n : ℕ) (o : Option ℕ) → Some n ≡ option_map up_to_greatest o → (n ≡ 0 → ⊥) → n ≤ 2147483648 → negative_of (in_range 2147483648 o) ≡ Some (negsuc (n - 1))
negative_by n None is some within = absurd cc
negative_by n (Some m) is some within =
    let least : n ≡ min m 4294967295 = cc in
    let same : m ≡ n = omega arith in
    let fits : leb m 2147483648 ≡ true = le-leb _ _ (omega arith) in
    let other : eqb m 0 ≡ false = ne_eqb m 0 (λ e. some (omega arith)) in
    rw (fits, other, same) refl

-- a word that is a minus sign and a decimal
pub negative_is : (word : Bytes) (n : ℕ) → get_or word 0 0 ≡ 45 → Some n ≡ option_map up_to_greatest (decimal_of (take (length word - 1) (drop 1 word)))
    → (n ≡ 0 → ⊥) → n ≤ 2147483648 → parsed_number word ≡ Some (negsuc (n - 1))
negative_is [] n minus is some within = absurd (omega arith)
negative_is (b ∷ bs) n minus is some within =
    let t : eqb b 45 ≡ true = eq-eqb b 45 minus in
    let rest : take (length (b ∷ bs) - 1) bs ≡ bs = take_all (length (b ∷ bs) - 1) bs (omega arith) in
    rw t (negative_by n (decimal_of bs) (is ∙ ap (λ (ds : Bytes). option_map up_to_greatest (decimal_of ds)) rest) some within)

-- ---- flags

-- the rest after a prefix, by one comparison
pub front_is : (front bs : Bytes) → without_front front bs ≡ cond (pointwise eqb (take (length front) bs) front) (Some (drop (length front) bs)) None
front_is [] bs = refl
front_is (a ∷ front) [] = refl
front_is (a ∷ front) (b ∷ bs) =
    elim (eqb_tells a b) [
      | inl same ↦ let t : eqb b a ≡ true = eq-eqb b a (sym same.1) in rw (same.0, t) (front_is front bs)
      | inr other ↦ let t : eqb b a ≡ false = ne_eqb b a (λ e. other.1 (sym e)) in rw (other.0, t) refl
    ]

pub something_left : (bs : Bytes) (flags : OpenFlags) → 1 ≤ length bs → if_nothing_left bs flags ≡ None
something_left [] flags some = absurd (omega arith)
something_left (b ∷ bs) flags some = refl
