-- The words of a line.
use Rattle.std.proofs.Common.{◌≡◌, ◌≢◌, ◌∙◌, ap, ℕ, suc, ◌+◌, ◌≤◌, ◌<◌, Bool, true, false, cond, List, [], ◌∷◌, ◌++◌, length, take, drop, Option, None, Some, refl, sym, subst, arith, append_assoc}
use Rattle.std.specs.Prelude.{◌==◌, ◌&&◌, option_map, unwrap_or}
use Rattle.std.specs.Borrow.{Bor}
use Rattle.std.specs.List.{list_any, position_or_len}
use Rattle.std.proofs.lemmas.Bool.{eq-eqb, ne_eqb}
use Rattle.std.proofs.lemmas.List.{append-nil}
use Rattle.pv_model.specs.Machine.{spaced, Bytes, onto_first, between, words_from}
use Rattle.pv_source.specs.Reading.{DoesNotBeginWithBlank, spaced_more}
use Rattle.pv_model.specs.Source.Words.{in_word, in_text, is_blank, begun, with_last_word, before_last}

-- ---- the last byte

pub last_is : (last b : ℕ) (front : Bytes) → before_last last (front ++ b ∷ []) ≡ cond (b == last) (Some front) None
last_is last b [] = refl
last_is last b (c ∷ []) = by (b == last)
  where
    by : (t : Bool) → option_map (λ f. c ∷ f) (cond t (Some []) None) ≡ cond t (Some (c ∷ [])) None
    by true = refl
    by false = refl
last_is last b (c ∷ d ∷ front) = ap (λ o. option_map (λ f. c ∷ f) o) (last_is last b (d ∷ front)) ∙ by (b == last)
  where
    by : (t : Bool) → option_map (λ f. c ∷ f) (cond t (Some (d ∷ front)) None) ≡ cond t (Some (c ∷ d ∷ front)) None
    by true = refl
    by false = refl

pub last_here : (bytes front : Bytes) (b last : ℕ) → bytes ≡ front ++ b ∷ [] → b ≡ last → before_last last bytes ≡ Some front
last_here bytes front b last is same = let t : (b == last) ≡ true = eq-eqb b last same in rw is (last_is last b front ∙ rw t refl)

pub last_other : (bytes front : Bytes) (b last : ℕ) → bytes ≡ front ++ b ∷ [] → b ≢ last → before_last last bytes ≡ None
last_other bytes front b last is other = let t : (b == last) ≡ false = ne_eqb b last other in rw is (last_is last b front ∙ rw t refl)

pub no_last : (bytes : Bytes) (last : ℕ) → length bytes ≡ 0 → before_last last bytes ≡ None
no_last [] last none = refl
no_last (b ∷ bytes) last none = absurd (omega arith)

pub content_is : (found : Option (Bor Bytes)) (front : Option Bytes) (line result : Bor Bytes) → option_map (λ f. f.now) found ≡ front → result ≡ unwrap_or found line → result.now ≡ unwrap_or front line.now
content_is None front line result is chosen = ap (λ r. r.now) chosen ∙ ap (λ o. unwrap_or o line.now) is
content_is (Some found) front line result is chosen = ap (λ r. r.now) chosen ∙ ap (λ o. unwrap_or o line.now) is

-- ---- the end of a word

abbrev pub end_of_word : Bytes → ℕ
end_of_word bs = position_or_len is_blank bs

abbrev pub end_of_text : Bytes → ℕ
end_of_text bs = position_or_len (λ c. c == 34) bs

onto_word : (b : ℕ) (bs : Bytes) (end : ℕ) → words_from bs in_word ≡ take end bs ∷ words_from (drop end bs) between
    → onto_first b (words_from bs in_word) ≡ take (1 + end) (b ∷ bs) ∷ words_from (drop (1 + end) (b ∷ bs)) between
onto_word b bs end h = let one_more : 1 + end ≡ suc end = omega arith in rw (h, one_more) refl

-- the rest of a word ends at the first blank
pub word_end : (bs : Bytes) → words_from bs in_word ≡ take (end_of_word bs) bs ∷ words_from (drop (end_of_word bs) bs) between
word_end [] = refl
word_end (b ∷ bs) = by (is_blank b) refl (word_end bs)
  where
    by : (t : Bool) → is_blank b ≡ t → words_from bs in_word ≡ take (end_of_word bs) bs ∷ words_from (drop (end_of_word bs) bs) between
        → words_from (b ∷ bs) in_word ≡ take (end_of_word (b ∷ bs)) (b ∷ bs) ∷ words_from (drop (end_of_word (b ∷ bs)) (b ∷ bs)) between
    by true p h = rw p (rw p refl)
    by false p h = rw p (onto_word b bs (end_of_word bs) h)

-- there is a quotation mark at its first position
pub a_quote : (bs : Bytes) → end_of_text bs < length bs → list_any (λ c. c == 34) bs ≡ true
a_quote [] some = absurd (omega arith)
a_quote (b ∷ bs) some = by (b == 34) refl some (a_quote bs)
  where
    by : (t : Bool) → (b == 34) ≡ t → end_of_text (b ∷ bs) < length (b ∷ bs) → (end_of_text bs < length bs → list_any (λ c. c == 34) bs ≡ true) → list_any (λ c. c == 34) (b ∷ bs) ≡ true
    by true p some h = rw p refl
    by false p some h = let inside : end_of_text bs < length bs = omega (arith, simp p at some) in rw p (h inside)

pub no_quote : (bs : Bytes) → length bs ≤ end_of_text bs → list_any (λ c. c == 34) bs ≡ false
no_quote [] none = refl
no_quote (b ∷ bs) none = by (b == 34) refl none (no_quote bs)
  where
    by : (t : Bool) → (b == 34) ≡ t → length (b ∷ bs) ≤ end_of_text (b ∷ bs) → (length bs ≤ end_of_text bs → list_any (λ c. c == 34) bs ≡ false) → list_any (λ c. c == 34) (b ∷ bs) ≡ false
    by true p none h = absurd (omega (arith, simp p at none))
    by false p none h = let past : length bs ≤ end_of_text bs = omega (arith, simp p at none) in rw p (h past)

abbrev pub text_length : Bytes → ℕ
text_length bs = end_of_text bs + 1 + end_of_word (drop (end_of_text bs + 1) bs)

onto_text : (b : ℕ) (bs : Bytes) (n : ℕ) → words_from bs in_text ≡ take n bs ∷ words_from (drop n bs) between
    → onto_first b (words_from bs in_text) ≡ take (suc n) (b ∷ bs) ∷ words_from (drop (suc n) (b ∷ bs)) between
onto_text b bs n h = rw h refl

-- the rest of a text ends at the first blank after its closing quotation mark
pub text_end : (bs : Bytes) → end_of_text bs < length bs → words_from bs in_text ≡ take (text_length bs) bs ∷ words_from (drop (text_length bs) bs) between
text_end [] some = absurd (omega arith)
text_end (b ∷ bs) some = by (b == 34) refl some (text_end bs)
  where
    by : (t : Bool) → (b == 34) ≡ t → end_of_text (b ∷ bs) < length (b ∷ bs)
        → (end_of_text bs < length bs → words_from bs in_text ≡ take (text_length bs) bs ∷ words_from (drop (text_length bs) bs) between)
        → words_from (b ∷ bs) in_text ≡ take (text_length (b ∷ bs)) (b ∷ bs) ∷ words_from (drop (text_length (b ∷ bs)) (b ∷ bs)) between
    by true p some h =
        let sum : 0 + 1 + end_of_word bs ≡ suc (end_of_word bs) = omega arith in
        rw (p, sum, word_end bs) refl
    by false p some h =
        let q = end_of_text bs in
        let more : 1 + q + 1 ≡ suc (q + 1) = omega arith in
        let sum : suc (q + 1) + end_of_word (drop (q + 1) bs) ≡ suc (text_length bs) = omega arith in
        let inside : q < length bs = omega (arith, simp p at some) in
        rw (p, more, sum) (onto_text b bs (text_length bs) (h inside))

pub text_end_at : (bs after : Bytes) (q e : ℕ) → q ≡ end_of_text bs → q < length bs → after ≡ drop (q + 1) bs → e ≡ end_of_word after
    → words_from bs in_text ≡ take (q + 1 + e) bs ∷ words_from (drop (q + 1 + e) bs) between
text_end_at bs after q e quote some rest blank =
    let length_is : q + 1 + e ≡ text_length bs = ap (λ n. q + 1 + n) (blank ∙ ap end_of_word rest) ∙ ap (λ n. n + 1 + end_of_word (drop (n + 1) bs)) quote in
    rw length_is (text_end bs (omega (arith, quote, some)))

-- the length of a word after its first byte, if it is not a text, and if its closing quotation mark is missing
pub plain_length : (b : ℕ) (bs : Bytes) (n : ℕ) → b ≢ 34 → n ≡ end_of_word bs → words_from bs (begun b bs) ≡ take n bs ∷ words_from (drop n bs) between
plain_length b bs n other is = let plain : (b == 34) ≡ false = ne_eqb b 34 other in rw (plain, is) (word_end bs)

pub unended_length : (b : ℕ) (bs : Bytes) (n : ℕ) → list_any (λ c. c == 34) bs ≡ false → n ≡ end_of_word bs → words_from bs (begun b bs) ≡ take n bs ∷ words_from (drop n bs) between
unended_length b bs n none is = rw is (by (b == 34))
  where
    by : (t : Bool) → words_from bs (cond (t && list_any (λ c. c == 34) bs) in_text in_word) ≡ take (end_of_word bs) bs ∷ words_from (drop (end_of_word bs) bs) between
    by true = rw none (word_end bs)
    by false = word_end bs

-- a word, from the length after its first byte
pub first_word : (bytes bs : Bytes) (b n : ℕ) → bytes ≡ b ∷ bs → DoesNotBeginWithBlank bytes → b ≢ 35 → words_from bs (begun b bs) ≡ take n bs ∷ words_from (drop n bs) between
    → words_from bytes between ≡ take (1 + n) bytes ∷ words_from (drop (1 + n) bytes) between
first_word bytes bs b n is begins other h =
    let blank : is_blank b ≡ false = subst DoesNotBeginWithBlank is begins in
    let hash : (b == 35) ≡ false = ne_eqb b 35 other in
    let one_more : 1 + n ≡ suc n = omega arith in
    rw (is, blank, hash, h, one_more) refl

pub comment_begins : (bytes bs : Bytes) (b : ℕ) → bytes ≡ b ∷ bs → DoesNotBeginWithBlank bytes → b ≡ 35 → words_from bytes between ≡ []
comment_begins bytes bs b is begins hash =
    let blank : is_blank b ≡ false = subst DoesNotBeginWithBlank is begins in
    let same : (b == 35) ≡ true = eq-eqb b 35 hash in
    rw (is, blank, same) refl

-- ---- sequences of words

pub spaced_first : (word : Bytes) (words : List Bytes) → spaced (word ∷ words) ≡ word ++ spaced_more words
spaced_first word words = refl

pub one_more_word : (out word : Bytes) (words : List Bytes) → ((out ++ 32 ∷ []) ++ word) ++ spaced_more words ≡ out ++ spaced_more (word ∷ words)
one_more_word out word words =
    append_assoc (out ++ 32 ∷ []) word (spaced_more words) ∙ append_assoc out (32 ∷ []) (word ++ spaced_more words)

pub last_more_word : (out last word : Bytes) → (out ++ 32 ∷ []) ++ last ≡ out ++ spaced_more (with_last_word last (word ∷ []))
last_more_word out last word = append_assoc out (32 ∷ []) last ∙ ap (λ bs. out ++ 32 ∷ bs) (sym (append-nil last))
