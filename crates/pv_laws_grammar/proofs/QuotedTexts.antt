-- Quoted texts.
use Rattle.std.proofs.Common.{◌≡◌, ◌≢◌, ℕ, ◌+◌, ◌-◌, ◌*◌, ◌/◌, ◌%◌, ◌<◌, ◌≤◌, true, false, cond, not, ◌&&◌, ◌==◌, nat_le, nat_lt, [], ◌∷◌, ◌++◌, length, Option, None, Some, ap, sym, ◌∙◌, refl, subst, append_assoc, arith, eqb-true, leb-true, le-leb}
use Rattle.std.specs.Prelude.{codes}
use Rattle.std.proofs.lemmas.Bool.{cond_both, and_parts, and_from, ne_eqb, eqb-false, cond-true, cond-false, ltb-false, ltb-true, lt-ltb, le-ltb, lt-leb, not-true}
use Rattle.std.proofs.lemmas.Option.{cond_some, same_Some, some_pair_parts}
use Rattle.pv_model.specs.Machine.{Bytes, hex_byte, is_plain, Parsed, text_at, word_at, EncodesText}
use Rattle.pv_model.specs.Trace.{hex_digit}
use Rattle.pv_model.specs.Grammar.Arguments.{Escape, outside, after_backslash, after_x, after_digit, hex_value, onto_text, EscapeParser, text_outside, first_digit, second_digit, text_step, text_rest, if_short, some_text, begins_text, null_of, text_or_null_at}
use Rattle.pv_model.specs.Grammar.Forms.{IsAfterWord}
use Rattle.pv_model.specs.Grammar.Encoding.{EncodesBytes, nothing, plain, escaped, EncodesTextOrNull}
use Rattle.pv_laws_grammar.proofs.SingleWords.{EncodesNull, reads_null}
use Rattle.pv_laws_grammar.proofs.ParserCorrectness.{EncodedAt, Reads, reads_word}

-- ---- hexadecimal digits

hex_digit_low : (d : ℕ) → d < 10 → hex_digit d ≡ 48 + d
hex_digit_low d h = cond-true (nat_lt d 10) (48 + d) (87 + d) (lt-ltb d 10 h)

hex_digit_high : (d : ℕ) → 10 ≤ d → hex_digit d ≡ 87 + d
hex_digit_high d h = cond-false (nat_lt d 10) (48 + d) (87 + d) (le-ltb d 10 h)

hex_value_found : (b d : ℕ) → hex_value b ≡ Some d → (d < 16) × (hex_digit d ≡ b)
hex_value_found b d e = cond_both (nat_le 48 b && nat_le b 57) (Some (b - 48)) (cond (nat_le 97 b && nat_le b 102) (Some (b - 87)) None) (λ r. r ≡ Some d → (d < 16) × (hex_digit d ≡ b))
    (λ is h.
    let same = same_Some (b - 48) d h in
    let parts = and_parts (nat_le 48 b) (nat_le b 57) is in
    let low = leb-true 48 b parts.0 in
    let high = leb-true b 57 parts.1 in
    let value : 48 + d ≡ b = omega arith in
    (omega arith, hex_digit_low d (omega arith) ∙ value))
    (λ is h.
    let found = cond_some (nat_le 97 b && nat_le b 102) (b - 87) d h in
    let parts = and_parts (nat_le 97 b) (nat_le b 102) found.0 in
    let low = leb-true 97 b parts.0 in
    let high = leb-true b 102 parts.1 in
    let same = found.1 in
    let value : 87 + d ≡ b = omega arith in
    (omega arith, hex_digit_high d (omega arith) ∙ value)) e

digit_value : (d : ℕ) → d < 10 → hex_value (48 + d) ≡ Some d
digit_value d h =
    let back : 48 + d - 48 ≡ d = omega arith in
    cond-true (nat_le 48 (48 + d) && nat_le (48 + d) 57) (Some (48 + d - 48)) _ (and_from (nat_le 48 (48 + d)) (nat_le (48 + d) 57) (le-leb 48 (48 + d) (omega arith)) (le-leb (48 + d) 57 (omega arith)))
    ∙ ap Some back

letter_digit_value : (d : ℕ) → 10 ≤ d → d < 16 → hex_value (87 + d) ≡ Some d
letter_digit_value d low high =
    let back : 87 + d - 87 ≡ d = omega arith in
    cond-false (nat_le 48 (87 + d) && nat_le (87 + d) 57) (Some (87 + d - 48)) (cond (nat_le 97 (87 + d) && nat_le (87 + d) 102) (Some (87 + d - 87)) None) (rw (lt-leb (87 + d) 57 (omega arith), le-leb 48 (87 + d) (omega arith)) refl)
    ∙ cond-true (nat_le 97 (87 + d) && nat_le (87 + d) 102) (Some (87 + d - 87)) None (and_from (nat_le 97 (87 + d)) (nat_le (87 + d) 102) (le-leb 97 (87 + d) (omega arith)) (le-leb (87 + d) 102 (omega arith)))
    ∙ ap Some back

hex_value-hex_digit : (d : ℕ) → d < 16 → hex_value (hex_digit d) ≡ Some d
hex_value-hex_digit d h = cond_both (nat_lt d 10) (48 + d) (87 + d) (λ b. hex_value b ≡ Some d)
    (λ is. digit_value d (ltb-true d 10 is))
    (λ is. letter_digit_value d (ltb-false d 10 is) h)

hex_byte_of : (high low : ℕ) → high < 16 → low < 16 → hex_byte (16 * high + low) ≡ hex_digit high ∷ hex_digit low ∷ []
hex_byte_of high low h l =
    let front : (16 * high + low) / 16 ≡ high = omega arith in
    let back : (16 * high + low) % 16 ≡ low = omega arith in
    rw (front, back) refl

-- ---- a parsed text is encoded

-- the bytes parsed from a state on are encoded
abbrev Within : Escape → Bytes → Bytes → Bytes → Type 0
Within outside value bs rest = (encoded : Bytes) × EncodesBytes value encoded × (bs ≡ encoded ++ 34 ∷ rest)
Within after_backslash value bs rest = (encoded : Bytes) × EncodesBytes value (92 ∷ encoded) × (bs ≡ encoded ++ 34 ∷ rest)
Within after_x value bs rest = (encoded : Bytes) × EncodesBytes value (92 ∷ 120 ∷ encoded) × (bs ≡ encoded ++ 34 ∷ rest)
Within (after_digit high) value bs rest = high < 16 → (encoded : Bytes) × EncodesBytes value (92 ∷ 120 ∷ hex_digit high ∷ encoded) × (bs ≡ encoded ++ 34 ∷ rest)

abbrev Known : Bytes → EscapeParser → Type 0
Known bs onward = (escape : Escape) (value rest : Bytes) → onward escape ≡ Some (value, rest) → Within escape value bs rest

onto_text_found : (b : ℕ) (p : Parsed Bytes) (value rest : Bytes) → onto_text b p ≡ Some (value, rest) → (v : Bytes) × (p ≡ Some (v, rest)) × (value ≡ b ∷ v)
onto_text_found b None value rest e = absurd (cc)
onto_text_found b (Some p) value rest e =
    let parts = some_pair_parts (b ∷ p.0) value p.1 rest e in
    (p.0, ap (λ r. Some (p.0, r)) parts.1, sym parts.0)

module _ (b : ℕ) (bs : Bytes) (onward : EscapeParser) (known : Known bs onward) where
  found_plain : (value rest : Bytes) → is_plain b ≡ true → onto_text b (onward outside) ≡ Some (value, rest) → Within outside value (b ∷ bs) rest
  found_plain value rest is e =
      let p = onto_text_found b (onward outside) value rest e in
      let more = known outside p.0 rest p.1 in
      let encodes : EncodesBytes value (b ∷ more.0) = subst (λ v. EncodesBytes v (b ∷ more.0)) (sym p.2) (plain b p.0 more.0 is more.1) in
      (b ∷ more.0, encodes, ap (λ r. b ∷ r) more.2)

  found_escape : (value rest : Bytes) → b ≡ 92 → onward after_backslash ≡ Some (value, rest) → Within outside value (b ∷ bs) rest
  found_escape value rest is e =
      let more = known after_backslash value rest e in
      (92 ∷ more.0, more.1, ap (λ c. c ∷ bs) is ∙ ap (λ r. 92 ∷ r) more.2)

  found_end : (value rest : Bytes) → b ≡ 34 → ◌≡◌ {A = Parsed Bytes} (Some ([], bs)) (Some (value, rest)) → Within outside value (b ∷ bs) rest
  found_end value rest is e =
      let parts = some_pair_parts [] value bs rest e in
      ([], subst (λ v. EncodesBytes v []) parts.0 nothing, ap (λ c. c ∷ bs) is ∙ ap (λ r. 34 ∷ r) parts.1)

  found_outside : (value rest : Bytes) → text_outside b bs onward ≡ Some (value, rest) → Within outside value (b ∷ bs) rest
  found_outside value rest e =
      cond_both (b == 34) (Some ([], bs)) (cond (b == 92) (onward after_backslash) (cond (is_plain b) (onto_text b (onward outside)) None)) (λ r. r ≡ Some (value, rest) → Within outside value (b ∷ bs) rest)
      (λ is h. found_end value rest (eqb-true b 34 is) h)
      (λ is. cond_both (b == 92) (onward after_backslash) (cond (is_plain b) (onto_text b (onward outside)) None) (λ r. r ≡ Some (value, rest) → Within outside value (b ∷ bs) rest)
      (λ back h. found_escape value rest (eqb-true b 92 back) h)
      (λ back. cond_both (is_plain b) (onto_text b (onward outside)) None (λ r. r ≡ Some (value, rest) → Within outside value (b ∷ bs) rest)
      (λ prints h. found_plain value rest prints h)
      (λ prints h. absurd (cc)))) e

  found_backslash : (value rest : Bytes) → text_step b bs onward after_backslash ≡ Some (value, rest) → Within after_backslash value (b ∷ bs) rest
  found_backslash value rest e = cond_both (b == 120) (onward after_x) None (λ r. r ≡ Some (value, rest) → Within after_backslash value (b ∷ bs) rest)
      (λ is h.
      let more = known after_x value rest h in
      (120 ∷ more.0, more.1, ap (λ c. c ∷ bs) (eqb-true b 120 is) ∙ ap (λ r. 120 ∷ r) more.2))
      (λ is h. absurd (cc)) e

  found_first : (o : Option ℕ) → hex_value b ≡ o → (value rest : Bytes) → first_digit onward o ≡ Some (value, rest) → Within after_x value (b ∷ bs) rest
  found_first None is value rest e = absurd (cc)
  found_first (Some high) is value rest e =
      let digit = hex_value_found b high is in
      let more = known (after_digit high) value rest e digit.0 in
      (hex_digit high ∷ more.0, more.1, ap (λ c. c ∷ bs) (sym digit.1) ∙ ap (λ r. hex_digit high ∷ r) more.2)

  found_second : (high : ℕ) → high < 16 → (o : Option ℕ) → hex_value b ≡ o → (value rest : Bytes) → second_digit onward high o ≡ Some (value, rest)
      → (encoded : Bytes) × EncodesBytes value (92 ∷ 120 ∷ hex_digit high ∷ encoded) × (b ∷ bs ≡ encoded ++ 34 ∷ rest)
  found_second high fits None is value rest e = absurd (cc)
  found_second high fits (Some low) is value rest e =
      cond_both (16 * high + low == 0) None (onto_text (16 * high + low) (onward outside)) (λ r. r ≡ Some (value, rest) → (encoded : Bytes) × EncodesBytes value (92 ∷ 120 ∷ hex_digit high ∷ encoded) × (b ∷ bs ≡ encoded ++ 34 ∷ rest))
      (λ zeros h. absurd (cc))
      (λ other h.
      let digit = hex_value_found b low is in
      let p = onto_text_found (16 * high + low) (onward outside) value rest h in
      let more = known outside p.0 rest p.1 in
      let some = eqb-false (16 * high + low) 0 other in
      let encodes : EncodesBytes ((16 * high + low) ∷ p.0) (codes "\\x" ++ hex_byte (16 * high + low) ++ more.0) = escaped (16 * high + low) p.0 more.0 (omega arith) (omega arith) more.1 in
      let digits : codes "\\x" ++ hex_byte (16 * high + low) ++ more.0 ≡ 92 ∷ 120 ∷ hex_digit high ∷ hex_digit low ∷ more.0 = ap (λ t. codes "\\x" ++ t ++ more.0) (hex_byte_of high low fits digit.0) in
      let here : EncodesBytes value (92 ∷ 120 ∷ hex_digit high ∷ hex_digit low ∷ more.0) = subst (λ v. EncodesBytes v (92 ∷ 120 ∷ hex_digit high ∷ hex_digit low ∷ more.0)) (sym p.2) (subst (EncodesBytes ((16 * high + low) ∷ p.0)) digits encodes) in
      (hex_digit low ∷ more.0, here, ap (λ c. c ∷ bs) (sym digit.1) ∙ ap (λ r. hex_digit low ∷ r) more.2)) e

  found_step : Known (b ∷ bs) (text_step b bs onward)
  found_step outside value rest e = found_outside value rest e
  found_step after_backslash value rest e = found_backslash value rest e
  found_step after_x value rest e = found_first (hex_value b) refl value rest e
  found_step (after_digit high) value rest e = λ fits. found_second high fits (hex_value b) refl value rest e

found_rest : (bs : Bytes) → Known bs (text_rest bs)
found_rest [] escape value rest e = absurd (cc)
found_rest (b ∷ bs) escape value rest e = found_step b bs (text_rest bs) (found_rest bs) escape value rest e

if_short_found : (p : Parsed Bytes) (value rest : Bytes) → if_short p ≡ Some (value, rest) → (p ≡ Some (value, rest)) × (length value ≤ 1100)
if_short_found None value rest e = absurd (cc)
if_short_found (Some p) value rest e =
    let found = cond_some (nat_le (length p.0) 1100) p (value, rest) e in
    let same : p.0 ≡ value = ap (λ q. q.0) found.1 in
    (ap Some found.1, subst (λ v. length v ≤ 1100) same (leb-true (length p.0) 1100 found.0))

text_found : (bytes value rest : Bytes) → text_at bytes ≡ Some (value, rest) → EncodedAt EncodesText bytes value rest
unfolding text_at
text_found [] value rest e = absurd (cc)
text_found (b ∷ bs) value rest e = cond_both (b == 34) (if_short (text_rest bs outside)) None (λ r. r ≡ Some (value, rest) → EncodedAt EncodesText (b ∷ bs) value rest)
    (λ is h.
    let short = if_short_found (text_rest bs outside) value rest h in
    let within = found_rest bs outside value rest short.0 in
    let regroup : within.0 ++ 34 ∷ rest ≡ (within.0 ++ 34 ∷ []) ++ rest = sym (append_assoc within.0 (34 ∷ []) rest) in
    let encodes : EncodesText value (34 ∷ within.0 ++ 34 ∷ []) = (within.0, within.1, short.1, refl) in
    (34 ∷ within.0 ++ 34 ∷ [], encodes, ap (λ c. c ∷ bs) (eqb-true b 34 is) ∙ ap (λ r. 34 ∷ r) (within.2 ∙ regroup)))
    (λ is h. absurd (cc)) e

-- ---- an encoded text parses

plain_is_none : (b : ℕ) → is_plain b ≡ true → (b ≢ 34) × (b ≢ 92)
plain_is_none b h =
    let last = and_parts (nat_le 32 b && nat_le b 126 && not (b == 34)) (not (b == 92)) h in
    let next = and_parts (nat_le 32 b && nat_le b 126) (not (b == 34)) last.0 in
    (eqb-false b 34 (not-true (b == 34) next.1), eqb-false b 92 (not-true (b == 92) last.1))

again_rest : (value encoded : Bytes) → EncodesBytes value encoded → (rest : Bytes) → text_rest (encoded ++ 34 ∷ rest) outside ≡ Some (value, rest)
again_rest _ _ nothing rest = refl
again_rest _ _ (plain b value encoded prints more) rest =
    let other = plain_is_none b prints in
    let last : Parsed Bytes = cond (is_plain b) (onto_text b (text_rest (encoded ++ 34 ∷ rest) outside)) None in
    let next : Parsed Bytes = cond (b == 92) (text_rest (encoded ++ 34 ∷ rest) after_backslash) last in
    cond-false (b == 34) (Some ([], encoded ++ 34 ∷ rest)) next (ne_eqb b 34 other.0)
    ∙ cond-false (b == 92) (text_rest (encoded ++ 34 ∷ rest) after_backslash) last (ne_eqb b 92 other.1)
    ∙ cond-true (is_plain b) (onto_text b (text_rest (encoded ++ 34 ∷ rest) outside)) None prints
    ∙ ap (onto_text b) (again_rest value encoded more rest)
again_rest _ _ (escaped b value encoded some fits more) rest =
    let back : 16 * (b / 16) + b % 16 ≡ b = omega arith in
    rw (hex_value-hex_digit (b / 16) (omega arith), hex_value-hex_digit (b % 16) (omega arith), back, ne_eqb b 0 (λ e. omega arith), again_rest value encoded more rest) refl

text_again : (value word rest : Bytes) → EncodesText value word → IsAfterWord rest → text_at (word ++ rest) ≡ Some (value, rest)
unfolding text_at
text_again value word rest h ends =
    let regroup : (h.0 ++ 34 ∷ []) ++ rest ≡ h.0 ++ 34 ∷ rest = append_assoc h.0 (34 ∷ []) rest in
    ap (λ w. text_at (w ++ rest)) h.3
    ∙ ap (λ r. if_short (text_rest r outside)) regroup
    ∙ ap if_short (again_rest value h.0 h.1 rest)
    ∙ cond-true (nat_le (length value) 1100) (Some (value, rest)) None (le-leb (length value) 1100 h.2)

pub reads_text : Reads text_at EncodesText
reads_text = record { found = text_found; again = text_again }

-- ---- a text, or `null`

some_text_found : (p : Parsed Bytes) (o : Option Bytes) (rest : Bytes) → some_text p ≡ Some (o, rest) → (v : Bytes) × (o ≡ Some v) × (p ≡ Some (v, rest))
some_text_found None o rest e = absurd (cc)
some_text_found (Some p) o rest e =
    let parts = some_pair_parts (Some p.0) o p.1 rest e in
    (p.0, sym parts.0, ap (λ r. Some (p.0, r)) parts.1)

null_encodes : (bytes : Bytes) (o : Option Bytes) (rest : Bytes) → EncodedAt EncodesNull bytes o rest → EncodedAt EncodesTextOrNull bytes o rest
null_encodes bytes None rest h = h
null_encodes bytes (Some value) rest h = absurd h.1

text_or_null_found : (bytes : Bytes) (o : Option Bytes) (rest : Bytes) → text_or_null_at bytes ≡ Some (o, rest) → EncodedAt EncodesTextOrNull bytes o rest
text_or_null_found bytes o rest e = cond_both (begins_text bytes) (some_text (text_at bytes)) (word_at null_of bytes) (λ r. r ≡ Some (o, rest) → EncodedAt EncodesTextOrNull bytes o rest)
    (λ is h.
    let text = some_text_found (text_at bytes) o rest h in
    subst (λ v. EncodedAt EncodesTextOrNull bytes v rest) (sym text.1) (text_found bytes text.0 rest text.2))
    (λ is h. null_encodes bytes o rest ((reads_word null_of EncodesNull reads_null).found bytes o rest h)) e

begins_text_word : (value word rest : Bytes) → EncodesText value word → begins_text (word ++ rest) ≡ true
begins_text_word value word rest h = ap (λ w. begins_text (w ++ rest)) h.3

text_or_null_again : (o : Option Bytes) (word rest : Bytes) → EncodesTextOrNull o word → IsAfterWord rest → text_or_null_at (word ++ rest) ≡ Some (o, rest)
text_or_null_again None word rest h ends =
    let begins : begins_text (word ++ rest) ≡ false = ap (λ w. begins_text (w ++ rest)) h in
    cond-false (begins_text (word ++ rest)) (some_text (text_at (word ++ rest))) (word_at null_of (word ++ rest)) begins
    ∙ (reads_word null_of EncodesNull reads_null).again None word rest h ends
text_or_null_again (Some value) word rest h ends =
    cond-true (begins_text (word ++ rest)) (some_text (text_at (word ++ rest))) (word_at null_of (word ++ rest)) (begins_text_word value word rest h)
    ∙ ap some_text (text_again value word rest h ends)

pub reads_text_or_null : Reads text_or_null_at EncodesTextOrNull
reads_text_or_null = record { found = text_or_null_found; again = text_or_null_again }
