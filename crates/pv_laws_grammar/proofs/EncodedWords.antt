-- The words of lines that the grammar encodes.
use Rattle.std.proofs.Common.{◌≡◌, ◌≢◌, ◌∙◌, ap, ℕ, ◌+◌, ◌≤◌, Bool, true, false, cond, List, [], ◌∷◌, ◌++◌, length, None, Some, refl, sym, subst, arith, append_assoc, leb-true}
use Rattle.std.specs.Prelude.{◌==◌, ◌&&◌, ◌||◌, ◌/◌, ◌%◌, not, nat_le, nat_lt, option_map, unwrap_or}
use Rattle.std.specs.List.{AllByRecursion, list_any}
use Rattle.std.proofs.lemmas.Bool.{and_parts, eq-eqb, ne_eqb}
use Rattle.std.proofs.lemmas.List.{append-nil}
use Rattle.pv_model.specs.Machine.{spaced, Bytes, onto_first, EncodesText, between, words_from, words_of}
use Rattle.pv_model.specs.Grammar.Forms.{IsAfterWord}
use Rattle.pv_model.specs.Grammar.Encoding.{Decimal, one_digit, one_more, EncodesBytes, nothing, plain, escaped}
use Rattle.pv_model.specs.Trace.{hex_digit}
use Rattle.pv_model.specs.Source.Words.{in_word, in_text, is_blank, begun, before_last}
use Rattle.pv_laws_grammar.proofs.WrittenLines.{all-append}

-- ---- the bytes of lines contain blanks and marks only where allowed

-- bytes without control characters; in particular, without a CR
abbrev pub IsShown : Bytes → Type 0
IsShown bs = AllByRecursion (λ b. 32 ≤ b) bs

-- the bytes of an unquoted word
abbrev pub IsPlainWord : Bytes → Type 0
IsPlainWord bs = AllByRecursion (λ b. 36 ≤ b) bs

shown-plain : (bs : Bytes) → IsPlainWord bs → IsShown bs
shown-plain [] all = tt
shown-plain (b ∷ bs) all = (omega (arith, all.0), shown-plain bs all.1)

no_return : (bs : Bytes) → IsShown bs → before_last 13 bs ≡ None
no_return [] all = refl
no_return (b ∷ []) all = let other : (b == 13) ≡ false = ne_eqb b 13 (λ same. omega (arith, same, all.0)) in ap (λ t. cond t (Some []) None) other
no_return (b ∷ c ∷ bs) all = ap (λ o. option_map (λ front. b ∷ front) o) (no_return (c ∷ bs) all.1)

pub words-shown : (line : Bytes) → IsShown line → words_of line ≡ words_from line between
unfolding words_of
words-shown line all = ap (λ o. words_from (unwrap_or o line) between) (no_return line all)

-- ---- the parse of a word

rest-read : (rest : Bytes) → IsAfterWord rest → words_from rest in_word ≡ [] ∷ words_from rest between
rest-read [] after = refl
rest-read (b ∷ rest) after =
    let blank : is_blank b ≡ true = ap is_blank after in
    let word : words_from (b ∷ rest) in_word ≡ [] ∷ words_from rest between = ap (λ t. cond t ([] ∷ words_from rest between) (onto_first b (words_from rest in_word))) blank in
    let later : words_from (b ∷ rest) between ≡ words_from rest between = ap (λ t. cond t (words_from rest between) (cond (b == 35) [] (onto_first b (words_from rest (begun b rest))))) blank in
    word ∙ ap (λ ws. [] ∷ ws) (sym later)

no_blank : (b : ℕ) → 36 ≤ b → is_blank b ≡ false
no_blank b le =
    let space : (b == 32) ≡ false = ne_eqb b 32 (λ same. omega (arith, same, le)) in
    let tab : (b == 9) ≡ false = ne_eqb b 9 (λ same. omega (arith, same, le)) in
    ap (λ t. t || (b == 9)) space ∙ tab

inside-read : (word rest : Bytes) → IsPlainWord word → IsAfterWord rest → words_from (word ++ rest) in_word ≡ word ∷ words_from rest between
inside-read [] rest all after = rest-read rest after
inside-read (b ∷ word) rest all after =
    ap (λ t. cond t ([] ∷ words_from (word ++ rest) between) (onto_first b (words_from (word ++ rest) in_word))) (no_blank b all.0) ∙ ap (onto_first b) (inside-read word rest all.1 after)

pub word-read : (b : ℕ) (word rest : Bytes) → IsPlainWord (b ∷ word) → IsAfterWord rest → words_from ((b ∷ word) ++ rest) between ≡ (b ∷ word) ∷ words_from rest between
word-read b word rest all after =
    let hash : (b == 35) ≡ false = ne_eqb b 35 (λ same. omega (arith, same, all.0)) in
    let quote : (b == 34) ≡ false = ne_eqb b 34 (λ same. omega (arith, same, all.0)) in
    ap (λ t. cond t (words_from (word ++ rest) between) (cond (b == 35) [] (onto_first b (words_from (word ++ rest) (begun b (word ++ rest)))))) (no_blank b all.0)
    ∙ ap (λ t. cond t [] (onto_first b (words_from (word ++ rest) (begun b (word ++ rest))))) hash
    ∙ ap (λ t. onto_first b (words_from (word ++ rest) (cond (t && list_any (λ c. c == 34) (word ++ rest)) in_text in_word))) quote
    ∙ ap (onto_first b) (inside-read word rest all.1 after)

-- ---- quoted texts

-- the bytes between quotation marks
record IsInside (encoded : Bytes) : Type 0 where
  shown : IsShown encoded
  unquoted : AllByRecursion (λ b. b ≢ 34) encoded

digit-high : (d : ℕ) → 48 ≤ hex_digit d
digit-high d = by (nat_lt d 10)
  where
    by : (t : Bool) → 48 ≤ cond t (48 + d) (87 + d)
    by true = omega arith
    by false = omega arith

no_quote : (c : ℕ) → not (c == 34) ≡ true → c ≢ 34
no_quote c is same = let both : (c == 34) ≡ true = eq-eqb c 34 same in let invalid : false ≡ true = sym (ap not both) ∙ is in cc

-- the bytes of an escape
escape-inside : (high low : ℕ) (encoded : Bytes) → 48 ≤ high → 48 ≤ low → IsInside encoded → IsInside (92 ∷ 120 ∷ high ∷ low ∷ encoded)
escape-inside high low encoded h l rest = record {
  shown = (omega arith, (omega arith, (omega (arith, h), (omega (arith, l), rest.shown))));
  unquoted = ((λ same. omega (arith, same)), ((λ same. omega (arith, same)), ((λ same. omega (arith, same, h)), ((λ same. omega (arith, same, l)), rest.unquoted))));
}

encoded-inside : (value encoded : Bytes) → EncodesBytes value encoded → IsInside encoded
encoded-inside _ _ nothing = record { shown = tt; unquoted = tt }
encoded-inside _ _ (plain b value encoded prints more) =
    let last = and_parts (nat_le 32 b && nat_le b 126 && not (b == 34)) (not (b == 92)) prints in
    let next = and_parts (nat_le 32 b && nat_le b 126) (not (b == 34)) last.0 in
    let low = leb-true 32 b (and_parts (nat_le 32 b) (nat_le b 126) next.0).0 in
    let rest = encoded-inside value encoded more in
    record { shown = (low, rest.shown); unquoted = (no_quote b next.1, rest.unquoted) }
encoded-inside _ _ (escaped b value encoded some fits more) =
    escape-inside (hex_digit (b / 16)) (hex_digit (b % 16)) encoded (digit-high (b / 16)) (digit-high (b % 16)) (encoded-inside value encoded more)

quote-there : (encoded rest : Bytes) → list_any (λ c. c == 34) (encoded ++ 34 ∷ rest) ≡ true
quote-there [] rest = refl
quote-there (b ∷ encoded) rest = ap (λ t. (b == 34) || t) (quote-there encoded rest) ∙ or_true (b == 34)
  where
    or_true : (t : Bool) → (t || true) ≡ true
    or_true true = refl
    or_true false = refl

text-inside : (encoded rest : Bytes) → AllByRecursion (λ b. b ≢ 34) encoded → IsAfterWord rest → words_from (encoded ++ 34 ∷ rest) in_text ≡ (encoded ++ 34 ∷ []) ∷ words_from rest between
text-inside [] rest all after = ap (onto_first 34) (rest-read rest after)
text-inside (b ∷ encoded) rest all after =
    let other : (b == 34) ≡ false = ne_eqb b 34 all.0 in
    ap (λ t. onto_first b (words_from (encoded ++ 34 ∷ rest) (cond t in_word in_text))) other ∙ ap (onto_first b) (text-inside encoded rest all.1 after)

pub text-read : (value word rest : Bytes) → EncodesText value word → IsAfterWord rest → words_from (word ++ rest) between ≡ word ∷ words_from rest between
text-read value word rest encodes after =
    let encoded = encodes.0 in
    let inside = encoded-inside value encoded encodes.1 in
    let whole : word ++ rest ≡ 34 ∷ (encoded ++ 34 ∷ rest) = ap (λ w. w ++ rest) encodes.3 ∙ ap (λ bs. 34 ∷ bs) (append_assoc encoded (34 ∷ []) rest) in
    ap (λ bs. words_from bs between) whole
    ∙ ap (λ t. onto_first 34 (words_from (encoded ++ 34 ∷ rest) (cond t in_text in_word))) (quote-there encoded rest)
    ∙ ap (onto_first 34) (text-inside encoded rest inside.unquoted after)
    ∙ ap (λ w. w ∷ words_from rest between) (sym encodes.3)

pub text-shown : (value word : Bytes) → EncodesText value word → IsShown word
text-shown value word encodes =
    subst IsShown (sym encodes.3) (omega arith, all-append (λ b. 32 ≤ b) encodes.0 (34 ∷ []) (encoded-inside value encodes.0 encodes.1).shown (omega arith, tt))

-- ---- numbers

pub decimal-plain : (n : ℕ) (word : Bytes) → Decimal n word → IsPlainWord word
decimal-plain _ _ (one_digit d under) = (omega arith, tt)
decimal-plain _ _ (one_more n d front some under more) = all-append (λ b. 36 ≤ b) front ((48 + d) ∷ []) (decimal-plain n front more) (omega arith, tt)

some_more : (xs ys : Bytes) → 1 ≤ length xs → 1 ≤ length (xs ++ ys)
some_more [] ys some = absurd (omega arith)
some_more (x ∷ xs) ys some = omega arith

some_digit : (n : ℕ) (word : Bytes) → Decimal n word → 1 ≤ length word
some_digit _ _ (one_digit d under) = omega arith
some_digit _ _ (one_more n d front some under more) = some_more front ((48 + d) ∷ []) (some_digit n front more)

plain-read : (word rest : Bytes) → IsPlainWord word → 1 ≤ length word → IsAfterWord rest → words_from (word ++ rest) between ≡ word ∷ words_from rest between
plain-read [] rest all some after = absurd (omega arith)
plain-read (b ∷ word) rest all some after = word-read b word rest all after

pub decimal-read : (n : ℕ) (word rest : Bytes) → Decimal n word → IsAfterWord rest → words_from (word ++ rest) between ≡ word ∷ words_from rest between
decimal-read n word rest encodes after = plain-read word rest (decimal-plain n word encodes) (some_digit n word encodes) after

pub decimal-shown : (n : ℕ) (word : Bytes) → Decimal n word → IsShown word
decimal-shown n word encodes = shown-plain word (decimal-plain n word encodes)

-- ---- single words, and lines of words

-- a word that is parsed on its own
pub record IsWord (word : Bytes) : Type 0 where
  pub shown : IsShown word
  pub reads : (rest : Bytes) → IsAfterWord rest → words_from (word ++ rest) between ≡ word ∷ words_from rest between

pub text-word : (value word : Bytes) → EncodesText value word → IsWord word
text-word value word encodes = record { shown = text-shown value word encodes; reads = λ rest after. text-read value word rest encodes after }

pub decimal-word : (n : ℕ) (word : Bytes) → Decimal n word → IsWord word
decimal-word n word encodes = record { shown = decimal-shown n word encodes; reads = λ rest after. decimal-read n word rest encodes after }

pub named-word : (b : ℕ) (word : Bytes) → IsPlainWord (b ∷ word) → IsWord (b ∷ word)
named-word b word all = record { shown = shown-plain (b ∷ word) all; reads = λ rest after. word-read b word rest all after }

-- the words of a line, and the line of these words
pub record LineWords (line : Bytes) (words : List Bytes) : Type 0 where
  pub reads : words_of line ≡ words
  pub spaced_is : spaced words ≡ line

last-word : (word : Bytes) → IsWord word → words_from word between ≡ word ∷ []
last-word word is = ap (λ bs. words_from bs between) (sym (append-nil word)) ∙ is.reads [] tt

pub line-of-one : (word : Bytes) → IsWord word → LineWords word (word ∷ [])
line-of-one word is = record { reads = words-shown word is.shown ∙ last-word word is; spaced_is = append-nil word }

pub line-of-two : (first second : Bytes) → IsWord first → IsWord second → LineWords (first ++ 32 ∷ second) (first ∷ second ∷ [])
line-of-two first second one two = record {
  reads =
      words-shown (first ++ 32 ∷ second) (all-append (λ b. 32 ≤ b) first (32 ∷ second) one.shown (omega arith, two.shown)) ∙ one.reads (32 ∷ second) refl
      ∙ ap (λ ws. first ∷ ws) (last-word second two);
  spaced_is = ap (λ bs. first ++ 32 ∷ bs) (append-nil second);
}

pub line-of-three : (first second third : Bytes) → IsWord first → IsWord second → IsWord third → LineWords (first ++ 32 ∷ (second ++ 32 ∷ third)) (first ∷ second ∷ third ∷ [])
line-of-three first second third one two three = record {
  reads =
      words-shown (first ++ 32 ∷ (second ++ 32 ∷ third))
      (all-append (λ b. 32 ≤ b) first (32 ∷ (second ++ 32 ∷ third)) one.shown (omega arith, all-append (λ b. 32 ≤ b) second (32 ∷ third) two.shown (omega arith, three.shown)))
      ∙ one.reads (32 ∷ (second ++ 32 ∷ third)) refl ∙ ap (λ ws. first ∷ ws) (two.reads (32 ∷ third) refl) ∙ ap (λ ws. first ∷ second ∷ ws) (last-word third three);
  spaced_is = ap (λ bs. first ++ 32 ∷ bs) (ap (λ bs. second ++ 32 ∷ bs) (append-nil third));
}
