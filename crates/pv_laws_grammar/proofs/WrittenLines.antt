-- The lines written for a source do not contain an LF.
use Rattle.std.proofs.Common.{◌≡◌, ◌≢◌, ℕ, zero, suc, ◌+◌, Bool, true, false, cond, List, [], ◌∷◌, ◌++◌, take, Option, None, Some, refl, inl, arith}
use Rattle.std.specs.Prelude.{◌==◌, nat_lt, ◌/◌, ◌%◌, map, flat_map, codes, not, option_map, unwrap_or, IfSome}
use Rattle.std.specs.Fmt.{decimal, digits, digits_onto, digit_glyph}
use Rattle.std.specs.List.{AllByRecursion}
use Rattle.pv_model.specs.Machine.{counted_from, spaced, Bytes, is_empty, onto_first, lines_of, ended, between, words_from, words_of, NumberedLine, NumberedWords, lines_that_count, last_word}
use Rattle.pv_model.specs.Grammar.Texts.{IsLine}
use Rattle.pv_laws_grammar.proofs.TextLines.{HasLines-lines_of, lines_from_relation}
use Rattle.pv_model.specs.Source.Words.{Reading, in_word, in_text, is_blank, begun, after_byte_of_text, at_line_end, before_last, with_words, with_last_word}

abbrev pub AreLines : List Bytes → Type 0
AreLines lines = AllByRecursion IsLine lines

abbrev pub HaveLines : List NumberedLine → Type 0
HaveLines lines = AllByRecursion (λ line. IsLine line.1) lines

module _ {X : Type 0} (P : X → Type 0) where
  pub all-append : (xs ys : List X) → AllByRecursion P xs → AllByRecursion P ys → AllByRecursion P (xs ++ ys)
  all-append [] ys first second = second
  all-append (x ∷ xs) ys first second = (first.0, all-append xs ys first.1 second)

  pub all-take : (k : ℕ) (xs : List X) → AllByRecursion P xs → AllByRecursion P (take k xs)
  all-take zero [] all = tt
  all-take (suc k) [] all = tt
  all-take zero (x ∷ xs) all = tt
  all-take (suc k) (x ∷ xs) all = (all.0, all-take k xs all.1)

-- ---- the words of a line

onto-lines : (b : ℕ) (words : List Bytes) → b ≢ 10 → AreLines words → AreLines (onto_first b words)
onto-lines b [] other all = ((other, tt), tt)
onto-lines b (word ∷ words) other all = ((other, all.0), all.1)

end-lines : (reading : Reading) → AreLines (at_line_end reading)
end-lines between = tt
end-lines in_word = (tt, tt)
end-lines in_text = (tt, tt)

pub words-lines : (bs : Bytes) (reading : Reading) → IsLine bs → AreLines (words_from bs reading)
words-lines [] reading line = end-lines reading
words-lines (b ∷ bs) between line = by (is_blank b) (b == 35) (words-lines bs between line.1) (words-lines bs (begun b bs) line.1)
  where
    by : (blank hash : Bool) → AreLines (words_from bs between) → AreLines (words_from bs (begun b bs)) → AreLines (cond blank (words_from bs between) (cond hash [] (onto_first b (words_from bs (begun b bs)))))
    by true hash later begun_ = later
    by false true later begun_ = tt
    by false false later begun_ = onto-lines b (words_from bs (begun b bs)) line.0 begun_
words-lines (b ∷ bs) in_word line = by (is_blank b) (words-lines bs between line.1) (words-lines bs in_word line.1)
  where
    by : (blank : Bool) → AreLines (words_from bs between) → AreLines (words_from bs in_word) → AreLines (cond blank ([] ∷ words_from bs between) (onto_first b (words_from bs in_word)))
    by true later more = (tt, later)
    by false later more = onto-lines b (words_from bs in_word) line.0 more
words-lines (b ∷ bs) in_text line = onto-lines b (words_from bs (after_byte_of_text b)) line.0 (words-lines bs (after_byte_of_text b) line.1)

before-line : (last : ℕ) (bs : Bytes) → IsLine bs → IfSome (before_last last bs) IsLine
before-line last [] line = tt
before-line last (b ∷ []) line = by (b == last)
  where
    by : (t : Bool) → IfSome (cond t (Some []) None) IsLine
    by true = tt
    by false = tt
before-line last (b ∷ c ∷ bs) line = by (before_last last (c ∷ bs)) (before-line last (c ∷ bs) line.1)
  where
    by : (o : Option Bytes) → IfSome o IsLine → IfSome (option_map (λ front. b ∷ front) o) IsLine
    by None all = tt
    by (Some front) all = (line.0, all)

pub words_of-lines : (line : Bytes) → IsLine line → AreLines (words_of line)
unfolding words_of
words_of-lines line is = words-lines (unwrap_or (before_last 13 line) line) between (by (before_last 13 line) (before-line 13 line is))
  where
    by : (o : Option Bytes) → IfSome o IsLine → IsLine (unwrap_or o line)
    by None all = is
    by (Some front) all = all

more-line : (words : List Bytes) → AreLines words → IsLine (flat_map (λ word. codes " " ++ word) words)
more-line [] all = tt
more-line (word ∷ words) all =
    all-append (λ b. b ≢ 10) (codes " " ++ word) (flat_map (λ w. codes " " ++ w) words) ((λ e. cc), all.0) (more-line words all.1)

pub spaced-line : (words : List Bytes) → AreLines words → IsLine (spaced words)
spaced-line [] all = tt
spaced-line (word ∷ words) all = all-append (λ b. b ≢ 10) word (flat_map (λ w. codes " " ++ w) words) all.0 (more-line words all.1)

pub last-line : (words : List Bytes) → AreLines words → IsLine (last_word words)
last-line [] all = tt
last-line (word ∷ []) all = all.0
last-line (word ∷ next ∷ words) all = last-line (next ∷ words) all.1

pub with_last-lines : (other : Bytes) (words : List Bytes) → IsLine other → AreLines words → AreLines (with_last_word other words)
with_last-lines other [] line all = tt
with_last-lines other (word ∷ []) line all = (line, tt)
with_last-lines other (word ∷ next ∷ words) line all = (all.0, with_last-lines other (next ∷ words) line all.1)

-- a number contains no LF
glyph-other : (d : ℕ) → digit_glyph false d ≢ 10
glyph-other d = by (nat_lt d 10)
  where
    by : (t : Bool) → cond t (48 + d) (87 + d) ≢ 10
    by true = λ same. omega (arith, same)
    by false = λ same. omega (arith, same)

onto-line : (k n : ℕ) (acc : Bytes) → IsLine acc → IsLine (digits_onto k 10 false n acc)
onto-line zero n acc line = line
onto-line (suc k) n acc line = by (n / 10 == 0) (onto-line k (n / 10) (digit_glyph false (n % 10) ∷ acc) (glyph-other (n % 10), line))
  where
    by : (t : Bool) → IsLine (digits_onto k 10 false (n / 10) (digit_glyph false (n % 10) ∷ acc))
        → IsLine (cond t (digit_glyph false (n % 10) ∷ acc) (digits_onto k 10 false (n / 10) (digit_glyph false (n % 10) ∷ acc)))
    by true later = (glyph-other (n % 10), line)
    by false later = later

pub decimal-line : (n : ℕ) → IsLine (decimal n)
unfolding digits
decimal-line n = onto-line 64 n [] tt

-- ---- the lines of a text

pub counted-lines : (n : ℕ) (lines : List Bytes) → AreLines lines → HaveLines (counted_from n lines)
counted-lines n [] all = tt
counted-lines n (line ∷ lines) all = (all.0, counted-lines (n + 1) lines all.1)

pub source-lines : (n : ℕ) (source : Bytes) → HaveLines (counted_from n (lines_of source))
source-lines n source = counted-lines n (lines_of source) (HasLines-lines_of source).0

pub taken-lines : (lines : List NumberedLine) → HaveLines lines → AreLines (map (λ line. line.1) lines)
taken-lines [] all = tt
taken-lines (line ∷ lines) all = (all.0, taken-lines lines all.1)

-- the lines that have words
abbrev pub HaveWords : List NumberedWords → Type 0
HaveWords lines = AllByRecursion (λ line. AreLines line.1) lines

pub counting-lines : (lines : List NumberedLine) → HaveLines lines → HaveWords (lines_that_count lines)
counting-lines [] all = tt
counting-lines (line ∷ lines) all = by (not (is_empty (words_of line.1))) (words_of-lines line.1 all.0) (counting-lines lines all.1)
  where
    by : (t : Bool) → AreLines (words_of line.1) → HaveWords (lines_that_count lines) → HaveWords (cond t (with_words line ∷ lines_that_count lines) (lines_that_count lines))
    by true here later = (here, later)
    by false here later = later

-- lines joined to a text and split again
pub lines_again : (lines : List Bytes) → AreLines lines → lines_of (ended lines) ≡ lines
lines_again lines all = lines_from_relation (ended lines) lines (all, inl refl)
