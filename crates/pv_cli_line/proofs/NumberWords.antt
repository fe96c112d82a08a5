-- Numbers in words: the parser of decimals saturates at the maximum of 32 bits, which only one word denotes.
use Rattle.std.proofs.Common.{◌≡◌, ◌≢◌, ℕ, min, Option, None, Some, option_map, codes, refl, ap, sym, ◌∙◌, ⊎_elim, arith}
use Rattle.std.specs.Prelude.{if◌then◌else◌, nat_le}
use Rattle.std.proofs.lemmas.Bool.{le-leb, leb-true, cases_Bool}
use Rattle.pv_model.specs.Machine.{Bytes, decimal_of}
use Rattle.pv_model.specs.Grammar.Arguments.{in_range}
use Rattle.pv_laws_grammar.proofs.Decimals.{Decimal-decimal_of, Decimal-encoded}
use Rattle.pv_text.specs.Reading.{saturated_number, up_to_greatest}
use Rattle.pv_cli_line.specs.Line.{size_in}

abbrev greatest : ℕ
greatest = 4294967295

pub size-greatest : size_in (codes "4294967295") ≡ Some 4294967295
unfolding size_in
size-greatest = refl

abbrev held : Option ℕ → Option ℕ
held o = option_map up_to_greatest o

one-encoding : (word : Bytes) → decimal_of word ≡ Some greatest → word ≡ codes "4294967295"
one-encoding word is =
    Decimal-encoded greatest word (Decimal-decimal_of word greatest is) (omega arith)
    ∙ sym (Decimal-encoded greatest (codes "4294967295") (Decimal-decimal_of (codes "4294967295") greatest refl) (omega arith))

module _ (word : Bytes) where
  pub size-none : saturated_number word ≡ None → size_in word ≡ None
  unfolding size_in
  size-none is = by (decimal_of word) is
    where
      by : (o : Option ℕ) → held o ≡ None → in_range greatest o ≡ None
      by None none = refl
      by (Some n) none = cc none

  -- a number below the maximum is in range
  pub size-less : (n : ℕ) → saturated_number word ≡ Some n → n ≢ 4294967295 → size_in word ≡ Some n
  unfolding size_in
  size-less n is other = by (decimal_of word) is
    where
      by : (o : Option ℕ) → held o ≡ Some n → in_range greatest o ≡ Some n
      by None none = cc none
      by (Some m) found =
          let same : min m greatest ≡ n = cc found in
          let itself : m ≡ n = omega (arith, same, other) in
          ap (λ b. if b then Some m else None) (le-leb m greatest (omega (arith, same))) ∙ ap Some itself

  pub size-more : saturated_number word ≡ Some 4294967295 → word ≢ codes "4294967295" → size_in word ≡ None
  unfolding size_in
  size-more is other = by (decimal_of word) refl is
    where
      by : (o : Option ℕ) → decimal_of word ≡ o → held o ≡ Some greatest → in_range greatest o ≡ None
      by None at none = cc none
      by (Some m) at found =
          let same : min m greatest ≡ greatest = cc found in
          let past : m ≢ greatest = λ e. other (one-encoding word (at ∙ ap Some e)) in
          ap (λ b. if b then Some m else None)
          (⊎_elim (λ within. let low = leb-true m greatest within in absurd (omega (arith, low, same, past))) (λ over. over) (cases_Bool (nat_le m greatest)))
