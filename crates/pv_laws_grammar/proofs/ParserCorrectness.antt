-- The correctness of a parser: a parsed value is encoded, and an encoded value parses.
use Rattle.std.proofs.Common.{◌≡◌, true, ◌++◌, Option, None, Some, ap, refl, subst}
use Rattle.std.proofs.lemmas.Option.{some_pair_parts}
use Rattle.pv_model.specs.Machine.{Bytes, Parsed, word_at}
use Rattle.pv_model.specs.Grammar.Arguments.{with_rest}
use Rattle.pv_model.specs.Grammar.Lines.{word_of, after_word}
use Rattle.pv_model.specs.Grammar.Forms.{IsAfterWord}
use Rattle.pv_laws_grammar.proofs.FirstWord.{no_space, word_split, word_of-word, after_word-word}

-- a prefix of the bytes encodes the value
abbrev pub EncodedAt : {A : Type 0} → (A → Bytes → Type 0) → Bytes → A → Bytes → Type 0
EncodedAt S bytes a rest = (word : Bytes) × S a word × (bytes ≡ word ++ rest)

pub record Reads {A : Type 0} (at : Bytes → Parsed A) (S : A → Bytes → Type 0) : Type 0 where
  pub found : (bytes : Bytes) (a : A) (rest : Bytes) → at bytes ≡ Some (a, rest) → EncodedAt S bytes a rest
  pub again : (a : A) (word rest : Bytes) → S a word → IsAfterWord rest → at (word ++ rest) ≡ Some (a, rest)

pub record ReadsWord {A : Type 0} (of : Bytes → Option A) (S : A → Bytes → Type 0) : Type 0 where
  pub found : (word : Bytes) (a : A) → of word ≡ Some a → S a word
  pub again : (a : A) (word : Bytes) → S a word → of word ≡ Some a
  pub whole : (a : A) (word : Bytes) → S a word → no_space word ≡ true

with_rest_parts : {A : Type 0} (rest : Bytes) (o : Option A) (a : A) (left : Bytes) → with_rest rest o ≡ Some (a, left) → (o ≡ Some a) × (rest ≡ left)
with_rest_parts rest None a left e = absurd (cc)
with_rest_parts rest (Some x) a left e = let parts = some_pair_parts x a rest left e in (ap Some parts.0, parts.1)

module _ {A : Type 0} (of : Bytes → Option A) (S : A → Bytes → Type 0) (reads : ReadsWord of S) where
  word_found : (bytes : Bytes) (a : A) (rest : Bytes) → word_at of bytes ≡ Some (a, rest) → EncodedAt S bytes a rest
  word_found bytes a rest e =
      let parts = with_rest_parts (after_word bytes) (of (word_of bytes)) a rest e in
      let split : bytes ≡ word_of bytes ++ rest = subst (λ r. bytes ≡ word_of bytes ++ r) parts.1 (word_split bytes) in
      (word_of bytes, reads.found (word_of bytes) a parts.0, split)

  word_again : (a : A) (word rest : Bytes) → S a word → IsAfterWord rest → word_at of (word ++ rest) ≡ Some (a, rest)
  word_again a word rest is ends =
      let clear = reads.whole a word is in
      rw (word_of-word word rest clear ends, after_word-word word rest clear ends, reads.again a word is) refl

  pub reads_word : Reads (word_at of) S
  reads_word = record { found = word_found; again = word_again }
