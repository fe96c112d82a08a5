-- The first word of a line, and the bytes after it.
use Rattle.std.proofs.Common.{◌≡◌, Bool, true, false, cond, not, ◌==◌, [], ◌∷◌, ◌++◌, ap, ◌∙◌, refl, eqb-true}
use Rattle.std.proofs.lemmas.Bool.{cond_both, and_parts, and_from, not-true}
use Rattle.std.proofs.lemmas.List.Folds.{list_all-append}
use Rattle.std.specs.List.{list_all}
use Rattle.pv_model.specs.Machine.{Bytes}
use Rattle.pv_model.specs.Grammar.Lines.{word_of, after_word}
use Rattle.pv_model.specs.Grammar.Forms.{IsAfterWord}

-- a word contains no space
abbrev pub no_space : Bytes → Bool
no_space bs = list_all (λ b. not (b == 32)) bs

pub no_space-append : (a b : Bytes) → no_space a ≡ true → no_space b ≡ true → no_space (a ++ b) ≡ true
no_space-append a b p q = list_all-append (λ c. not (c == 32)) a b ∙ and_from (no_space a) (no_space b) p q

-- a line is its first word followed by the rest
pub word_split : (bs : Bytes) → bs ≡ word_of bs ++ after_word bs
word_split [] = refl
word_split (b ∷ bs) = elim (b == 32) as (λ t. b ∷ bs ≡ cond t [] (b ∷ word_of bs) ++ cond t (b ∷ bs) (after_word bs)) [
  | true ↦ refl
  | false ↦ ap (λ r. b ∷ r) (word_split bs)
]

pub after_word-ends : (bs : Bytes) → IsAfterWord (after_word bs)
after_word-ends [] = tt
after_word-ends (b ∷ bs) = cond_both (b == 32) (b ∷ bs) (after_word bs) IsAfterWord (λ is. eqb-true b 32 is) (λ is. after_word-ends bs)

pub word_of-word : (word rest : Bytes) → no_space word ≡ true → IsAfterWord rest → word_of (word ++ rest) ≡ word
word_of-word [] [] h ends = refl
word_of-word [] (b ∷ bs) h ends = rw ends refl
word_of-word (w ∷ word) rest h ends =
    let parts = and_parts (not (w == 32)) (no_space word) h in
    rw (not-true (w == 32) parts.0, word_of-word word rest parts.1 ends) refl

pub after_word-word : (word rest : Bytes) → no_space word ≡ true → IsAfterWord rest → after_word (word ++ rest) ≡ rest
after_word-word [] [] h ends = refl
after_word-word [] (b ∷ bs) h ends = rw ends refl
after_word-word (w ∷ word) rest h ends =
    let parts = and_parts (not (w == 32)) (no_space word) h in
    rw (not-true (w == 32) parts.0, after_word-word word rest parts.1 ends) refl
