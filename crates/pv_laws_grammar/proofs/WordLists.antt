-- One or two words or quoted texts, each after a space, in lines that are not instructions.
use Rattle.std.proofs.Common.{◌≡◌, [], ◌∷◌, ◌++◌, None, Some, ap, sym, ◌∙◌, refl, append-nil}
use Rattle.std.specs.Prelude.{option_map}
use Rattle.pv_model.specs.Machine.{Bytes, Parsed, one_argument, two_arguments}
use Rattle.pv_model.specs.Grammar.Arguments.{argument, if_last, and_argument}
use Rattle.pv_laws_grammar.proofs.ArgumentLists.{argument_found, if_last_found}
use Rattle.pv_laws_grammar.proofs.SingleWords.{mapped_found}
use Rattle.pv_laws_grammar.proofs.ParserCorrectness.{Reads}

module _ {A : Type 0} (at : Bytes → Parsed A) (S : A → Bytes → Type 0) (reads : Reads at S) where
  pub one_word_found : (bytes : Bytes) (a : A) → one_argument at bytes ≡ Some a → (word : Bytes) × S a word × (bytes ≡ 32 ∷ word)
  one_word_found bytes a e =
      let word = argument_found at S reads bytes a [] (if_last_found (argument at bytes) a e) in
      (word.0, word.1, word.2 ∙ ap (λ w. 32 ∷ w) (append-nil word.0))

  pub one_word_again : (a : A) (word : Bytes) → S a word → one_argument at (32 ∷ word) ≡ Some a
  one_word_again a word h = ap (λ w. if_last (at w)) (sym (append-nil word)) ∙ ap if_last (reads.again a word [] h tt)

module _ {A B : Type 0} (at : Bytes → Parsed A) (S : A → Bytes → Type 0) (reads : Reads at S) (next : Bytes → Parsed B) (T : B → Bytes → Type 0) (next_reads : Reads next T) where
  two_parts : (p : Parsed A) (pair : A × B) → and_argument next p ≡ Some pair → (rest : Bytes) × (p ≡ Some (pair.0, rest)) × (one_argument next rest ≡ Some pair.1)
  two_parts None pair e = absurd (cc)
  two_parts (Some p) pair e =
      let b = mapped_found (λ x. (p.0, x)) (one_argument next p.1) pair e in
      (p.1, ap (λ (q : A × B). Some (q.0, p.1)) b.2, b.1 ∙ ap (λ (q : A × B). Some q.1) b.2)

  pub two_words_found : (bytes : Bytes) (pair : A × B) → two_arguments at next bytes ≡ Some pair → (word other : Bytes) × S pair.0 word × T pair.1 other × (bytes ≡ 32 ∷ word ++ 32 ∷ other)
  two_words_found bytes pair e =
      let parts = two_parts (argument at bytes) pair e in
      let first = argument_found at S reads bytes pair.0 parts.0 parts.1 in
      let second = one_word_found next T next_reads parts.0 pair.1 parts.2 in
      (first.0, second.0, first.1, second.1, first.2 ∙ ap (λ r. 32 ∷ first.0 ++ r) second.2)

  pub two_words_again : (a : A) (b : B) (word other : Bytes) → S a word → T b other → two_arguments at next (32 ∷ word ++ 32 ∷ other) ≡ Some (a, b)
  two_words_again a b word other h k =
      ap (and_argument next) (reads.again a word (32 ∷ other) h refl) ∙ ap (option_map (λ x. (a, x))) (one_word_again next T next_reads b other k)
