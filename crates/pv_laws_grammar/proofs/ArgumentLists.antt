-- Lists of arguments.
use Rattle.std.proofs.Common.{◌≡◌, ℕ, cond, ◌==◌, List, [], ◌∷◌, ◌++◌, None, Some, ap, sym, ◌∙◌, refl, subst, eqb-true}
use Rattle.std.specs.Prelude.{option_map, option_and_then}
use Rattle.std.proofs.lemmas.Bool.{cond_both}
use Rattle.std.proofs.lemmas.Option.{same_Some}
use Rattle.pv_model.specs.Machine.{Bytes, is_empty, Parsed, one_argument, two_arguments}
use Rattle.pv_model.specs.Grammar.Arguments.{argument, if_last, no_argument, and_argument, and_two, three_arguments}
use Rattle.pv_model.specs.Grammar.Forms.{Argument, Encodes, EncodesArguments, IsAfterWord}
use Rattle.pv_laws_grammar.proofs.SingleWords.{mapped_found}
use Rattle.pv_laws_grammar.proofs.ParserCorrectness.{Reads}

-- an argument after its space
abbrev pub EncodedAfterSpace : {A : Type 0} → (A → Bytes → Type 0) → Bytes → A → Bytes → Type 0
EncodedAfterSpace S bytes a rest = (word : Bytes) × S a word × (bytes ≡ 32 ∷ word ++ rest)

pub argument_found : {A : Type 0} (at : Bytes → Parsed A) (S : A → Bytes → Type 0) → Reads at S → (bytes : Bytes) (a : A) (rest : Bytes) → argument at bytes ≡ Some (a, rest) → EncodedAfterSpace S bytes a rest
argument_found at S reads [] a rest e = absurd (cc)
argument_found at S reads (b ∷ bs) a rest e = cond_both (b == 32) (Some bs) None (λ o. option_and_then at o ≡ Some (a, rest) → EncodedAfterSpace S (b ∷ bs) a rest)
    (λ is h.
    let word = reads.found bs a rest h in
    (word.0, word.1, ap (λ c. c ∷ bs) (eqb-true b 32 is) ∙ ap (λ r. 32 ∷ r) word.2))
    (λ is h. absurd (cc)) e

pub if_last_found : {A : Type 0} (p : Parsed A) (a : A) → if_last p ≡ Some a → p ≡ Some (a, [])
if_last_found None a e = absurd (cc)
if_last_found (Some p) a e = by_rest p.0 p.1 a e
  where
    by_rest : {A : Type 0} (x : A) (rest : Bytes) (y : A) → cond (is_empty rest) (Some x) None ≡ Some y → ◌≡◌ {A = Parsed A} (Some (x, rest)) (Some (y, []))
    by_rest x [] y h = ap (λ z. Some (z, [])) (same_Some x y h)
    by_rest x (b ∷ bs) y h = absurd (cc)

pub arguments_after : (lines : ℕ) (arguments : List Argument) (rest : Bytes) → EncodesArguments lines arguments rest → IsAfterWord rest
arguments_after lines [] rest h = subst IsAfterWord (sym h) tt
arguments_after lines (a ∷ others) rest h = subst IsAfterWord (sym h.4) refl

-- ---- no arguments

pub none_found : (lines : ℕ) (bytes : Bytes) (u : Unit {0}) → no_argument bytes ≡ Some u → EncodesArguments lines [] bytes
none_found lines [] u e = refl
none_found lines (b ∷ bs) u e = absurd (cc)

pub none_again : (lines : ℕ) (bytes : Bytes) → EncodesArguments lines [] bytes → no_argument bytes ≡ Some tt
none_again lines bytes h = ap no_argument h

module _ (lines : ℕ) where
  -- the parser of one kind of argument
  abbrev pub ReadsAs : {A : Type 0} → (Bytes → Parsed A) → (A → Argument) → Type 0
  ReadsAs at sort = Reads at (λ a word. Encodes lines (sort a) word)

  module _ {A : Type 0} (at : Bytes → Parsed A) (sort : A → Argument) (reads : ReadsAs at sort) where
    first_again : (a : A) (others : List Argument) (bytes : Bytes) → (h : EncodesArguments lines (sort a ∷ others) bytes) → argument at bytes ≡ Some (a, h.1)
    first_again a others bytes h = ap (argument at) h.4 ∙ reads.again a h.0 h.1 h.2 (arguments_after lines others h.1 h.3)

    pub one_found : (bytes : Bytes) (a : A) → one_argument at bytes ≡ Some a → EncodesArguments lines (sort a ∷ []) bytes
    one_found bytes a e =
        let word = argument_found at (λ x w. Encodes lines (sort x) w) reads bytes a [] (if_last_found (argument at bytes) a e) in
        (word.0, [], word.1, refl, word.2)

    pub one_again : (a : A) (bytes : Bytes) → EncodesArguments lines (sort a ∷ []) bytes → one_argument at bytes ≡ Some a
    one_again a bytes h = ap if_last (first_again a [] bytes h) ∙ ap (λ r. if_last (Some (a, r))) h.3

  module _ {A B : Type 0} (at : Bytes → Parsed A) (sort : A → Argument) (reads : ReadsAs at sort) (next : Bytes → Parsed B) (next_sort : B → Argument) (next_reads : ReadsAs next next_sort) where
    and_one_found : (p : Parsed A) (pair : A × B) → and_argument next p ≡ Some pair → (rest : Bytes) × (p ≡ Some (pair.0, rest)) × (one_argument next rest ≡ Some pair.1)
    and_one_found None pair e = absurd (cc)
    and_one_found (Some p) pair e =
        let b = mapped_found (λ x. (p.0, x)) (one_argument next p.1) pair e in
        (p.1, ap (λ (q : A × B). Some (q.0, p.1)) b.2, b.1 ∙ ap (λ (q : A × B). Some q.1) b.2)

    pub two_found : (bytes : Bytes) (pair : A × B) → two_arguments at next bytes ≡ Some pair → EncodesArguments lines (sort pair.0 ∷ next_sort pair.1 ∷ []) bytes
    two_found bytes pair e =
        let parts = and_one_found (argument at bytes) pair e in
        let word = argument_found at (λ x w. Encodes lines (sort x) w) reads bytes pair.0 parts.0 parts.1 in
        (word.0, parts.0, word.1, one_found next next_sort next_reads parts.0 pair.1 parts.2, word.2)

    pub two_again : (a : A) (b : B) (bytes : Bytes) → EncodesArguments lines (sort a ∷ next_sort b ∷ []) bytes → two_arguments at next bytes ≡ Some (a, b)
    two_again a b bytes h =
        ap (and_argument next) (first_again at sort reads a (next_sort b ∷ []) bytes h)
        ∙ ap (option_map (λ x. (a, x))) (one_again next next_sort next_reads b h.1 h.3)

  module _ {A B C : Type 0} (at : Bytes → Parsed A) (sort : A → Argument) (reads : ReadsAs at sort) (next : Bytes → Parsed B) (next_sort : B → Argument) (next_reads : ReadsAs next next_sort)
      (last : Bytes → Parsed C) (last_sort : C → Argument) (last_reads : ReadsAs last last_sort) where
    and_two_found : (p : Parsed A) (all : A × B × C) → and_two next last p ≡ Some all → (rest : Bytes) × (p ≡ Some (all.0, rest)) × (two_arguments next last rest ≡ Some (all.1, all.2))
    and_two_found None all e = absurd (cc)
    and_two_found (Some p) all e =
        let q = mapped_found (λ (x : B × C). (p.0, x.0, x.1)) (two_arguments next last p.1) all e in
        (p.1, ap (λ (r : A × B × C). Some (r.0, p.1)) q.2, q.1 ∙ ap (λ (r : A × B × C). Some (r.1, r.2)) q.2)

    pub three_found : (bytes : Bytes) (all : A × B × C) → three_arguments at next last bytes ≡ Some all → EncodesArguments lines (sort all.0 ∷ next_sort all.1 ∷ last_sort all.2 ∷ []) bytes
    three_found bytes all e =
        let parts = and_two_found (argument at bytes) all e in
        let word = argument_found at (λ x w. Encodes lines (sort x) w) reads bytes all.0 parts.0 parts.1 in
        (word.0, parts.0, word.1, two_found next next_sort next_reads last last_sort last_reads parts.0 (all.1, all.2) parts.2, word.2)

    pub three_again : (a : A) (b : B) (c : C) (bytes : Bytes) → EncodesArguments lines (sort a ∷ next_sort b ∷ last_sort c ∷ []) bytes → three_arguments at next last bytes ≡ Some (a, b, c)
    three_again a b c bytes h =
        ap (and_two next last) (first_again at sort reads a (next_sort b ∷ last_sort c ∷ []) bytes h)
        ∙ ap (option_map (λ (x : B × C). (a, x.0, x.1))) (two_again next next_sort next_reads last last_sort last_reads b c h.1 h.3)
