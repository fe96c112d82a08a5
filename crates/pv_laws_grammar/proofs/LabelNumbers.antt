-- The numbers that labels denote.
use Rattle.std.proofs.Common.{◌≡◌, ◌≢◌, ◌∙◌, ap, ℕ, suc, ◌+◌, cond, List, [], ◌∷◌, ◌++◌, length, Option, None, Some, refl, sym, arith}
use Rattle.std.specs.Prelude.{bytes_eq}
use Rattle.std.specs.List.{AllByRecursion, cons_option}
use Rattle.std.proofs.lemmas.Bool.{false_from_ne_true}
use Rattle.std.proofs.lemmas.Slice.Eq.{bytes_eq-Decides}
use Rattle.pv_model.specs.Machine.{Bytes, LabelledLine, labels_from, instruction_text}
use Rattle.pv_laws_grammar.specs.Labels.{instructions, IsSetAt, Denotes}
use Rattle.pv_model.specs.Source.Programs.{count_words, onto_labels, number_of_label}

one_or_none : (labels : List (Bytes × ℕ)) (words : List Bytes) (later : List Bytes) → length (cons_option (instruction_text labels words) later) ≡ count_words words + length later
one_or_none labels [] later = omega arith
one_or_none labels (word ∷ words) later = omega arith

-- a label refers to the first line that defines it
number_from : (labels : List (Bytes × ℕ)) (name : Bytes) (front rest : List LabelledLine) (line : LabelledLine) (k : ℕ) → line.label ≡ Some name → AllByRecursion (λ other. other.label ≢ Some name) front
    → number_of_label name (labels_from k (front ++ line ∷ rest)) ≡ Some (k + length (instructions labels front))
number_from labels name [] rest line k sets first =
    let sum : k + 0 ≡ k = omega arith in
    ap (λ label. number_of_label name (onto_labels label k (labels_from (k + count_words line.words) rest))) sets
    ∙ ap (λ t. cond t (Some k) (number_of_label name (labels_from (k + count_words line.words) rest))) ((bytes_eq-Decides name name).1 refl) ∙ ap (λ n. Some n) (sym sum)
number_from labels name (other ∷ front) rest line k sets first =
    passed other.label first.0 (number_from labels name front rest line (k + count_words other.words) sets first.1)
    ∙ ap (λ n. Some n) (omega (arith, one_or_none labels other.words (instructions labels front)))
  where
    passed : (label : Option Bytes) → label ≢ Some name → number_of_label name (labels_from (k + count_words other.words) (front ++ line ∷ rest)) ≡ Some (k + count_words other.words + length (instructions labels front))
        → number_of_label name (onto_labels label k (labels_from (k + count_words other.words) (front ++ line ∷ rest))) ≡ Some (k + count_words other.words + length (instructions labels front))
    passed None differs is = is
    passed (Some own) differs is =
        ap (λ t. cond t (Some k) (number_of_label name (labels_from (k + count_words other.words) (front ++ line ∷ rest))))
        (false_from_ne_true (bytes_eq own name) (λ same. differs (ap (λ (n : Bytes). Some n) ((bytes_eq-Decides own name).0 same)))) ∙ is

onto_both : (o : Option Bytes) (first second : List Bytes) → cons_option o (first ++ second) ≡ cons_option o first ++ second
onto_both None first second = refl
onto_both (Some text) first second = refl

instructions-append : (labels : List (Bytes × ℕ)) (first second : List LabelledLine) → instructions labels (first ++ second) ≡ instructions labels first ++ instructions labels second
instructions-append labels [] second = refl
instructions-append labels (line ∷ first) second =
    ap (cons_option (instruction_text labels line.words)) (instructions-append labels first second)
    ∙ onto_both (instruction_text labels line.words) (instructions labels first) (instructions labels second)

pub label_denotes : (name : Bytes) (front rest : List LabelledLine) (line : LabelledLine) → IsSetAt name front line → Denotes name (labels_from 1 (front ++ line ∷ rest)) (front ++ line ∷ rest) front (line ∷ rest)
label_denotes name front rest line set =
    let labels = labels_from 1 (front ++ line ∷ rest) in
    let next : 1 + length (instructions labels front) ≡ suc (length (instructions labels front)) = omega arith in
    record {
      number = number_from labels name front rest line 1 set.sets set.first ∙ ap (λ n. Some n) next;
      follows = instructions-append labels front (line ∷ rest);
    }
