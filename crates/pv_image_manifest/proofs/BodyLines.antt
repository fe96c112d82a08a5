-- The lines that belong to an executable file.
use Rattle.std.proofs.Common.{◌≡◌, ◌∙◌, ap, ℕ, zero, suc, ◌+◌, ◌-◌, ◌≤◌, ◌<◌, List, [], ◌∷◌, ◌++◌, length, take, drop, refl, sym, arith, append_assoc}
use Rattle.std.specs.Prelude.{flat_map}
use Rattle.std.proofs.lemmas.List.{append-nil, length-drop, drop_all}
use Rattle.std.proofs.lemmas.List.Concat.{flat_map-append}
use Rattle.pv_model.specs.Machine.{Bytes, lines_of, with_line_end}
use Rattle.pv_text.specs.Lines.{IsSplit}
use Rattle.pv_image_manifest.specs.Reading.{IsEnd}
use Rattle.pv_image_manifest.proofs.TextEnds.{whole_end, end_of_end, end_after_line}

split_off : {X : Type 0} (xs : List X) (i : ℕ) (x : X) (ys : List X) → drop i xs ≡ x ∷ ys → (take (i + 1) xs ≡ take i xs ++ x ∷ []) × (drop (i + 1) xs ≡ ys) × (i < length xs)
split_off [] zero x ys e = absurd cc
split_off [] (suc i) x ys e = absurd cc
split_off (z ∷ zs) zero x ys e = (ap (λ w. w ∷ []) head, rest, omega arith)
  where
    head : z ≡ x
    head = cc

    rest : zs ≡ ys
    rest = cc
split_off (z ∷ zs) (suc i) x ys e =
    let more = split_off zs i x ys e in
    let next : suc i + 1 ≡ suc (i + 1) = omega arith in
    rw next (ap (λ ws. z ∷ ws) more.0, more.1, omega (arith, more.2))

-- the invariant of a loop over the lines of a program
pub record IsTextSoFar (bytes rest : Bytes) (i : ℕ) (text : Bytes) : Type 0 where
  pub bytes-is : bytes ≡ flat_map with_line_end (take i (lines_of text))
  pub rest-is : lines_of rest ≡ drop i (lines_of text)
  pub enough : i ≤ length (lines_of text)

pub IsTextSoFar-start : (text : Bytes) → IsTextSoFar [] text 0 text
IsTextSoFar-start text = record { bytes-is = refl; rest-is = refl; enough = omega arith }

pub IsTextSoFar-step : (bytes rest line following : Bytes) (i : ℕ) (text : Bytes) → lines_of rest ≡ line ∷ lines_of following → IsTextSoFar bytes rest i text
    → IsTextSoFar ((bytes ++ line) ++ 10 ∷ []) following (i + 1) text
IsTextSoFar-step bytes rest line following i text split preserved =
    let off = split_off (lines_of text) i line (lines_of following) (sym preserved.rest-is ∙ split) in
    record {
      bytes-is =
          append_assoc bytes line (10 ∷ []) ∙ ap (λ (bs : Bytes). bs ++ with_line_end line) preserved.bytes-is
          ∙ ap (λ (bs : Bytes). flat_map with_line_end (take i (lines_of text)) ++ bs) (sym (append-nil (with_line_end line)))
          ∙ sym (flat_map-append with_line_end (take i (lines_of text)) (line ∷ [])) ∙ ap (flat_map with_line_end) (sym off.0);
      rest-is = sym off.1;
      enough = omega (arith, off.2);
    }

pub IsTextSoFar-short : (bytes rest : Bytes) (i : ℕ) (text : Bytes) (count : ℕ) → lines_of rest ≡ [] → i < count → IsTextSoFar bytes rest i text → length (lines_of text) < count
IsTextSoFar-short bytes rest i text count none below preserved =
    let left : length (lines_of text) - i ≡ 0 = sym (length-drop i (lines_of text)) ∙ ap length (sym preserved.rest-is ∙ none) in
    omega (arith, left, below, preserved.enough)

-- ---- lines that are skipped

-- the invariant of a loop over them
pub record IsPassedSoFar (rest : Bytes) (i : ℕ) (text : Bytes) : Type 0 where
  pub rest-is : lines_of rest ≡ drop i (lines_of text)
  pub end : IsEnd rest text

pub IsPassedSoFar-start : (text : Bytes) → IsPassedSoFar text 0 text
IsPassedSoFar-start text = record { rest-is = refl; end = whole_end text }

pub IsPassedSoFar-step : (rest line following : Bytes) (i : ℕ) (text : Bytes) → lines_of rest ≡ line ∷ lines_of following → IsSplit rest line following → IsPassedSoFar rest i text → IsPassedSoFar following (i + 1) text
IsPassedSoFar-step rest line following i text lines bytes preserved = record {
  rest-is = sym (split_off (lines_of text) i line (lines_of following) (sym preserved.rest-is ∙ lines)).1;
  end = end_of_end following rest text (end_after_line rest line following bytes) preserved.end;
}

-- if no line remains, no more are skipped
pub IsPassedSoFar-none : (rest : Bytes) (i count : ℕ) (text : Bytes) → lines_of rest ≡ [] → i < count → IsPassedSoFar rest i text → lines_of rest ≡ drop count (lines_of text)
IsPassedSoFar-none rest i count text none below preserved =
    let left : length (lines_of text) - i ≡ 0 = sym (length-drop i (lines_of text)) ∙ ap length (sym preserved.rest-is ∙ none) in
    none ∙ sym (drop_all count (lines_of text) (omega (arith, left, below)))
