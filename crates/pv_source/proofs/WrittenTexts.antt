-- The translation of a source.
use Rattle.std.proofs.Common.{◌≡◌, ◌∙◌, ap, ℕ, List, [], ◌∷◌, ◌++◌, ◌+◌, refl, sym, append_assoc}
use Rattle.std.specs.Prelude.{map}
use Rattle.pv_model.specs.Machine.{counted_from, Bytes, with_line_end, ended}
use Rattle.std.proofs.lemmas.List.{append-nil}
use Rattle.std.proofs.lemmas.List.Concat.{flat_map-append}

-- one more line
pub ended_more : (out line : Bytes) (lines : List Bytes) → ((out ++ line) ++ 10 ∷ []) ++ ended lines ≡ out ++ ended (line ∷ lines)
ended_more out line lines =
    append_assoc (out ++ line) (10 ∷ []) (ended lines) ∙ append_assoc out line (10 ∷ ended lines)
    ∙ ap (λ bs. out ++ bs) (sym (append_assoc line (10 ∷ []) (ended lines)))

pub ended_one : (out line : Bytes) → (out ++ line) ++ 10 ∷ [] ≡ out ++ ended (line ∷ [])
ended_one out line = sym (append-nil ((out ++ line) ++ 10 ∷ [])) ∙ ended_more out line []

-- removing the numbers of numbered lines
pub bytes_counted : (n : ℕ) (lines : List Bytes) → map (λ (line : ℕ × Bytes). line.1) (counted_from n lines) ≡ lines
bytes_counted n [] = refl
bytes_counted n (line ∷ lines) = ap (λ ls. line ∷ ls) (bytes_counted (n + 1) lines)

-- lines after others
pub ended-append : (first second : List Bytes) → ended (first ++ second) ≡ ended first ++ ended second
ended-append first second = flat_map-append with_line_end first second

pub ended_both : (out : Bytes) (first second : List Bytes) → (out ++ ended first) ++ ended second ≡ out ++ ended (first ++ second)
ended_both out first second = append_assoc out (ended first) (ended second) ∙ ap (λ bs. out ++ bs) (sym (ended-append first second))
