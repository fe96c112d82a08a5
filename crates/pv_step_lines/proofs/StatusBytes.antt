-- The last four of eight bytes.
use Rattle.std.proofs.Common.{◌≡◌, ◌∙◌, ap, [], ◌∷◌, length, get_or, drop, arith}
use Rattle.std.proofs.Math.Seq.{drop-cons}
use Rattle.std.proofs.lemmas.List.{drop_all}
use Rattle.pv_model.specs.Machine.{Bytes}

pub last-four : (bs : Bytes) → length bs ≡ 8 → drop 4 bs ≡ get_or bs 4 0 ∷ get_or bs 5 0 ∷ get_or bs 6 0 ∷ get_or bs 7 0 ∷ []
last-four bs is =
    drop-cons bs 4 0 (omega (arith, is))
    ∙ ap (λ (xs : Bytes). get_or bs 4 0 ∷ xs)
    (drop-cons bs 5 0 (omega (arith, is))
    ∙ ap (λ (xs : Bytes). get_or bs 5 0 ∷ xs)
    (drop-cons bs 6 0 (omega (arith, is))
    ∙ ap (λ (xs : Bytes). get_or bs 6 0 ∷ xs) (drop-cons bs 7 0 (omega (arith, is)) ∙ ap (λ (xs : Bytes). get_or bs 7 0 ∷ xs) (drop_all 8 bs (omega (arith, is))))))
