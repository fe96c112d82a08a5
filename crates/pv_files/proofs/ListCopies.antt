-- Copies of lists, element by element.
use Rattle.std.proofs.Common.{◌≡◌, ℕ, ◌+◌, ◌<◌, List, [], ◌∷◌, ◌++◌, length, get_or, take, sym, ap₂, ◌∙◌}
use Rattle.std.proofs.Math.ListN.{set}
use Rattle.std.proofs.lemmas.List.{take_more, take_more_set}

-- if two lists have the same first elements, and the next one of the second is stored in the first, they have one more
pub take_more-set_same : {X : Type 0} (xs ys : List X) (k : ℕ) (y : X) → k < length xs → k < length ys → take k xs ≡ take k ys → y ≡ get_or ys k y
    → take (k + 1) (set xs k y) ≡ take (k + 1) ys
take_more-set_same xs ys k y within below same is =
    take_more_set xs k y within ∙ ap₂ (λ front last. front ++ last ∷ []) same is ∙ sym (take_more ys k y below)
