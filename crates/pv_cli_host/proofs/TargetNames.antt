-- The names of directories, without the last one.
use Rattle.std.proofs.Common.{◌≡◌, ◌∙◌, ap, sym, ℕ, ◌+◌, ◌-◌, List, [], ◌∷◌, ◌++◌, map, length, take, arith, length-append}
use Rattle.std.proofs.lemmas.List.{length-map, take-map}
use Rattle.std.proofs.Math.Seq.{take-append_seam}

-- a name was added last, and is removed
pub last-removed : {A : Type 0} (f : A → List ℕ) (xs : List A) (names : List (List ℕ)) (name : List ℕ) (n : ℕ) → n ≡ length xs → map f xs ≡ names ++ name ∷ []
    → map f (take (n - 1) xs) ≡ names
last-removed f xs names name n is_length is =
    let count : length xs ≡ length names + 1 = sym (length-map xs f) ∙ ap length is ∙ length-append names (name ∷ []) in
    let less : n - 1 ≡ length names = omega (arith, count, is_length) in
    sym (take-map f (n - 1) xs) ∙ ap (λ m. take m (map f xs)) less ∙ ap (take (length names)) is ∙ take-append_seam names (name ∷ [])
