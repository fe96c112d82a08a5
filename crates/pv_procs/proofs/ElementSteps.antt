-- Lists that are processed element by element.
use Rattle.std.proofs.Common.{◌≡◌, ℕ, zero, suc, ◌+◌, ◌<◌, List, [], ◌∷◌, ◌++◌, map, take, drop, length, add-one, sym, ap, ◌∙◌, arith}
use Rattle.std.proofs.Math.ListN.{get_or, set}

canonical : {X : Type 0} (g : X → X) (xs : List X) (k : ℕ) (x : X) → k < length xs → x ≡ get_or (map g (take k xs) ++ drop k xs) k x
    → set (map g (take k xs) ++ drop k xs) k (g x) ≡ map g (take (suc k) xs) ++ drop (suc k) xs
canonical g [] k x within is = absurd (omega arith)
canonical g (y ∷ ys) zero x within is = ap (λ z. g z ∷ ys) is
canonical g (y ∷ ys) (suc k) x within is = ap (λ zs. g y ∷ zs) (canonical g ys k x (omega arith) is)

-- each element is changed: one element further
pub mapped_further : {X : Type 0} (g : X → X) (all xs : List X) (k : ℕ) (x y : X) → k < length all → xs ≡ map g (take k all) ++ drop k all
    → x ≡ get_or xs k x → y ≡ g x → set xs k y ≡ map g (take (k + 1) all) ++ drop (k + 1) all
mapped_further g all xs k x y within so_far is new =
    ap (set xs k) new ∙ ap (λ zs. set zs k (g x)) so_far ∙ canonical g all k x within (is ∙ ap (λ zs. get_or zs k x) so_far)
    ∙ ap (λ n. map g (take n all) ++ drop n all) (sym (add-one k))
