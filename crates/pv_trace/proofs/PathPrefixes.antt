-- Prefixes of a list of one path and of two.
use Rattle.std.proofs.Common.{◌≡◌, ◌<◌, ℕ, zero, suc, [], ◌∷◌, take, arith, refl}

pub take_one : {X : Type 0} (n : ℕ) (x : X) → 0 < n → take n (x ∷ []) ≡ x ∷ []
take_one zero x h = absurd (omega arith)
take_one (suc zero) x h = refl
take_one (suc (suc n)) x h = refl

pub take_two : {X : Type 0} (n : ℕ) (x y : X) → 1 < n → take n (x ∷ y ∷ []) ≡ x ∷ y ∷ []
take_two zero x y h = absurd (omega arith)
take_two (suc zero) x y h = absurd (omega arith)
take_two (suc (suc zero)) x y h = refl
take_two (suc (suc (suc n))) x y h = refl
