-- Texts of many parts, and the front of a buffer.
use Rattle.std.proofs.Common.{◌≡◌, ◌≢◌, ℕ, ◌+◌, ◌<◌, cond, [], ◌∷◌, ◌++◌, List, length, drop, flat_map, map, ap}
use Rattle.std.proofs.Math.ListN.{get_or}
use Rattle.std.proofs.lemmas.Bool.{ne_eqb}
use Rattle.std.proofs.lemmas.List.{drop_more}
use Rattle.pv_model.specs.Answers.ProcessRecord.{buffer_front, without_zero}
use Rattle.pv_model.specs.Machine.{Bytes}

-- the part at an index, and those after it
pub part-next : {X : Type 0} (part : X → Bytes) (xs : List X) (k : ℕ) (d : X) → k < length xs → flat_map part (drop k xs) ≡ part (get_or xs k d) ++ flat_map part (drop (k + 1) xs)
part-next part xs k d within = ap (flat_map part) (drop_more xs k d within)

-- the same for mapped elements
pub mapped-next : {X Y : Type 0} (part : Y → Bytes) (f : X → Y) (xs : List X) (k : ℕ) (d : X) → k < length xs
    → flat_map part (map f (drop k xs)) ≡ part (f (get_or xs k d)) ++ flat_map part (map f (drop (k + 1) xs))
mapped-next part f xs k d within = ap (λ ys. flat_map part (map f ys)) (drop_more xs k d within)

-- ---- up to the last nonzero byte

pub front-zero : (bs : Bytes) (b : ℕ) → b ≡ 0 → buffer_front (bs ++ b ∷ []) ≡ buffer_front bs
front-zero [] b zero = ap (λ n. buffer_front (n ∷ [])) zero
front-zero (c ∷ bs) b zero = ap (without_zero c) (front-zero bs b zero)

pub front-all : (bs : Bytes) (b : ℕ) → b ≢ 0 → buffer_front (bs ++ b ∷ []) ≡ bs ++ b ∷ []
front-all [] b other = ap (λ t. cond t [] (b ∷ [])) (ne_eqb b 0 other)
front-all (c ∷ []) b other = ap (without_zero c) (front-all [] b other)
front-all (c ∷ d ∷ bs) b other = ap (without_zero c) (front-all (d ∷ bs) b other)
