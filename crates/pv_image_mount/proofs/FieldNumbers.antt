-- Numbers in bytes, and the position of inodes.
use Rattle.std.proofs.Common.{◌≡◌, ℕ, zero, suc, ◌+◌, ◌*◌, ◌≤◌, ◌<◌, length, take, drop, get_or, ap, sym, ◌∙◌, refl, arith, drop-cons}
use Rattle.byteorder.specs.Endian.{little_from}
use Rattle.pv_model.specs.Machine.{Bytes, number_of}

-- a number that is read is that of the specification
pub little_from-number_of : (i n : ℕ) (xs : Bytes) → i + n ≤ length xs → little_from i n xs ≡ number_of (take n (drop i xs))
little_from-number_of i zero xs within = refl
little_from-number_of i (suc n) xs within =
    let here : i < length xs = omega arith in
    let rest : little_from (suc i) n xs ≡ number_of (take n (drop (suc i) xs)) = little_from-number_of (suc i) n xs (omega arith) in
    ap (λ r. get_or xs i 0 + 256 * r) rest ∙ ap (λ ys. number_of (take (suc n) ys)) (sym (drop-cons xs i 0 here))
