-- The digits of a number below 100,000, one by one.
use Rattle.std.proofs.Common.{◌≡◌, ℕ, ◌+◌, ◌/◌, ◌%◌, ◌<◌, ◌≤◌, [], ◌∷◌, arith}
use Rattle.std.specs.Fmt.{decimal}
use Rattle.std.proofs.lemmas.Fmt.{decimal_digit, decimal_step}

pub two_digits : (n : ℕ) → 10 ≤ n → n < 100 → decimal n ≡ (48 + n / 10) ∷ (48 + n % 10) ∷ []
two_digits n least most = rw (decimal_step n least (omega arith), decimal_digit (n / 10) (omega arith))

pub three_digits : (n : ℕ) → 100 ≤ n → n < 1000 → decimal n ≡ (48 + n / 100) ∷ (48 + n / 10 % 10) ∷ (48 + n % 10) ∷ []
three_digits n least most =
    let first : n / 10 / 10 ≡ n / 100 = omega arith in
    rw (decimal_step n (omega arith) (omega arith), two_digits (n / 10) (omega arith) (omega arith), first)

pub four_digits : (n : ℕ) → 1000 ≤ n → n < 10000 → decimal n ≡ (48 + n / 1000) ∷ (48 + n / 100 % 10) ∷ (48 + n / 10 % 10) ∷ (48 + n % 10) ∷ []
four_digits n least most =
    let first : n / 10 / 100 ≡ n / 1000 = omega arith in
    let second : n / 10 / 10 % 10 ≡ n / 100 % 10 = omega arith in
    rw (decimal_step n (omega arith) (omega arith), three_digits (n / 10) (omega arith) (omega arith), first, second)

pub five_digits : (n : ℕ) → 10000 ≤ n → n < 100000
    → decimal n ≡ (48 + n / 10000) ∷ (48 + n / 1000 % 10) ∷ (48 + n / 100 % 10) ∷ (48 + n / 10 % 10) ∷ (48 + n % 10) ∷ []
five_digits n least most =
    let first : n / 10 / 1000 ≡ n / 10000 = omega arith in
    let second : n / 10 / 100 % 10 ≡ n / 1000 % 10 = omega arith in
    let third : n / 10 / 10 % 10 ≡ n / 100 % 10 = omega arith in
    rw (decimal_step n (omega arith) (omega arith), four_digits (n / 10) (omega arith) (omega arith), first, second, third)
