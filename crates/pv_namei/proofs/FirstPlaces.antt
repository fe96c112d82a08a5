-- The result of a search for a position: the first that passes, or the length if there is none.
use Rattle.std.proofs.Common.{◌≡◌, ℕ, ◌≤◌, cond, nat_lt, None, Some, unwrap_or, arith}
use Rattle.std.proofs.lemmas.Bool.Decides.{nat_tests}

pub place_or_length : (n m : ℕ) → n ≤ m → unwrap_or (cond (nat_lt n m) (Some n) None) m ≡ n
place_or_length n m within = grind (arith, nat_tests)

pub place_past : (n m : ℕ) → n ≤ m → cond (nat_lt n m) (Some n) None ≡ None → n ≡ m
place_past n m within none = grind (arith, nat_tests)
