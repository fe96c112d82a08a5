-- The encoding of numbers is injective.
use Rattle.std.proofs.Common.{◌≡◌, ◌≢◌, ◌∙◌, sym, ap, ℕ, zero, suc, ◌+◌, ◌/◌, ◌%◌, ◌<◌, if◌then◌else◌, Bool, true, false, nat_lt, [], ◌∷◌, ◌++◌, refl, arith}
use Rattle.std.proofs.lemmas.Bool.Decides.{nat_tests}
use Rattle.pv_model.specs.Machine.{Numbers, Bytes}
use Rattle.pv_state_encoding.specs.Packed.{packed_in, packed, packed_all}
use Rattle.pv_state_encoding.proofs.AppendedNumbers.{packed-is}

first : Bytes → ℕ
first [] = 0
first (b ∷ bs) = b

rest : Bytes → Bytes
rest [] = []
rest (b ∷ bs) = bs

-- the encoding of a number is prefix-free
one : (k n m : ℕ) (bs cs : Bytes) → packed_in k n ++ bs ≡ packed_in k m ++ cs → (n ≡ m) × (bs ≡ cs)
unfolding first rest
one zero n m bs cs is = (ap first is, ap rest is)
one (suc k) n m bs cs is = by (one k (n / 128) (m / 128) bs cs) (nat_lt n 128) refl (nat_lt m 128) refl is
  where
    again : (n / 128 ≡ m / 128) × (bs ≡ cs) → n % 128 ≡ m % 128 → (n ≡ m) × (bs ≡ cs)
    again same low = (let high = same.0 in omega arith, same.1)

    by : (packed_in k (n / 128) ++ bs ≡ packed_in k (m / 128) ++ cs → (n / 128 ≡ m / 128) × (bs ≡ cs)) → (a : Bool) → nat_lt n 128 ≡ a → (b : Bool) → nat_lt m 128 ≡ b
        → (if a then n ∷ [] else (128 + n % 128) ∷ packed_in k (n / 128)) ++ bs ≡ (if b then m ∷ [] else (128 + m % 128) ∷ packed_in k (m / 128)) ++ cs → (n ≡ m) × (bs ≡ cs)
    by rec true small true little is = (ap first is, ap rest is)
    by rec true small false large is =
        let same : n ≡ 128 + m % 128 = ap first is in
        let low : n < 128 = grind (arith, nat_tests, small) in
        absurd (omega arith)
    by rec false large true small is =
        let same : 128 + n % 128 ≡ m = ap first is in
        let low : m < 128 = grind (arith, nat_tests, small) in
        absurd (omega arith)
    by rec false large false great is = again (rec (ap rest is)) (let same : 128 + n % 128 ≡ 128 + m % 128 = ap first is in omega arith)

first-some : (k n : ℕ) → (b : ℕ) × (bs : Bytes) × (packed_in k n ≡ b ∷ bs)
first-some zero n = (n, [], refl)
first-some (suc k) n = by (nat_lt n 128)
  where
    by : (a : Bool) → (b : ℕ) × (bs : Bytes) × ((if a then n ∷ [] else (128 + n % 128) ∷ packed_in k (n / 128)) ≡ b ∷ bs)
    by true = (n, [], refl)
    by false = (128 + n % 128, packed_in k (n / 128), refl)

-- a number has at least one byte
some-bytes : (n : ℕ) (bs : Bytes) → packed n ++ bs ≢ []
some-bytes n bs is =
    let there = first-some 9 n in
    let same : there.0 ∷ (there.1 ++ bs) ≡ [] = sym (ap (λ (cs : Bytes). cs ++ bs) (packed-is n ∙ there.2)) ∙ is in
    cc

-- equal encodings are of equal numbers
pub packed-apart : (ns ms : Numbers) → packed_all ns ≡ packed_all ms → ns ≡ ms
packed-apart [] [] is = refl
packed-apart [] (m ∷ ms) is = absurd (some-bytes m (packed_all ms) (sym is))
packed-apart (n ∷ ns) [] is = absurd (some-bytes n (packed_all ns) is)
packed-apart (n ∷ ns) (m ∷ ms) is =
    let both = one 9 n m (packed_all ns) (packed_all ms) (ap (λ (bs : Bytes). bs ++ packed_all ns) (sym (packed-is n)) ∙ is ∙ ap (λ (bs : Bytes). bs ++ packed_all ms) (packed-is m)) in
    let following = packed-apart ns ms both.1 in
    λ i. both.0 i ∷ following i
