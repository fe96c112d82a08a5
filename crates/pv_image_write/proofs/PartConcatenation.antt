-- Concatenations of parts.
use Rattle.std.proofs.Common.{◌≡◌, ℕ, zero, suc, ◌+◌, ◌-◌, ◌*◌, ◌<◌, ◌≤◌, [], ◌++◌, length, take, drop, replicate, ap, sym, ◌∙◌, arith}
use Rattle.std.proofs.lemmas.List.{append_assoc, append-nil, length-append, length-replicate}
use Rattle.std.proofs.Math.Seq.{take-append_seam, drop-append_seam}
use Rattle.pv_model.specs.Machine.{Bytes}
use Rattle.pv_image_write.specs.Encoding.{padded, concatenated}

-- a prefix of a concatenation and the rest, by its length
pub front-is : (n : ℕ) (xs ys : Bytes) → length xs ≡ n → take n (xs ++ ys) ≡ xs
front-is n xs ys long = ap (λ k. take k (xs ++ ys)) (sym long) ∙ take-append_seam xs ys

pub past-is : (n : ℕ) (xs ys : Bytes) → length xs ≡ n → drop n (xs ++ ys) ≡ ys
past-is n xs ys long = ap (λ k. drop k (xs ++ ys)) (sym long) ∙ drop-append_seam xs ys

pub length-padded : (n : ℕ) (xs : Bytes) → length xs ≤ n → length (padded n xs) ≡ n
unfolding padded
length-padded n xs fits = length-append xs (replicate (n - length xs) 0) ∙ ap (λ k. length xs + k) (length-replicate {A = ℕ} (n - length xs) 0) ∙ omega arith

-- ---- parts for the numbers from 1 on

pub concatenated-more : (part : ℕ → Bytes) (n k : ℕ) → (more : Bytes) × (concatenated part (n + k) ≡ concatenated part n ++ more)
concatenated-more part n zero = let none : n + 0 ≡ n = omega arith in ([], ap (concatenated part) none ∙ sym (append-nil (concatenated part n)))
concatenated-more part n (suc k) =
    let before = concatenated-more part n k in
    let next : n + suc k ≡ suc (n + k) = omega arith in
    (before.0 ++ part (suc (n + k)), ap (concatenated part) next ∙ ap (λ (xs : Bytes). xs ++ part (suc (n + k))) before.1 ∙ append_assoc (concatenated part n) before.0 (part (suc (n + k))))

-- the part of a number follows those of the lesser ones
pub concatenated-at : (part : ℕ → Bytes) (n m : ℕ) → n < m → (more : Bytes) × (concatenated part m ≡ concatenated part n ++ (part (suc n) ++ more))
concatenated-at part n m less =
    let found = concatenated-more part (suc n) (m - suc n) in
    let all : m ≡ suc n + (m - suc n) = omega arith in
    (found.0, ap (concatenated part) all ∙ found.1 ∙ append_assoc (concatenated part n) (part (suc n)) found.0)

pub length-joined_alike : (part : ℕ → Bytes) (c : ℕ) → ((k : ℕ) → length (part k) ≡ c) → (n : ℕ) → length (concatenated part n) ≡ c * n
length-joined_alike part c alike zero = omega arith
length-joined_alike part c alike (suc n) =
    let next : c * n + c ≡ c * suc n = omega arith in
    length-append (concatenated part n) (part (suc n)) ∙ ap (λ k. k + length (part (suc n))) (length-joined_alike part c alike n) ∙ ap (λ k. c * n + k) (alike (suc n)) ∙ next
