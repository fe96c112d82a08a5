-- One bit of a list of 64-bit words.
use Rattle.std.proofs.Common.{◌≡◌, ℕ, ◌*◌, ◌/◌, ◌%◌, ◌-◌, ◌^◌, ◌<◌, ◌≤◌, ◌≢◌, ◌++◌, ◌∙◌, Bool, false, not, ◌&&◌, ◌||◌, eqb, List, length, get_or, set, take, replicate, refl, ap, inl, inr, arith}
use Rattle.std.specs.Int.{bit_at, w64}
use Rattle.std.specs.Int.RustNames.{bit_or}
use lib.Bits.{bit_and}
use Rattle.std.proofs.Math.ListN.{get_or-append}
use Rattle.std.proofs.lemmas.Bool.{cases_eq, cases_lt, eq-eqb, ne_eqb}
use Rattle.std.proofs.lemmas.List.{get_or-set_same, get_or-set_other, get_or-replicate, get_or-take, get_or_past, length-replicate, length-take-le}
use Rattle.std.proofs.lemmas.Nat.Bits.{bit_at-zero, bit_at_set_same, bit_at_set_other, bit_at_clear_same, bit_at_clear_other}

abbrev pub is_set : List ℕ → ℕ → Bool
is_set words k = eqb (bit_at (get_or words (k / 64) 0) (k % 64)) 1

pub is_set-zeros : (n k : ℕ) → is_set (replicate n 0) k ≡ false
is_set-zeros n k = elim (cases_lt (k / 64) n) [
  | inl within ↦ rw (get_or-replicate {A = ℕ} n (k / 64) 0 0 within, bit_at-zero (k % 64)) refl
  | inr past ↦ let zeros : List ℕ = replicate n 0 in rw (get_or_past zeros (k / 64) 0 (omega (arith, length-replicate {A = ℕ} n 0)), bit_at-zero (k % 64)) refl
]

module _ (words : List ℕ) (k : ℕ) (within : k / 64 < length words) where
  word : ℕ
  word = get_or words (k / 64) 0

  abbrev pub with_bit : List ℕ
  with_bit = set words (k / 64) (bit_or (get_or words (k / 64) 0) (1 * 2 ^ (k % 64) % 2 ^ 64))

  abbrev pub without_bit : List ℕ
  without_bit = set words (k / 64) (bit_and (get_or words (k / 64) 0) (2 ^ 64 - 1 - 1 * 2 ^ (k % 64) % 2 ^ 64))

  pub is_set-with_bit : (j : ℕ) → is_set with_bit j ≡ (eqb j k || is_set words j)
  is_set-with_bit j = elim (cases_eq (j / 64) (k / 64)) [
    | inl same ↦ elim (cases_eq (j % 64) (k % 64)) [
      | inl here ↦
          let equal : j ≡ k = omega arith in
          rw (same, here, get_or-set_same words (k / 64) (bit_or (get_or words (k / 64) 0) (1 * 2 ^ (k % 64) % 2 ^ 64)) 0 within, bit_at_set_same w64 (get_or words (k / 64) 0) (k % 64) (omega arith), eq-eqb j k equal) refl
      | inr there ↦
          let differs : j ≢ k = λ e. there (ap (λ n. n % 64) e) in
          rw (same, get_or-set_same words (k / 64) (bit_or (get_or words (k / 64) 0) (1 * 2 ^ (k % 64) % 2 ^ 64)) 0 within, bit_at_set_other w64 (get_or words (k / 64) 0) (k % 64) (omega arith) (j % 64) there, ne_eqb j k differs) refl
    ]
    | inr other ↦
        let differs : j ≢ k = λ e. other (ap (λ n. n / 64) e) in
        rw (get_or-set_other words (k / 64) (j / 64) (bit_or (get_or words (k / 64) 0) (1 * 2 ^ (k % 64) % 2 ^ 64)) 0 other, ne_eqb j k differs) refl
  ]

  pub is_set-without_bit : (j : ℕ) → is_set without_bit j ≡ (not (eqb j k) && is_set words j)
  is_set-without_bit j = elim (cases_eq (j / 64) (k / 64)) [
    | inl same ↦ elim (cases_eq (j % 64) (k % 64)) [
      | inl here ↦
          let equal : j ≡ k = omega arith in
          rw (same, here, get_or-set_same words (k / 64) (bit_and (get_or words (k / 64) 0) (2 ^ 64 - 1 - 1 * 2 ^ (k % 64) % 2 ^ 64)) 0 within, bit_at_clear_same w64 (get_or words (k / 64) 0) (k % 64) (omega arith), eq-eqb j k equal) refl
      | inr there ↦
          let differs : j ≢ k = λ e. there (ap (λ n. n % 64) e) in
          rw (same, get_or-set_same words (k / 64) (bit_and (get_or words (k / 64) 0) (2 ^ 64 - 1 - 1 * 2 ^ (k % 64) % 2 ^ 64)) 0 within, bit_at_clear_other w64 (get_or words (k / 64) 0) (k % 64) (omega arith) (j % 64) (omega arith) there, ne_eqb j k differs) refl
    ]
    | inr other ↦
        let differs : j ≢ k = λ e. other (ap (λ n. n / 64) e) in
        rw (get_or-set_other words (k / 64) (j / 64) (bit_and (get_or words (k / 64) 0) (2 ^ 64 - 1 - 1 * 2 ^ (k % 64) % 2 ^ 64)) 0 other, ne_eqb j k differs) refl
  ]

-- the bits of the words in front are those of another list
pub is_set-copied : (front rest words : List ℕ) (count k : ℕ) → front ≡ take count words → count ≤ length words → k / 64 < count → is_set (front ++ rest) k ≡ is_set words k
is_set-copied front rest words count k copied long within =
    let inside : k / 64 < length front = rw copied (omega (arith, length-take-le count words long)) in
    ap (λ w. eqb (bit_at w (k % 64)) 1) (
    get_or-append front rest 0 (k / 64) inside
    ∙ ap (λ (ws : List ℕ). get_or ws (k / 64) 0) copied
    ∙ get_or-take count words (k / 64) 0 within
    )
