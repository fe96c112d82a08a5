-- Decimal numbers, and numbers of 32 bits.
use Rattle.std.proofs.Common.{◌≡◌, ◌≢◌, ℕ, ◌+◌, ◌-◌, ◌*◌, ◌/◌, ◌%◌, ◌^◌, ◌<◌, ◌≤◌, true, false, not, ◌&&◌, ◌==◌, nat_le, [], ◌∷◌, ◌++◌, None, Some, ap, sym, ◌∙◌, refl, subst, append_assoc, append-nil, arith, leb-true, le-leb}
use Rattle.std.proofs.lemmas.Bool.{cond_both, and_parts, and_from, ne_eqb, not-true, not_from_false, eqb-false, cond-true}
use Rattle.std.proofs.lemmas.Fmt.{decimal_digit, decimal_step, decimal_by_steps}
use Rattle.std.proofs.lemmas.List.Folds.{list_all-append}
use Rattle.std.specs.Fmt.{decimal}
use Rattle.std.specs.List.{list_all}
use Rattle.pv_model.specs.Machine.{Bytes, is_empty, decimal_of}
use Rattle.pv_model.specs.Grammar.Lines.{is_digit, has_leading_zero, is_decimal, value_from}
use Rattle.pv_model.specs.Grammar.Encoding.{Decimal, one_digit, one_more}
use Rattle.pv_laws_grammar.proofs.FirstWord.{no_space}

pub digit_bounds : (b : ℕ) → is_digit b ≡ true → (48 ≤ b) × (b ≤ 57)
digit_bounds b h = let parts = and_parts (nat_le 48 b) (nat_le b 57) h in (leb-true 48 b parts.0, leb-true b 57 parts.1)

is_digit-digit : (d : ℕ) → d < 10 → is_digit (48 + d) ≡ true
is_digit-digit d h = and_from (nat_le 48 (48 + d)) (nat_le (48 + d) 57) (le-leb 48 (48 + d) (omega arith)) (le-leb (48 + d) 57 (omega arith))

-- digits after a nonzero decimal number
more_digits : (n : ℕ) (front bs : Bytes) → 0 < n → Decimal n front → list_all is_digit bs ≡ true → Decimal (value_from n bs) (front ++ bs)
more_digits n front [] some so_far h = rw append-nil so_far
more_digits n front (b ∷ bs) some so_far h =
    let parts = and_parts (is_digit b) (list_all is_digit bs) h in
    let bounds = digit_bounds b parts.0 in
    let back : 48 + (b - 48) ≡ b = omega arith in
    let next : Decimal (10 * n + (b - 48)) (front ++ (48 + (b - 48)) ∷ []) = one_more n (b - 48) front some (omega arith) so_far in
    let here : Decimal (10 * n + (b - 48)) (front ++ b ∷ []) = rw back at next in
    let regroup : (front ++ b ∷ []) ++ bs ≡ front ++ b ∷ bs = append_assoc front (b ∷ []) bs in
    subst (Decimal (value_from (10 * n + (b - 48)) bs)) regroup (more_digits (10 * n + (b - 48)) (front ++ b ∷ []) bs (omega arith) here parts.1)

first_digit_alone : (b : ℕ) → is_digit b ≡ true → Decimal (10 * 0 + (b - 48)) (b ∷ [])
first_digit_alone b h =
    let bounds = digit_bounds b h in
    let back : 48 + (b - 48) ≡ b = omega arith in
    let value : b - 48 ≡ 10 * 0 + (b - 48) = omega arith in
    let d : Decimal (b - 48) ((48 + (b - 48)) ∷ []) = one_digit (b - 48) (omega arith) in
    let here : Decimal (b - 48) (b ∷ []) = rw back at d in
    subst (λ n. Decimal n (b ∷ [])) value here

from_parts : (bs : Bytes) → not (is_empty bs) ≡ true → list_all is_digit bs ≡ true → has_leading_zero bs ≡ false → Decimal (value_from 0 bs) bs
from_parts [] some h lead = cc
from_parts (b ∷ []) some h lead = first_digit_alone b (and_parts (is_digit b) true h).0
from_parts (b ∷ c ∷ bs) some h lead =
    let parts = and_parts (is_digit b) (list_all is_digit (c ∷ bs)) h in
    let bounds = digit_bounds b parts.0 in
    let other : b ≢ 48 = eqb-false b 48 lead in
    more_digits (10 * 0 + (b - 48)) (b ∷ []) (c ∷ bs) (omega arith) (first_digit_alone b parts.0) parts.1

pub Decimal-is_decimal : (bs : Bytes) → is_decimal bs ≡ true → Decimal (value_from 0 bs) bs
Decimal-is_decimal bs h =
    let outer = and_parts (not (is_empty bs) && list_all is_digit bs) (not (has_leading_zero bs)) h in
    let inner = and_parts (not (is_empty bs)) (list_all is_digit bs) outer.0 in
    from_parts bs inner.0 inner.1 (not-true (has_leading_zero bs) outer.1)

-- a word that parses is a decimal number
pub Decimal-decimal_of : (bs : Bytes) (n : ℕ) → decimal_of bs ≡ Some n → Decimal n bs
Decimal-decimal_of bs n = cond_both (is_decimal bs) (Some (value_from 0 bs)) None (λ r. r ≡ Some n → Decimal n bs)
    (λ is e. let same : value_from 0 bs ≡ n = cc in subst (λ m. Decimal m bs) same (Decimal-is_decimal bs is))
    (λ is e. cc)

-- ---- conversely

value_from-more : (n d : ℕ) (front : Bytes) → value_from n (front ++ (48 + d) ∷ []) ≡ 10 * value_from n front + d
value_from-more n d [] = omega arith
value_from-more n d (b ∷ front) = value_from-more (10 * n + (b - 48)) d front

pub digits_all : (n : ℕ) (bs : Bytes) → Decimal n bs → list_all is_digit bs ≡ true
digits_all _ _ (one_digit d h) = and_from (is_digit (48 + d)) true (is_digit-digit d h) refl
digits_all _ _ (one_more n d front some h so_far) =
    list_all-append is_digit front ((48 + d) ∷ []) ∙ and_from (list_all is_digit front) (is_digit (48 + d) && true) (digits_all n front so_far) (and_from (is_digit (48 + d)) true (is_digit-digit d h) refl)

pub value_from-Decimal : (n : ℕ) (bs : Bytes) → Decimal n bs → value_from 0 bs ≡ n
value_from-Decimal _ _ (one_digit d h) = omega arith
value_from-Decimal _ _ (one_more n d front some h so_far) = value_from-more 0 d front ∙ ap (λ v. 10 * v + d) (value_from-Decimal n front so_far)

not_empty_append : (front : Bytes) (b : ℕ) → not (is_empty (front ++ b ∷ [])) ≡ true
not_empty_append [] b = refl
not_empty_append (c ∷ front) b = refl

not_empty : (n : ℕ) (bs : Bytes) → Decimal n bs → not (is_empty bs) ≡ true
not_empty _ _ (one_digit d h) = refl
not_empty _ _ (one_more n d front some h so_far) = not_empty_append front (48 + d)

-- a prefix without a leading 0 can be extended
no_lead_more : (front : Bytes) (b : ℕ) → list_all is_digit front ≡ true → 0 < value_from 0 front → has_leading_zero front ≡ false → has_leading_zero (front ++ b ∷ []) ≡ false
no_lead_more [] b all some lead = refl
no_lead_more (c ∷ []) b all some lead = ne_eqb c 48 (λ e. omega arith)
no_lead_more (c ∷ e ∷ front) b all some lead = lead

no_lead : (n : ℕ) (bs : Bytes) → Decimal n bs → has_leading_zero bs ≡ false
no_lead _ _ (one_digit d h) = refl
no_lead _ _ (one_more n d front some h so_far) =
    let v = value_from-Decimal n front so_far in
    no_lead_more front (48 + d) (digits_all n front so_far) (omega arith) (no_lead n front so_far)

pub is_decimal-Decimal : (n : ℕ) (bs : Bytes) → Decimal n bs → is_decimal bs ≡ true
is_decimal-Decimal n bs h =
    and_from (not (is_empty bs) && list_all is_digit bs) (not (has_leading_zero bs))
    (and_from (not (is_empty bs)) (list_all is_digit bs) (not_empty n bs h) (digits_all n bs h))
    (not_from_false (has_leading_zero bs) (no_lead n bs h))

pub decimal_of-Decimal : (n : ℕ) (bs : Bytes) → Decimal n bs → decimal_of bs ≡ Some n
decimal_of-Decimal n bs h = cond-true (is_decimal bs) (Some (value_from 0 bs)) None (is_decimal-Decimal n bs h) ∙ ap Some (value_from-Decimal n bs h)

-- ---- the decimal number that the standard library writes

pub Decimal-decimal : (n : ℕ) → n < 2 ^ 64 → Decimal n (decimal n)
Decimal-decimal = decimal_by_steps Decimal one_digit more
  where
    more : (n : ℕ) (ds : Bytes) → 10 ≤ n → Decimal (n / 10) ds → Decimal n (ds ++ (48 + n % 10) ∷ [])
    more n ds h so_far =
        let whole : 10 * (n / 10) + n % 10 ≡ n = omega arith in
        subst (λ m. Decimal m (ds ++ (48 + n % 10) ∷ [])) whole (one_more (n / 10) (n % 10) ds (omega arith) (omega arith) so_far)

pub Decimal-encoded : (n : ℕ) (bs : Bytes) → Decimal n bs → n < 2 ^ 64 → bs ≡ decimal n
Decimal-encoded _ _ (one_digit d h) fits = sym (decimal_digit d h)
Decimal-encoded _ _ (one_more n d front some h so_far) fits =
    let front_is : (10 * n + d) / 10 ≡ n = omega arith in
    let last_is : (10 * n + d) % 10 ≡ d = omega arith in
    let step = decimal_step (10 * n + d) (omega arith) fits in
    let same : decimal (10 * n + d) ≡ decimal n ++ (48 + d) ∷ [] = rw (front_is, last_is) at step in
    ap (λ f. f ++ (48 + d) ∷ []) (Decimal-encoded n front so_far (omega arith)) ∙ sym same

no_space-digits : (bs : Bytes) → list_all is_digit bs ≡ true → no_space bs ≡ true
no_space-digits [] h = refl
no_space-digits (b ∷ bs) h =
    let parts = and_parts (is_digit b) (list_all is_digit bs) h in
    let bounds = digit_bounds b parts.0 in
    and_from (not (b == 32)) (no_space bs) (not_from_false (b == 32) (ne_eqb b 32 (λ e. omega arith))) (no_space-digits bs parts.1)

pub no_space-Decimal : (n : ℕ) (bs : Bytes) → Decimal n bs → no_space bs ≡ true
no_space-Decimal n bs h = no_space-digits bs (digits_all n bs h)
