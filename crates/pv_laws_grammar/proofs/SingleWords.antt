-- Arguments of one word: numbers, registers, operands, origins, whence, `null`.
use Rattle.std.proofs.Common.{◌≡◌, ℕ, zero, suc, ◌+◌, ◌-◌, ◌<◌, ◌≤◌, ℤ, pos, negsuc, true, false, cond, ◌&&◌, ◌==◌, nat_le, [], ◌∷◌, Option, None, Some, ap, sym, ◌∙◌, refl, subst, arith, eqb-true, leb-true, le-leb}
use Rattle.std.specs.Prelude.{option_map, codes, bytes_eq}
use Rattle.std.proofs.lemmas.Bool.{cond_both, and_parts, and_from, ne_eqb, cond-true, cond-false}
use Rattle.std.proofs.lemmas.Fmt.{decimal_digit}
use Rattle.std.proofs.lemmas.Option.{cond_some, same_Some}
use Rattle.std.proofs.lemmas.Slice.Eq.{bytes_eq-Decides}
use Rattle.std.specs.Fmt.{decimal}
use Rattle.std.specs.List.{list_all}
use Rattle.pv_model.specs.declared.instruction.Operand.{Operand}
use Rattle.pv_model.specs.declared.instruction.Operand.TheVariants.{Number, Register}
use Rattle.pv_model.specs.declared.instruction.Origin.{Origin}
use Rattle.pv_model.specs.declared.instruction.Origin.TheVariants.{WorkingDirectory, Descriptor}
use Rattle.pv_model.specs.declared.call.Whence.{Whence}
use Rattle.pv_model.specs.declared.call.Whence.TheVariants.{Set, Current, End}
use Rattle.pv_model.specs.Machine.{Bytes, decimal_of}
use Rattle.pv_model.specs.Grammar.Arguments.{in_range, negative_of, parsed_number, register_digit, register_of, or_number, operand_of, whence_of, origin_of, null_of}
use Rattle.pv_model.specs.Grammar.Lines.{is_digit}
use Rattle.pv_model.specs.Grammar.Encoding.{Decimal, IsNumber, EncodesNumber, EncodesRegister, EncodesOperand, EncodesWhence, EncodesOrigin}
use Rattle.pv_laws_grammar.proofs.Decimals.{Decimal-decimal_of, decimal_of-Decimal, Decimal-decimal, Decimal-encoded, no_space-Decimal, digits_all, digit_bounds}
use Rattle.pv_laws_grammar.proofs.FirstWord.{no_space, no_space-append}
use Rattle.pv_laws_grammar.proofs.ParserCorrectness.{ReadsWord}

-- ---- numbers

in_range_found : (limit : ℕ) (o : Option ℕ) (n : ℕ) → in_range limit o ≡ Some n → (o ≡ Some n) × (n ≤ limit)
in_range_found limit None n e = absurd (cc)
in_range_found limit (Some m) n e =
    let parts = cond_some (nat_le m limit) m n e in
    (ap Some parts.1, subst (λ k. k ≤ limit) parts.1 (leb-true m limit parts.0))

in_range_again : (limit n : ℕ) → n ≤ limit → in_range limit (Some n) ≡ Some n
in_range_again limit n h = cond-true (nat_le n limit) (Some n) None (le-leb n limit h)

negative_found : (o : Option ℕ) (z : ℤ) → negative_of o ≡ Some z → (n : ℕ) × (o ≡ Some (suc n)) × (z ≡ negsuc n)
negative_found None z e = absurd (cc)
negative_found (Some zero) z e = absurd (cc)
negative_found (Some (suc n)) z e =
    let back : suc n - 1 ≡ n = omega arith in
    let same : Some (negsuc (suc n - 1)) ≡ Some z = sym (cond-false (suc n == 0) None (Some (negsuc (suc n - 1))) (ne_eqb (suc n) 0 (λ h. omega arith))) ∙ e in
    (n, refl, sym (same_Some (negsuc (suc n - 1)) z same) ∙ ap negsuc back)

negative_again : (n : ℕ) → negative_of (Some (suc n)) ≡ Some (negsuc n)
negative_again n =
    let back : suc n - 1 ≡ n = omega arith in
    cond-false (suc n == 0) None (Some (negsuc (suc n - 1))) (ne_eqb (suc n) 0 (λ h. omega arith)) ∙ ap (λ k. Some (negsuc k)) back

pub mapped_found : {A B : Type 0} (f : A → B) (o : Option A) (b : B) → option_map f o ≡ Some b → (a : A) × (o ≡ Some a) × (f a ≡ b)
mapped_found f None b e = absurd (cc)
mapped_found f (Some a) b e = (a, refl, same_Some (f a) b e)

negative_encodes : (bs : Bytes) (z : ℤ) → negative_of (in_range 2147483648 (decimal_of bs)) ≡ Some z → EncodesNumber z (45 ∷ bs)
negative_encodes bs z e =
    let n = negative_found (in_range 2147483648 (decimal_of bs)) z e in
    let within = in_range_found 2147483648 (decimal_of bs) (suc n.0) n.1 in
    let encoded = Decimal-encoded (suc n.0) bs (Decimal-decimal_of bs (suc n.0) within.0) (omega arith) in
    let bound : IsNumber (negsuc n.0) = omega arith in
    let here : EncodesNumber (negsuc n.0) (45 ∷ bs) = (bound, ap (λ r. 45 ∷ r) encoded) in
    subst (λ y. EncodesNumber y (45 ∷ bs)) (sym n.2) here

positive_encodes : (bs : Bytes) (z : ℤ) → option_map pos (in_range 2147483647 (decimal_of bs)) ≡ Some z → EncodesNumber z bs
positive_encodes bs z e =
    let n = mapped_found pos (in_range 2147483647 (decimal_of bs)) z e in
    let within = in_range_found 2147483647 (decimal_of bs) n.0 n.1 in
    let encoded = Decimal-encoded n.0 bs (Decimal-decimal_of bs n.0 within.0) (omega arith) in
    let here : EncodesNumber (pos n.0) bs = (within.1, encoded) in
    subst (λ y. EncodesNumber y bs) n.2 here

number_found : (word : Bytes) (z : ℤ) → parsed_number word ≡ Some z → EncodesNumber z word
number_found [] z e = absurd (cc)
number_found (b ∷ bs) z e = cond_both (b == 45) (negative_of (in_range 2147483648 (decimal_of bs))) (option_map pos (in_range 2147483647 (decimal_of (b ∷ bs)))) (λ r. r ≡ Some z → EncodesNumber z (b ∷ bs))
    (λ is e. let minus : b ≡ 45 = eqb-true b 45 is in subst (λ c. EncodesNumber z (c ∷ bs)) (sym minus) (negative_encodes bs z e))
    (λ is h. positive_encodes (b ∷ bs) z h) e

first_is_digit : (n b : ℕ) (bs : Bytes) → Decimal n (b ∷ bs) → (48 ≤ b) × (b ≤ 57)
first_is_digit n b bs h = digit_bounds b (and_parts (is_digit b) (list_all is_digit bs) (digits_all n (b ∷ bs) h)).0

positive_again : (word : Bytes) (n : ℕ) → Decimal n word → n ≤ 2147483647 → parsed_number word ≡ Some (pos n)
positive_again [] n h fits = let e : None ≡ Some n = decimal_of-Decimal n [] h in absurd (cc)
positive_again (b ∷ bs) n h fits =
    let bounds = first_is_digit n b bs h in
    cond-false (b == 45) (negative_of (in_range 2147483648 (decimal_of bs))) (option_map pos (in_range 2147483647 (decimal_of (b ∷ bs)))) (ne_eqb b 45 (λ e. omega arith))
    ∙ ap (λ o. option_map pos (in_range 2147483647 o)) (decimal_of-Decimal n (b ∷ bs) h)
    ∙ ap (option_map pos) (in_range_again 2147483647 n fits)

negative_number_again : (n : ℕ) → n ≤ 2147483647 → parsed_number (45 ∷ decimal (suc n)) ≡ Some (negsuc n)
negative_number_again n fits =
    ap (λ o. negative_of (in_range 2147483648 o)) (decimal_of-Decimal (suc n) (decimal (suc n)) (Decimal-decimal (suc n) (omega arith)))
    ∙ ap negative_of (in_range_again 2147483648 (suc n) (omega arith))
    ∙ negative_again n

number_again : (z : ℤ) (word : Bytes) → EncodesNumber z word → parsed_number word ≡ Some z
number_again (pos n) word h = rw h.1 (positive_again (decimal n) n (Decimal-decimal n (omega arith)) h.0)
number_again (negsuc n) word h = rw h.1 (negative_number_again n h.0)

number_whole : (z : ℤ) (word : Bytes) → EncodesNumber z word → no_space word ≡ true
number_whole (pos n) word h = rw h.1 (no_space-Decimal n (decimal n) (Decimal-decimal n (omega arith)))
number_whole (negsuc n) word h = rw h.1 (no_space-append (45 ∷ []) (decimal (suc n)) refl (no_space-Decimal (suc n) (decimal (suc n)) (Decimal-decimal (suc n) (omega arith))))

pub reads_number : ReadsWord parsed_number EncodesNumber
reads_number = record { found = number_found; again = number_again; whole = number_whole }

-- ---- registers

register_digit_found : (bs : Bytes) (r : ℕ) → register_digit bs ≡ Some r → (r < 8) × (bs ≡ (48 + r) ∷ [])
register_digit_found [] r e = absurd (cc)
register_digit_found (b ∷ []) r e =
    let parts = cond_some (nat_le 48 b && nat_le b 55) (b - 48) r e in
    let bounds = and_parts (nat_le 48 b) (nat_le b 55) parts.0 in
    let low = leb-true 48 b bounds.0 in
    let high = leb-true b 55 bounds.1 in
    let is : b ≡ 48 + r = omega arith in
    (omega arith, ap (λ c. c ∷ []) is)
register_digit_found (b ∷ c ∷ bs) r e = absurd (cc)

register_found : (word : Bytes) (r : ℕ) → register_of word ≡ Some r → EncodesRegister r word
register_found [] r e = absurd (cc)
register_found (b ∷ bs) r h = cond_both (b == 114) (register_digit bs) None (λ o. o ≡ Some r → EncodesRegister r (b ∷ bs))
    (λ is e.
    let permission : b ≡ 114 = eqb-true b 114 is in
    let digit = register_digit_found bs r e in
    let encoded : b ∷ bs ≡ 114 ∷ decimal r = ap (λ c. c ∷ bs) permission ∙ ap (λ t. 114 ∷ t) (digit.1 ∙ sym (decimal_digit r (omega arith))) in
    (digit.0, encoded))
    (λ is e. absurd (cc)) h

register_digit_again : (r : ℕ) → r < 8 → register_digit ((48 + r) ∷ []) ≡ Some r
register_digit_again r h =
    let back : 48 + r - 48 ≡ r = omega arith in
    cond-true (nat_le 48 (48 + r) && nat_le (48 + r) 55) (Some (48 + r - 48)) None (and_from (nat_le 48 (48 + r)) (nat_le (48 + r) 55) (le-leb 48 (48 + r) (omega arith)) (le-leb (48 + r) 55 (omega arith)))
    ∙ ap Some back

register_again : (r : ℕ) (word : Bytes) → EncodesRegister r word → register_of word ≡ Some r
register_again r word h =
    let encoded : word ≡ 114 ∷ (48 + r) ∷ [] = h.1 ∙ ap (λ t. 114 ∷ t) (decimal_digit r (omega arith)) in
    ap register_of encoded ∙ register_digit_again r h.0

register_whole : (r : ℕ) (word : Bytes) → EncodesRegister r word → no_space word ≡ true
register_whole r word h = rw h.1 (no_space-append (codes "r") (decimal r) refl (no_space-Decimal r (decimal r) (Decimal-decimal r (omega arith))))

pub reads_register : ReadsWord register_of EncodesRegister
reads_register = record { found = register_found; again = register_again; whole = register_whole }

-- ---- operands

or_number_found : (word : Bytes) (r : Option ℕ) (n : Option ℤ) → register_of word ≡ r → parsed_number word ≡ n → (o : Operand) → or_number r n ≡ Some o → EncodesOperand o word
or_number_found word (Some r) n is_r is_n (Register k) e =
    let same : r ≡ k = cc in register_found word k (is_r ∙ ap Some same)
or_number_found word (Some r) n is_r is_n (Number k) e = absurd (cc)
or_number_found word None (Some z) is_r is_n (Number k) e =
    let same : z ≡ k = cc in number_found word k (is_n ∙ ap Some same)
or_number_found word None (Some z) is_r is_n (Register k) e = absurd (cc)
or_number_found word None None is_r is_n o e = absurd (cc)

operand_found : (word : Bytes) (o : Operand) → operand_of word ≡ Some o → EncodesOperand o word
operand_found word o e = or_number_found word (register_of word) (parsed_number word) refl refl o e

-- a number starts with a digit or a sign
no_register_digits : (n : ℕ) (word : Bytes) → Decimal n word → register_of word ≡ None
no_register_digits n [] h = refl
no_register_digits n (b ∷ bs) h =
    let bounds = first_is_digit n b bs h in cond-false (b == 114) (register_digit bs) None (ne_eqb b 114 (λ e. omega arith))

no_register_number : (z : ℤ) (word : Bytes) → EncodesNumber z word → register_of word ≡ None
no_register_number (pos n) word h = rw h.1 (no_register_digits n (decimal n) (Decimal-decimal n (omega arith)))
no_register_number (negsuc n) word h = rw h.1 refl

operand_again : (o : Operand) (word : Bytes) → EncodesOperand o word → operand_of word ≡ Some o
operand_again (Number z) word h = rw (no_register_number z word h, number_again z word h) refl
operand_again (Register r) word h = rw (register_again r word h) refl

operand_whole : (o : Operand) (word : Bytes) → EncodesOperand o word → no_space word ≡ true
operand_whole (Number z) word h = number_whole z word h
operand_whole (Register r) word h = register_whole r word h

pub reads_operand : ReadsWord operand_of EncodesOperand
reads_operand = record { found = operand_found; again = operand_again; whole = operand_whole }

-- ---- fixed words

named : {A : Type 0} (word name : Bytes) (x a : A) (other : Option A) (P : A → Type 0) → (word ≡ name → P x) → (other ≡ Some a → P a) → cond (bytes_eq word name) (Some x) other ≡ Some a → P a
named word name x a other P here there = cond_both (bytes_eq word name) (Some x) other (λ r. r ≡ Some a → P a)
    (λ is e. subst P (same_Some x a e) (here ((bytes_eq-Decides word name).0 is)))
    (λ is e. there e)

whence_found : (word : Bytes) (w : Whence) → whence_of word ≡ Some w → EncodesWhence w word
whence_found word w =
    named word (codes "set") Set w _ (λ x. EncodesWhence x word) (λ is. is)
    (named word (codes "cur") Current w _ (λ x. EncodesWhence x word) (λ is. is)
    (named word (codes "end") End w None (λ x. EncodesWhence x word) (λ is. is) (λ e. absurd (cc))))

whence_again : (w : Whence) (word : Bytes) → EncodesWhence w word → whence_of word ≡ Some w
whence_again Set word h = rw h refl
whence_again Current word h = rw h refl
whence_again End word h = rw h refl

whence_whole : (w : Whence) (word : Bytes) → EncodesWhence w word → no_space word ≡ true
whence_whole Set word h = rw h refl
whence_whole Current word h = rw h refl
whence_whole End word h = rw h refl

pub reads_whence : ReadsWord whence_of EncodesWhence
reads_whence = record { found = whence_found; again = whence_again; whole = whence_whole }

-- ---- origins

descriptor_found : (word : Bytes) (o : Origin) (d : Option Operand) → operand_of word ≡ d → option_map Descriptor d ≡ Some o → EncodesOrigin o word
descriptor_found word WorkingDirectory (Some x) is e = absurd (cc)
descriptor_found word (Descriptor d) (Some x) is e = let same : x ≡ d = cc in operand_found word d (is ∙ ap Some same)
descriptor_found word o None is e = absurd (cc)

origin_found : (word : Bytes) (o : Origin) → origin_of word ≡ Some o → EncodesOrigin o word
origin_found word o =
    named word (codes "cwd") WorkingDirectory o (option_map Descriptor (operand_of word)) (λ x. EncodesOrigin x word) (λ is. is)
    (λ e. descriptor_found word o (operand_of word) refl e)

no_operand_cwd : (word : Bytes) (d : Operand) → EncodesOperand d word → bytes_eq word (codes "cwd") ≡ false
no_operand_cwd word d h = elim (bytes_eq word (codes "cwd")) as (λ t. bytes_eq word (codes "cwd") ≡ t → t ≡ false) [
  | true ↦ λ is.
      let e : word ≡ codes "cwd" = (bytes_eq-Decides word (codes "cwd")).0 is in
      let none : None ≡ Some d = ap operand_of (sym e) ∙ operand_again d word h in
      absurd (cc)
  | false ↦ λ is. refl
] refl

origin_again : (o : Origin) (word : Bytes) → EncodesOrigin o word → origin_of word ≡ Some o
origin_again WorkingDirectory word h = rw h refl
origin_again (Descriptor d) word h = rw (no_operand_cwd word d h, operand_again d word h) refl

origin_whole : (o : Origin) (word : Bytes) → EncodesOrigin o word → no_space word ≡ true
origin_whole WorkingDirectory word h = rw h refl
origin_whole (Descriptor d) word h = operand_whole d word h

pub reads_origin : ReadsWord origin_of EncodesOrigin
reads_origin = record { found = origin_found; again = origin_again; whole = origin_whole }

-- ---- `null`

abbrev pub EncodesNull : Option Bytes → Bytes → Type 0
EncodesNull None word = word ≡ codes "null"
EncodesNull (Some value) word = ⊥

null_found : (word : Bytes) (o : Option Bytes) → null_of word ≡ Some o → EncodesNull o word
null_found word o = named word (codes "null") None o None (λ x. EncodesNull x word) (λ is. is) (λ e. absurd (cc))

null_again : (o : Option Bytes) (word : Bytes) → EncodesNull o word → null_of word ≡ Some o
null_again None word h = rw h refl
null_again (Some value) word h = absurd h

null_whole : (o : Option Bytes) (word : Bytes) → EncodesNull o word → no_space word ≡ true
null_whole None word h = rw h refl
null_whole (Some value) word h = absurd h

pub reads_null : ReadsWord null_of EncodesNull
reads_null = record { found = null_found; again = null_again; whole = null_whole }
