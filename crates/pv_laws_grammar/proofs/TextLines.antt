-- The lines of a text.
use Rattle.std.proofs.Common.{◌≡◌, ◌≢◌, inl, inr, ℕ, ◌==◌, List, [], ◌∷◌, ◌++◌, ap, sym, ◌∙◌, refl, append_assoc, append-nil, eqb-true, ne_eqb}
use Rattle.std.proofs.lemmas.Bool.{cond_both, eqb-false}
use Rattle.std.specs.List.{AllByRecursion}
use Rattle.pv_model.specs.Machine.{Bytes, onto_first, lines_of, ended}
use Rattle.pv_model.specs.Grammar.Texts.{IsLine, LacksLastEnd, HasLines}

-- a line with its LF
lines_of-line : (line rest : Bytes) → IsLine line → lines_of (line ++ 10 ∷ rest) ≡ line ∷ lines_of rest
lines_of-line [] rest h = refl
lines_of-line (b ∷ line) rest h = rw (ne_eqb b 10 h.0, lines_of-line line rest h.1) refl

-- a last line without an LF
lines_of-last : (b : ℕ) (last : Bytes) → IsLine (b ∷ last) → lines_of (b ∷ last) ≡ (b ∷ last) ∷ []
lines_of-last b [] h = rw (ne_eqb b 10 h.0) refl
lines_of-last b (c ∷ last) h = rw (ne_eqb b 10 h.0, lines_of-last c last h.1) refl

lines_of-ended : (lines : List Bytes) (rest : Bytes) → AllByRecursion IsLine lines → lines_of (ended lines ++ rest) ≡ lines ++ lines_of rest
lines_of-ended [] rest h = refl
lines_of-ended (line ∷ lines) rest h =
    let regroup : ((line ++ 10 ∷ []) ++ ended lines) ++ rest ≡ line ++ 10 ∷ (ended lines ++ rest) = simp append_assoc in
    ap lines_of regroup ∙ lines_of-line line (ended lines ++ rest) h.0 ∙ ap (λ ls. line ∷ ls) (lines_of-ended lines rest h.1)

all_front : {X : Type 0} (P : X → Type 0) (xs ys : List X) → AllByRecursion P (xs ++ ys) → AllByRecursion P xs × AllByRecursion P ys
all_front P [] ys h = (tt, h)
all_front P (x ∷ xs) ys h = let r = all_front P xs ys h.1 in ((h.0, r.0), r.1)

lines_of-lacking : (front : List Bytes) (last : Bytes) → last ≢ [] → AllByRecursion IsLine (front ++ last ∷ []) → lines_of (ended front ++ last) ≡ front ++ last ∷ []
lines_of-lacking front [] some h = absurd (some refl)
lines_of-lacking front (b ∷ last) some h =
    let parts = all_front IsLine front ((b ∷ last) ∷ []) h in
    lines_of-ended front (b ∷ last) parts.0 ∙ ap (λ ls. front ++ ls) (lines_of-last b last parts.1.0)

pub lines_from_relation : (bytes : Bytes) (lines : List Bytes) → HasLines bytes lines → lines_of bytes ≡ lines
lines_from_relation bytes lines h = elim h.1 [
  | inl whole ↦ ap lines_of (whole ∙ sym (append-nil (ended lines))) ∙ lines_of-ended lines [] h.0 ∙ append-nil lines
  | inr lacks ↦
      let all : AllByRecursion IsLine (lacks.0 ++ lacks.1 ∷ []) = rw lacks.3 at h.0 in
      ap lines_of lacks.4 ∙ lines_of-lacking lacks.0 lacks.1 lacks.2 all ∙ sym lacks.3
]

-- a text with a byte prepended
after_end : (bs : Bytes) (lines : List Bytes) → HasLines bs lines → HasLines (10 ∷ bs) ([] ∷ lines)
after_end bs lines h = (
  (tt, h.0),
  elim h.1 [
    | inl whole ↦ inl (ap (λ r. 10 ∷ r) whole)
    | inr lacks ↦ inr (([] ∷ lacks.0), lacks.1, lacks.2, ap (λ ls. [] ∷ ls) lacks.3, ap (λ r. 10 ∷ r) lacks.4)
  ],
)

lacking_more : (b : ℕ) (bs p : Bytes) (ps front : List Bytes) (last : Bytes) → last ≢ [] → p ∷ ps ≡ front ++ last ∷ [] → bs ≡ ended front ++ last → LacksLastEnd (b ∷ bs) ((b ∷ p) ∷ ps)
lacking_more b bs p ps [] last some is bytes =
    let e : p ≡ last = cc in let none : ps ≡ [] = cc in
    ([], b ∷ last, (λ h. cc), cc, ap (λ r. b ∷ r) bytes)
lacking_more b bs p ps (q ∷ front) last some is bytes =
    let e : q ≡ p = cc in let rest : ps ≡ front ++ last ∷ [] = cc in
    ((b ∷ q) ∷ front, last, some, cc, ap (λ r. b ∷ r) bytes)

empty_when_none : (bs : Bytes) → HasLines bs [] → bs ≡ []
empty_when_none bs h = elim h.1 [ inl whole ↦ whole | inr lacks ↦ no_lines lacks.0 lacks.1 lacks.3 ]
  where
    no_lines : (front : List Bytes) (last : Bytes) → [] ≡ front ++ last ∷ [] → bs ≡ []
    no_lines [] last e = cc
    no_lines (f ∷ front) last e = cc

more_in_line : (b : ℕ) (bs : Bytes) (lines : List Bytes) → b ≢ 10 → HasLines bs lines → HasLines (b ∷ bs) (onto_first b lines)
more_in_line b bs [] other h =
    (((other, tt), tt), inr ([], b ∷ [], (λ e. cc), refl, ap (λ r. b ∷ r) (empty_when_none bs h)))
more_in_line b bs (p ∷ ps) other h = (
  ((other, h.0.0), h.0.1),
  elim h.1 [
    | inl whole ↦ inl (ap (λ r. b ∷ r) whole)
    | inr lacks ↦ inr (lacking_more b bs p ps lacks.0 lacks.1 lacks.2 lacks.3 lacks.4)
  ],
)

pub HasLines-lines_of : (bytes : Bytes) → HasLines bytes (lines_of bytes)
HasLines-lines_of [] = (tt, inl refl)
HasLines-lines_of (b ∷ bs) = cond_both (b == 10) ([] ∷ lines_of bs) (onto_first b (lines_of bs)) (HasLines (b ∷ bs))
    (λ is. let e : b ≡ 10 = eqb-true b 10 is in rw e (after_end bs (lines_of bs) (HasLines-lines_of bs)))
    (λ is. more_in_line b bs (lines_of bs) (eqb-false b 10 is) (HasLines-lines_of bs))
