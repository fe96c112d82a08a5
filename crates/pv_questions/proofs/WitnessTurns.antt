-- The text of a witness parses as its turns.
use Rattle.std.proofs.Common.{◌≡◌, ◌≢◌, ◌∙◌, sym, ap, refl, inl, inr, arith, ℕ, suc, ◌≤◌, Bool, true, false, ◌&&◌, ◌==◌, if◌then◌else◌, List, [], ◌∷◌, ◌++◌, map, flat_map, append_assoc, append-nil, Ok}
use Rattle.std.specs.Prelude.{codes, replicate}
use Rattle.std.specs.Fmt.{decimal}
use Rattle.std.specs.List.{AllByRecursion, join_by, list_all}
use Rattle.std.proofs.lemmas.Bool.{and_parts, eqb-true, ne_eqb}
use Rattle.std.proofs.lemmas.List.{length-map}
use Rattle.pv_model.specs.Machine.{Bytes, read_schedule, ended, Schedule, steps_of}
use Rattle.pv_model.specs.Answers.Explore.{in_turns, onto_turns, turn_text}
use Rattle.pv_model.specs.Grammar.Lines.{is_digit}
use Rattle.pv_model.specs.Grammar.Texts.{EncodeTurns, IsCount, IsLine, LacksLastEnd}
use Rattle.pv_laws_grammar.proofs.Decimals.{Decimal-decimal, digit_bounds, digits_all}
use Rattle.pv_laws_grammar.proofs.ScheduleParsing.{read-EncodesSchedule}
use Rattle.pv_questions.specs.Laws.{AreTurnsWithin, WitnessesAreReadBack}
use Rattle.pv_questions.specs.Schedules.{turns_text}
use Rattle.pv_questions.proofs.EqualInputs.{all_both}

-- ---- bytes other than newlines and commas

abbrev IsPlain : ℕ → Type 0
IsPlain b = (b ≢ 10) × (b ≢ 44)

digits-plain : (bs : Bytes) → list_all is_digit bs ≡ true → AllByRecursion IsPlain bs
digits-plain [] are = tt
digits-plain (b ∷ bs) are =
    let parts = and_parts (is_digit b) (list_all is_digit bs) are in
    let low : 48 ≤ b = (digit_bounds b parts.0).0 in
    let high : b ≤ 57 = (digit_bounds b parts.0).1 in
    ((λ e. omega arith, λ e. omega arith), digits-plain bs parts.1)

decimal-plain : (n : ℕ) → IsCount n → AllByRecursion IsPlain (decimal n)
decimal-plain n count =
    let high = count.1 in
    digits-plain (decimal n) (digits_all n (decimal n) (Decimal-decimal n (omega arith)))

abbrev AreCounts : ℕ × ℕ → Type 0
AreCounts turn = IsCount turn.0 × IsCount turn.1

turn-plain : (turn : ℕ × ℕ) → AreCounts turn → AllByRecursion IsPlain (turn_text turn)
turn-plain turn counts =
    all_both IsPlain (decimal turn.0 ++ codes " ") (decimal turn.1)
    (all_both IsPlain (decimal turn.0) (codes " ") (decimal-plain turn.0 counts.0) ((λ e. cc, λ e. cc), tt))
    (decimal-plain turn.1 counts.1)

plain-line : (bs : Bytes) → AllByRecursion IsPlain bs → IsLine bs
plain-line [] plain = tt
plain-line (b ∷ bs) plain = (plain.0.0, plain-line bs plain.1)

-- ---- commas as newlines

next-byte : (b c : ℕ) (bytes : Bytes) → b ≢ 44 → turns_text (b ∷ c ∷ bytes) ≡ b ∷ turns_text (c ∷ bytes)
next-byte b c bytes other = ap (λ (x : Bool). if x && c == 32 then 10 ∷ turns_text bytes else b ∷ turns_text (c ∷ bytes)) (ne_eqb b 44 other)

to-comma : (bs rest : Bytes) → AllByRecursion IsPlain bs → turns_text (bs ++ 44 ∷ 32 ∷ rest) ≡ bs ++ 10 ∷ turns_text rest
to-comma [] rest plain = refl
to-comma (b ∷ []) rest plain = next-byte b 44 (32 ∷ rest) plain.0.1
to-comma (b ∷ c ∷ bs) rest plain = next-byte b c (bs ++ 44 ∷ 32 ∷ rest) plain.0.1 ∙ ap (λ (ds : Bytes). b ∷ ds) (to-comma (c ∷ bs) rest plain.1)

to-end : (bs : Bytes) → AllByRecursion IsPlain bs → turns_text bs ≡ bs
to-end [] plain = refl
to-end (b ∷ []) plain = refl
to-end (b ∷ c ∷ bs) plain = next-byte b c bs plain.0.1 ∙ ap (λ (ds : Bytes). b ∷ ds) (to-end (c ∷ bs) plain.1)

-- ---- the lines

abbrev texts : Schedule → Bytes
texts ts = join_by turn_text (codes ", ") ts

two-texts : (t u : ℕ × ℕ) (ts : Schedule) → texts (t ∷ u ∷ ts) ≡ turn_text t ++ 44 ∷ 32 ∷ texts (u ∷ ts)
two-texts t u ts = ap (λ (bs : Bytes). turn_text t ++ bs) (append_assoc (codes ", ") (turn_text u) (flat_map (λ y. codes ", " ++ turn_text y) ts))

some-between : (xs ys : Bytes) → (xs ++ codes " ") ++ ys ≢ []
some-between [] ys none = cc none
some-between (x ∷ xs) ys none = cc none

line-end : (line front last : Bytes) → line ++ 10 ∷ (front ++ last) ≡ ((line ++ 10 ∷ []) ++ front) ++ last
line-end line front last = sym (append_assoc (line ++ 10 ∷ []) front last ∙ append_assoc line (10 ∷ []) (front ++ last))

last-lacks : (t : ℕ × ℕ) (ts : Schedule) → AllByRecursion AreCounts (t ∷ ts) → LacksLastEnd (turns_text (texts (t ∷ ts))) (map turn_text (t ∷ ts))
last-lacks t [] are = (
  [],
  turn_text t,
  some-between (decimal t.0) (decimal t.1),
  refl,
  ap turns_text (append-nil (turn_text t)) ∙ to-end (turn_text t) (turn-plain t are.0),
)
last-lacks t (u ∷ ts) are =
    let rest = last-lacks u ts are.1 in (
      turn_text t ∷ rest.0,
      rest.1,
      rest.2,
      ap (λ (ls : List Bytes). turn_text t ∷ ls) rest.3,
      ap turns_text (two-texts t u ts) ∙ to-comma (turn_text t) (texts (u ∷ ts)) (turn-plain t are.0)
          ∙ ap (λ (bs : Bytes). turn_text t ++ 10 ∷ bs) rest.4 ∙ line-end (turn_text t) (ended rest.0) rest.1,
    )

all-lines : (ts : Schedule) → AllByRecursion AreCounts ts → AllByRecursion IsLine (map turn_text ts)
all-lines [] are = tt
all-lines (t ∷ ts) are = (plain-line (turn_text t) (turn-plain t are.0), all-lines ts are.1)

all-turns : (ts : Schedule) → AllByRecursion AreCounts ts → EncodeTurns (map turn_text ts) ts
all-turns [] are = tt
all-turns (t ∷ ts) are = ((are.0.0, are.0.1, inr (append_assoc (decimal t.0) (codes " ") (decimal t.1))), all-turns ts are.1)

turns-read : (ts : Schedule) → AreTurnsWithin ts → read_schedule (turns_text (texts ts)) ≡ Ok ts
turns-read [] within = read-EncodesSchedule [] [] ([], (tt, inl refl), (omega arith, tt))
turns-read (t ∷ ts) within =
    let few = within.0 in
    read-EncodesSchedule (turns_text (texts (t ∷ ts))) (t ∷ ts) (
      map turn_text (t ∷ ts),
      (all-lines (t ∷ ts) within.1, inr (last-lacks t ts within.1)),
      (omega (arith, length-map (t ∷ ts) turn_text), all-turns (t ∷ ts) within.1),
    )

-- ---- the steps

steps-onto : (pid : ℕ) (ts : Schedule) → steps_of (onto_turns pid ts) ≡ pid ∷ steps_of ts
steps-onto pid [] = refl
steps-onto pid ((other, count) ∷ ts) = by (pid == other) refl
  where
    by : (b : Bool) → (pid == other) ≡ b → steps_of (if b then (pid, suc count) ∷ ts else (pid, 1) ∷ (other, count) ∷ ts) ≡ pid ∷ (replicate count other ++ steps_of ts)
    by true is = ap (λ (q : ℕ). pid ∷ (replicate count q ++ steps_of ts)) (eqb-true pid other is)
    by false is = refl

turns-steps : (witness : List ℕ) → steps_of (in_turns witness) ≡ witness
turns-steps [] = refl
turns-steps (pid ∷ pids) = steps-onto pid (in_turns pids) ∙ ap (λ (ps : List ℕ). pid ∷ ps) (turns-steps pids)

pub read-back : WitnessesAreReadBack
read-back witness within = record { read = turns-read (in_turns witness) within; steps = turns-steps witness }
