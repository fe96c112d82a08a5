-- Schedules, line by line.
use Rattle.std.proofs.Common.{◌≡◌, ◌≢◌, ◌⊎◌, inl, inr, ℕ, suc, ◌+◌, ◌≤◌, true, cond, ◌&&◌, ◌==◌, nat_le, List, [], ◌∷◌, ◌++◌, length, Option, None, Some, Result, Ok, Err, ap, sym, ◌∙◌, refl, subst, append-nil, arith, eqb-true, eq-eqb, leb-true, le-leb}
use Rattle.std.specs.Prelude.{option_map}
use Rattle.std.specs.Fmt.{decimal}
use Rattle.std.proofs.lemmas.Bool.{cond_both, cond-true, cond-false, eqb-false, ne_eqb, and_parts, and_from}
use Rattle.std.proofs.lemmas.Option.{same_Some, cond_some}
use Rattle.pv_model.specs.declared.fault.ScheduleFault.{ScheduleFault}
use Rattle.pv_model.specs.declared.fault.ScheduleFault.TheVariants.{Line, Memory}
use Rattle.pv_model.specs.Machine.{Bytes, is_empty, Parsed, word_at, one_argument, decimal_of, lines_of, schedule_of_lines, read_schedule, Schedule}
use Rattle.pv_model.specs.Grammar.Schedules.{count_within, count_of, with_count, turn_of, onto_schedule, or_schedule_line, schedule_from}
use Rattle.pv_model.specs.Grammar.Texts.{IsCount, EncodesTurn, EncodeTurns, EncodeSchedule, EncodesSchedule, IsFirstNoTurn}
use Rattle.pv_laws_grammar.proofs.Decimals.{Decimal-decimal_of, decimal_of-Decimal, Decimal-decimal, Decimal-encoded, no_space-Decimal}
use Rattle.pv_laws_grammar.proofs.FirstWord.{no_space}
use Rattle.pv_laws_grammar.proofs.SingleWords.{mapped_found}
use Rattle.pv_laws_grammar.proofs.ParserCorrectness.{Reads, ReadsWord, reads_word}
use Rattle.pv_laws_grammar.proofs.TextLines.{lines_from_relation, HasLines-lines_of}
use Rattle.pv_laws_grammar.proofs.WordLists.{one_word_found, one_word_again}

-- ---- one line

abbrev EncodesCount : ℕ → Bytes → Type 0
EncodesCount n word = IsCount n × (word ≡ decimal n)

within_found : (word : Bytes) (o : Option ℕ) (n : ℕ) → decimal_of word ≡ o → count_within o ≡ Some n → EncodesCount n word
within_found word None n is e = absurd (cc)
within_found word (Some m) n is e =
    let found = cond_some (nat_le 1 m && nat_le m 99999) m n e in
    let parts = and_parts (nat_le 1 m) (nat_le m 99999) found.0 in
    let low = leb-true 1 m parts.0 in
    let high = leb-true m 99999 parts.1 in
    let here : EncodesCount m word = ((low, high), Decimal-encoded m word (Decimal-decimal_of word m is) (omega arith)) in
    subst (λ k. EncodesCount k word) found.1 here

count_again : (n : ℕ) (word : Bytes) → EncodesCount n word → count_of word ≡ Some n
count_again n word h =
    let low = h.0.0 in
    let high = h.0.1 in
    ap count_of h.1
    ∙ ap count_within (decimal_of-Decimal n (decimal n) (Decimal-decimal n (omega arith)))
    ∙ cond-true (nat_le 1 n && nat_le n 99999) (Some n) None (and_from (nat_le 1 n) (nat_le n 99999) (le-leb 1 n low) (le-leb n 99999 high))

count_whole : (n : ℕ) (word : Bytes) → EncodesCount n word → no_space word ≡ true
count_whole n word h =
    let high = h.0.1 in
    ap no_space h.1 ∙ no_space-Decimal n (decimal n) (Decimal-decimal n (omega arith))

reads_count : ReadsWord count_of EncodesCount
reads_count = record { found = (λ word n e. within_found word (decimal_of word) n refl e); again = count_again; whole = count_whole }

count_at : Reads (word_at count_of) EncodesCount
count_at = reads_word count_of EncodesCount reads_count

with_count_found : (line : Bytes) (p : Parsed ℕ) (turn : ℕ × ℕ) → word_at count_of line ≡ p → with_count p ≡ Some turn → EncodesTurn line turn
with_count_found line None turn is e = absurd (cc)
with_count_found line (Some p) turn is e = by_rest p.0 p.1 (count_at.found line p.0 p.1 is) e
  where
    by_rest : (pid : ℕ) (rest : Bytes) → (word : Bytes) × EncodesCount pid word × (line ≡ word ++ rest) → cond (is_empty rest) (Some (pid, 1)) (option_map (λ n. (pid, n)) (one_argument (word_at count_of) rest)) ≡ Some turn → EncodesTurn line turn
    by_rest pid [] h k =
        let alone : line ≡ decimal pid = h.2 ∙ append-nil h.0 ∙ h.1.1 in
        let here : EncodesTurn line (pid, 1) = (h.1.0, (omega arith, omega arith), inl (alone, refl)) in
        subst (EncodesTurn line) (same_Some (pid, 1) turn k) here
    by_rest pid (b ∷ bs) h k =
        let count = mapped_found (λ n. (pid, n)) (one_argument (word_at count_of) (b ∷ bs)) turn k in
        let word = one_word_found (word_at count_of) EncodesCount count_at (b ∷ bs) count.0 count.1 in
        let both : line ≡ decimal pid ++ 32 ∷ decimal count.0 = h.2 ∙ ap (λ w. w ++ b ∷ bs) h.1.1 ∙ ap (λ r. decimal pid ++ r) (word.2 ∙ ap (λ w. 32 ∷ w) word.1.1) in
        let here : EncodesTurn line (pid, count.0) = (h.1.0, word.1.0, inr both) in
        subst (EncodesTurn line) count.2 here

pub EncodesTurn-turn_of : (line : Bytes) (turn : ℕ × ℕ) → turn_of line ≡ Some turn → EncodesTurn line turn
EncodesTurn-turn_of line turn e = with_count_found line (word_at count_of line) turn refl e

pub turn_of-EncodesTurn : (line : Bytes) (turn : ℕ × ℕ) → EncodesTurn line turn → turn_of line ≡ Some turn
turn_of-EncodesTurn line turn (pid, count, inl alone) =
    ap turn_of (alone.0 ∙ sym (append-nil (decimal turn.0)))
    ∙ ap with_count (count_at.again turn.0 (decimal turn.0) [] (pid, refl) tt)
    ∙ ap (λ n. Some (turn.0, n)) (sym alone.1)
turn_of-EncodesTurn line turn (pid, count, inr both) =
    ap turn_of both
    ∙ ap with_count (count_at.again turn.0 (decimal turn.0) (32 ∷ decimal turn.1) (pid, refl) refl)
    ∙ ap (option_map (λ n. (turn.0, n))) (one_word_again (word_at count_of) EncodesCount count_at turn.1 (decimal turn.1) (count, refl))

-- ---- lines

abbrev Outcome : Type 0
Outcome = Result Schedule ScheduleFault

onto_ok : (turn : ℕ × ℕ) (r : Outcome) (s : Schedule) → onto_schedule turn r ≡ Ok s → (q : Schedule) × (r ≡ Ok q) × (turn ∷ q ≡ s)
onto_ok turn (Ok q) s e = (q, refl, let same : turn ∷ q ≡ s = cc in same)
onto_ok turn (Err f) s e = absurd (cc)

onto_err : (turn : ℕ × ℕ) (r : Outcome) (f : ScheduleFault) → onto_schedule turn r ≡ Err f → r ≡ Err f
onto_err turn (Ok q) f e = absurd (cc)
onto_err turn (Err g) f e = e

line_ok : (n : ℕ) (line : Bytes) (o : Option (ℕ × ℕ)) (rest : Outcome) (s : Schedule) → turn_of line ≡ o → or_schedule_line n o rest ≡ Ok s
    → (turn : ℕ × ℕ) × (q : Schedule) × EncodesTurn line turn × (rest ≡ Ok q) × (turn ∷ q ≡ s)
line_ok n line (Some turn) rest s is e = let more = onto_ok turn rest s e in (turn, more.0, EncodesTurn-turn_of line turn is, more.1, more.2)
line_ok n line None rest s is e = absurd (cc)

ok_found : (lines : List Bytes) (n : ℕ) (s : Schedule) → n ≤ 65537 → schedule_from lines n ≡ Ok s → EncodeTurns lines s × (length lines + n ≤ 65537)
ok_found [] n s h e = (subst (EncodeTurns []) (let same : [] ≡ s = cc in same) tt, omega arith)
ok_found (line ∷ lines) n s h e =
    cond_both (n == 65537) (Err (Line 65537)) (or_schedule_line n (turn_of line) (schedule_from lines (suc n))) (λ r. r ≡ Ok s → EncodeTurns (line ∷ lines) s × (suc (length lines) + n ≤ 65537))
    (λ is k. absurd (cc))
    (λ is k.
    let other = eqb-false n 65537 is in
    let parts = line_ok n line (turn_of line) (schedule_from lines (suc n)) s refl k in
    let more = ok_found lines (suc n) parts.1 (omega arith) parts.3 in
    let bound = more.1 in
    (subst (EncodeTurns (line ∷ lines)) parts.4 (parts.2, more.0), omega arith)) e

ok_again : (lines : List Bytes) (n : ℕ) (s : Schedule) → EncodeTurns lines s → length lines + n ≤ 65537 → schedule_from lines n ≡ Ok s
ok_again [] n [] h fits = refl
ok_again [] n (turn ∷ s) h fits = absurd h
ok_again (line ∷ lines) n [] h fits = absurd h
ok_again (line ∷ lines) n (turn ∷ s) h fits =
    cond-false (n == 65537) (Err (Line 65537)) (or_schedule_line n (turn_of line) (schedule_from lines (suc n))) (ne_eqb n 65537 (λ e. omega arith))
    ∙ ap (λ o. or_schedule_line n o (schedule_from lines (suc n))) (turn_of-EncodesTurn line turn h.0)
    ∙ ap (onto_schedule turn) (ok_again lines (suc n) s h.1 (omega arith))

-- ---- the first invalid line

abbrev IsError : ℕ → Bytes → Type 0
IsError m line = ((m ≤ 65536) × ((turn : ℕ × ℕ) → EncodesTurn line turn → ⊥)) ⊎ (m ≡ 65537)

record FirstInvalid (lines : List Bytes) (n m : ℕ) : Type 0 where
  front : List Bytes
  line : Bytes
  rest : List Bytes
  schedule : Schedule
  whole : lines ≡ front ++ line ∷ rest
  number : m ≡ length front + n
  before : EncodeTurns front schedule
  fault : IsError m line

first_here : (line : Bytes) (lines : List Bytes) (n m : ℕ) → m ≡ n → IsError m line → FirstInvalid (line ∷ lines) n m
first_here line lines n m is h = record { front = []; line = line; rest = lines; schedule = []; whole = refl; number = (omega arith); before = tt; fault = h }

first_later : (line : Bytes) (turn : ℕ × ℕ) (lines : List Bytes) (n m : ℕ) → EncodesTurn line turn → FirstInvalid lines (suc n) m → FirstInvalid (line ∷ lines) n m
first_later line turn lines n m encodes w = record {
  front = line ∷ w.front;
  line = w.line;
  rest = w.rest;
  schedule = turn ∷ w.schedule;
  whole = ap (λ ls. line ∷ ls) w.whole;
  number = (let e = w.number in omega arith);
  before = (encodes, w.before);
  fault = w.fault;
}

line_err : (n m : ℕ) (line : Bytes) (lines : List Bytes) → n ≤ 65536 → (o : Option (ℕ × ℕ)) (rest : Outcome) → turn_of line ≡ o → or_schedule_line n o rest ≡ Err (Line m)
    → (rest ≡ Err (Line m) → FirstInvalid lines (suc n) m) → FirstInvalid (line ∷ lines) n m
line_err n m line lines h (Some turn) rest is e onward = first_later line turn lines n m (EncodesTurn-turn_of line turn is) (onward (onto_err turn rest (Line m) e))
line_err n m line lines h None rest is e onward =
    let at : n ≡ m = cc in
    first_here line lines n m (sym at) (inl (omega arith, λ turn encodes. let f : None ≡ Some turn = sym is ∙ turn_of-EncodesTurn line turn encodes in absurd (cc)))

err_found : (lines : List Bytes) (n m : ℕ) → n ≤ 65537 → schedule_from lines n ≡ Err (Line m) → FirstInvalid lines n m
err_found [] n m h e = absurd (cc)
err_found (line ∷ lines) n m h e =
    cond_both (n == 65537) (Err (Line 65537)) (or_schedule_line n (turn_of line) (schedule_from lines (suc n))) (λ r. r ≡ Err (Line m) → FirstInvalid (line ∷ lines) n m)
    (λ is k.
    let at : 65537 ≡ m = cc in
    let here : n ≡ 65537 = eqb-true n 65537 is in
    first_here line lines n m (omega arith) (inr (sym at)))
    (λ is k.
    let other = eqb-false n 65537 is in
    let small : n ≤ 65536 = omega arith in
    line_err n m line lines small (turn_of line) (schedule_from lines (suc n)) refl k (λ j. err_found lines (suc n) m (omega arith) j)) e

none_where_nothing : (line : Bytes) (o : Option (ℕ × ℕ)) → turn_of line ≡ o → ((turn : ℕ × ℕ) → EncodesTurn line turn → ⊥) → o ≡ None
none_where_nothing line None is h = refl
none_where_nothing line (Some turn) is h = absurd (h turn (EncodesTurn-turn_of line turn is))

err_here : (line : Bytes) (rest : List Bytes) (n : ℕ) → IsError n line → schedule_from (line ∷ rest) n ≡ Err (Line n)
err_here line rest n (inl h) =
    cond-false (n == 65537) (Err (Line 65537)) (or_schedule_line n (turn_of line) (schedule_from rest (suc n))) (ne_eqb n 65537 (λ e. let small = h.0 in omega arith))
    ∙ ap (λ o. or_schedule_line n o (schedule_from rest (suc n))) (none_where_nothing line (turn_of line) refl h.1)
err_here line rest n (inr h) =
    cond-true (n == 65537) (Err (Line 65537)) (or_schedule_line n (turn_of line) (schedule_from rest (suc n))) (eq-eqb n 65537 h)
    ∙ ap (λ k. Err (Line k)) (sym h)

err_again : (front : List Bytes) (line : Bytes) (rest : List Bytes) (n m : ℕ) (s : Schedule) → EncodeTurns front s → m ≡ length front + n → m ≤ 65537 → IsError m line
    → schedule_from (front ++ line ∷ rest) n ≡ Err (Line m)
err_again [] line rest n m s h is fits fault =
    let at : n ≡ m = omega arith in
    subst (λ k. schedule_from (line ∷ rest) k ≡ Err (Line m)) (sym at) (err_here line rest m fault)
err_again (f ∷ front) line rest n m [] h is fits fault = absurd h
err_again (f ∷ front) line rest n m (turn ∷ s) h is fits fault =
    cond-false (n == 65537) (Err (Line 65537)) (or_schedule_line n (turn_of f) (schedule_from (front ++ line ∷ rest) (suc n))) (ne_eqb n 65537 (λ e. omega arith))
    ∙ ap (λ o. or_schedule_line n o (schedule_from (front ++ line ∷ rest) (suc n))) (turn_of-EncodesTurn f turn h.0)
    ∙ ap (onto_schedule turn) (err_again front line rest (suc n) m s h.1 (omega arith) fits fault)

error_within : (m : ℕ) (line : Bytes) → IsError m line → m ≤ 65537
error_within m line (inl h) = let small = h.0 in omega arith
error_within m line (inr h) = omega arith

or_line_memory : (n : ℕ) (o : Option (ℕ × ℕ)) (rest : Outcome) → rest ≢ Err Memory → or_schedule_line n o rest ≢ Err Memory
or_line_memory n (Some turn) rest h e = h (onto_err turn rest Memory e)
or_line_memory n None rest h e = absurd (cc)

no_memory_from : (lines : List Bytes) (n : ℕ) → schedule_from lines n ≢ Err Memory
no_memory_from [] n e = absurd (cc)
no_memory_from (line ∷ lines) n e = cond_both (n == 65537) (Err (Line 65537)) (or_schedule_line n (turn_of line) (schedule_from lines (suc n))) (λ r. r ≡ Err Memory → ⊥)
    (λ is k. absurd (cc))
    (λ is k. or_line_memory n (turn_of line) (schedule_from lines (suc n)) (no_memory_from lines (suc n)) k) e

-- ---- lines of a schedule, and texts

pub schedule_found : (lines : List Bytes) (s : Schedule) → schedule_of_lines lines ≡ Ok s → EncodeSchedule lines s
schedule_found lines s e =
    let found = ok_found lines 1 s (omega arith) e in
    let bound = found.1 in
    (omega arith, found.0)

pub schedule_again : (lines : List Bytes) (s : Schedule) → EncodeSchedule lines s → schedule_of_lines lines ≡ Ok s
schedule_again lines s h = let fits = h.0 in ok_again lines 1 s h.1 (omega arith)

pub IsFirstNoTurn-schedule : (lines : List Bytes) (n : ℕ) → schedule_of_lines lines ≡ Err (Line n) → IsFirstNoTurn lines n
IsFirstNoTurn-schedule lines n e =
    let w = err_found lines 1 n (omega arith) e in (w.front, w.line, w.rest, w.schedule, w.whole, w.number, w.before, w.fault)

pub schedule-IsFirstNoTurn : (lines : List Bytes) (n : ℕ) → IsFirstNoTurn lines n → schedule_of_lines lines ≡ Err (Line n)
schedule-IsFirstNoTurn lines n h =
    ap schedule_of_lines h.4 ∙ err_again h.0 h.1 h.2 1 n h.3 h.6 h.5 (error_within n h.1 h.7) h.7

pub no_memory_schedule : (lines : List Bytes) → schedule_of_lines lines ≢ Err Memory
no_memory_schedule lines e = no_memory_from lines 1 e

pub EncodesSchedule-read : (bytes : Bytes) (s : Schedule) → read_schedule bytes ≡ Ok s → EncodesSchedule bytes s
unfolding read_schedule
EncodesSchedule-read bytes s e = (lines_of bytes, HasLines-lines_of bytes, schedule_found (lines_of bytes) s e)

pub read-EncodesSchedule : (bytes : Bytes) (s : Schedule) → EncodesSchedule bytes s → read_schedule bytes ≡ Ok s
unfolding read_schedule
read-EncodesSchedule bytes s h = ap schedule_of_lines (lines_from_relation bytes h.0 h.1) ∙ schedule_again h.0 s h.2
