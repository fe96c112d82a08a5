-- The text of a comparison.
use Rattle.std.proofs.Common.{◌≡◌, ◌≤◌, ◌∙◌, sym, subst, ap, ap₂, ℕ, Bool, true, false, List, [], ◌∷◌, ◌++◌, length, map, flat_map, append_assoc, append-nil, codes, Option, None, Some, refl}
use Rattle.std.proofs.lemmas.Grind.{flat_map-append}
use Rattle.pv_compare.specs.Answering.{compared_by, compared_if, compared_of, difference_text, result_text, side_line}
use Rattle.pv_compare.specs.Pairs.{IsCompared, IsDifference, PairsFound, first_pair, found_in, pairs_of}
use Rattle.pv_compare.specs.Plan.{compared_pairs}
use Rattle.pv_compare.proofs.PlannedComparison.{comparison-planned}
use Rattle.pv_compare.specs.declared.differences.Difference.{Difference}
use Rattle.pv_compare.specs.declared.pairs.Pairs.{Pairs}
use Rattle.pv_model.specs.Machine.{Comparison, PairMove, alike, comparison, different, witness_text, AnswerLine, answer_bytes, answer_line, answer_line_bytes, of_trace, Bytes, program_of, State, Line, trace_bytes}
use Rattle.pv_model.specs.Answers.Compare.{alike_text, comparison_lines, pairs_line, side_lines}
use Rattle.pv_model.specs.Trace.{line_bytes}

trace-lines : (ls : List Line) → answer_bytes (map of_trace ls) ≡ trace_bytes ls
trace-lines [] = refl
trace-lines (l ∷ ls) = ap (λ (bs : Bytes). line_bytes l ++ bs) (trace-lines ls)

-- the line SIDE, and the lines of a step
abbrev side_text : (side lines : Bytes) → Bytes
side_text side lines = side_line side ++ lines

abbrev by_text : ℕ → List ℕ → Bytes
by_text pid witness = answer_line_bytes (answer_line pid (codes "BY") (witness_text witness))

-- the lines of a step that differs, with those of each side together
abbrev text_by_sides : (by first second done : Bytes) → Bytes
text_by_sides by first second done = by ++ (side_text (codes "first") first ++ (side_text (codes "second") second ++ done))

grouped : (a b c d e f : Bytes) → a ++ b ++ c ++ d ++ e ++ f ≡ a ++ ((b ++ c) ++ ((d ++ e) ++ f))
grouped a b c d e f =
    ap (λ (bs : Bytes). bs ++ f) (append_assoc (a ++ b ++ c) d e)
    ∙ append_assoc (a ++ b ++ c) (d ++ e) f
    ∙ ap (λ (bs : Bytes). bs ++ ((d ++ e) ++ f)) (append_assoc a b c)
    ∙ append_assoc a (b ++ c) ((d ++ e) ++ f)

by-sides : (d : Difference) (pairs : ℕ) → difference_text d pairs ≡ text_by_sides (by_text d.pid d.witness.items) d.first.items d.second.items (answer_line_bytes (pairs_line pairs (codes "different")))
by-sides d pairs =
    grouped (by_text d.pid d.witness.items) (side_line (codes "first")) d.first.items (side_line (codes "second")) d.second.items (answer_line_bytes (pairs_line pairs (codes "different")))

side-is : (side : Bytes) (ls : List Line) → answer_bytes (side_lines side ls) ≡ side_text side (trace_bytes ls)
side-is side ls = ap (λ (bs : Bytes). answer_line_bytes (answer_line 0 (codes "SIDE") side) ++ bs) (trace-lines ls)

-- the lines of both sides and the last line
sides-are : (first second : List Line) (done : AnswerLine)
    → side_text (codes "first") (trace_bytes first) ++ (side_text (codes "second") (trace_bytes second) ++ answer_line_bytes done)
    ≡ answer_bytes (side_lines (codes "first") first ++ side_lines (codes "second") second ++ done ∷ [])
sides-are first second done =
    let one : List AnswerLine = side_lines (codes "first") first in
    let other : List AnswerLine = side_lines (codes "second") second in
    ap₂ (λ (a b : Bytes). a ++ (b ++ answer_line_bytes done)) (sym (side-is (codes "first") first)) (sym (side-is (codes "second") second))
    ∙ ap (λ (bs : Bytes). answer_bytes one ++ (answer_bytes other ++ bs)) (sym (append-nil (answer_line_bytes done)))
    ∙ ap (λ (bs : Bytes). answer_bytes one ++ bs) (sym (flat_map-append answer_line_bytes other (done ∷ [])))
    ∙ sym (flat_map-append answer_line_bytes one (other ++ done ∷ []))
    ∙ ap answer_bytes (sym (append_assoc one other (done ∷ [])))

-- the lines of a step that differs
difference-is : (d : Difference) (m : PairMove) (pairs : ℕ) → IsDifference d m → difference_text d pairs ≡ answer_bytes (comparison_lines (different m pairs))
unfolding comparison_lines
difference-is d m pairs it =
    let done : AnswerLine = pairs_line pairs (codes "different") in
    by-sides d pairs
    ∙ ap₂ (λ (pid : ℕ) (witness : List ℕ). text_by_sides (by_text pid witness) d.first.items d.second.items (answer_line_bytes done)) it.pid it.witness
    ∙ ap₂ (λ (first second : Bytes). text_by_sides (by_text m.pid m.witness) first second (answer_line_bytes done)) it.first it.second
    ∙ ap (λ (bs : Bytes). by_text m.pid m.witness ++ bs) (sides-are m.first.lines m.second.lines done)

-- the search from the first states gives the comparison of the definition
pub search-is : (limit : ℕ) (old new : Pairs) (s t : State) (found : Option Difference) → 1 ≤ limit → pairs_of old ≡ first_pair s t
    → IsCompared limit (compared_pairs program_of limit limit 0 (found_in (pairs_of old)) old.complete) new found → IsCompared limit (comparison program_of limit s t) new found
search-is limit old new s t found some is it =
    subst (λ (c : Comparison). IsCompared limit c new found) (comparison-planned program_of limit s t some)
    (subst (λ (p : PairsFound). IsCompared limit (compared_pairs program_of limit limit 0 (found_in p) p.complete) new found) is it)

-- the output for the result of a search is the text of its comparison
pub result-is : (limit : ℕ) (c : Comparison) (new : Pairs) (found : Option Difference) (pairs : ℕ) (complete : Bool) → IsCompared limit c new found
    → pairs ≡ length new.witnesses → complete ≡ new.complete → result_text pairs complete found ≡ answer_bytes (comparison_lines c)
unfolding comparison_lines
result-is limit c new None pairs complete it long all =
    ap₂ (λ n b. answer_line_bytes (pairs_line n (alike_text b))) long all
    ∙ sym (append-nil (answer_line_bytes (pairs_line (length new.witnesses) (alike_text new.complete))))
    ∙ ap (λ (x : Comparison). answer_bytes (comparison_lines x)) (sym it)
result-is limit c new (Some d) pairs complete it long all =
    ap (difference_text d) long ∙ difference-is d it.0 (length new.witnesses) it.1 ∙ ap (λ (x : Comparison). answer_bytes (comparison_lines x)) (sym it.2)

pub compared-is : (limit : ℕ) (c : Comparison) (new : Pairs) (found : Option Difference) (complete : Bool) → IsCompared limit c new found → complete ≡ new.complete → compared_by complete found ≡ compared_of c
compared-is limit c new None complete it all = ap compared_if all ∙ ap compared_of (sym it)
compared-is limit c new (Some d) complete it all = ap compared_of (sym it.2)
