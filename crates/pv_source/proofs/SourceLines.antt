-- The lines of a source: those with words, and those that belong to a block.
use Rattle.std.proofs.Common.{◌≡◌, ◌≢◌, ◌∙◌, ap, ℕ, suc, ◌+◌, ◌-◌, ◌<◌, Bool, true, false, cond, eqb, List, [], ◌∷◌, ◌++◌, length, take, drop, Option, None, Some, refl, sym, subst, inl, inr, ◌⊎◌, arith, append_assoc}
use Rattle.std.specs.Prelude.{option_map}
use Rattle.std.proofs.Math.Seq.{take-append_seam, drop-append-add}
use Rattle.std.proofs.lemmas.List.{append-nil, length-append, append_cancel_right}
use Rattle.pv_model.specs.Machine.{counted_from, Bytes, onto_first, lines_of, NumberedLine, words_of}
use Rattle.pv_source.specs.declared.lines.Lines.{Lines}
use Rattle.pv_source.specs.Reading.{numbered_text, if_words, first_that_counts, Ends, Takes}
use Rattle.pv_model.specs.Source.Blocks.{lines_up_to}
use Rattle.pv_model.specs.Source.Words.{is_alone}
use Rattle.pv_text.specs.Lines.{IsSplit}

-- ---- lines with words

module _ (n : ℕ) (text line following : Bytes) (split : lines_of text ≡ line ∷ lines_of following) where
  at_first : first_that_counts (numbered_text n text) ≡ if_words n (words_of line) (numbered_text (n + 1) following) (first_that_counts (numbered_text (n + 1) following))
  at_first = ap (λ ls. first_that_counts (counted_from n ls)) split

  pub counts_here : (words : List Bytes) → words ≡ words_of line → words ≢ [] → first_that_counts (numbered_text n text) ≡ Some ((n, words), numbered_text (n + 1) following)
  counts_here [] is some = absurd (some refl)
  counts_here (word ∷ words) is some = at_first ∙ ap (λ ws. if_words n ws (numbered_text (n + 1) following) (first_that_counts (numbered_text (n + 1) following))) (sym is)

  pub counts_later : (words : List Bytes) → words ≡ words_of line → words ≡ [] → first_that_counts (numbered_text n text) ≡ first_that_counts (numbered_text (n + 1) following)
  counts_later words is none = at_first ∙ ap (λ ws. if_words n ws (numbered_text (n + 1) following) (first_that_counts (numbered_text (n + 1) following))) (sym is ∙ none)

pub counts_none : (n : ℕ) (text : Bytes) → lines_of text ≡ [] → first_that_counts (numbered_text n text) ≡ None
counts_none n text none = ap (λ ls. first_that_counts (counted_from n ls)) none

-- ---- lines with their numbers

pub counted-append : {X : Type 0} → (n : ℕ) (xs ys : List X) → counted_from n (xs ++ ys) ≡ counted_from n xs ++ counted_from (n + length xs) ys
counted-append n [] ys = let same : n + 0 ≡ n = omega arith in rw same refl
counted-append n (x ∷ xs) ys =
    let sum : n + 1 + length xs ≡ n + suc (length xs) = omega arith in
    ap (λ ls. (n, x) ∷ ls) (counted-append (n + 1) xs ys ∙ ap (λ m. counted_from (n + 1) xs ++ counted_from m ys) sum)

pub length-counted : {X : Type 0} → (n : ℕ) (xs : List X) → length (counted_from n xs) ≡ length xs
length-counted n [] = refl
length-counted n (x ∷ xs) = ap suc (length-counted (n + 1) xs)

-- ---- the lines of a body

-- the text after a text does not change its lines
abbrev pub IsClosed : Bytes → Type 0
IsClosed front = (x : Bytes) → lines_of (front ++ x) ≡ lines_of front ++ lines_of x

-- a line before some text is a line before every text
pub line_before : (line rest x : Bytes) → lines_of (line ++ 10 ∷ rest) ≡ line ∷ lines_of rest → lines_of (line ++ 10 ∷ x) ≡ line ∷ lines_of x
line_before [] rest x is = refl
line_before (b ∷ line) rest x is = by (eqb b 10) is (line_before line rest x)
  where
    onto_some : (ls : List Bytes) → onto_first b ls ≡ (b ∷ line) ∷ lines_of rest → (ls ≡ line ∷ lines_of rest) ⊎ ((line ≡ []) × (ls ≡ []))
    onto_some [] e = inr (cc, refl)
    onto_some (l ∷ ls) e = inl (cc)

    after_other : (lines_of (line ++ 10 ∷ rest) ≡ line ∷ lines_of rest) ⊎ ((line ≡ []) × (lines_of (line ++ 10 ∷ rest) ≡ []))
        → (lines_of (line ++ 10 ∷ rest) ≡ line ∷ lines_of rest → lines_of (line ++ 10 ∷ x) ≡ line ∷ lines_of x) → onto_first b (lines_of (line ++ 10 ∷ x)) ≡ (b ∷ line) ∷ lines_of x
    after_other (inl same) h = ap (onto_first b) (h same)
    after_other (inr none) h = let some : [] ∷ lines_of rest ≡ [] = ap (λ l. lines_of (l ++ 10 ∷ rest)) (sym none.0) ∙ none.1 in cc

    by : (t : Bool) → cond t ([] ∷ lines_of (line ++ 10 ∷ rest)) (onto_first b (lines_of (line ++ 10 ∷ rest))) ≡ (b ∷ line) ∷ lines_of rest
        → (lines_of (line ++ 10 ∷ rest) ≡ line ∷ lines_of rest → lines_of (line ++ 10 ∷ x) ≡ line ∷ lines_of x)
        → cond t ([] ∷ lines_of (line ++ 10 ∷ x)) (onto_first b (lines_of (line ++ 10 ∷ x))) ≡ (b ∷ line) ∷ lines_of x
    by true e h = cc
    by false e h = after_other (onto_some (lines_of (line ++ 10 ∷ rest)) e) h

-- the invariant of a loop over the lines of a body
pub record IsBodySoFar (text rest : Bytes) (count : ℕ) : Type 0 where
  pub front : Bytes
  pub is : text ≡ front ++ rest
  pub lines : lines_of text ≡ lines_of front ++ lines_of rest
  pub counted : length (lines_of front) ≡ count
  pub open_end : IsClosed front ⊎ (rest ≡ [])

pub IsBodySoFar-start : (text : Bytes) → IsBodySoFar text text 0
IsBodySoFar-start text = record { front = []; is = refl; lines = refl; counted = refl; open_end = inl (λ x. refl) }

module _ (text rest line following : Bytes) (count : ℕ) (split : lines_of rest ≡ line ∷ lines_of following) (preserved : IsBodySoFar text rest count) where
  abbrev ended_line : Bytes
  ended_line = line ++ 10 ∷ []

  with_end : (x : Bytes) → ended_line ++ x ≡ line ++ 10 ∷ x
  with_end x = append_assoc line (10 ∷ []) x

  pushed : (ls : List Bytes) → (ls ++ line ∷ []) ++ lines_of following ≡ ls ++ line ∷ lines_of following
  pushed ls = append_assoc ls (line ∷ []) (lines_of following)

  longer : (ls : List Bytes) → length ls ≡ count → length (ls ++ line ∷ []) ≡ count + 1
  longer ls is = omega (arith, length-append ls (line ∷ []))

  step_closed : rest ≡ line ++ 10 ∷ following → IsClosed preserved.front → IsBodySoFar text following (count + 1)
  step_closed whole closed =
      let here : (x : Bytes) → lines_of (line ++ 10 ∷ x) ≡ line ∷ lines_of x = λ x. line_before line following x (ap lines_of (sym whole) ∙ split) in
      let front' : Bytes = preserved.front ++ ended_line in
      let any : (x : Bytes) → lines_of (front' ++ x) ≡ lines_of preserved.front ++ line ∷ lines_of x =
      λ x. ap lines_of (append_assoc preserved.front ended_line x ∙ ap (λ bs. preserved.front ++ bs) (with_end x)) ∙ closed (line ++ 10 ∷ x) ∙ ap (λ ls. lines_of preserved.front ++ ls) (here x) in
      let alone : lines_of front' ≡ lines_of preserved.front ++ line ∷ [] = ap lines_of (sym (append-nil front')) ∙ any [] in
      record {
        front = front';
        is = preserved.is ∙ ap (λ bs. preserved.front ++ bs) (whole ∙ sym (with_end following)) ∙ sym (append_assoc preserved.front ended_line following);
        lines = preserved.lines ∙ ap (λ ls. lines_of preserved.front ++ ls) split ∙ sym (pushed (lines_of preserved.front)) ∙ ap (λ ls. ls ++ lines_of following) (sym alone);
        counted = ap length alone ∙ longer (lines_of preserved.front) preserved.counted;
        open_end = inl (λ x. any x ∙ sym (append_assoc (lines_of preserved.front) (line ∷ []) (lines_of x)) ∙ ap (λ ls. ls ++ lines_of x) (sym alone));
      }

  step_last : following ≡ [] → IsBodySoFar text following (count + 1)
  step_last none =
      let none_left : lines_of following ≡ [] = ap lines_of none in
      let all : lines_of text ≡ lines_of preserved.front ++ line ∷ [] = preserved.lines ∙ ap (λ ls. lines_of preserved.front ++ ls) (split ∙ ap (λ ls. line ∷ ls) none_left) in
      record {
        front = text;
        is = sym (append-nil text) ∙ ap (λ bs. text ++ bs) (sym none);
        lines = sym (append-nil (lines_of text)) ∙ ap (λ ls. lines_of text ++ ls) (sym none_left);
        counted = ap length all ∙ longer (lines_of preserved.front) preserved.counted;
        open_end = inr none;
      }

  pub IsBodySoFar-step : IsSplit rest line following → IsBodySoFar text following (count + 1)
  IsBodySoFar-step (inr last) = step_last last.1
  IsBodySoFar-step (inl whole) = by preserved.open_end
    where
      by : IsClosed preserved.front ⊎ (rest ≡ []) → IsBodySoFar text following (count + 1)
      by (inl closed) = step_closed whole closed
      by (inr none) = let invalid : line ∷ lines_of following ≡ [] = sym split ∙ ap lines_of none in cc

-- the front is the text up to the rest
pub front_is : (text rest : Bytes) (count : ℕ) (preserved : IsBodySoFar text rest count) → take (length text - length rest) text ≡ preserved.front
front_is text rest count preserved =
    let size : length text - length rest ≡ length preserved.front = omega (arith, ap length preserved.is, length-append preserved.front rest) in
    rw size (ap (take (length preserved.front)) preserved.is ∙ take-append_seam preserved.front rest)

module _ (text rest : Bytes) (n count : ℕ) (preserved : IsBodySoFar text rest count) where
  numbered_parts : numbered_text n text ≡ numbered_text n preserved.front ++ numbered_text (n + count) rest
  numbered_parts =
      ap (counted_from n) preserved.lines ∙ counted-append n (lines_of preserved.front) (lines_of rest)
      ∙ ap (λ k. numbered_text n preserved.front ++ numbered_text (n + k) rest) preserved.counted

  numbered_length : length (numbered_text n preserved.front) ≡ count
  numbered_length = length-counted n (lines_of preserved.front) ∙ preserved.counted

  first_lines : take count (numbered_text n text) ≡ numbered_text n preserved.front
  first_lines =
      ap (take count) numbered_parts
      ∙ subst (λ k. take k (numbered_text n preserved.front ++ numbered_text (n + count) rest) ≡ numbered_text n preserved.front) numbered_length (take-append_seam (numbered_text n preserved.front) (numbered_text (n + count) rest))

  later_lines : (more : ℕ) → drop (count + more) (numbered_text n text) ≡ drop more (numbered_text (n + count) rest)
  later_lines more =
      ap (drop (count + more)) numbered_parts
      ∙ subst (λ k. drop (k + more) (numbered_text n preserved.front ++ numbered_text (n + count) rest) ≡ drop more (numbered_text (n + count) rest)) numbered_length
      (drop-append-add (numbered_text n preserved.front) (numbered_text (n + count) rest) more)

  -- `count` lines are taken
  pub takes : (lines after : Lines) (body : Bytes) → lines.text.now ≡ text → lines.number ≡ n → body ≡ take (length text - length rest) text → after.text.now ≡ rest → after.number ≡ n + count
      → Takes count lines body after
  takes lines after body text_is number_is body_is rest_is next_is =
      let front : body ≡ preserved.front = body_is ∙ front_is text rest count preserved in
      let same : count + 0 ≡ count = omega arith in
      record {
        enough = rw text_is (omega (arith, ap length preserved.lines, length-append (lines_of preserved.front) (lines_of rest), preserved.counted));
        first = rw (text_is, number_is, front) first_lines;
        after = rw (text_is, number_is, rest_is, next_is) (subst (λ k. drop k (numbered_text n text) ≡ numbered_text (n + count) rest) same (later_lines 0));
      }

-- there are fewer lines
pub fewer : (text rest : Bytes) (count most : ℕ) → IsBodySoFar text rest count → lines_of rest ≡ [] → count < most → length (lines_of text) < most
fewer text rest count most preserved none less =
    omega (arith, ap length preserved.lines, length-append (lines_of preserved.front) (lines_of rest), preserved.counted, ap length none)

-- ---- up to a mark

abbrev pub onto_lines : List NumberedLine → Option (List NumberedLine) → Option (List NumberedLine)
onto_lines front o = option_map (λ body. front ++ body) o

-- none of the lines before the rest is the mark
pub record IsUnmarkedSoFar (mark text rest : Bytes) (n k : ℕ) : Type 0 where
  pub count : ℕ
  pub body : IsBodySoFar text rest count
  pub number : k ≡ n + count
  pub unmarked : lines_up_to mark (numbered_text n text) ≡ onto_lines (numbered_text n body.front) (lines_up_to mark (numbered_text k rest))

onto_nothing : (o : Option (List NumberedLine)) → onto_lines [] o ≡ o
onto_nothing None = refl
onto_nothing (Some body) = refl

pub IsUnmarkedSoFar-start : (mark text : Bytes) (n : ℕ) → IsUnmarkedSoFar mark text text n n
unfolding IsBodySoFar-start
IsUnmarkedSoFar-start mark text n = record {
  count = 0;
  body = IsBodySoFar-start text;
  number = omega arith;
  unmarked = sym (onto_nothing (lines_up_to mark (numbered_text n text)));
}

onto_more : (front : List NumberedLine) (line : NumberedLine) (o : Option (List NumberedLine)) → onto_lines front (option_map (λ body. line ∷ body) o) ≡ onto_lines (front ++ line ∷ []) o
onto_more front line None = refl
onto_more front line (Some body) = ap (λ ls. Some ls) (sym (append_assoc front (line ∷ []) body))

module _ (mark text rest line following : Bytes) (n k : ℕ) (split : lines_of rest ≡ line ∷ lines_of following) (preserved : IsUnmarkedSoFar mark text rest n k) where
  here : (marks : Bool) → marks ≡ is_alone mark (words_of line)
      → lines_up_to mark (numbered_text k rest) ≡ cond marks (Some []) (option_map (λ body. (k, line) ∷ body) (lines_up_to mark (numbered_text (k + 1) following)))
  here marks is = ap (λ ls. lines_up_to mark (counted_from k ls)) split ∙ ap (λ t. cond t (Some []) (option_map (λ body. (k, line) ∷ body) (lines_up_to mark (numbered_text (k + 1) following)))) (sym is)

  pub IsUnmarkedSoFar-step : false ≡ is_alone mark (words_of line) → IsSplit rest line following → IsUnmarkedSoFar mark text following n (k + 1)
  IsUnmarkedSoFar-step other bytes =
      let body' = IsBodySoFar-step text rest line following preserved.count split preserved.body bytes in
      let all : lines_of body'.front ≡ lines_of preserved.body.front ++ line ∷ [] = fronts body' in
      record {
        count = preserved.count + 1;
        body = body';
        number = omega (arith, preserved.number);
        unmarked =
            preserved.unmarked ∙ ap (onto_lines (numbered_text n preserved.body.front)) (here false other)
            ∙ onto_more (numbered_text n preserved.body.front) (k, line) (lines_up_to mark (numbered_text (k + 1) following))
            ∙ ap (λ front. onto_lines front (lines_up_to mark (numbered_text (k + 1) following))) (sym (numbers body'.front all));
      }
    where
      fronts : (body' : IsBodySoFar text following (preserved.count + 1)) → lines_of body'.front ≡ lines_of preserved.body.front ++ line ∷ []
      fronts body' = append_cancel_right (lines_of body'.front) (lines_of preserved.body.front ++ line ∷ []) (lines_of following)
          (sym body'.lines ∙ preserved.body.lines ∙ ap (λ ls. lines_of preserved.body.front ++ ls) split ∙ sym (append_assoc (lines_of preserved.body.front) (line ∷ []) (lines_of following)))

      numbers : (front : Bytes) → lines_of front ≡ lines_of preserved.body.front ++ line ∷ [] → numbered_text n front ≡ numbered_text n preserved.body.front ++ (k, line) ∷ []
      numbers front all =
          let at : n + length (lines_of preserved.body.front) ≡ k = omega (arith, preserved.body.counted, preserved.number) in
          ap (counted_from n) all ∙ counted-append n (lines_of preserved.body.front) (line ∷ []) ∙ ap (λ m. numbered_text n preserved.body.front ++ (m, line) ∷ []) at

  -- the mark ends a body
  pub ends : (lines after : Lines) (body : Bytes) → true ≡ is_alone mark (words_of line) → lines.text.now ≡ text → lines.number ≡ n → body ≡ take (length text - length rest) text → after.text.now ≡ following
      → after.number ≡ k + 1 → Ends mark lines body after
  ends lines after body marks text_is number_is body_is rest_is next_is =
      let front : body ≡ preserved.body.front = body_is ∙ front_is text rest preserved.count preserved.body in
      let sum : preserved.count + 1 ≡ suc preserved.count = omega arith in
      let at : n + preserved.count ≡ k = omega (arith, preserved.number) in
      let later : drop (suc preserved.count) (numbered_text n text) ≡ drop 1 (numbered_text k rest) =
      subst (λ c. drop c (numbered_text n text) ≡ drop 1 (numbered_text k rest)) sum
      (later_lines text rest n preserved.count preserved.body 1 ∙ ap (λ m. drop 1 (numbered_text m rest)) at) in
      record {
        before =
            rw (text_is, number_is, front)
            (preserved.unmarked ∙ ap (onto_lines (numbered_text n preserved.body.front)) (here true marks) ∙ ap (λ ls. Some ls) (append-nil (numbered_text n preserved.body.front)));
        after =
            rw (text_is, number_is, rest_is, next_is, front, preserved.body.counted) (later ∙ ap (λ ls. drop 1 (counted_from k ls)) split);
      }

pub unmarked_end : (mark text rest : Bytes) (n k : ℕ) → IsUnmarkedSoFar mark text rest n k → lines_of rest ≡ [] → lines_up_to mark (numbered_text n text) ≡ None
unmarked_end mark text rest n k preserved none =
    preserved.unmarked ∙ ap (λ ls. onto_lines (numbered_text n preserved.body.front) (lines_up_to mark (counted_from k ls))) none
