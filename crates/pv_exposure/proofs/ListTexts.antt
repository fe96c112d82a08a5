-- Texts of lists, element by element.
use Rattle.std.proofs.Common.{◌≡◌, ◌∙◌, sym, ap, ap₂, ℕ, zero, suc, ◌+◌, ◌<◌, ◌≤◌, ◌||◌, Bool, true, false, cond, if◌then◌else◌, ◌==◌, bytes_eq, List, [], ◌∷◌, ◌++◌, length, take, get_or, map, flat_map, filter, append_assoc, append-nil, Option, Some, refl, arith}
use Rattle.std.specs.List.{list_any}
use Rattle.std.proofs.lemmas.Bool.{eq-eqb}
use Rattle.std.proofs.lemmas.Grind.{flat_map-append}
use Rattle.std.proofs.lemmas.List.{map-append, take_more}
use Rattle.std.proofs.lemmas.List.Elements.{filter-append}
use Rattle.std.proofs.lemmas.List.Folds.{list_any-append}
use Rattle.pv_model.specs.Machine.{elements_with_new_keys, AnswerLine, answer_bytes, answer_line_bytes, counted_from, first_of, Numbers, Bytes, Tree}
use Rattle.pv_model.specs.Answers.Observed.{with_equal_key}
use Rattle.pv_exposure.specs.Collected.{Exposed, Recorded, all_recorded_lines, recorded_finding_lines, recorded_lines_by, last_recorded, lines_of_exposed, ranges_recorded}
use Rattle.pv_model_questions.specs.declared.finding_kind.FindingKind.{FindingKind}
use Rattle.pv_model_questions.specs.Exposure.{safe_line}
use Rattle.pv_exposure.specs.Stored.{all_recorded, first_at, recorded_in, recorded_of_file}
use Rattle.pv_exposure.specs.declared.findings.StoredFinding.{StoredFinding}

-- one more element
pub one-more : {X Y : Type 0} (f : X → List Y) (xs : List X) (start : List Y) (i : ℕ) (x d : X) (before after : List Y) → i < length xs → get_or xs i d ≡ x → before ≡ start ++ flat_map f (take i xs)
    → after ≡ before ++ f x → after ≡ start ++ flat_map f (take (i + 1) xs)
one-more {Y = Y} f xs start i x d before after within at was is =
    is ∙ ap (λ (ys : List Y). ys ++ f x) was ∙ append_assoc start (flat_map f (take i xs)) (f x)
    ∙ ap (λ (ys : List Y). start ++ ys)
    (sym (ap (flat_map f) (take_more xs i d within ∙ ap (λ y. take i xs ++ y ∷ []) at) ∙ flat_map-append f (take i xs) (x ∷ [])
    ∙ ap (λ (ys : List Y). flat_map f (take i xs) ++ ys) (append-nil (f x))))

pub take-past : {X : Type 0} (xs : List X) (i : ℕ) → length xs ≤ i → take i xs ≡ xs
take-past [] zero past = refl
take-past [] (suc i) past = refl
take-past (x ∷ xs) zero past = absurd (omega arith)
take-past {X = X} (x ∷ xs) (suc i) past = ap (λ (ys : List X). x ∷ ys) (take-past xs i (omega arith))

pub all-done : {X Y : Type 0} (f : X → List Y) (xs : List X) (start : List Y) (i : ℕ) (now : List Y) → length xs ≤ i → now ≡ start ++ flat_map f (take i xs) → now ≡ start ++ flat_map f xs
all-done f xs start i now past is = is ∙ ap (λ ys. start ++ flat_map f ys) (take-past xs i past)

pub filter-flat : (p : ℕ → Bool) (ns : List ℕ) → flat_map (λ n. filter p (n ∷ [])) ns ≡ filter p ns
filter-flat p [] = refl
filter-flat p (n ∷ ns) = ap (λ (ms : List ℕ). filter p (n ∷ []) ++ ms) (filter-flat p ns) ∙ sym (filter-append p (n ∷ []) ns)

-- ---- the findings of a file text

pub lines-flat : (file : Bytes) (ls : List StoredFinding) → flat_map (λ l. map (λ k. k.line) (recorded_of_file file (recorded_in l ∷ []))) ls ≡ map (λ k. k.line) (recorded_of_file file (all_recorded ls))
lines-flat file [] = refl
lines-flat file (l ∷ ls) =
    ap (λ (ns : List ℕ). map (λ k. k.line) (recorded_of_file file (recorded_in l ∷ [])) ++ ns) (lines-flat file ls)
    ∙ sym (ap (map (λ k. k.line)) (filter-append (λ k. bytes_eq k.file file) (recorded_in l ∷ []) (all_recorded ls)) ∙ map-append (λ k. k.line) (recorded_of_file file (recorded_in l ∷ [])) (recorded_of_file file (all_recorded ls)))

module _ (file : Bytes) (line : ℕ) (l : StoredFinding) (ls : List StoredFinding) where
  abbrev first : List Recorded → Option Recorded
  first ks = first_at line (recorded_of_file file ks)

  pub first-here : bytes_eq l.file.items file ≡ true → l.line ≡ line → first (all_recorded (l ∷ ls)) ≡ Some (recorded_in l)
  first-here same at =
      ap (λ b. first_at line (cond b (recorded_in l ∷ recorded_of_file file (all_recorded ls)) (recorded_of_file file (all_recorded ls)))) same
      ∙ ap (λ b. first_of (cond b (recorded_in l ∷ filter (λ k. k.line == line) (recorded_of_file file (all_recorded ls))) (filter (λ k. k.line == line) (recorded_of_file file (all_recorded ls)))))
      (eq-eqb l.line line at)

  pub first-later : bytes_eq l.file.items file ≡ false → first (all_recorded (l ∷ ls)) ≡ first (all_recorded ls)
  first-later other = ap (λ b. first_at line (cond b (recorded_in l ∷ recorded_of_file file (all_recorded ls)) (recorded_of_file file (all_recorded ls)))) other

  pub first-elsewhere : (l.line == line) ≡ false → first (all_recorded (l ∷ ls)) ≡ first (all_recorded ls)
  first-elsewhere other = by (bytes_eq l.file.items file)
    where
      by : (b : Bool) → first_at line (cond b (recorded_in l ∷ recorded_of_file file (all_recorded ls)) (recorded_of_file file (all_recorded ls))) ≡ first (all_recorded ls)
      by true = ap (λ b. first_of (cond b (recorded_in l ∷ filter (λ k. k.line == line) (recorded_of_file file (all_recorded ls))) (filter (λ k. k.line == line) (recorded_of_file file (all_recorded ls))))) other
      by false = refl

-- ---- the findings of all file texts

abbrev file_in : Recorded → Bytes
file_in k = k.file

new-same : {X : Type 0} (key : X → Numbers) (had seen : List Numbers) → ((n : Numbers) → list_any (bytes_eq n) had ≡ list_any (bytes_eq n) seen) → (xs : List X) → elements_with_new_keys key had xs ≡ elements_with_new_keys key seen xs
new-same key had seen same [] = refl
new-same {X = X} key had seen same (x ∷ xs) =
    ap₂ (λ b (ys : List X). if b then ys else x ∷ elements_with_new_keys key (key x ∷ had) xs) (same (key x)) (new-same key had seen same xs)
    ∙ ap (λ (ys : List X). if list_any (bytes_eq (key x)) seen then elements_with_new_keys key seen xs else x ∷ ys)
    (new-same key (key x ∷ had) (key x ∷ seen) (λ n. ap (λ b. bytes_eq n (key x) || b) (same n)) xs)

module _ (kind : FindingKind) (ks : List Recorded) where
  abbrev pub lines_of_text : Bytes → Bytes
  lines_of_text file = answer_bytes (recorded_lines_by kind (ranges_recorded (recorded_of_file file ks)) (last_recorded (recorded_of_file file ks)))

  -- the lines of the file texts that were not seen
  abbrev pub lines_left : List Bytes → List Recorded → Bytes
  lines_left seen ls = flat_map (λ k. lines_of_text k.file) (elements_with_new_keys file_in seen ls)

  pub left-next : (seen : List Bytes) (k : Recorded) (ls : List Recorded)
      → lines_left seen (k ∷ ls)
      ≡ (if list_any (bytes_eq k.file) seen then [] else lines_of_text k.file) ++ lines_left (if list_any (bytes_eq k.file) seen then seen else seen ++ k.file ∷ []) ls
  left-next seen k ls = by (list_any (bytes_eq k.file) seen)
    where
      swap : (a b : Bool) → (a || b) ≡ (b || (a || false))
      swap true true = refl
      swap true false = refl
      swap false true = refl
      swap false false = refl

      by : (b : Bool) → flat_map (λ k. lines_of_text k.file) (if b then elements_with_new_keys file_in seen ls else k ∷ elements_with_new_keys file_in (k.file ∷ seen) ls)
          ≡ (if b then [] else lines_of_text k.file) ++ lines_left (if b then seen else seen ++ k.file ∷ []) ls
      by true = refl
      by false =
          ap (λ (zs : List Recorded). lines_of_text k.file ++ flat_map (λ k. lines_of_text k.file) zs)
          (new-same file_in (k.file ∷ seen) (seen ++ k.file ∷ [])
          (λ n. swap (bytes_eq n k.file) (list_any (bytes_eq n) seen) ∙ sym (list_any-append (bytes_eq n) seen (k.file ∷ []))) ls)

  flat-lines : (zs : List Recorded) → flat_map (λ k. lines_of_text k.file) zs ≡ answer_bytes (flat_map (recorded_finding_lines kind) (map (with_equal_key file_in ks) zs))
  flat-lines [] = refl
  flat-lines (z ∷ zs) =
      ap (λ (bs : Bytes). lines_of_text z.file ++ bs) (flat-lines zs)
      ∙ sym (flat_map-append answer_line_bytes (recorded_finding_lines kind (with_equal_key file_in ks z)) (flat_map (recorded_finding_lines kind) (map (with_equal_key file_in ks) zs)))

  pub all-left : lines_left [] ks ≡ answer_bytes (all_recorded_lines kind ks)
  all-left = flat-lines (elements_with_new_keys file_in [] ks)

-- ---- safe files, and programs

pub safe-flat : (t : Tree) (ns : List ℕ) → flat_map (λ n. answer_line_bytes (safe_line t n)) ns ≡ answer_bytes (map (safe_line t) ns)
safe-flat t [] = refl
safe-flat t (n ∷ ns) = ap (λ (bs : Bytes). answer_line_bytes (safe_line t n) ++ bs) (safe-flat t ns)

pub bytes-both : (ls ms : List AnswerLine) → answer_bytes (ls ++ ms) ≡ answer_bytes ls ++ answer_bytes ms
bytes-both ls ms = flat_map-append answer_line_bytes ls ms

-- the bytes of the programs from one on
abbrev pub bytes_from : List Bytes → Tree → Bool → ℕ → List Exposed → Bytes
bytes_from files t complete k es = answer_bytes (flat_map (lines_of_exposed files t complete) (counted_from k es))

pub from-next : (files : List Bytes) (t : Tree) (complete : Bool) (k : ℕ) (e : Exposed) (es : List Exposed)
    → bytes_from files t complete k (e ∷ es) ≡ answer_bytes (lines_of_exposed files t complete (k, e)) ++ bytes_from files t complete (k + 1) es
from-next files t complete k e es = bytes-both (lines_of_exposed files t complete (k, e)) (flat_map (lines_of_exposed files t complete) (counted_from (k + 1) es))

-- the line of a program, and then its other lines
pub three : (old first second new line : Bytes) (ls ms : List AnswerLine) → first ≡ old ++ line → second ≡ first ++ answer_bytes ls → new ≡ second ++ answer_bytes ms → new ≡ old ++ (line ++ answer_bytes (ls ++ ms))
three old first second new line ls ms a b c =
    c ∙ ap (λ (bs : Bytes). bs ++ answer_bytes ms) (b ∙ ap (λ (bs : Bytes). bs ++ answer_bytes ls) a ∙ append_assoc old line (answer_bytes ls))
    ∙ append_assoc old (line ++ answer_bytes ls) (answer_bytes ms)
    ∙ ap (λ (bs : Bytes). old ++ bs) (append_assoc line (answer_bytes ls) (answer_bytes ms) ∙ ap (λ (bs : Bytes). line ++ bs) (sym (bytes-both ls ms)))

-- four lists of lines in sequence
module _ (a b c d : List AnswerLine) where
  four-bytes : answer_bytes (a ++ (b ++ (c ++ (d ++ [])))) ≡ answer_bytes a ++ (answer_bytes b ++ (answer_bytes c ++ answer_bytes d))
  four-bytes =
      bytes-both a (b ++ (c ++ (d ++ [])))
      ∙ ap (λ (bs : Bytes). answer_bytes a ++ bs)
      (bytes-both b (c ++ (d ++ []))
      ∙ ap (λ (bs : Bytes). answer_bytes b ++ bs) (bytes-both c (d ++ []) ∙ ap (λ (ls : List AnswerLine). answer_bytes c ++ answer_bytes ls) (append-nil d)))

  pub four : (old p q r new : Bytes) → p ≡ old ++ answer_bytes a → q ≡ p ++ answer_bytes b → r ≡ q ++ answer_bytes c → new ≡ r ++ answer_bytes d
      → new ≡ old ++ answer_bytes (a ++ (b ++ (c ++ (d ++ []))))
  four old p q r new one two three last =
      last ∙ ap (λ (bs : Bytes). bs ++ answer_bytes d) (three ∙ ap (λ (bs : Bytes). bs ++ answer_bytes c) (two ∙ ap (λ (bs : Bytes). bs ++ answer_bytes b) one))
      ∙ append_assoc ((old ++ answer_bytes a) ++ answer_bytes b) (answer_bytes c) (answer_bytes d)
      ∙ append_assoc (old ++ answer_bytes a) (answer_bytes b) (answer_bytes c ++ answer_bytes d)
      ∙ append_assoc old (answer_bytes a) (answer_bytes b ++ (answer_bytes c ++ answer_bytes d))
      ∙ ap (λ (bs : Bytes). old ++ bs) (sym four-bytes)
