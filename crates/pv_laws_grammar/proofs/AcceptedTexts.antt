-- A text that the machine accepts denotes itself as a source.
use Rattle.std.proofs.Common.{◌≡◌, ◌≢◌, ◌∙◌, ap, ℕ, zero, suc, ◌+◌, ◌<◌, ◌≤◌, ◌^◌, Bool, true, false, cond, List, [], ◌∷◌, ◌++◌, length, take, drop, Option, None, Some, Result, Ok, Err, refl, sym, subst, inl, inr, ◌⊎◌, arith, append_assoc, le-leb}
use Rattle.std.specs.Prelude.{◌==◌, ◌&&◌, ◌||◌, not, min, map, flat_map, codes, bytes_eq, nat_le, is_err, is_none, option_map}
use Rattle.std.specs.Fmt.{decimal}
use Rattle.std.specs.List.{AllByRecursion, list_all}
use Rattle.std.proofs.Math.Seq.{take-append_seam, drop-append_seam}
use Rattle.std.proofs.lemmas.Bool.{and_parts, eq-eqb, eqb-true, ne_eqb, false_from_ne_true}
use Rattle.std.proofs.lemmas.List.{append-nil, length-append}
use Rattle.std.proofs.lemmas.Slice.Eq.{bytes_eq-Decides}
use Rattle.pv_model.specs.declared.fault.ManifestFault.{ManifestFault}
use Rattle.pv_model.specs.declared.fault.ParseFault.{ParseFault}
use Rattle.pv_model.specs.declared.fault.ParseFault.TheVariants.{Line}
use Rattle.pv_model.specs.declared.fault.ScheduleFault.{ScheduleFault}
use Rattle.pv_model.specs.declared.fault.ScheduleFault.TheVariants.{Line as TurnLine}
use Rattle.pv_model.specs.declared.fault.What.{What}
use Rattle.pv_model.specs.declared.fault.What.TheVariants.{TooMany}
use Rattle.pv_model.specs.declared.instruction.Instruction.{Instruction}
use Rattle.pv_model.specs.Machine.{counted_from, spaced, Bytes, is_empty, text_at, EncodesManifest, instruction_of, lines_of, decimal_of, Listed, Manifest, is_manifest_path, path_of, entry_of, sizes_of, data_blocks, add_entry, add_entries, read_manifest, read_bundle, read_program, EncodesText, ended, Entry, make, further_name, empty_tree, Program, Schedule, Tree, directory_node, file_node, link_node, Block, single, taken, blocks_from, blocks_of, errors_of_blocks, read_source, reported_if, taken_lines, instructions_of, invalid_lines, program_errors, NumberedLine, NumberedWords, words_of, lines_that_count, written_lines, text_of_blocks}
use Rattle.pv_model.specs.Grammar.Arguments.{if_last, without_front}
use Rattle.pv_model.specs.Grammar.Entries.{EncodesEntry, of_directory, of_file, of_program, of_link, of_name, Lists, at_end, at_schedule, entry, EncodesSizes}
use Rattle.pv_model.specs.Grammar.Lines.{is_digit}
use Rattle.pv_model.specs.Grammar.Manifests.{Taking, if_path, and_entries}
use Rattle.pv_model.specs.Grammar.Programs.{onto_program, or_line, program_from}
use Rattle.pv_model.specs.Grammar.Schedules.{turn_of, onto_schedule, or_schedule_line, schedule_from}
use Rattle.pv_model.specs.Grammar.Encoding.{Decimal}
use Rattle.pv_model.specs.Grammar.Texts.{EncodesTurn}
use Rattle.pv_laws_grammar.proofs.Decimals.{digit_bounds, digits_all, decimal_of-Decimal, Decimal-decimal}
use Rattle.pv_laws_grammar.proofs.EntryLines.{entry_again, sizes_of-EncodesSizes, grouped}
use Rattle.pv_laws_grammar.proofs.EntryPaths.{is_manifest_path-IsEntryPath}
use Rattle.pv_laws_grammar.proofs.QuotedTexts.{reads_text}
use Rattle.pv_laws_grammar.proofs.TextLines.{lines_from_relation}
use Rattle.pv_laws_grammar.proofs.ManifestParsing.{EncodesManifest-whole, are_sizes_again}
use Rattle.pv_laws_grammar.proofs.ScheduleParsing.{EncodesTurn-turn_of}
use Rattle.pv_laws_grammar.specs.Accepted.{IsValidInit, AreValidEntries, IsAcceptedText, HasLineEnds}
use Rattle.pv_model.specs.Source.Blocks.{if_letters, mark_of, exec_by, or_cut_off, blocks_at}
use Rattle.pv_model.specs.Source.Judged.{second_text, exec_path, executable, entry_of_block, is_init, invalid_turn, invalid_turns, errors_in, Judgement, image_so_far, checked_first, made_or_reported, or_reported, with_entry_of, checked_block, reported_of, errors_from, or_errors}
use Rattle.pv_model.specs.Source.Programs.{is_invalid}
use Rattle.pv_model.specs.Source.Written.{bytes_of_lines}
use Rattle.pv_laws_grammar.proofs.AcceptedBlocks.{known, added-any, Turns}
use Rattle.pv_laws_grammar.proofs.EncodedWords.{IsWord, text-word, decimal-word, named-word, LineWords, line-of-one, line-of-two, line-of-three}
use Rattle.pv_laws_grammar.proofs.WrittenLines.{AreLines, lines_again}

-- ---- numbered lines

pub counted-append : (n : ℕ) (xs ys : List Bytes) → counted_from n (xs ++ ys) ≡ counted_from n xs ++ counted_from (n + length xs) ys
counted-append n [] ys = let same : n + 0 ≡ n = omega arith in ap (λ k. counted_from k ys) (sym same)
counted-append n (x ∷ xs) ys =
    let sum : n + 1 + length xs ≡ n + suc (length xs) = omega arith in
    ap (λ ls. (n, x) ∷ ls) (counted-append (n + 1) xs ys ∙ ap (λ m. counted_from (n + 1) xs ++ counted_from m ys) sum)

pub length-counted : (n : ℕ) (xs : List Bytes) → length (counted_from n xs) ≡ length xs
length-counted n [] = refl
length-counted n (x ∷ xs) = ap suc (length-counted (n + 1) xs)

pub bytes-counted : (n : ℕ) (xs : List Bytes) → bytes_of_lines (counted_from n xs) ≡ xs
bytes-counted n [] = refl
bytes-counted n (x ∷ xs) = ap (λ ls. x ∷ ls) (bytes-counted (n + 1) xs)

pub blocks_skip : (lines : List NumberedLine) (k : ℕ) → blocks_from lines k ≡ blocks_from (drop k lines) 0
blocks_skip [] zero = refl
blocks_skip [] (suc k) = refl
blocks_skip (line ∷ lines) zero = refl
blocks_skip (line ∷ lines) (suc k) = blocks_skip lines k

-- ---- schedules

record TurnsAgain (before m : ℕ) (lines : List Bytes) : Type 0 where
  right : invalid_turns before (lines_that_count (counted_from m lines)) ≡ []
  written : map (λ line. spaced line.1) (lines_that_count (counted_from m lines)) ≡ lines

turn-words : (line : Bytes) (turn : ℕ × ℕ) → EncodesTurn line turn → (first : Bytes) × (others : List Bytes) × LineWords line (first ∷ others)
turn-words line turn encodes = by encodes.2
  where
    small : (n : ℕ) → n ≤ 99999 → n < 2 ^ 64
    small n le = omega arith

    word : (n : ℕ) → n ≤ 99999 → IsWord (decimal n)
    word n le = decimal-word n (decimal n) (Decimal-decimal n (small n le))

    by : ((line ≡ decimal turn.0) × (turn.1 ≡ 1)) ⊎ (line ≡ decimal turn.0 ++ 32 ∷ decimal turn.1) → (first : Bytes) × (others : List Bytes) × LineWords line (first ∷ others)
    by (inl one) = (decimal turn.0, [], subst (λ l. LineWords l (decimal turn.0 ∷ [])) (sym one.0) (line-of-one (decimal turn.0) (word turn.0 encodes.0.1)))
    by (inr two) = (
      decimal turn.0,
      decimal turn.1 ∷ [],
      subst (λ l. LineWords l (decimal turn.0 ∷ decimal turn.1 ∷ [])) (sym two) (line-of-two (decimal turn.0) (decimal turn.1) (word turn.0 encodes.0.1) (word turn.1 encodes.1.1)),
    )

-- the first line of a schedule, and the lines after it
schedule-parts : (line : Bytes) (lines : List Bytes) (n : ℕ) (s : Schedule) → schedule_from (line ∷ lines) n ≡ Ok s → ((n == 65537) ≡ false) × (turn : ℕ × ℕ) × (later : Schedule) × (turn_of line ≡ Some turn) × (schedule_from lines (suc n) ≡ Ok later)
schedule-parts line lines n s = by (n == 65537) refl
  where
    onto : (turn : ℕ × ℕ) (r : Result Schedule ScheduleFault) → onto_schedule turn r ≡ Ok s → (later : Schedule) × (r ≡ Ok later)
    onto turn (Ok later) is = (later, refl)
    onto turn (Err fault) is = cc

    turns : (o : Option (ℕ × ℕ)) → or_schedule_line n o (schedule_from lines (suc n)) ≡ Ok s → (turn : ℕ × ℕ) × (later : Schedule) × (o ≡ Some turn) × (schedule_from lines (suc n) ≡ Ok later)
    turns None is = cc
    turns (Some turn) is = let rest = onto turn (schedule_from lines (suc n)) is in (turn, rest.0, refl, rest.1)

    by : (t : Bool) → (n == 65537) ≡ t → cond t (Err (TurnLine 65537)) (or_schedule_line n (turn_of line) (schedule_from lines (suc n))) ≡ Ok s
        → ((n == 65537) ≡ false) × (turn : ℕ × ℕ) × (later : Schedule) × (turn_of line ≡ Some turn) × (schedule_from lines (suc n) ≡ Ok later)
    by true p is = cc
    by false p is = let found = turns (turn_of line) is in (p, found.0, found.1, found.2, found.3)

turns-again : (lines : List Bytes) (before m : ℕ) (s : Schedule) → schedule_from lines (suc before) ≡ Ok s → TurnsAgain before m lines
turns-again [] before m s is = record { right = refl; written = refl }
turns-again (line ∷ lines) before m s is =
    let parts = schedule-parts line lines (suc before) s is in
    let words = turn-words line parts.1 (EncodesTurn-turn_of line parts.1 parts.3) in
    let rest = turns-again lines (suc before) (m + 1) parts.2 parts.4 in
    let first : lines_that_count (counted_from m (line ∷ lines)) ≡ (m, words.0 ∷ words.1) ∷ lines_that_count (counted_from (m + 1) lines) =
    ap (λ ws. cond (not (is_empty ws)) ((m, ws) ∷ lines_that_count (counted_from (m + 1) lines)) (lines_that_count (counted_from (m + 1) lines))) words.2.reads in
    let few : (before == 65536) ≡ false = false_from_ne_true (before == 65536) (λ same. other before same parts.0) in
    let right_ : invalid_turn before (words.0 ∷ words.1) ≡ false =
    ap (λ t. t || is_none (turn_of (spaced (words.0 ∷ words.1)))) few ∙ ap (λ l. is_none (turn_of l)) words.2.spaced_is ∙ ap is_none parts.3 in
    record {
      right =
          ap (invalid_turns before) first ∙ ap (λ t. reported_if t m (invalid_turns (suc before) (lines_that_count (counted_from (m + 1) lines)))) right_ ∙ rest.right;
      written = ap (map (λ (l : NumberedWords). spaced l.1)) first ∙ ap (λ l. l ∷ map (λ (w : NumberedWords). spaced w.1) (lines_that_count (counted_from (m + 1) lines))) words.2.spaced_is ∙ ap (λ ls. line ∷ ls) rest.written;
    }
  where
    other : (n : ℕ) → (n == 65536) ≡ true → (suc n == 65537) ≡ false → ⊥
    other n same differs =
        let is_ : n ≡ 65536 = eqb-true n 65536 same in
        let invalid : (suc n == 65537) ≡ true = eq-eqb (suc n) 65537 (omega (arith, is_)) in
        let both : false ≡ true = sym differs ∙ invalid in cc

-- ---- programs

-- the first line of a program, and the lines after it
program-parts : (read : Bytes → Result Instruction What) (line : Bytes) (lines : List Bytes) (n : ℕ) (p : Program) → program_from read (line ∷ lines) n ≡ Ok p
    → ((n == 257) ≡ false) × (is_err (read line) ≡ false) × (later : Program) × (program_from read lines (suc n) ≡ Ok later)
program-parts read line lines n p = by (n == 257) refl
  where
    onto : (i : Instruction) (r : Result Program ParseFault) → onto_program i r ≡ Ok p → (later : Program) × (r ≡ Ok later)
    onto i (Ok later) is = (later, refl)
    onto i (Err fault) is = cc

    reads : (r : Result Instruction What) → or_line n r (program_from read lines (suc n)) ≡ Ok p → (is_err r ≡ false) × (later : Program) × (program_from read lines (suc n) ≡ Ok later)
    reads (Err what) is = cc
    reads (Ok i) is = let rest = onto i (program_from read lines (suc n)) is in (refl, rest.0, rest.1)

    by : (t : Bool) → (n == 257) ≡ t → cond t (Err (Line 257 TooMany)) (or_line n (read line) (program_from read lines (suc n))) ≡ Ok p
        → ((n == 257) ≡ false) × (is_err (read line) ≡ false) × (later : Program) × (program_from read lines (suc n) ≡ Ok later)
    by true q is = cc
    by false q is = let found = reads (read line) is in (q, found.0, found.1, found.2)

right-lines : (lines : List Bytes) (count before m : ℕ) (p : Program) → program_from (instruction_of (min count 256)) lines (suc before) ≡ Ok p → invalid_lines count [] before (taken_lines (counted_from m lines)) ≡ []
right-lines [] count before m p is = refl
right-lines (line ∷ lines) count before m p is =
    let parts = program-parts (instruction_of (min count 256)) line lines (suc before) p is in
    let few : (before == 256) ≡ false = false_from_ne_true (before == 256) (λ same. other before same parts.0) in
    let right_ : is_invalid count before (Some line) ≡ false = ap (λ t. t || is_err (instruction_of (min count 256) line)) few ∙ parts.1 in
    let next : suc before ≡ before + 1 = omega arith in
    ap (λ t. reported_if t m (invalid_lines count [] (before + 1) (taken_lines (counted_from (m + 1) lines)))) right_
    ∙ right-lines lines count (before + 1) (m + 1) parts.2 (subst (λ k. program_from (instruction_of (min count 256)) lines (suc k) ≡ Ok parts.2) next parts.3)
  where
    other : (n : ℕ) → (n == 256) ≡ true → (suc n == 257) ≡ false → ⊥
    other n same differs =
        let is_ : n ≡ 256 = eqb-true n 256 same in
        let invalid : (suc n == 257) ≡ true = eq-eqb (suc n) 257 (omega (arith, is_)) in
        let both : false ≡ true = sym differs ∙ invalid in cc

taken-count : (m : ℕ) (lines : List Bytes) → length (instructions_of (taken_lines (counted_from m lines))) ≡ length lines
taken-count m [] = refl
taken-count m (line ∷ lines) = ap suc (taken-count (m + 1) lines)

right-program : (lines : List Bytes) (m : ℕ) (p : Program) → AreLines lines → read_program (ended lines) ≡ Ok p → program_errors (taken_lines (counted_from m lines)) ≡ []
unfolding program_errors read_program
right-program lines m p are is =
    ap (λ k. invalid_lines k [] 0 (taken_lines (counted_from m lines))) (taken-count m lines)
    ∙ right-lines lines (length lines) 0 m p (sym (ap (λ ls. program_from (instruction_of (min (length ls) 256)) ls 1) (lines_again lines are)) ∙ is)

-- ---- one block

record Again (blocks : List Block) (t : Tree) (lines : List Bytes) : Type 0 where
  right : errors_from blocks (known t) ≡ []
  written : flat_map written_lines blocks ≡ lines

block-again : (b : Block) (blocks : List Block) (t after : Tree) (line : Bytes) (body rest : List Bytes) → checked_block (known t) b ≡ (false, known after) → errors_in b ≡ [] → written_lines b ≡ line ∷ body → Again blocks after rest
    → Again (b ∷ blocks) t (line ∷ body ++ rest)
block-again b blocks t after line body rest judged none written_ later = record {
  right = ap (λ j. reported_of b j (errors_from blocks)) judged ∙ ap (λ ls. ls ++ errors_from blocks (known after)) none ∙ later.right;
  written = ap (λ ls. ls ++ flat_map written_lines blocks) written_ ∙ ap (λ ls. (line ∷ body) ++ ls) later.written;
}

pub judged-again : (k : ℕ) (x : Bool) (o : Option Entry) (e : Entry) (t after : Tree) → o ≡ Some e → add_entry k t e ≡ Ok after → (not x && is_init (Some (path_of e))) ≡ false → with_entry_of (known t) k x o ≡ (false, known after)
judged-again k x o e t after found made init =
    ap (with_entry_of (known t) k x) found ∙ ap (λ r. or_reported (not x && is_init (Some (path_of e))) (made_or_reported (known t) r)) made ∙ ap (λ reported. or_reported reported (false, known after)) init

-- entries after the first
made-parts : (r : Result Tree ManifestFault) (es : List (ℕ × Entry)) (tree : Tree) → and_entries r (add_entries es) ≡ Ok tree → (after : Tree) × (r ≡ Ok after) × (add_entries es after ≡ Ok tree)
made-parts (Ok after) es tree is = (after, refl, is)
made-parts (Err fault) es tree is = cc

single-entry : (k : ℕ) (words : List Bytes) (line : Bytes) (e : Entry) → spaced words ≡ line → EncodesEntry line [] e → entry_of_block (single k words) ≡ Some e
unfolding entry_of_block
single-entry k words line e is encodes = ap (λ l. option_map (λ (taking : Taking). taking.0) (entry_of l [])) is ∙ ap (option_map (λ (taking : Taking). taking.0)) (entry_again line [] e encodes [])

-- an entry that is not an executable file is not `/init`
not_init : (e : Entry) → IsValidInit e → ((bytes : Bytes) → e ≢ make (codes "/init") (file_node true bytes)) → is_init (Some (path_of e)) ≡ false
not_init e right other = false_from_ne_true (bytes_eq (path_of e) (codes "/init")) (λ is. let r = right ((bytes_eq-Decides (path_of e) (codes "/init")).0 is) in other r.0 r.2)

module _ (k : ℕ) (line : Bytes) (rest : List Bytes) (e : Entry) (t after : Tree) (made : add_entry k t e ≡ Ok after) (init : is_init (Some (path_of e)) ≡ false) (encodes : EncodesEntry line [] e)
    (later : Again (blocks_from (counted_from (k + 1) rest) 0) after rest) where
  single-again : (words : List Bytes) → LineWords line words → blocks_at k words (counted_from (k + 1) rest) (blocks_from (counted_from (k + 1) rest)) ≡ single k words ∷ blocks_from (counted_from (k + 1) rest) 0
      → Again (blocks_from (counted_from k (line ∷ rest)) 0) t (line ∷ rest)
  single-again words are first =
      let blocks : blocks_from (counted_from k (line ∷ rest)) 0 ≡ single k words ∷ blocks_from (counted_from (k + 1) rest) 0 =
      ap (λ ws. blocks_at k ws (counted_from (k + 1) rest) (blocks_from (counted_from (k + 1) rest))) are.reads ∙ first in
      subst (λ bs. Again bs t (line ∷ rest)) (sym blocks)
      (block-again (single k words) (blocks_from (counted_from (k + 1) rest) 0) t after line [] rest
      (judged-again k false (entry_of_block (single k words)) e t after (single-entry k words line e are.spaced_is encodes) made init) refl (ap (λ l. l ∷ []) are.spaced_is) later)

file-bytes : (a b p q : Bytes) → make p (file_node true a) ≡ make q (file_node true b) → a ≡ b
file-bytes a b p q e = cc

-- a decimal number is not a mark
pub no-mark : (n : ℕ) (word : Bytes) → Decimal n word → mark_of word ≡ None
no-mark n word encodes = by word (digits_all n word encodes)
  where
    by : (w : Bytes) → list_all is_digit w ≡ true → mark_of w ≡ None
    by [] all = refl
    by (b ∷ w) all =
        let bounds = digit_bounds b (and_parts (is_digit b) (list_all is_digit w) all).0 in
        let other : (60 == b) ≡ false = ne_eqb 60 b (λ same. omega (arith, same, bounds.1)) in
        ap (λ t. if_letters (cond t (without_front (60 ∷ []) w) None)) other

module _ (k : ℕ) (path word : Bytes) (body rest : List Bytes) (t after : Tree) (few : length body ≤ 9999) (encodes : EncodesText path word) (is_path : is_manifest_path path ≡ true)
    (made : add_entry k t (make path (file_node true (ended body))) ≡ Ok after) (right : IsValidInit (make path (file_node true (ended body)))) (are : AreLines body)
    (later : Again (blocks_from (counted_from (k + 1 + length body) rest) 0) after rest) where
  abbrev count : Bytes
  count = decimal (length body)

  abbrev exec_words : List Bytes
  exec_words = codes "exec" ∷ word ∷ count ∷ []

  abbrev all_lines : List NumberedLine
  all_lines = counted_from (k + 1) (body ++ rest)

  abbrev its_lines : List NumberedLine
  its_lines = counted_from (k + 1) body

  encoded-count : Decimal (length body) count
  encoded-count = Decimal-decimal (length body) (omega (arith, few))

  exec-reads : LineWords (codes "exec " ++ word ++ codes " " ++ count) exec_words
  exec-reads =
      let regrouped : codes "exec " ++ word ++ codes " " ++ count ≡ codes "exec" ++ 32 ∷ (word ++ 32 ∷ count) = append_assoc (codes "exec " ++ word) (32 ∷ []) count ∙ append_assoc (codes "exec ") word (32 ∷ count) in
      subst (λ l. LineWords l exec_words) (sym regrouped)
      (line-of-three (codes "exec") word count (named-word 101 (120 ∷ 101 ∷ 99 ∷ []) (omega arith, (omega arith, (omega arith, (omega arith, tt))))) (text-word path word encodes) (decimal-word (length body) count encoded-count))

  exec-block : blocks_at k exec_words all_lines (blocks_from all_lines) ≡ taken k exec_words its_lines ∷ blocks_from (counted_from (k + 1 + length body) rest) 0
  exec-block =
      let parts = counted-append (k + 1) body rest in
      let size = length-counted (k + 1) body in
      let long : length all_lines ≡ length (body ++ rest) = length-counted (k + 1) (body ++ rest) in
      let there : nat_le (length body) (length all_lines) ≡ true = le-leb (length body) (length all_lines) (omega (arith, long, length-append body rest)) in
      let first : take (length body) all_lines ≡ its_lines = ap (take (length body)) parts ∙ subst (λ n. take n (its_lines ++ counted_from (k + 1 + length body) rest) ≡ its_lines) size (take-append_seam its_lines (counted_from (k + 1 + length body) rest)) in
      let others : drop (length body) all_lines ≡ counted_from (k + 1 + length body) rest =
      ap (drop (length body)) parts ∙ subst (λ n. drop n (its_lines ++ counted_from (k + 1 + length body) rest) ≡ counted_from (k + 1 + length body) rest) size (drop-append_seam its_lines (counted_from (k + 1 + length body) rest)) in
      ap (λ m. or_cut_off k (blocks_from all_lines) (exec_by k exec_words all_lines m (decimal_of count))) (no-mark (length body) count encoded-count)
      ∙ ap (λ c. or_cut_off k (blocks_from all_lines) (exec_by k exec_words all_lines None c)) (decimal_of-Decimal (length body) count encoded-count)
      ∙ ap (λ b. or_cut_off k (blocks_from all_lines) (cond b (Some (taken k exec_words (take (length body) all_lines), length body)) None)) there
      ∙ ap (λ ls. taken k exec_words ls ∷ blocks_from all_lines (length body)) first
      ∙ ap (λ bs. taken k exec_words its_lines ∷ bs) (blocks_skip all_lines (length body) ∙ ap (λ ls. blocks_from ls 0) others)

  exec-text : second_text exec_words ≡ Some path
  exec-text = ap (λ w. if_last (text_at w)) (sym (append-nil word)) ∙ ap if_last (reads_text.again path word [] encodes tt)

  exec-entry : entry_of_block (taken k exec_words its_lines) ≡ Some (make path (file_node true (ended body)))
  unfolding entry_of_block
  exec-entry =
      let enough : nat_le (length its_lines) 9999 ≡ true = le-leb (length its_lines) 9999 (omega (arith, few, length-counted (k + 1) body)) in
      let path_is : exec_path exec_words ≡ Some path = ap if_path exec-text ∙ ap (λ b. cond b (Some path) None) is_path in
      ap (λ b. cond b (executable (bytes_of_lines its_lines) (exec_path exec_words)) None) enough ∙ ap (executable (bytes_of_lines its_lines)) path_is
      ∙ ap (λ ls. Some (make path (file_node true (ended ls)))) (bytes-counted (k + 1) body)

  exec-right : errors_in (taken k exec_words its_lines) ≡ []
  exec-right = ap (λ o. cond (is_init o) (program_errors (taken_lines its_lines)) []) exec-text ∙ by (bytes_eq path (codes "/init")) refl
    where
      by : (b : Bool) → bytes_eq path (codes "/init") ≡ b → cond b (program_errors (taken_lines its_lines)) [] ≡ []
      by false is = refl
      by true is =
          let r = right ((bytes_eq-Decides path (codes "/init")).0 is) in
          let same : ended body ≡ r.0 = file-bytes (ended body) r.0 path (codes "/init") r.2 in
          right-program body (k + 1) r.1 are (ap read_program same ∙ r.3)

  exec-again : Again (blocks_from (counted_from k ((codes "exec " ++ word ++ codes " " ++ count) ∷ body ++ rest)) 0) t ((codes "exec " ++ word ++ codes " " ++ count) ∷ body ++ rest)
  exec-again =
      let blocks : blocks_from (counted_from k ((codes "exec " ++ word ++ codes " " ++ count) ∷ body ++ rest)) 0 ≡ taken k exec_words its_lines ∷ blocks_from (counted_from (k + 1 + length body) rest) 0 =
      ap (λ ws. blocks_at k ws all_lines (blocks_from all_lines)) exec-reads.reads ∙ exec-block in
      subst (λ bs. Again bs t ((codes "exec " ++ word ++ codes " " ++ count) ∷ body ++ rest)) (sym blocks)
      (block-again (taken k exec_words its_lines) (blocks_from (counted_from (k + 1 + length body) rest) 0) t after (codes "exec " ++ word ++ codes " " ++ count) body rest
      (judged-again k true (entry_of_block (taken k exec_words its_lines)) (make path (file_node true (ended body))) t after exec-entry made refl) exec-right
      (ap (λ l. l ∷ bytes_of_lines its_lines) exec-reads.spaced_is ∙ ap (λ ls. (codes "exec " ++ word ++ codes " " ++ count) ∷ ls) (bytes-counted (k + 1) body)) later)

-- ---- all lines after the first

lines-first : (body rest : List Bytes) → AreLines (body ++ rest) → AreLines body
lines-first [] rest all = tt
lines-first (l ∷ body) rest all = (all.0, lines-first body rest all.1)

lines-second : (body rest : List Bytes) → AreLines (body ++ rest) → AreLines rest
lines-second [] rest all = all
lines-second (l ∷ body) rest all = lines-second body rest all.1

again : (in_bundle : Bool) (n : ℕ) (lines : List Bytes) (listed : Listed) → Lists in_bundle n lines listed → (t tree : Tree) → add_entries listed.entries t ≡ Ok tree → AllByRecursion (λ e. IsValidInit e.1) listed.entries
    → Turns in_bundle listed.following → AreLines lines → (k : ℕ) → Again (blocks_from (counted_from k lines) 0) t lines
unfolding words_of
again in_bundle _ _ _ (at_end n is) t tree made init turns are k = record { right = refl; written = refl }
again in_bundle _ _ _ (at_schedule n rest is) t tree made init turns are k =
    let s = subst (λ b. Turns b rest) is turns in
    let all = turns-again rest 0 (k + 1) s.0 s.1 in
    record { right = ap (λ ls. ls ++ []) all.right; written = ap (λ ls. (codes "schedule" ∷ ls) ++ []) all.written ∙ append-nil (codes "schedule" ∷ rest) }
again in_bundle _ _ _ (entry n _ _ rest _ others (of_directory path word h) later) t tree made init turns are k =
    let e = make path (directory_node []) in
    let parts = made-parts (add_entry n t e) others.entries tree made in
    let line = codes "dir " ++ word in
    single-again k line rest e t parts.0 (added-any n k t e parts.0 parts.1) (not_init e init.0 (λ bytes same. cc)) (of_directory path word h)
    (again in_bundle (n + 1 + 0) rest others later parts.0 tree parts.2 init.1 turns are.1 (k + 1)) (codes "dir" ∷ word ∷ [])
    (line-of-two (codes "dir") word (named-word 100 (105 ∷ 114 ∷ []) (omega arith, (omega arith, (omega arith, tt)))) (text-word path word h.1)) refl
again in_bundle _ _ _ (entry n _ _ rest _ others (of_file path word contents other h g) later) t tree made init turns are k =
    let e = make path (file_node false contents) in
    let parts = made-parts (add_entry n t e) others.entries tree made in
    let line = codes "bytes " ++ word ++ codes " " ++ other in
    single-again k line rest e t parts.0 (added-any n k t e parts.0 parts.1) (not_init e init.0 (λ bytes same. cc)) (of_file path word contents other h g)
    (again in_bundle (n + 1 + 0) rest others later parts.0 tree parts.2 init.1 turns are.1 (k + 1)) (codes "bytes" ∷ word ∷ other ∷ [])
    (subst (λ l. LineWords l (codes "bytes" ∷ word ∷ other ∷ [])) (sym (grouped (codes "bytes ") word other))
    (line-of-three (codes "bytes") word other (named-word 98 (121 ∷ 116 ∷ 101 ∷ 115 ∷ []) (omega arith, (omega arith, (omega arith, (omega arith, (omega arith, tt)))))) (text-word path word h.1) (text-word contents other g))) refl
again in_bundle _ _ _ (entry n _ _ rest _ others (of_program path word body h few) later) t tree made init turns are k =
    let e = make path (file_node true (ended body)) in
    let parts = made-parts (add_entry n t e) others.entries tree made in
    exec-again k path word body rest t parts.0 few h.1 (is_manifest_path-IsEntryPath path h.0) (added-any n k t e parts.0 parts.1) init.0 (lines-first body rest are.1)
    (again in_bundle (n + 1 + length body) rest others later parts.0 tree parts.2 init.1 turns (lines-second body rest are.1) (k + 1 + length body))
again in_bundle _ _ _ (entry n _ _ rest _ others (of_link path word text other h g low high) later) t tree made init turns are k =
    let e = make path (link_node text) in
    let parts = made-parts (add_entry n t e) others.entries tree made in
    let line = codes "link " ++ word ++ codes " " ++ other in
    single-again k line rest e t parts.0 (added-any n k t e parts.0 parts.1) (not_init e init.0 (λ bytes same. cc)) (of_link path word text other h g low high)
    (again in_bundle (n + 1 + 0) rest others later parts.0 tree parts.2 init.1 turns are.1 (k + 1)) (codes "link" ∷ word ∷ other ∷ [])
    (subst (λ l. LineWords l (codes "link" ∷ word ∷ other ∷ [])) (sym (grouped (codes "link ") word other))
    (line-of-three (codes "link") word other (named-word 108 (105 ∷ 110 ∷ 107 ∷ []) (omega arith, (omega arith, (omega arith, (omega arith, tt))))) (text-word path word h.1) (text-word text other g))) refl
again in_bundle _ _ _ (entry n _ _ rest _ others (of_name path word source other h g) later) t tree made init turns are k =
    let e = further_name path source in
    let parts = made-parts (add_entry n t e) others.entries tree made in
    let line = codes "name " ++ word ++ codes " " ++ other in
    single-again k line rest e t parts.0 (added-any n k t e parts.0 parts.1) (not_init e init.0 (λ bytes same. cc)) (of_name path word source other h g)
    (again in_bundle (n + 1 + 0) rest others later parts.0 tree parts.2 init.1 turns are.1 (k + 1)) (codes "name" ∷ word ∷ other ∷ [])
    (subst (λ l. LineWords l (codes "name" ∷ word ∷ other ∷ [])) (sym (grouped (codes "name ") word other))
    (line-of-three (codes "name") word other (named-word 110 (97 ∷ 109 ∷ 101 ∷ []) (omega arith, (omega arith, (omega arith, (omega arith, tt))))) (text-word path word h.1) (text-word source other g.1))) refl

-- ---- complete texts

image-words : (line : Bytes) (blocks inodes : ℕ) → EncodesSizes line blocks inodes → (word other : Bytes) × LineWords line (codes "image" ∷ word ∷ other ∷ [])
image-words line blocks inodes encodes = (
  encodes.0,
  encodes.1,
  subst (λ l. LineWords l (codes "image" ∷ encodes.0 ∷ encodes.1 ∷ [])) (sym (encodes.4 ∙ grouped (codes "image ") encodes.0 encodes.1))
      (line-of-three (codes "image") encodes.0 encodes.1 (named-word 105 (109 ∷ 97 ∷ 103 ∷ 101 ∷ []) (omega arith, (omega arith, (omega arith, (omega arith, (omega arith, tt))))))
      (decimal-word blocks encodes.0 encodes.2) (decimal-word inodes encodes.1 encodes.3)),
)

read-again : (text : Bytes) (in_bundle : Bool) (m : Manifest) → EncodesManifest in_bundle text m → AreValidEntries m → Turns in_bundle m.listed.following → HasLineEnds text → read_source text ≡ Ok text
unfolding read_source blocks_of errors_of_blocks text_of_blocks
read-again text in_bundle m encodes right turns whole =
    let form = encodes.0 in
    let first = form.0 in
    let rest = form.1 in
    let lines : lines_of text ≡ first ∷ rest = lines_from_relation text (first ∷ rest) form.2 in
    let image = image-words first m.blocks m.inodes form.3 in
    let words = codes "image" ∷ image.0 ∷ image.1 ∷ [] in
    let empty = empty_tree (data_blocks m.blocks m.inodes) m.inodes in
    let all = again in_bundle 2 rest m.listed form.4 empty right.tree right.made right.init turns form.2.0.1 2 in
    let after = blocks_from (counted_from 2 rest) 0 in
    let blocks : blocks_of text ≡ single 1 words ∷ after =
    ap (λ ls. blocks_from (counted_from 1 ls) 0) lines ∙ ap (λ ws. blocks_at 1 ws (counted_from 2 rest) (blocks_from (counted_from 2 rest))) image.2.reads in
    let sizes : sizes_of (spaced words) ≡ Some (m.blocks, m.inodes) = ap sizes_of image.2.spaced_is ∙ sizes_of-EncodesSizes first m.blocks m.inodes form.3 in
    let judged : checked_first (single 1 words) ≡ (false, known empty) = ap image_so_far sizes ∙ ap (λ (b : Bool). cond {A = Judgement} b (false, known empty) (true, record { tree = None; lacked_room = false })) (are_sizes_again m.blocks m.inodes encodes.1) in
    let faults : errors_of_blocks (suc (length (lines_of text))) (single 1 words ∷ after) ≡ [] = ap (λ j. reported_of (single 1 words) j (errors_from after)) judged ∙ all.right in
    let written_ : text_of_blocks (single 1 words ∷ after) ≡ text =
    ap (λ l. ended (l ∷ flat_map written_lines after)) image.2.spaced_is ∙ ap (λ ls. ended (first ∷ ls)) all.written ∙ ap ended (sym lines) ∙ sym whole in
    ap (λ bs. or_errors bs (take 20 (errors_of_blocks (suc (length (lines_of text))) bs))) blocks ∙ ap (λ ls. or_errors (single 1 words ∷ after) (take 20 ls)) faults ∙ ap (λ (bs : Bytes). Ok bs) written_

pub appears-for-itself : (text : Bytes) → IsAcceptedText text → HasLineEnds text → read_source text ≡ Ok text
unfolding read_manifest read_bundle
appears-for-itself text (inl b) whole = read-again text true b.manifest (EncodesManifest-whole true text b.manifest b.read) b.right (b.schedule, b.turns) whole
appears-for-itself text (inr m) whole = read-again text false m.manifest (EncodesManifest-whole false text m.manifest m.read) m.right tt whole
