-- Sources with the same words: the same text is written for them.
use Rattle.std.proofs.Common.{◌≡◌, ◌∙◌, ap, ap₂, ℕ, suc, ◌+◌, ◌≤◌, Bool, true, false, cond, List, [], ◌∷◌, ◌++◌, length, take, drop, Option, None, Some, Ok, refl, sym, subst, arith, le-leb, append_assoc}
use Rattle.std.specs.Prelude.{◌==◌, ◌||◌, not, map, flat_map, codes, bytes_eq, nat_le, option_map, unwrap_or}
use Rattle.std.specs.Fmt.{decimal}
use Rattle.std.specs.List.{cons_option, list_all}
use Rattle.std.proofs.Math.Seq.{take-append_seam, drop-append_seam}
use Rattle.std.proofs.lemmas.Bool.{and_parts}
use Rattle.std.proofs.lemmas.List.{length-append}
use Rattle.pv_model.specs.Machine.{counted_from, spaced, Bytes, is_empty, onto_first, decimal_of, lines_of, data_blocks, sizes_of, ended, Entry, empty_tree, Tree, Block, single, taken, blocks_from, blocks_of, errors_of_blocks, read_source, LabelledLine, instruction_text, instructions_of, invalid_lines, labelled_lines, labels_from, program_errors, program_line_of, program_lines, reported_if, taken_lines, NumberedLine, NumberedWords, between, last_word, lines_that_count, words_from, words_of, text_of_blocks, written_lines}
use Rattle.pv_model.specs.Grammar.Manifests.{are_sizes}
use Rattle.pv_model.specs.Source.Blocks.{program, cut_off, schedule, mark_of, lines_up_to, exec_block, exec_by, or_cut_off, blocks_at}
use Rattle.pv_model.specs.Source.Judged.{Judgement, TreeSoFar, entry_of_block, executable, exec_path, errors_from, errors_in, image_so_far, invalid_turn, invalid_turns, is_init, checked_block, checked_first, or_errors, reported_of, second_text, with_entry_of}
use Rattle.pv_model.specs.Source.Programs.{ProgramLine, after_label, and_label, count_instruction, count_words, is_invalid, is_set_in, label_of, labelled_words, onto_labels, or_exit, with_exit}
use Rattle.pv_model.specs.Source.Words.{before_last, begun, is_alone, is_blank, without_return}
use Rattle.pv_model.specs.Source.Written.{bytes_of_lines, counted_program}
use Rattle.pv_laws_grammar.specs.Comments.{AreBefore, HaveSameCode, code_of, no_line, left_out, added, same_line as single_line, counted, marked, uncounted, scheduled}
use Rattle.pv_laws_grammar.proofs.AcceptedTexts.{blocks_skip, bytes-counted, counted-append, judged-again, length-counted, no-mark}
use Rattle.pv_laws_grammar.proofs.AcceptedBlocks.{added-any, entry-made, known, reported_split, length-bytes}
use Rattle.pv_laws_grammar.proofs.AcceptedSources.{errors-parts}
use Rattle.pv_laws_grammar.proofs.Decimals.{Decimal-decimal, decimal_of-Decimal}

-- ---- lists of words, each with any number

abbrev words_in : List NumberedWords → List (List Bytes)
words_in lines = map (λ line. line.1) lines

-- ---- programs, but for the numbers of their lines

-- labelled lines with the same labels and words
abbrev SameLabels : List LabelledLine → List LabelledLine → Type 0
SameLabels [] [] = Unit {0}
SameLabels (l ∷ ls) (k ∷ ks) = ((l.label ≡ k.label) × (l.words ≡ k.words)) × SameLabels ls ks
SameLabels [] (k ∷ ks) = ⊥
SameLabels (l ∷ ls) [] = ⊥

label-alike : (n m : ℕ) (words : List Bytes) → ((labelled_words n words).label ≡ (labelled_words m words).label) × ((labelled_words n words).words ≡ (labelled_words m words).words)
label-alike n m [] = (refl, refl)
label-alike n m (word ∷ words) = by (label_of word)
  where
    by : (o : Option Bytes)
        → ((after_label n word words o).label ≡ (after_label m word words o).label)
        × ((after_label n word words o).words ≡ (after_label m word words o).words)
    by None = (refl, refl)
    by (Some name) = (refl, refl)

abbrev labelled : List NumberedWords → List LabelledLine
labelled lines = map (λ line. labelled_words line.0 line.1) lines

labels-alike : (ls ks : List NumberedWords) → words_in ls ≡ words_in ks → SameLabels (labelled ls) (labelled ks)
labels-alike [] [] same = tt
labels-alike [] (k ∷ ks) same = cc same
labels-alike (l ∷ ls) [] same = cc same
labels-alike (l ∷ ls) (k ∷ ks) same =
    let first : l.1 ≡ k.1 = cc in
    let rest : words_in ls ≡ words_in ks = cc in
    let alike = label-alike l.0 k.0 l.1 in (
      (alike.0 ∙ ap (λ ws. (labelled_words k.0 ws).label) first, alike.1 ∙ ap (λ ws. (labelled_words k.0 ws).words) first),
      labels-alike ls ks rest,
    )

exit-alike : (ls ks : List LabelledLine) → SameLabels ls ks → SameLabels (with_exit ls) (with_exit ks)
exit-alike [] [] same = tt
exit-alike (l ∷ []) (k ∷ []) same = ((same.0.0, ap or_exit same.0.1), tt)
exit-alike (l ∷ m ∷ ls) (k ∷ n ∷ ks) same = (same.0, exit-alike (m ∷ ls) (n ∷ ks) same.1)
exit-alike [] (k ∷ ks) same = absurd same
exit-alike (l ∷ ls) [] same = absurd same
exit-alike (l ∷ []) (k ∷ n ∷ ks) same = absurd same.1
exit-alike (l ∷ m ∷ ls) (k ∷ []) same = absurd same.1

numbers-alike : (j : ℕ) (ls ks : List LabelledLine) → SameLabels ls ks → labels_from j ls ≡ labels_from j ks
numbers-alike j [] [] same = refl
numbers-alike j (l ∷ ls) (k ∷ ks) same =
    ap₂ (λ label words. onto_labels label j (labels_from (j + count_words words) ls)) same.0.0 same.0.1
    ∙ ap (onto_labels k.label j) (numbers-alike (j + count_words k.words) ls ks same.1)
numbers-alike j [] (k ∷ ks) same = absurd same
numbers-alike j (l ∷ ls) [] same = absurd same

-- lines of programs with the same labels and instructions
abbrev SameInstructions : List ProgramLine → List ProgramLine → Type 0
SameInstructions [] [] = Unit {0}
SameInstructions (l ∷ ls) (k ∷ ks) = ((l.label ≡ k.label) × (l.instruction ≡ k.instruction)) × SameInstructions ls ks
SameInstructions [] (k ∷ ks) = ⊥
SameInstructions (l ∷ ls) [] = ⊥

lines-alike : (labels : List (Bytes × ℕ)) (ls ks : List LabelledLine) → SameLabels ls ks → SameInstructions (map (program_line_of labels) ls) (map (program_line_of labels) ks)
lines-alike labels [] [] same = tt
lines-alike labels (l ∷ ls) (k ∷ ks) same = ((same.0.0, ap (instruction_text labels) same.0.1), lines-alike labels ls ks same.1)
lines-alike labels [] (k ∷ ks) same = absurd same
lines-alike labels (l ∷ ls) [] same = absurd same

program-alike : (body preserved : List NumberedLine) → words_in (lines_that_count body) ≡ words_in (lines_that_count preserved) → SameInstructions (program_lines body) (program_lines preserved)
unfolding program_lines
program-alike body preserved same =
    let alike = exit-alike (labelled (lines_that_count body)) (labelled (lines_that_count preserved)) (labels-alike (lines_that_count body) (lines_that_count preserved) same) in
    subst (λ (labels : List (Bytes × ℕ)). SameInstructions (map (program_line_of (labels_from 1 (labelled_lines body))) (labelled_lines body)) (map (program_line_of labels) (labelled_lines preserved)))
    (numbers-alike 1 (labelled_lines body) (labelled_lines preserved) alike)
    (lines-alike (labels_from 1 (labelled_lines body)) (labelled_lines body) (labelled_lines preserved) alike)

instructions-alike : (ls ks : List ProgramLine) → SameInstructions ls ks → instructions_of ls ≡ instructions_of ks
instructions-alike [] [] same = refl
instructions-alike (l ∷ ls) (k ∷ ks) same =
    ap₂ (λ (o : Option Bytes) (rest : List Bytes). cons_option o rest) same.0.1 (instructions-alike ls ks same.1)
instructions-alike [] (k ∷ ks) same = absurd same
instructions-alike (l ∷ ls) [] same = absurd same

if-none : (b c : Bool) (n m : ℕ) (ns ms : List ℕ) → b ≡ c → (ns ≡ [] → ms ≡ []) → reported_if b n ns ≡ [] → reported_if c m ms ≡ []
if-none true c n m ns ms same rest none = cc none
if-none false true n m ns ms same rest none = cc same
if-none false false n m ns ms same rest none = rest none

invalid-alike : (count : ℕ) (names : List Bytes) (before : ℕ) (ls ks : List ProgramLine) → SameInstructions ls ks → invalid_lines count names before ls ≡ [] → invalid_lines count names before ks ≡ []
invalid-alike count names before [] [] same none = refl
invalid-alike count names before (l ∷ ls) (k ∷ ks) same none =
    if-none (is_set_in l.label names || is_invalid count before l.instruction) (is_set_in k.label names || is_invalid count before k.instruction) l.number k.number
    (invalid_lines count (and_label l.label names) (before + count_instruction l.instruction) ls) (invalid_lines count (and_label k.label names) (before + count_instruction k.instruction) ks)
    (ap₂ (λ label instruction. is_set_in label names || is_invalid count before instruction) same.0.0 same.0.1)
    (λ empty. invalid-alike count (and_label k.label names) (before + count_instruction k.instruction) ls ks same.1
    (ap₂ (λ label instruction. invalid_lines count (and_label label names) (before + count_instruction instruction) ls) (sym same.0.0) (sym same.0.1) ∙ empty)) none
invalid-alike count names before [] (k ∷ ks) same none = absurd same
invalid-alike count names before (l ∷ ls) [] same none = absurd same

errors-same : (ls ks : List ProgramLine) → SameInstructions ls ks → program_errors ls ≡ [] → program_errors ks ≡ []
unfolding program_errors
errors-same ls ks same none =
    invalid-alike (length (instructions_of ks)) [] 0 ls ks same (ap (λ (is : List Bytes). invalid_lines (length is) [] 0 ls) (sym (instructions-alike ls ks same)) ∙ none)

taken-alike : (body preserved : List NumberedLine) → bytes_of_lines body ≡ bytes_of_lines preserved → SameInstructions (taken_lines body) (taken_lines preserved)
taken-alike [] [] same = tt
taken-alike [] (k ∷ ks) same = cc same
taken-alike (l ∷ ls) [] same = cc same
taken-alike (l ∷ ls) (k ∷ ks) same =
    let first : l.1 ≡ k.1 = cc in
    let rest : bytes_of_lines ls ≡ bytes_of_lines ks = cc in ((refl, ap Some first), taken-alike ls ks rest)

-- ---- schedules

turns-alike : (before : ℕ) (ls ks : List NumberedWords) → words_in ls ≡ words_in ks → invalid_turns before ls ≡ [] → invalid_turns before ks ≡ []
turns-alike before [] [] same none = refl
turns-alike before [] (k ∷ ks) same none = cc same
turns-alike before (l ∷ ls) [] same none = cc same
turns-alike before (l ∷ ls) (k ∷ ks) same none =
    let first : l.1 ≡ k.1 = cc in
    let rest : words_in ls ≡ words_in ks = cc in
    if-none (invalid_turn before l.1) (invalid_turn before k.1) l.0 k.0 (invalid_turns (suc before) ls) (invalid_turns (suc before) ks)
    (ap (invalid_turn before) first) (turns-alike (suc before) ls ks rest) none

spaced-alike : (ls ks : List NumberedWords) → words_in ls ≡ words_in ks → map (λ line. spaced line.1) ls ≡ map (λ line. spaced line.1) ks
spaced-alike [] [] same = refl
spaced-alike [] (k ∷ ks) same = cc same
spaced-alike (l ∷ ls) [] same = cc same
spaced-alike (l ∷ ls) (k ∷ ks) same =
    let first : l.1 ≡ k.1 = cc in
    let rest : words_in ls ≡ words_in ks = cc in ap₂ (λ (ws : List Bytes) (others : List Bytes). spaced ws ∷ others) first (spaced-alike ls ks rest)

-- ---- blocks

data SameBlock : Block → Block → Type 0 where
  same_single : (n m : ℕ) (words : List Bytes) → SameBlock (single n words) (single m words)
  same_program : (n m : ℕ) (words : List Bytes) (body preserved : List NumberedLine) → words_in (lines_that_count body) ≡ words_in (lines_that_count preserved) → SameBlock (program n words body) (program m words preserved)
  same_taken : (n m : ℕ) (words : List Bytes) (body preserved : List NumberedLine) → bytes_of_lines body ≡ bytes_of_lines preserved → SameBlock (taken n words body) (taken m words preserved)
  same_schedule : (n m : ℕ) (words : List Bytes) (body preserved : List NumberedLine) → words_in (lines_that_count body) ≡ words_in (lines_that_count preserved) → SameBlock (schedule n words body) (schedule m words preserved)
  same_uncounted : (n m : ℕ) (text word : Bytes) (preserved body : List NumberedLine) → bytes_of_lines preserved ≡ instructions_of (program_lines body) → program_errors (program_lines body) ≡ [] → length preserved ≤ 9999
      → SameBlock (taken n (codes "exec" ∷ text ∷ decimal (length (instructions_of (program_lines body))) ∷ []) preserved) (program m (codes "exec" ∷ text ∷ word ∷ []) body)

data SameBlocks : List Block → List Block → Type 0 where
  no_block : SameBlocks [] []
  onto : (b c : Block) (bs cs : List Block) → SameBlock b c → SameBlocks bs cs → SameBlocks (b ∷ bs) (c ∷ cs)

written-alike : (b c : Block) → SameBlock b c → written_lines b ≡ written_lines c
written-alike _ _ (same_single n m words) = refl
written-alike _ _ (same_program n m words body preserved same) =
    ap (counted_program words) (instructions-alike (program_lines body) (program_lines preserved) (program-alike body preserved same))
written-alike _ _ (same_taken n m words body preserved same) = ap (λ (ls : List Bytes). spaced words ∷ ls) same
written-alike _ _ (same_schedule n m words body preserved same) = ap (λ (ls : List Bytes). spaced words ∷ ls) (spaced-alike (lines_that_count body) (lines_that_count preserved) same)
written-alike _ _ (same_uncounted n m text word preserved body same right few) =
    ap (λ (ls : List Bytes). spaced (codes "exec" ∷ text ∷ decimal (length (instructions_of (program_lines body))) ∷ []) ∷ ls) same

all-written : (bs cs : List Block) → SameBlocks bs cs → flat_map written_lines bs ≡ flat_map written_lines cs
all-written _ _ no_block = refl
all-written _ _ (onto b c bs cs same others) = ap₂ (λ (ls ks : List Bytes). ls ++ ks) (written-alike b c same) (all-written bs cs others)

inside-alike : (b c : Block) → SameBlock b c → errors_in b ≡ [] → errors_in c ≡ []
inside-alike _ _ (same_single n m words) none = refl
inside-alike _ _ (same_program n m words body preserved same) none = errors-same (program_lines body) (program_lines preserved) (program-alike body preserved same) none
inside-alike _ _ (same_taken n m words body preserved same) none = by (is_init (second_text words)) none
  where
    by : (b : Bool) → cond b (program_errors (taken_lines body)) [] ≡ [] → cond b (program_errors (taken_lines preserved)) [] ≡ []
    by true none = errors-same (taken_lines body) (taken_lines preserved) (taken-alike body preserved same) none
    by false none = refl
inside-alike _ _ (same_schedule n m words body preserved same) none = turns-alike 0 (lines_that_count body) (lines_that_count preserved) same none
inside-alike _ _ (same_uncounted n m text word preserved body same right few) none = right

entry-alike : (b c : Block) → SameBlock b c → entry_of_block b ≡ entry_of_block c
unfolding entry_of_block
entry-alike _ _ (same_single n m words) = refl
entry-alike _ _ (same_program n m words body preserved same) =
    ap (λ (is : List Bytes). executable is (exec_path words)) (instructions-alike (program_lines body) (program_lines preserved) (program-alike body preserved same))
entry-alike _ _ (same_taken n m words body preserved same) =
    ap₂ (λ (k : ℕ) (ls : List Bytes). cond (nat_le k 9999) (executable ls (exec_path words)) None) (sym (length-bytes body) ∙ ap length same ∙ length-bytes preserved) same
entry-alike _ _ (same_schedule n m words body preserved same) = refl
entry-alike _ _ (same_uncounted n m text word preserved body same right few) =
    ap (λ (b : Bool). cond b (executable (bytes_of_lines preserved) (exec_path (codes "exec" ∷ text ∷ word ∷ []))) None) (le-leb (length preserved) 9999 few)
    ∙ ap (λ (ls : List Bytes). executable ls (exec_path (codes "exec" ∷ text ∷ word ∷ []))) same

-- the check of an entry does not depend on its line
made-alike : (t : Tree) (n m : ℕ) (x : Bool) (o p : Option Entry) → o ≡ p → (with_entry_of (known t) n x o).0 ≡ false → (after : Tree) × (with_entry_of (known t) n x o ≡ (false, known after)) × (with_entry_of (known t) m x p ≡ (false, known after))
made-alike t n m x o p same right =
    let made = entry-made t n x o right in (
      made.after,
      judged-again n x o made.its_entry t made.after made.found made.made made.init,
      judged-again m x p made.its_entry t made.after (sym same ∙ made.found) (added-any n m t made.its_entry made.after made.made) made.init,
    )

blocks-alike : (bs cs : List Block) → SameBlocks bs cs → (t : Tree) → errors_from bs (known t) ≡ [] → errors_from cs (known t) ≡ []
blocks-alike _ _ no_block t none = refl
blocks-alike _ _ (onto b c bs cs same others) t none = by b c same (reported_split b (checked_block (known t) b) (errors_from bs) none) (λ u. blocks-alike bs cs others u)
  where
    there : (u : Tree) (b c : Block) → SameBlock b c → checked_block (known t) b ≡ (false, known u) → checked_block (known t) c ≡ (false, known u) → errors_in b ≡ [] → errors_from bs (checked_block (known t) b).1 ≡ []
        → (errors_from bs (known u) ≡ [] → errors_from cs (known u) ≡ []) → errors_from (c ∷ cs) (known t) ≡ []
    there u b c same left right inside rest later =
        ap (λ j. reported_of c j (errors_from cs)) right ∙ ap (λ (ns : List ℕ). ns ++ errors_from cs (known u)) (inside-alike b c same inside)
        ∙ later (ap (λ (j : Judgement). errors_from bs j.1) (sym left) ∙ rest)

    by : (b c : Block) → SameBlock b c → ((checked_block (known t) b).0 ≡ false) × (errors_in b ≡ []) × (errors_from bs (checked_block (known t) b).1 ≡ [])
        → ((u : Tree) → errors_from bs (known u) ≡ [] → errors_from cs (known u) ≡ []) → errors_from (c ∷ cs) (known t) ≡ []
    by _ _ (same_single n m words) parts later =
        let made = made-alike t n m false (entry_of_block (single n words)) (entry_of_block (single m words)) (entry-alike (single n words) (single m words) (same_single n m words)) parts.0 in
        there made.0 (single n words) (single m words) (same_single n m words) made.1 made.2 parts.1 parts.2 (later made.0)
    by _ _ (same_program n m words body preserved same) parts later =
        let made = made-alike t n m true (entry_of_block (program n words body)) (entry_of_block (program m words preserved)) (entry-alike (program n words body) (program m words preserved) (same_program n m words body preserved same)) parts.0 in
        there made.0 (program n words body) (program m words preserved) (same_program n m words body preserved same) made.1 made.2 parts.1 parts.2 (later made.0)
    by _ _ (same_taken n m words body preserved same) parts later =
        let made = made-alike t n m true (entry_of_block (taken n words body)) (entry_of_block (taken m words preserved)) (entry-alike (taken n words body) (taken m words preserved) (same_taken n m words body preserved same)) parts.0 in
        there made.0 (taken n words body) (taken m words preserved) (same_taken n m words body preserved same) made.1 made.2 parts.1 parts.2 (later made.0)
    by _ _ (same_uncounted n m text word preserved body same right few) parts later =
        let words = codes "exec" ∷ text ∷ decimal (length (instructions_of (program_lines body))) ∷ [] in
        let others = codes "exec" ∷ text ∷ word ∷ [] in
        let alike = same_uncounted n m text word preserved body same right few in
        let made = made-alike t n m true (entry_of_block (taken n words preserved)) (entry_of_block (program m others body)) (entry-alike (taken n words preserved) (program m others body) alike) parts.0 in
        there made.0 (taken n words preserved) (program m others body) alike made.1 made.2 parts.1 parts.2 (later made.0)
    by _ _ (same_schedule n m words body preserved same) parts later =
        there t (schedule n words body) (schedule m words preserved) (same_schedule n m words body preserved same) (alone (not (length words == 1)) parts.0) (alone (not (length words == 1)) parts.0) parts.1 parts.2 (later t)
      where
        alone : (b : Bool) → b ≡ false → ◌≡◌ {A = Judgement} (b, known t) (false, known t)
        alone b is = ap (λ (v : Bool). (v, known t)) is

-- ---- complete lists of blocks

image-known : (o : Option (ℕ × ℕ)) → (image_so_far o).0 ≡ false → (t : Tree) × ((image_so_far o).1 ≡ known t)
image-known None right = cc right
image-known (Some sizes) right = by (are_sizes sizes.0 sizes.1) right
  where
    by : (b : Bool) → (cond {A = Judgement} b (false, known (empty_tree (data_blocks sizes.0 sizes.1) sizes.1)) (true, record { tree = None; lacked_room = false })).0 ≡ false
        → (t : Tree) × ((cond {A = Judgement} b (false, known (empty_tree (data_blocks sizes.0 sizes.1) sizes.1)) (true, record { tree = None; lacked_room = false })).1 ≡ known t)
    by true right = (empty_tree (data_blocks sizes.0 sizes.1) sizes.1, refl)
    by false right = cc right

first-known : (b : Block) → (checked_first b).0 ≡ false → (t : Tree) × ((checked_first b).1 ≡ known t)
first-known (single n words) right = image-known (sizes_of (spaced words)) right
first-known (program n words body) right = cc right
first-known (taken n words body) right = cc right
first-known (cut_off n) right = cc right
first-known (schedule n words body) right = cc right

first-alike : (b c : Block) → SameBlock b c → checked_first b ≡ checked_first c
first-alike _ _ (same_single n m words) = refl
first-alike _ _ (same_program n m words body preserved same) = refl
first-alike _ _ (same_taken n m words body preserved same) = refl
first-alike _ _ (same_schedule n m words body preserved same) = refl
first-alike _ _ (same_uncounted n m text word preserved body same right few) = refl

source-same : (last other : ℕ) (bs cs : List Block) → SameBlocks bs cs → errors_of_blocks last bs ≡ [] → errors_of_blocks other cs ≡ []
unfolding errors_of_blocks
source-same last other _ _ no_block none = cc none
source-same last other _ _ (onto b c bs cs same others) none =
    let parts = reported_split b (checked_first b) (errors_from bs) none in
    let image = first-known b parts.0 in
    let judged : checked_first c ≡ (false, known image.0) =
    sym (first-alike b c same) ∙ ap₂ (λ (reported : Bool) (s : TreeSoFar). let it : Judgement = (reported, s) in it) parts.0 image.1 in
    ap (λ j. reported_of c j (errors_from cs)) judged ∙ ap (λ (ns : List ℕ). ns ++ errors_from cs (known image.0)) (inside-alike b c same parts.1)
    ∙ blocks-alike bs cs others image.0 (ap (errors_from bs) (sym image.1) ∙ parts.2)

-- ---- the blocks of lines

code-words : (n : ℕ) (lines : List Bytes) → words_in (lines_that_count (counted_from n lines)) ≡ code_of lines
code-words n [] = refl
code-words n (line ∷ lines) = by (not (is_empty (words_of line))) (code-words (n + 1) lines)
  where
    by : (b : Bool) → words_in (lines_that_count (counted_from (n + 1) lines)) ≡ code_of lines
        → words_in (cond b ((n, words_of line) ∷ lines_that_count (counted_from (n + 1) lines)) (lines_that_count (counted_from (n + 1) lines))) ≡ cond b (words_of line ∷ code_of lines) (code_of lines)
    by true rest = ap (λ (others : List (List Bytes)). words_of line ∷ others) rest
    by false rest = rest

code-alike : (n m : ℕ) (body preserved : List Bytes) → code_of body ≡ code_of preserved → words_in (lines_that_count (counted_from n body)) ≡ words_in (lines_that_count (counted_from m preserved))
code-alike n m body preserved same = code-words n body ∙ same ∙ sym (code-words m preserved)

skip-one-more : {X : Type 0} (xs : List X) (y : X) (ys : List X) → drop (suc (length xs)) (xs ++ y ∷ ys) ≡ ys
skip-one-more [] y ys = refl
skip-one-more (x ∷ xs) y ys = skip-one-more xs y ys

up-to-mark : (mark : Bytes) (n : ℕ) (body : List Bytes) (end : Bytes) (lines : List Bytes) → AreBefore mark body → is_alone mark (words_of end) ≡ true
    → lines_up_to mark (counted_from n (body ++ end ∷ lines)) ≡ Some (counted_from n body)
up-to-mark mark n [] end lines before ends = ap (λ (b : Bool). cond b (Some []) (option_map (λ body. (n, end) ∷ body) (lines_up_to mark (counted_from (n + 1) lines)))) ends
up-to-mark mark n (line ∷ body) end lines before ends =
    ap (λ (b : Bool). cond b (Some []) (option_map (λ body. (n, line) ∷ body) (lines_up_to mark (counted_from (n + 1) (body ++ end ∷ lines))))) before.0
    ∙ ap (option_map (λ (body : List NumberedLine). (n, line) ∷ body)) (up-to-mark mark (n + 1) body end lines before.1 ends)

module _ (n : ℕ) (line : Bytes) (words : List Bytes) where
  abbrev from_line : List Bytes → List Block
  from_line lines = blocks_from (counted_from n (line ∷ lines)) 0

  at-blank : (lines : List Bytes) → words_of line ≡ [] → from_line lines ≡ blocks_from (counted_from (n + 1) lines) 0
  at-blank lines is = ap (λ ws. blocks_at n ws (counted_from (n + 1) lines) (blocks_from (counted_from (n + 1) lines))) is

  at-single : (first : Bytes) (lines : List Bytes) → words_of line ≡ first ∷ words → bytes_eq first (codes "schedule") ≡ false → bytes_eq first (codes "exec") ≡ false
      → from_line lines ≡ single n (first ∷ words) ∷ blocks_from (counted_from (n + 1) lines) 0
  at-single first lines is no_schedule no_exec =
      let rest = counted_from (n + 1) lines in
      ap (λ ws. blocks_at n ws rest (blocks_from rest)) is
      ∙ ap (λ (b : Bool). cond b (schedule n (first ∷ words) rest ∷ []) (cond (bytes_eq first (codes "exec")) (or_cut_off n (blocks_from rest) (exec_block n (first ∷ words) rest)) (single n (first ∷ words) ∷ blocks_from rest 0))) no_schedule
      ∙ ap (λ (b : Bool). cond b (or_cut_off n (blocks_from rest) (exec_block n (first ∷ words) rest)) (single n (first ∷ words) ∷ blocks_from rest 0)) no_exec

  at-schedule : (lines : List Bytes) → words_of line ≡ codes "schedule" ∷ words → from_line lines ≡ schedule n (codes "schedule" ∷ words) (counted_from (n + 1) lines) ∷ []
  at-schedule lines is = ap (λ ws. blocks_at n ws (counted_from (n + 1) lines) (blocks_from (counted_from (n + 1) lines))) is

  abbrev exec_words : List Bytes
  exec_words = codes "exec" ∷ words

  module _ (body lines : List Bytes) (is : words_of line ≡ codes "exec" ∷ words) where
    at-counted : mark_of (last_word (codes "exec" ∷ words)) ≡ None → decimal_of (last_word (codes "exec" ∷ words)) ≡ Some (length body)
        → from_line (body ++ lines) ≡ taken n (codes "exec" ∷ words) (counted_from (n + 1) body) ∷ blocks_from (counted_from (n + 1 + length body) lines) 0
    at-counted no_mark count =
        let all_lines = counted_from (n + 1) (body ++ lines) in
        let its_lines = counted_from (n + 1) body in
        let others = counted_from (n + 1 + length body) lines in
        let parts = counted-append (n + 1) body lines in
        let size = length-counted (n + 1) body in
        let long : length all_lines ≡ length (body ++ lines) = length-counted (n + 1) (body ++ lines) in
        let there : nat_le (length body) (length all_lines) ≡ true = le-leb (length body) (length all_lines) (omega (arith, long, length-append body lines)) in
        let first : take (length body) all_lines ≡ its_lines = ap (take (length body)) parts ∙ subst (λ k. take k (its_lines ++ others) ≡ its_lines) size (take-append_seam its_lines others) in
        let after : drop (length body) all_lines ≡ others = ap (drop (length body)) parts ∙ subst (λ k. drop k (its_lines ++ others) ≡ others) size (drop-append_seam its_lines others) in
        ap (λ ws. blocks_at n ws all_lines (blocks_from all_lines)) is
        ∙ ap (λ m. or_cut_off n (blocks_from all_lines) (exec_by n exec_words all_lines m (decimal_of (last_word exec_words)))) no_mark
        ∙ ap (λ c. or_cut_off n (blocks_from all_lines) (exec_by n exec_words all_lines None c)) count
        ∙ ap (λ b. or_cut_off n (blocks_from all_lines) (cond b (Some (taken n exec_words (take (length body) all_lines), length body)) None)) there
        ∙ ap (λ ls. taken n exec_words ls ∷ blocks_from all_lines (length body)) first
        ∙ ap (λ bs. taken n exec_words its_lines ∷ bs) (blocks_skip all_lines (length body) ∙ ap (λ ls. blocks_from ls 0) after)

  module _ (mark end : Bytes) (body lines : List Bytes) (is : words_of line ≡ codes "exec" ∷ words) where
    at-marked : mark_of (last_word (codes "exec" ∷ words)) ≡ Some mark → AreBefore mark body → is_alone mark (words_of end) ≡ true
        → from_line (body ++ end ∷ lines) ≡ program n (codes "exec" ∷ words) (counted_from (n + 1) body) ∷ blocks_from (counted_from (n + 1 + length body + 1) lines) 0
    at-marked mark_is before ends =
        let all_lines = counted_from (n + 1) (body ++ end ∷ lines) in
        let its_lines = counted_from (n + 1) body in
        let others = counted_from (n + 1 + length body + 1) lines in
        let after : drop (suc (length its_lines)) all_lines ≡ others =
        ap (drop (suc (length its_lines))) (counted-append (n + 1) body (end ∷ lines)) ∙ skip-one-more its_lines (n + 1 + length body, end) others in
        ap (λ ws. blocks_at n ws all_lines (blocks_from all_lines)) is
        ∙ ap (λ m. or_cut_off n (blocks_from all_lines) (exec_by n exec_words all_lines m (decimal_of (last_word exec_words)))) mark_is
        ∙ ap (λ o. or_cut_off n (blocks_from all_lines) (option_map (λ ls. (program n exec_words ls, suc (length ls))) o)) (up-to-mark mark (n + 1) body end lines before ends)
        ∙ ap (λ bs. program n exec_words its_lines ∷ bs) (blocks_skip all_lines (suc (length its_lines)) ∙ ap (λ ls. blocks_from ls 0) after)

both-are : (bs bs' cs cs' : List Block) → bs ≡ bs' → cs ≡ cs' → SameBlocks bs' cs' → SameBlocks bs cs
both-are bs bs' cs cs' b c same = subst (λ (xs : List Block). SameBlocks xs cs) (sym b) (subst (λ (xs : List Block). SameBlocks bs' xs) (sym c) same)

code-blocks : (ls os : List Bytes) → HaveSameCode ls os → (n m : ℕ) → SameBlocks (blocks_from (counted_from n ls) 0) (blocks_from (counted_from m os) 0)
code-blocks _ _ no_line n m = no_block
code-blocks _ _ (left_out line lines others blank same) n m =
    both-are _ (blocks_from (counted_from (n + 1) lines) 0) _ (blocks_from (counted_from m others) 0) (at-blank n line [] lines blank) refl (code-blocks lines others same (n + 1) m)
code-blocks _ _ (added line lines others blank same) n m =
    both-are _ (blocks_from (counted_from n lines) 0) _ (blocks_from (counted_from (m + 1) others) 0) refl (at-blank m line [] others blank) (code-blocks lines others same n (m + 1))
code-blocks _ _ (single_line line other first words lines others have no_schedule no_exec same) n m =
    both-are _ (single n (first ∷ words) ∷ blocks_from (counted_from (n + 1) lines) 0) _ (single m (first ∷ words) ∷ blocks_from (counted_from (m + 1) others) 0)
    (at-single n line words first lines have.0 no_schedule no_exec) (at-single m other words first others have.1 no_schedule no_exec)
    (onto (single n (first ∷ words)) (single m (first ∷ words)) _ _ (same_single n m (first ∷ words)) (code-blocks lines others same (n + 1) (m + 1)))
code-blocks _ _ (counted line other words body lines others have no_mark count same) n m =
    both-are _ (taken n (codes "exec" ∷ words) (counted_from (n + 1) body) ∷ blocks_from (counted_from (n + 1 + length body) lines) 0) _
    (taken m (codes "exec" ∷ words) (counted_from (m + 1) body) ∷ blocks_from (counted_from (m + 1 + length body) others) 0)
    (at-counted n line words body lines have.0 no_mark count) (at-counted m other words body others have.1 no_mark count)
    (onto (taken n (codes "exec" ∷ words) (counted_from (n + 1) body)) (taken m (codes "exec" ∷ words) (counted_from (m + 1) body)) _ _
    (same_taken n m (codes "exec" ∷ words) (counted_from (n + 1) body) (counted_from (m + 1) body) (bytes-counted (n + 1) body ∙ sym (bytes-counted (m + 1) body)))
    (code-blocks lines others same (n + 1 + length body) (m + 1 + length body)))
code-blocks _ _ (marked line other mark end last words body preserved lines others have mark_is before ends before_too ends_too code same) n m =
    both-are _ (program n (codes "exec" ∷ words) (counted_from (n + 1) body) ∷ blocks_from (counted_from (n + 1 + length body + 1) lines) 0) _
    (program m (codes "exec" ∷ words) (counted_from (m + 1) preserved) ∷ blocks_from (counted_from (m + 1 + length preserved + 1) others) 0)
    (at-marked n line words mark end body lines have.0 mark_is before ends) (at-marked m other words mark last preserved others have.1 mark_is before_too ends_too)
    (onto (program n (codes "exec" ∷ words) (counted_from (n + 1) body)) (program m (codes "exec" ∷ words) (counted_from (m + 1) preserved)) _ _
    (same_program n m (codes "exec" ∷ words) (counted_from (n + 1) body) (counted_from (m + 1) preserved) (code-alike (n + 1) (m + 1) body preserved code))
    (code-blocks lines others same (n + 1 + length body + 1) (m + 1 + length preserved + 1)))
code-blocks _ _ (uncounted line other text word mark end preserved body lines others is is_too mark_is before ends program_is same) n m =
    let encoded = Decimal-decimal (length preserved) (omega (arith, program_is.few)) in
    let alike = program-alike (counted_from 1 body) (counted_from (m + 1) body) (code-alike 1 (m + 1) body body refl) in
    let instructions : instructions_of (program_lines (counted_from (m + 1) body)) ≡ preserved =
    sym (instructions-alike (program_lines (counted_from 1 body)) (program_lines (counted_from (m + 1) body)) alike) ∙ program_is.written in
    let right = errors-same (program_lines (counted_from 1 body)) (program_lines (counted_from (m + 1) body)) alike program_is.right in
    let size = length-counted (n + 1) preserved in
    both-are _ (taken n (codes "exec" ∷ text ∷ decimal (length preserved) ∷ []) (counted_from (n + 1) preserved) ∷ blocks_from (counted_from (n + 1 + length preserved) lines) 0) _
    (program m (codes "exec" ∷ text ∷ word ∷ []) (counted_from (m + 1) body) ∷ blocks_from (counted_from (m + 1 + length body + 1) others) 0)
    (at-counted n line (text ∷ decimal (length preserved) ∷ []) preserved lines is (no-mark (length preserved) (decimal (length preserved)) encoded) (decimal_of-Decimal (length preserved) (decimal (length preserved)) encoded))
    (at-marked m other (text ∷ word ∷ []) mark end body others is_too mark_is before ends)
    (onto (taken n (codes "exec" ∷ text ∷ decimal (length preserved) ∷ []) (counted_from (n + 1) preserved)) (program m (codes "exec" ∷ text ∷ word ∷ []) (counted_from (m + 1) body)) _ _
    (subst (λ (is : List Bytes). SameBlock (taken n (codes "exec" ∷ text ∷ decimal (length is) ∷ []) (counted_from (n + 1) preserved)) (program m (codes "exec" ∷ text ∷ word ∷ []) (counted_from (m + 1) body))) instructions
    (same_uncounted n m text word (counted_from (n + 1) preserved) (counted_from (m + 1) body) (bytes-counted (n + 1) preserved ∙ sym instructions) right (omega (arith, size, program_is.few))))
    (code-blocks lines others same (n + 1 + length preserved) (m + 1 + length body + 1)))
code-blocks _ _ (scheduled line other words lines others have code) n m =
    both-are _ (schedule n (codes "schedule" ∷ words) (counted_from (n + 1) lines) ∷ []) _ (schedule m (codes "schedule" ∷ words) (counted_from (m + 1) others) ∷ [])
    (at-schedule n line words lines have.0) (at-schedule m other words others have.1)
    (onto (schedule n (codes "schedule" ∷ words) (counted_from (n + 1) lines)) (schedule m (codes "schedule" ∷ words) (counted_from (m + 1) others)) [] []
    (same_schedule n m (codes "schedule" ∷ words) (counted_from (n + 1) lines) (counted_from (m + 1) others) (code-alike (n + 1) (m + 1) lines others code)) no_block)

-- ---- sources

pub same-code : (source other text : Bytes) → HaveSameCode (lines_of source) (lines_of other) → read_source source ≡ Ok text → read_source other ≡ Ok text
unfolding read_source blocks_of text_of_blocks
same-code source other text same is =
    let blocks = code-blocks (lines_of source) (lines_of other) same 1 1 in
    let parts = errors-parts (blocks_of source) (errors_of_blocks (suc (length (lines_of source))) (blocks_of source)) text is in
    let none = source-same (suc (length (lines_of source))) (suc (length (lines_of other))) (blocks_of source) (blocks_of other) blocks parts.0 in
    ap (λ (faults : List ℕ). or_errors (blocks_of other) (take 20 faults)) none
    ∙ ap (λ (lines : List Bytes). Ok (ended lines)) (sym (all-written (blocks_of source) (blocks_of other) blocks)) ∙ ap (λ (bytes : Bytes). Ok bytes) parts.1

-- ---- blank lines and comments

without-return : (b c : ℕ) (bs : Bytes) → without_return (b ∷ c ∷ bs) ≡ b ∷ without_return (c ∷ bs)
without-return b c bs = by (before_last 13 (c ∷ bs))
  where
    by : (o : Option Bytes) → unwrap_or (option_map (λ front. b ∷ front) o) (b ∷ c ∷ bs) ≡ b ∷ unwrap_or o (c ∷ bs)
    by None = refl
    by (Some front) = refl

blank-first : (b : ℕ) (bs : Bytes) → is_blank b ≡ true → words_from bs between ≡ [] → words_from (b ∷ bs) between ≡ []
blank-first b bs blank none =
    ap (λ (t : Bool). cond t (words_from bs between) (cond (b == 35) [] (onto_first b (words_from bs (begun b bs))))) blank ∙ none

no-words : (blanks comment : Bytes) → list_all is_blank blanks ≡ true → words_from (without_return (blanks ++ 35 ∷ comment)) between ≡ []
no-words [] [] all = refl
no-words [] (c ∷ cs) all = ap (λ (bs : Bytes). words_from bs between) (without-return 35 c cs)
no-words (b ∷ []) comment all =
    let parts = and_parts (is_blank b) true all in
    ap (λ (bs : Bytes). words_from bs between) (without-return b 35 comment) ∙ blank-first b (without_return (35 ∷ comment)) parts.0 (no-words [] comment refl)
no-words (b ∷ c ∷ bs) comment all =
    let parts = and_parts (is_blank b) (list_all is_blank (c ∷ bs)) all in
    ap (λ (bs : Bytes). words_from bs between) (without-return b c (bs ++ 35 ∷ comment)) ∙ blank-first b (without_return (c ∷ bs ++ 35 ∷ comment)) parts.0 (no-words (c ∷ bs) comment parts.1)

blanks-alone : (blanks : Bytes) → list_all is_blank blanks ≡ true → words_from (without_return blanks) between ≡ []
blanks-alone [] all = refl
blanks-alone (b ∷ []) all = by (b == 13)
  where
    by : (t : Bool) → words_from (unwrap_or (cond t (Some []) None) (b ∷ [])) between ≡ []
    by true = refl
    by false = blank-first b [] (and_parts (is_blank b) true all).0 refl
blanks-alone (b ∷ c ∷ bs) all =
    let parts = and_parts (is_blank b) (list_all is_blank (c ∷ bs)) all in
    ap (λ (bs : Bytes). words_from bs between) (without-return b c bs) ∙ blank-first b (without_return (c ∷ bs)) parts.0 (blanks-alone (c ∷ bs) parts.1)

pub comments-none : (blanks comment : Bytes) → list_all is_blank blanks ≡ true → (words_of blanks ≡ []) × (words_of (blanks ++ codes "#" ++ comment) ≡ [])
unfolding words_of
comments-none blanks comment all =
    (blanks-alone blanks all, ap (λ (bs : Bytes). words_from (without_return bs) between) (append_assoc blanks (codes "#") comment) ∙ no-words blanks comment all)
