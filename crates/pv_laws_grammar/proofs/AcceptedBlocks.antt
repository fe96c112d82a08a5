-- The text written for blocks is a manifest or a bundle.
use Rattle.std.proofs.Common.{◌≡◌, ◌∙◌, ap, ℕ, zero, suc, ◌+◌, ◌<◌, ◌≤◌, Bool, true, false, cond, List, [], ◌∷◌, ◌++◌, length, take, Option, None, Some, Result, Ok, Err, refl, sym, subst, inl, inr, arith, append_assoc, leb-true}
use Rattle.std.specs.Prelude.{◌==◌, ◌&&◌, ◌||◌, not, min, map, flat_map, codes, bytes_eq, nat_le, is_err, is_none, is_some, option_map, IfSome}
use Rattle.std.specs.Fmt.{decimal}
use Rattle.std.specs.List.{AllByRecursion, cons_option}
use Rattle.std.proofs.lemmas.Bool.{cond_both, cases_lt, eq-eqb, ne_eqb, false≢true, or_parts}
use Rattle.std.proofs.lemmas.List.{append-nil, length-take-le}
use Rattle.std.proofs.lemmas.Slice.Eq.{bytes_eq-Decides}
use Rattle.pv_model.specs.declared.fault.ManifestFault.{ManifestFault}
use Rattle.pv_model.specs.declared.fault.ManifestFault.TheVariants.{Form, Size, Parent, Exists, Source, Room, Memory}
use Rattle.pv_model.specs.declared.fault.ParseFault.TheVariants.{Line}
use Rattle.pv_model.specs.declared.fault.ScheduleFault.TheVariants.{Line as TurnLine}
use Rattle.pv_model.specs.declared.fault.What.TheVariants.{TooMany}
use Rattle.pv_model.specs.declared.fault.What.{What}
use Rattle.pv_model.specs.declared.instruction.Instruction.{Instruction}
use Rattle.pv_model.specs.Machine.{spaced, Bytes, is_empty, text_at, instruction_of, decimal_of, Listed, is_manifest_path, path_of, entry_of, add_entry, add_entries, read_program, schedule_of_lines, EncodesText, ended, Entry, make, further_name, is_too_long, fits, Program, Schedule, Tree, root, find_entry, with_entry, file_node, components, Block, single, taken, blocks_from, LabelledLine, labelled_lines, labels_from, instruction_text, program_line_of, program_lines, taken_lines, instructions_of, reported_if, invalid_lines, program_errors, NumberedLine, NumberedWords, words_of, lines_that_count, last_word, written_lines}
use Rattle.pv_model.specs.Grammar.Arguments.{if_last}
use Rattle.pv_model.specs.Grammar.Entries.{EncodesEntry, of_program, Lists, at_end, at_schedule, entry}
use Rattle.pv_model.specs.Grammar.Manifests.{Taking, if_path, container, source_of, if_room, with_source, entry_in, entry_at, and_entries}
use Rattle.pv_model.specs.Grammar.Programs.{or_line, program_from}
use Rattle.pv_model.specs.Grammar.Schedules.{turn_of, or_schedule_line, schedule_from}
use Rattle.pv_model.specs.Grammar.Texts.{IsLine}
use Rattle.pv_laws_grammar.proofs.Decimals.{Decimal-decimal_of, Decimal-encoded}
use Rattle.pv_laws_grammar.proofs.EntryLines.{entry_found}
use Rattle.pv_laws_grammar.proofs.EntryPaths.{IsEntryPath-from_test}
use Rattle.pv_laws_grammar.proofs.SingleWords.{mapped_found}
use Rattle.pv_laws_grammar.proofs.QuotedTexts.{reads_text}
use Rattle.pv_laws_grammar.specs.Accepted.{IsValidInit}
use Rattle.pv_model.specs.Source.Blocks.{program, cut_off, schedule, mark_of, lines_up_to, exec_by, exec_block, or_cut_off, blocks_at}
use Rattle.pv_model.specs.Source.Judged.{second_text, has_three_words, exec_path, executable, entry_of_block, is_init, invalid_turn, invalid_turns, errors_in, TreeSoFar, Judgement, made_or_reported, with_entry_of, line_of_block, checked_block, reported_of, errors_from}
use Rattle.pv_model.specs.Source.Programs.{label_of, after_label, labelled_words, or_exit, with_exit, number_of_label, is_jump, begins_with_letter, or_word, target_word, without_labels, ProgramLine, is_set_in, and_label, count_instruction, is_invalid}
use Rattle.pv_model.specs.Source.Words.{is_alone, with_last_word}
use Rattle.pv_model.specs.Source.Written.{bytes_of_lines}
use Rattle.pv_laws_grammar.proofs.WrittenLines.{AreLines, HaveLines, HaveWords, all-take, words_of-lines, spaced-line, last-line, with_last-lines, decimal-line, taken-lines, counting-lines, lines_again}

-- ---- the blocks of a source

pub data AreBlocks : List Block → Type 0 where
  no_block : AreBlocks []
  by_itself : (n : ℕ) (words : List Bytes) (blocks : List Block) → AreLines words → AreBlocks blocks → AreBlocks (single n words ∷ blocks)
  up_to_mark : (n : ℕ) (others : List Bytes) (body : List NumberedLine) (blocks : List Block) → AreLines (codes "exec" ∷ others) → HaveLines body → AreBlocks blocks
      → AreBlocks (program n (codes "exec" ∷ others) body ∷ blocks)
  so_many : (n : ℕ) (others : List Bytes) (body : List NumberedLine) (blocks : List Block) → AreLines (codes "exec" ∷ others) → HaveLines body → decimal_of (last_word (codes "exec" ∷ others)) ≡ Some (length body)
      → AreBlocks blocks → AreBlocks (taken n (codes "exec" ∷ others) body ∷ blocks)
  unended : (n : ℕ) → AreBlocks (cut_off n ∷ [])
  then_turns : (n : ℕ) (others : List Bytes) (body : List NumberedLine) → AreLines (codes "schedule" ∷ others) → HaveLines body → AreBlocks (schedule n (codes "schedule" ∷ others) body ∷ [])

up_to-lines : (mark : Bytes) (lines : List NumberedLine) → HaveLines lines → IfSome (lines_up_to mark lines) HaveLines
up_to-lines mark [] all = tt
up_to-lines mark (line ∷ lines) all = by (is_alone mark (words_of line.1)) (lines_up_to mark lines) (up_to-lines mark lines all.1)
  where
    by : (marks : Bool) (o : Option (List NumberedLine)) → IfSome o HaveLines → IfSome (cond marks (Some []) (option_map (λ body. line ∷ body) o)) HaveLines
    by true o later = tt
    by false None later = tt
    by false (Some body) later = (all.0, later)

module _ (n : ℕ) (others : List Bytes) (lines : List NumberedLine) (own : AreLines (codes "exec" ∷ others)) (all : HaveLines lines) (onward : ℕ → List Block) (later : (k : ℕ) → AreBlocks (onward k)) where
  exec-are : (mark : Option Bytes) (count : Option ℕ) → count ≡ decimal_of (last_word (codes "exec" ∷ others)) → AreBlocks (or_cut_off n onward (exec_by n (codes "exec" ∷ others) lines mark count))
  exec-are (Some mark) count is = by (lines_up_to mark lines) (up_to-lines mark lines all)
    where
      by : (o : Option (List NumberedLine)) → IfSome o HaveLines → AreBlocks (or_cut_off n onward (option_map (λ body. (program n (codes "exec" ∷ others) body, suc (length body))) o))
      by None lines_ = unended n
      by (Some body) lines_ = up_to_mark n others body (onward (suc (length body))) own lines_ (later (suc (length body)))
  exec-are None (Some k) is = by (nat_le k (length lines)) refl
    where
      by : (t : Bool) → nat_le k (length lines) ≡ t → AreBlocks (or_cut_off n onward (cond t (Some (taken n (codes "exec" ∷ others) (take k lines), k)) None))
      by true there =
          let size : length (take k lines) ≡ k = length-take-le k lines (leb-true k (length lines) there) in
          so_many n others (take k lines) (onward k) own (all-take (λ (line : NumberedLine). IsLine line.1) k lines all) (sym is ∙ ap (λ (m : ℕ). Some m) (sym size)) (later k)
      by false there = unended n
  exec-are None None is = unended n

words-are : (n : ℕ) (words : List Bytes) (lines : List NumberedLine) → AreLines words → HaveLines lines → (onward : ℕ → List Block) → ((k : ℕ) → AreBlocks (onward k)) → AreBlocks (blocks_at n words lines onward)
words-are n [] lines own all onward later = later 0
words-are n (word ∷ words) lines own all onward later =
    cond_both (bytes_eq word (codes "schedule")) (schedule n (word ∷ words) lines ∷ []) (cond (bytes_eq word (codes "exec")) (or_cut_off n onward (exec_block n (word ∷ words) lines)) (single n (word ∷ words) ∷ onward 0)) AreBlocks
    (λ is.
    let same : word ≡ codes "schedule" = (bytes_eq-Decides word (codes "schedule")).0 is in
    subst (λ w. AreBlocks (schedule n (w ∷ words) lines ∷ [])) (sym same) (then_turns n words lines (subst (λ w. AreLines (w ∷ words)) same own) all))
    (λ _.
    cond_both (bytes_eq word (codes "exec")) (or_cut_off n onward (exec_block n (word ∷ words) lines)) (single n (word ∷ words) ∷ onward 0) AreBlocks
    (λ is.
    let same : word ≡ codes "exec" = (bytes_eq-Decides word (codes "exec")).0 is in
    subst (λ w. AreBlocks (or_cut_off n onward (exec_block n (w ∷ words) lines))) (sym same)
    (exec-are n words lines (subst (λ w. AreLines (w ∷ words)) same own) all onward later (mark_of (last_word (codes "exec" ∷ words))) (decimal_of (last_word (codes "exec" ∷ words))) refl))
    (λ _. by_itself n (word ∷ words) (onward 0) own (later 0)))

pub blocks-are : (lines : List NumberedLine) (k : ℕ) → HaveLines lines → AreBlocks (blocks_from lines k)
blocks-are [] k all = no_block
blocks-are (line ∷ lines) (suc k) all = blocks-are lines k all.1
blocks-are (line ∷ lines) zero all = words-are line.0 (words_of line.1) lines (words_of-lines line.1 all.0) all.1 (blocks_from lines) (λ k. blocks-are lines k all.1)

-- ---- the errors of a block

nothing_first : (xs ys : List ℕ) → xs ++ ys ≡ [] → xs ≡ []
nothing_first [] ys is = refl
nothing_first (x ∷ xs) ys is = cc

nothing_second : (xs ys : List ℕ) → xs ++ ys ≡ [] → ys ≡ []
nothing_second [] ys is = is
nothing_second (x ∷ xs) ys is = cc

pub reported_split : (b : Block) (j : Judgement) (onward : TreeSoFar → List ℕ) → reported_of b j onward ≡ [] → (j.0 ≡ false) × (errors_in b ≡ []) × (onward j.1 ≡ [])
reported_split b j onward = by j.0 refl
  where
    by : (t : Bool) → j.0 ≡ t → reported_if t (line_of_block b) (errors_in b ++ onward j.1) ≡ [] → (j.0 ≡ false) × (errors_in b ≡ []) × (onward j.1 ≡ [])
    by true p is = cc
    by false p is = (p, nothing_first (errors_in b) (onward j.1) is, nothing_second (errors_in b) (onward j.1) is)

abbrev pub known : Tree → TreeSoFar
known t = record { tree = Some t; lacked_room = false }

pub record MadeBy (t : Tree) (n : ℕ) (is_exec : Bool) (o : Option Entry) : Type 0 where
  pub its_entry : Entry
  pub after : Tree
  pub found : o ≡ Some its_entry
  pub made : add_entry n t its_entry ≡ Ok after
  pub left : (with_entry_of (known t) n is_exec o).1 ≡ known after
  pub init : (not is_exec && is_init (Some (path_of its_entry))) ≡ false

module _ (t : Tree) (n : ℕ) (x : Bool) where
  pub entry-made : (o : Option Entry) → (with_entry_of (known t) n x o).0 ≡ false → MadeBy t n x o
  entry-made None reported = cc
  entry-made (Some e) reported = by (add_entry n t e) refl parts.1
    where
      parts : ((not x && is_init (Some (path_of e))) ≡ false) × ((made_or_reported (known t) (add_entry n t e)).0 ≡ false)
      parts = or_parts (not x && is_init (Some (path_of e))) (made_or_reported (known t) (add_entry n t e)).0 reported

      by : (r : Result Tree ManifestFault) → add_entry n t e ≡ r → (made_or_reported (known t) r).0 ≡ false → MadeBy t n x (Some e)
      by (Ok u) is none = record { its_entry = e; after = u; found = refl; made = is; left = ap (λ r. (made_or_reported (known t) r).1) is; init = (or_parts (not x && is_init (Some (path_of e))) (made_or_reported (known t) (add_entry n t e)).0 reported).0 }
      by (Err (Room m)) is none = cc
      by (Err (Form m)) is none = cc
      by (Err Size) is none = cc
      by (Err (Parent m)) is none = cc
      by (Err (Exists m)) is none = cc
      by (Err (Source m)) is none = cc
      by (Err Memory) is none = cc

-- ---- the line number of an entry matters only for errors

module _ (m n : ℕ) where
  room-any : (t u : Tree) → if_room m t ≡ Ok u → if_room n t ≡ Ok u
  room-any t u = by (is_too_long t || not (fits t))
    where
      by : (lacks : Bool) → cond lacks (Err (Room m)) (Ok t) ≡ Ok u → cond lacks (Err (Room n)) (Ok t) ≡ Ok u
      by true is = cc
      by false is = is

  source-any : (t : Tree) (d : ℕ) (name : Bytes) (source : Option ℕ) (u : Tree) → with_source m t d name source ≡ Ok u → with_source n t d name source ≡ Ok u
  source-any t d name None u is = cc
  source-any t d name (Some k) u is = room-any (with_entry t d name k) u is

  entry-any : (t : Tree) (e : Entry) (d : ℕ) (name : Bytes) (u : Tree) → entry_in m t e d name ≡ Ok u → entry_in n t e d name ≡ Ok u
  entry-any t (make path node) d name u is = room-any _ u is
  entry-any t (further_name path source) d name u is = source-any t d name (source_of t source) u is

  place-any : (t : Tree) (e : Entry) (place : Option (ℕ × Bytes)) (u : Tree) → entry_at m t e place ≡ Ok u → entry_at n t e place ≡ Ok u
  place-any t e None u is = cc
  place-any t e (Some p) u is = by (is_some (find_entry t p.0 p.1)) is
    where
      by : (there : Bool) → cond there (Err (Exists m)) (entry_in m t e p.0 p.1) ≡ Ok u → cond there (Err (Exists n)) (entry_in n t e p.0 p.1) ≡ Ok u
      by true is = cc
      by false is = entry-any t e p.0 p.1 u is

  pub added-any : (t : Tree) (e : Entry) (u : Tree) → add_entry m t e ≡ Ok u → add_entry n t e ≡ Ok u
  unfolding add_entry
  added-any t e u is = place-any t e (container t (components (path_of e)) root) u is

-- ---- the line of an `exec`

record ExecWords (others : List Bytes) (path : Bytes) : Type 0 where
  text : Bytes
  last : Bytes
  are : others ≡ text ∷ last ∷ []
  encoded : EncodesText path text
  is_path : is_manifest_path path ≡ true

if_path-parts : (o : Option Bytes) (path : Bytes) → if_path o ≡ Some path → (o ≡ Some path) × (is_manifest_path path ≡ true)
if_path-parts None path is = cc
if_path-parts (Some p) path is = by (is_manifest_path p) refl is
  where
    by : (t : Bool) → is_manifest_path p ≡ t → cond t (Some p) None ≡ Some path → ◌≡◌ {A = Option Bytes} (Some p) (Some path) × (is_manifest_path path ≡ true)
    by true holds is = let same : p ≡ path = cc in (is, subst (λ q. is_manifest_path q ≡ true) same holds)
    by false holds is = cc

if_last-parts : (text path : Bytes) → if_last (text_at text) ≡ Some path → text_at text ≡ Some (path, [])
if_last-parts text path = by (text_at text)
  where
    at_end_of : (p : Bytes × Bytes) (rest : Bytes) → p.1 ≡ rest → cond (is_empty rest) (Some p.0) None ≡ Some path → ◌≡◌ {A = Option (Bytes × Bytes)} (Some p) (Some (path, []))
    at_end_of p [] none is = let same : p.0 ≡ path = cc in ap (λ (q : Bytes × Bytes). Some q) (let pair : p ≡ (p.0, p.1) = refl in pair ∙ ap (λ v. (v, p.1)) same ∙ ap (λ r. (path, r)) none)
    at_end_of p (b ∷ rest) none is = cc

    by : (o : Option (Bytes × Bytes)) → if_last o ≡ Some path → o ≡ Some (path, [])
    by None is = cc
    by (Some p) is = at_end_of p p.1 refl is

exec-words : (others : List Bytes) (path : Bytes) → exec_path (codes "exec" ∷ others) ≡ Some path → ExecWords others path
exec-words [] path is = cc
exec-words (text ∷ []) path is = cc
exec-words (text ∷ last ∷ []) path is =
    let parts = if_path-parts (if_last (text_at text)) path is in
    let found = reads_text.found text path [] (if_last-parts text path parts.0) in
    record {
      text = text;
      last = last;
      are = refl;
      encoded = subst (EncodesText path) (sym (found.2 ∙ append-nil found.0)) found.1;
      is_path = parts.1;
    }
exec-words (text ∷ last ∷ more ∷ rest) path is =
    let other : (suc (suc (suc (suc (length rest)))) == 3) ≡ false = ne_eqb (suc (suc (suc (suc (length rest))))) 3 (λ same. omega (arith, same)) in
    let none : exec_path (codes "exec" ∷ text ∷ last ∷ more ∷ rest) ≡ None = ap (λ t. cond t (if_path (second_text (codes "exec" ∷ text ∷ last ∷ more ∷ rest))) None) other in
    cc

exec-text : (others : List Bytes) (path : Bytes) → exec_path (codes "exec" ∷ others) ≡ Some path → second_text (codes "exec" ∷ others) ≡ Some path
exec-text others path is = by (has_three_words (codes "exec" ∷ others)) is
  where
    by : (t : Bool) → cond t (if_path (second_text (codes "exec" ∷ others))) None ≡ Some path → second_text (codes "exec" ∷ others) ≡ Some path
    by true is_ = (if_path-parts (second_text (codes "exec" ∷ others)) path is_).0
    by false is_ = cc

exec-line : (text last : Bytes) → spaced (codes "exec" ∷ text ∷ last ∷ []) ≡ codes "exec " ++ text ++ codes " " ++ last
exec-line text last = ap (λ bs. codes "exec " ++ bs) (ap (λ l. text ++ 32 ∷ l) (append-nil last) ∙ sym (append_assoc text (32 ∷ []) last))

-- a line with its body encodes an executable file
exec-encodes : (others : List Bytes) (path : Bytes) (lines : List Bytes) (count : Bytes) → exec_path (codes "exec" ∷ others) ≡ Some path → length lines ≤ 9999 → count ≡ decimal (length lines)
    → EncodesEntry (spaced (with_last_word count (codes "exec" ∷ others))) lines (make path (file_node true (ended lines)))
exec-encodes others path lines count is few counts =
    let words = exec-words others path is in
    let line : spaced (with_last_word count (codes "exec" ∷ others)) ≡ codes "exec " ++ words.text ++ codes " " ++ decimal (length lines) =
    ap (λ ws. spaced (with_last_word count (codes "exec" ∷ ws))) words.are ∙ exec-line words.text count ∙ ap (λ c. codes "exec " ++ words.text ++ codes " " ++ c) counts in
    subst (λ l. EncodesEntry l lines (make path (file_node true (ended lines)))) (sym line)
    (of_program path words.text lines (IsEntryPath-from_test path words.is_path, words.encoded) few)

-- ---- programs

-- lines without errors are a program
record IsProgramFrom (count before : ℕ) (lines : List ProgramLine) : Type 0 where
  program : Program
  reads : program_from (instruction_of (min count 256)) (instructions_of lines) (suc before) ≡ Ok program
  few : before + length (instructions_of lines) ≤ 256

onto-program : (count before : ℕ) (text : Bytes) (later : List ProgramLine) (lines : List ProgramLine) → before ≤ 256 → is_invalid count before (Some text) ≡ false → instructions_of lines ≡ text ∷ instructions_of later
    → (before < 256 → IsProgramFrom count (before + 1) later) → IsProgramFrom count before lines
onto-program count before text later lines within right first more =
    let parts = or_parts (before == 256) (is_err (instruction_of (min count 256) text)) right in
    let under : before < 256 = below before within parts.0 in
    let next = more under in
    let at : suc before ≡ before + 1 = omega arith in
    by (instruction_of (min count 256) text) refl parts.1 under next at
  where
    below : (n : ℕ) → n ≤ 256 → (n == 256) ≡ false → n < 256
    below n le other = elim (cases_lt n 256) [ inl lt ↦ lt | inr ge ↦ let same : (n == 256) ≡ true = eq-eqb n 256 (omega arith) in absurd (false≢true (sym other ∙ same)) ]

    by : (r : Result Instruction What) → instruction_of (min count 256) text ≡ r → is_err r ≡ false → before < 256 → IsProgramFrom count (before + 1) later → suc before ≡ before + 1 → IsProgramFrom count before lines
    by (Err what) is right_ under next at = cc
    by (Ok i) is right_ under next at =
        let other : (suc before == 257) ≡ false = ne_eqb (suc before) 257 (λ same. omega (arith, same, under)) in
        record {
          program = i ∷ next.program;
          reads =
              ap (λ ls. program_from (instruction_of (min count 256)) ls (suc before)) first
              ∙ ap (λ t. cond t (Err (Line 257 TooMany)) (or_line (suc before) (instruction_of (min count 256) text) (program_from (instruction_of (min count 256)) (instructions_of later) (suc (suc before))))) other
              ∙ ap (λ r. or_line (suc before) r (program_from (instruction_of (min count 256)) (instructions_of later) (suc (suc before)))) is
              ∙ ap (λ k. or_line (suc before) (Ok i) (program_from (instruction_of (min count 256)) (instructions_of later) (suc k))) at
              ∙ ap (λ r. or_line (suc before) (Ok i) r) next.reads;
          few = omega (arith, next.few, ap length first);
        }

reported_if-parts : (t : Bool) (n : ℕ) (later : List ℕ) → reported_if t n later ≡ [] → (t ≡ false) × (later ≡ [])
reported_if-parts true n later is = cc
reported_if-parts false n later is = (refl, is)

programs-from : (lines : List ProgramLine) (count : ℕ) (names : List Bytes) (before : ℕ) → before ≤ 256 → invalid_lines count names before lines ≡ [] → IsProgramFrom count before lines
programs-from [] count names before within none = record { program = []; reads = refl; few = omega arith }
programs-from (line ∷ lines) count names before within none =
    let parts = reported_if-parts (is_set_in line.label names || is_invalid count before line.instruction) line.number (invalid_lines count (and_label line.label names) (before + count_instruction line.instruction) lines) none in
    by line.instruction (or_parts (is_set_in line.label names) (is_invalid count before line.instruction) parts.0).1
    (λ most. programs-from lines count (and_label line.label names) (before + count_instruction line.instruction) most parts.1)
  where
    by : (o : Option Bytes) → is_invalid count before o ≡ false → (before + count_instruction o ≤ 256 → IsProgramFrom count (before + count_instruction o) lines)
        → IsProgramFrom count before (record { number = line.number; label = line.label; instruction = o } ∷ lines)
    by None right later =
        let same : before + 0 ≡ before = omega arith in
        let next = subst (λ k. IsProgramFrom count k lines) same (later (omega arith)) in
        record { program = next.program; reads = next.reads; few = next.few }
    by (Some text) right later = onto-program count before text lines (record { number = line.number; label = line.label; instruction = Some text } ∷ lines) within right refl (λ under. later (omega arith))

pub programs-are : (lines : List ProgramLine) → program_errors lines ≡ [] → AreLines (instructions_of lines)
    → (length (instructions_of lines) ≤ 256) × ((program : Program) × (read_program (ended (instructions_of lines)) ≡ Ok program))
unfolding program_errors read_program
programs-are lines none are =
    let all = programs-from lines (length (instructions_of lines)) [] 0 (omega arith) none in
    (omega (arith, all.few), (all.program, ap (λ ls. program_from (instruction_of (min (length ls) 256)) ls 1) (lines_again (instructions_of lines) are) ∙ all.reads))

-- ---- the lines of programs do not contain an LF

abbrev HaveInstructions : List LabelledLine → Type 0
HaveInstructions lines = AllByRecursion (λ line. AreLines line.words) lines

labelled-have : (n : ℕ) (words : List Bytes) → AreLines words → AreLines (labelled_words n words).words
labelled-have n [] all = tt
labelled-have n (word ∷ words) all = by (label_of word)
  where
    by : (o : Option Bytes) → AreLines (after_label n word words o).words
    by None = all
    by (Some name) = all.1

or_exit-have : (words : List Bytes) → AreLines words → AreLines (or_exit words)
or_exit-have [] all = (((λ e. cc), ((λ e. cc), ((λ e. cc), ((λ e. cc), tt)))), (((λ e. cc), tt), tt))
or_exit-have (word ∷ words) all = all

exit-have : (lines : List LabelledLine) → HaveInstructions lines → HaveInstructions (with_exit lines)
exit-have [] all = tt
exit-have (line ∷ []) all = (or_exit-have line.words all.0, tt)
exit-have (line ∷ next ∷ lines) all = (all.0, exit-have (next ∷ lines) all.1)

map-have : (lines : List NumberedWords) → HaveWords lines → HaveInstructions (map (λ line. labelled_words line.0 line.1) lines)
map-have [] all = tt
map-have (line ∷ lines) all = (labelled-have line.0 line.1 all.0, map-have lines all.1)

target-line : (labels : List (Bytes × ℕ)) (word : Bytes) → IsLine word → IsLine (target_word labels word)
target-line labels word line = by (begins_with_letter word) (number_of_label word labels)
  where
    by : (t : Bool) (o : Option ℕ) → IsLine (cond t (or_word word o) word)
    by true None = line
    by true (Some k) = decimal-line k
    by false o = line

instruction-lines : (labels : List (Bytes × ℕ)) (words : List Bytes) → AreLines words → AreLines (without_labels labels words)
instruction-lines labels [] all = tt
instruction-lines labels (word ∷ words) all = by (is_jump word)
  where
    by : (t : Bool) → AreLines (cond t (word ∷ with_last_word (target_word labels (last_word words)) words) (word ∷ words))
    by true = (all.0, with_last-lines (target_word labels (last_word words)) words (target-line labels (last_word words) (last-line words all.1)) all.1)
    by false = all

texts-lines : (labels : List (Bytes × ℕ)) (lines : List LabelledLine) → HaveInstructions lines → AreLines (instructions_of (map (program_line_of labels) lines))
texts-lines labels [] all = tt
texts-lines labels (line ∷ lines) all = by line.words all.0 (texts-lines labels lines all.1)
  where
    by : (words : List Bytes) → AreLines words → AreLines (instructions_of (map (program_line_of labels) lines)) → AreLines (cons_option (instruction_text labels words) (instructions_of (map (program_line_of labels) lines)))
    by [] own later = later
    by (word ∷ words) own later = (spaced-line (without_labels labels (word ∷ words)) (instruction-lines labels (word ∷ words) own), later)

pub program-lines : (body : List NumberedLine) → HaveLines body → AreLines (instructions_of (program_lines body))
unfolding program_lines
program-lines body all =
    let lines = labelled_lines body in
    texts-lines (labels_from 1 lines) lines (exit-have (map (λ line. labelled_words line.0 line.1) (lines_that_count body)) (map-have (lines_that_count body) (counting-lines body all)))

taken-instructions : (body : List NumberedLine) → instructions_of (taken_lines body) ≡ bytes_of_lines body
taken-instructions [] = refl
taken-instructions (line ∷ body) = ap (λ ls. line.1 ∷ ls) (taken-instructions body)

-- ---- schedules

turns-from : (lines : List NumberedWords) (before : ℕ) → invalid_turns before lines ≡ [] → before ≤ 65536 → (s : Schedule) × (schedule_from (map (λ line. spaced line.1) lines) (suc before) ≡ Ok s)
turns-from [] before none within = ([], refl)
turns-from (line ∷ lines) before none within =
    let parts = reported_if-parts (invalid_turn before line.1) line.0 (invalid_turns (suc before) lines) none in
    let each = or_parts (before == 65536) (is_none (turn_of (spaced line.1))) parts.0 in
    let under : before < 65536 = below before within each.0 in
    let later = turns-from lines (suc before) parts.1 (omega arith) in
    let other : (suc before == 65537) ≡ false = ne_eqb (suc before) 65537 (λ same. omega (arith, same, under)) in
    by (turn_of (spaced line.1)) refl each.1 later other
  where
    below : (n : ℕ) → n ≤ 65536 → (n == 65536) ≡ false → n < 65536
    below n le other = elim (cases_lt n 65536) [ inl lt ↦ lt | inr ge ↦ let same : (n == 65536) ≡ true = eq-eqb n 65536 (omega arith) in absurd (false≢true (sym other ∙ same)) ]

    by : (o : Option (ℕ × ℕ)) → turn_of (spaced line.1) ≡ o → is_none o ≡ false → ((s : Schedule) × (schedule_from (map (λ l. spaced l.1) lines) (suc (suc before)) ≡ Ok s)) → (suc before == 65537) ≡ false
        → (s : Schedule) × (schedule_from (spaced line.1 ∷ map (λ l. spaced l.1) lines) (suc before) ≡ Ok s)
    by None is some later other = cc
    by (Some turn) is some later other = (
      turn ∷ later.0,
      ap (λ t. cond t (Err (TurnLine 65537)) (or_schedule_line (suc before) (turn_of (spaced line.1)) (schedule_from (map (λ l. spaced l.1) lines) (suc (suc before))))) other
          ∙ ap (λ o. or_schedule_line (suc before) o (schedule_from (map (λ l. spaced l.1) lines) (suc (suc before)))) is
          ∙ ap (λ r. or_schedule_line (suc before) (Some turn) r) later.1,
    )

pub turns-are : (lines : List NumberedWords) → invalid_turns 0 lines ≡ [] → (s : Schedule) × (schedule_of_lines (map (λ line. spaced line.1) lines) ≡ Ok s)
turns-are lines none = turns-from lines 0 none (omega arith)

-- ---- all blocks after the first

abbrev pub has_schedule : List Block → Bool
has_schedule [] = false
has_schedule (schedule n words body ∷ blocks) = true
has_schedule (_ ∷ blocks) = has_schedule blocks

abbrev pub Turns : Bool → List Bytes → Type 0
Turns true following = (s : Schedule) × (schedule_of_lines following ≡ Ok s)
Turns false following = Unit {0}

pub record Listing (in_bundle : Bool) (n : ℕ) (t : Tree) (lines : List Bytes) : Type 0 where
  pub listed : Listed
  pub tree : Tree
  pub lists : Lists in_bundle n lines listed
  pub made : add_entries listed.entries t ≡ Ok tree
  pub init : AllByRecursion (λ e. IsValidInit e.1) listed.entries
  pub turns : Turns in_bundle listed.following

onto-listing : (in_bundle : Bool) (m n : ℕ) (t after : Tree) (line : Bytes) (body rest : List Bytes) (e : Entry) → EncodesEntry line body e → add_entry m t e ≡ Ok after → IsValidInit e
    → Listing in_bundle (n + 1 + length body) after rest → Listing in_bundle n t (line ∷ body ++ rest)
onto-listing in_bundle m n t after line body rest e encodes made right later = record {
  listed = record { entries = (n, e) ∷ later.listed.entries; following = later.listed.following };
  tree = later.tree;
  lists = entry n line body rest e later.listed encodes later.lists;
  made = ap (λ r. and_entries r (add_entries later.listed.entries)) (added-any m n t e after made) ∙ later.made;
  init = (right, later.init);
  turns = later.turns;
}

no_init : (e : Entry) → is_init (Some (path_of e)) ≡ false → IsValidInit e
no_init e other same = let is : bytes_eq (path_of e) (codes "/init") ≡ true = (bytes_eq-Decides (path_of e) (codes "/init")).1 same in absurd (false≢true (sym other ∙ is))

-- the parts of an executable file
executable-parts : (lines : List Bytes) (o : Option Bytes) (e : Entry) → executable lines o ≡ Some e → (path : Bytes) × (o ≡ Some path) × (make path (file_node true (ended lines)) ≡ e)
executable-parts lines None e is = cc
executable-parts lines (Some path) e is = (path, refl, cc)

taken-parts : (t : Bool) (o : Option Entry) (e : Entry) → cond t o None ≡ Some e → (t ≡ true) × (o ≡ Some e)
taken-parts true o e is = (refl, is)
taken-parts false o e is = cc

pub length-bytes : (body : List NumberedLine) → length (bytes_of_lines body) ≡ length body
length-bytes [] = refl
length-bytes (line ∷ body) = ap suc (length-bytes body)

same_last : (words : List Bytes) → with_last_word (last_word words) words ≡ words
same_last [] = refl
same_last (word ∷ []) = refl
same_last (word ∷ next ∷ words) = ap (λ ws. word ∷ ws) (same_last (next ∷ words))

only_word : (others : List Bytes) → not (length (codes "schedule" ∷ others) == 1) ≡ false → others ≡ []
only_word [] is = refl
only_word (word ∷ others) is =
    let other : (suc (suc (length others)) == 1) ≡ false = ne_eqb (suc (suc (length others))) 1 (λ same. omega (arith, same)) in
    let invalid : true ≡ false = ap not (sym other) ∙ is in cc

-- the lines of `/init` are a program
init-taken : (others : List Bytes) (path : Bytes) (body : List NumberedLine) → HaveLines body → exec_path (codes "exec" ∷ others) ≡ Some path
    → cond (is_init (second_text (codes "exec" ∷ others))) (program_errors (taken_lines body)) [] ≡ [] → IsValidInit (make path (file_node true (ended (bytes_of_lines body))))
init-taken others path body lines is none same =
    let words = exec-words others path is in
    let text : second_text (codes "exec" ∷ others) ≡ Some path = exec-text others path is in
    let init : is_init (second_text (codes "exec" ∷ others)) ≡ true = ap is_init text ∙ (bytes_eq-Decides path (codes "/init")).1 same in
    let all : program_errors (taken_lines body) ≡ [] = sym (ap (λ t. cond t (program_errors (taken_lines body)) []) init) ∙ none in
    let are = programs-are (taken_lines body) all (subst AreLines (sym (taken-instructions body)) (taken-lines body lines)) in
    (ended (bytes_of_lines body), are.1.0, ap (λ p. make p (file_node true (ended (bytes_of_lines body)))) same, ap (λ ls. read_program (ended ls)) (sym (taken-instructions body)) ∙ are.1.1)

single-encodes : (n : ℕ) (words : List Bytes) (e : Entry) → entry_of_block (single n words) ≡ Some e → EncodesEntry (spaced words) [] e
unfolding entry_of_block
single-encodes n words e is =
    let found = mapped_found (λ (taking : Taking). taking.0) (entry_of (spaced words) []) e is in
    let entry_is = entry_found (spaced words) [] found.0 found.1 in
    let none : entry_is.0 ≡ [] = front_none entry_is.0 entry_is.1 entry_is.2 in
    subst (λ x. EncodesEntry (spaced words) [] x) found.2 (subst (λ b. EncodesEntry (spaced words) b found.0.0) none entry_is.4)
  where
    front_none : (front following : List Bytes) → [] ≡ front ++ following → front ≡ []
    front_none [] following is = refl
    front_none (l ∷ front) following is = cc

pub listing : (blocks : List Block) → AreBlocks blocks → (t : Tree) → errors_from blocks (known t) ≡ [] → (n : ℕ) → Listing (has_schedule blocks) n t (flat_map written_lines blocks)
unfolding entry_of_block
listing _ no_block t none n = record { listed = record { entries = []; following = [] }; tree = t; lists = at_end n refl; made = refl; init = tt; turns = tt }
listing _ (by_itself m words blocks own later) t none n =
    let parts = reported_split (single m words) (checked_block (known t) (single m words)) (errors_from blocks) none in
    let made = entry-made t m false (entry_of_block (single m words)) parts.0 in
    let rest = listing blocks later made.after (ap (errors_from blocks) (sym made.left) ∙ parts.2) (n + 1 + 0) in
    onto-listing (has_schedule blocks) m n t made.after (spaced words) [] (flat_map written_lines blocks) made.its_entry (single-encodes m words made.its_entry made.found) made.made (no_init made.its_entry made.init) rest
listing _ (up_to_mark m others body blocks own lines later) t none n =
    let block = program m (codes "exec" ∷ others) body in
    let parts = reported_split block (checked_block (known t) block) (errors_from blocks) none in
    let made = entry-made t m true (entry_of_block block) parts.0 in
    let instructions = instructions_of (program_lines body) in
    let are = programs-are (program_lines body) parts.1 (program-lines body lines) in
    let file = executable-parts instructions (exec_path (codes "exec" ∷ others)) made.its_entry made.found in
    let encodes = exec-encodes others file.0 instructions (decimal (length instructions)) file.1 (omega (arith, are.0)) refl in
    let right : IsValidInit made.its_entry = subst IsValidInit file.2 (λ same. (ended instructions, are.1.0, ap (λ p. make p (file_node true (ended instructions))) same, are.1.1)) in
    let rest = listing blocks later made.after (ap (errors_from blocks) (sym made.left) ∙ parts.2) (n + 1 + length instructions) in
    onto-listing (has_schedule blocks) m n t made.after _ instructions (flat_map written_lines blocks) made.its_entry
    (subst (λ e. EncodesEntry (spaced (with_last_word (decimal (length instructions)) (codes "exec" ∷ others))) instructions e) file.2 encodes) made.made right rest
listing _ (so_many m others body blocks own lines counts later) t none n =
    let block = taken m (codes "exec" ∷ others) body in
    let parts = reported_split block (checked_block (known t) block) (errors_from blocks) none in
    let made = entry-made t m true (entry_of_block block) parts.0 in
    let taken_ = bytes_of_lines body in
    let few = taken-parts (nat_le (length body) 9999) (executable taken_ (exec_path (codes "exec" ∷ others))) made.its_entry made.found in
    let file = executable-parts taken_ (exec_path (codes "exec" ∷ others)) made.its_entry few.1 in
    let size : length taken_ ≡ length body = length-bytes body in
    let small : length taken_ ≤ 9999 = omega (arith, size, leb-true (length body) 9999 few.0) in
    let count : last_word (codes "exec" ∷ others) ≡ decimal (length taken_) =
    Decimal-encoded (length body) (last_word (codes "exec" ∷ others)) (Decimal-decimal_of (last_word (codes "exec" ∷ others)) (length body) counts) (omega (arith, size, small)) ∙ ap decimal (sym size) in
    let whole : with_last_word (last_word (codes "exec" ∷ others)) (codes "exec" ∷ others) ≡ codes "exec" ∷ others = same_last (codes "exec" ∷ others) in
    let encodes = exec-encodes others file.0 taken_ (last_word (codes "exec" ∷ others)) file.1 small count in
    let right : IsValidInit made.its_entry = subst IsValidInit file.2 (init-taken others file.0 body lines file.1 parts.1) in
    let rest = listing blocks later made.after (ap (errors_from blocks) (sym made.left) ∙ parts.2) (n + 1 + length taken_) in
    onto-listing (has_schedule blocks) m n t made.after (spaced (codes "exec" ∷ others)) taken_ (flat_map written_lines blocks) made.its_entry
    (subst (λ e. EncodesEntry (spaced (codes "exec" ∷ others)) taken_ e) file.2 (subst (λ ws. EncodesEntry (spaced ws) taken_ (make file.0 (file_node true (ended taken_)))) whole encodes)) made.made right rest
listing _ (unended m) t none n = cc
listing _ (then_turns m others body own lines) t none n =
    let block = schedule m (codes "schedule" ∷ others) body in
    let parts = reported_split block (checked_block (known t) block) (errors_from []) none in
    let alone : others ≡ [] = only_word others parts.0 in
    let turns_ = turns-are (lines_that_count body) parts.1 in
    let following = map (λ line. spaced line.1) (lines_that_count body) in
    record {
      listed = record { entries = []; following = following };
      tree = t;
      lists =
          subst (λ os. Lists true n (spaced (codes "schedule" ∷ os) ∷ following ++ []) (record { entries = []; following = following })) (sym alone)
          (subst (λ ls. Lists true n (codes "schedule" ∷ ls) (record { entries = []; following = following })) (sym (append-nil following)) (at_schedule n following refl));
      made = refl;
      init = tt;
      turns = turns_;
    }
