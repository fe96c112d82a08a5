-- The checks of a source: the lines with errors, or the manifest or bundle that it denotes.
use Rattle.std.specs.Prelude.{ℕ, suc, Bool, true, false, not, ◌&&◌, ◌||◌, if◌then◌else◌, ◌==◌, nat_le, List, [], ◌∷◌, ◌++◌, length, take, codes, bytes_eq, is_none, Option, None, Some, option_map, Result, Ok, Err}
use Rattle.pv_model.specs.declared.fault.ManifestFault.{ManifestFault}
use Rattle.pv_model.specs.declared.fault.ManifestFault.TheVariants.{Room}
use Rattle.pv_model.specs.declared.limits.TheConstants.{PROGRAM_LINES, SCHEDULE_LINES}
use Rattle.pv_model.specs.Answers.Lines.{spaced}
use Rattle.pv_model.specs.Bytes.{Bytes}
use Rattle.pv_model.specs.Grammar.Arguments.{text_at, if_last}
use Rattle.pv_model.specs.Grammar.Lines.{lines_of}
use Rattle.pv_model.specs.Grammar.Manifests.{entry_of, sizes_of, are_sizes, if_path, path_of, add_entry, data_blocks}
use Rattle.pv_model.specs.Grammar.Schedules.{turn_of}
use Rattle.pv_model.specs.Grammar.Texts.{ended}
use Rattle.pv_model.specs.Manifest.{Entry, make, empty_tree}
use Rattle.pv_model.specs.Source.Blocks.{Block, single, program, taken, cut_off, schedule, blocks_of}
use Rattle.pv_model.specs.Source.Programs.{program_lines, taken_lines, instructions_of, reported_if, program_errors}
use Rattle.pv_model.specs.Source.Words.{NumberedWords, lines_that_count}
use Rattle.pv_model.specs.Source.Written.{bytes_of_lines, text_of_blocks}
use Rattle.pv_model.specs.Tree.{Tree, file_node}

-- ---- the form of a block

-- the second word as a text, and the path of a line `exec TEXT K` or `exec TEXT <<END`
abbrev pub second_text : List Bytes → Option Bytes
second_text [] = None
second_text (word ∷ []) = None
second_text (word ∷ text ∷ words) = if_last (text_at text)

abbrev pub has_three_words : List Bytes → Bool
has_three_words words = length words == 3

abbrev pub exec_path : List Bytes → Option Bytes
exec_path words = if has_three_words words then if_path (second_text words) else None

abbrev pub executable : List Bytes → Option Bytes → Option Entry
executable lines path = option_map (λ p. make p (file_node true (ended lines))) path

-- the entry that a block of a manifest makes, if it has the form of one
unfoldable pub entry_of_block : Block → Option Entry
entry_of_block (single n words) = option_map (λ taking. taking.0) (entry_of (spaced words) [])
entry_of_block (program n words body) = executable (instructions_of (program_lines body)) (exec_path words)
entry_of_block (taken n words body) = if nat_le (length body) PROGRAM_LINES then executable (bytes_of_lines body) (exec_path words) else None
entry_of_block (cut_off n) = None
entry_of_block (schedule n words body) = None

-- ---- errors in the lines that belong to a block

abbrev pub is_init : Option Bytes → Bool
is_init None = false
is_init (Some path) = bytes_eq path (codes "/init")

-- whether the line after `before` turns is invalid; the 65,537th always is
abbrev pub invalid_turn : ℕ → List Bytes → Bool
invalid_turn before words = (before == SCHEDULE_LINES) || is_none (turn_of (spaced words))

abbrev pub invalid_turns : ℕ → List NumberedWords → List ℕ
invalid_turns before [] = []
invalid_turns before (line ∷ lines) = reported_if (invalid_turn before line.1) line.0 (invalid_turns (suc before) lines)

-- the lines with errors in programs between <<END and END, in the program of `/init`, and in the schedule
abbrev pub errors_in : Block → List ℕ
errors_in (single n words) = []
errors_in (program n words body) = program_errors (program_lines body)
errors_in (taken n words body) = if is_init (second_text words) then program_errors (taken_lines body) else []
errors_in (cut_off n) = []
errors_in (schedule n words body) = invalid_turns 0 (lines_that_count body)

-- ---- the tree

-- the tree that the lines so far have made, if it is known, and whether lack of room was reported
pub record TreeSoFar : Type 0 where
  pub tree : Option Tree
  pub lacked_room : Bool

-- whether a line has an error, and the tree after it
abbrev pub Judgement : Type 0
Judgement = Bool × TreeSoFar

abbrev pub unknown : TreeSoFar → TreeSoFar
unknown s = record s { tree = None }

-- an entry with an error leaves the tree unchanged; lack of room is reported once
abbrev pub made_or_reported : TreeSoFar → Result Tree ManifestFault → Judgement
made_or_reported s (Ok t) = (false, record s { tree = Some t })
made_or_reported s (Err (Room n)) = (not s.lacked_room, record s { lacked_room = true })
made_or_reported s (Err fault) = (true, s)

abbrev pub with_entry_made : TreeSoFar → ℕ → Entry → Option Tree → Judgement
with_entry_made s n entry None = (false, s)
with_entry_made s n entry (Some t) = made_or_reported s (add_entry n t entry)

abbrev pub or_reported : Bool → Judgement → Judgement
or_reported reported judgement = (reported || judgement.0, judgement.1)

-- a line without a valid form is an error, after which the tree is unknown; a `/init` that is not an `exec` entry is an
-- error, but is made
abbrev pub with_entry_of : TreeSoFar → ℕ → Bool → Option Entry → Judgement
with_entry_of s n is_exec None = (true, unknown s)
with_entry_of s n is_exec (Some entry) =
    or_reported (not is_exec && is_init (Some (path_of entry))) (with_entry_made s n entry s.tree)

-- ---- all blocks, in order

abbrev pub line_of_block : Block → ℕ
line_of_block (single n words) = n
line_of_block (program n words body) = n
line_of_block (taken n words body) = n
line_of_block (cut_off n) = n
line_of_block (schedule n words body) = n

abbrev pub is_exec_block : Block → Bool
is_exec_block (program n words body) = true
is_exec_block (taken n words body) = true
is_exec_block _ = false

-- the check of a block after the first: the line `schedule` has no other word
abbrev pub checked_block : TreeSoFar → Block → Judgement
checked_block s (schedule n words body) = (not (length words == 1), s)
checked_block s block = with_entry_of s (line_of_block block) (is_exec_block block) (entry_of_block block)

abbrev pub image_so_far : Option (ℕ × ℕ) → Judgement
image_so_far None = (true, record { tree = None; lacked_room = false })
image_so_far (Some sizes) =
    if are_sizes sizes.0 sizes.1 then (false, record { tree = Some (empty_tree (data_blocks sizes.0 sizes.1) sizes.1); lacked_room = false })
    else (true, record { tree = None; lacked_room = false })

-- the first block gives the image's sizes
abbrev pub checked_first : Block → Judgement
checked_first (single n words) = image_so_far (sizes_of (spaced words))
checked_first _ = image_so_far None

abbrev pub reported_of : Block → Judgement → (TreeSoFar → List ℕ) → List ℕ
reported_of block judgement onward = reported_if judgement.0 (line_of_block block) (errors_in block ++ onward judgement.1)

abbrev pub errors_from : List Block → TreeSoFar → List ℕ
errors_from [] s = []
errors_from (block ∷ blocks) s = reported_of block (checked_block s block) (errors_from blocks)

-- the lines with errors, in order; if the source has no words, the line after the last is an error
unfoldable pub errors_of_blocks : ℕ → List Block → List ℕ
errors_of_blocks last [] = last ∷ []
errors_of_blocks last (block ∷ blocks) = reported_of block (checked_first block) (errors_from blocks)

-- ---- sources

-- the maximum number of errors reported
abbrev pub REPORTED : ℕ
REPORTED = 20

abbrev pub or_errors : List Block → List ℕ → Result Bytes (List ℕ)
or_errors blocks [] = Ok (text_of_blocks blocks)
or_errors blocks (n ∷ reported) = Err (n ∷ reported)

-- the manifest or bundle that a source denotes, or the lines with errors
unfoldable pub read_source : Bytes → Result Bytes (List ℕ)
read_source source =
    let blocks = blocks_of source in or_errors blocks (take REPORTED (errors_of_blocks (suc (length (lines_of source))) blocks))
