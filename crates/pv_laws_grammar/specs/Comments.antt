-- Comments, blank lines, blanks between words, and <<END in place of a count do not change the output for a source.
use Rattle.std.specs.Prelude.{◌≡◌, ◌≤◌, not, IsFalse, IsTrue, List, [], ◌∷◌, ◌++◌, length, map, filter, codes, bytes_eq, None, Some, Ok}
use Rattle.std.specs.Fmt.{decimal}
use Rattle.std.specs.List.{AllByRecursion, list_all}
use Rattle.pv_model.specs.declared.limits.TheConstants.{PROGRAM_LINES}
use Rattle.pv_model.specs.Machine.{counted_from, Bytes, is_empty, decimal_of, lines_of, read_source, instructions_of, program_errors, program_lines, last_word, words_of}
use Rattle.pv_model.specs.Source.Blocks.{mark_of}
use Rattle.pv_model.specs.Source.Words.{is_alone, is_blank}

-- a line of blanks has no word, whether a comment follows them or not
abbrev pub CommentsHaveNoWords : Type 0
CommentsHaveNoWords = (blanks comment : Bytes) → IsTrue (list_all is_blank blanks) → (words_of blanks ≡ []) × (words_of (blanks ++ codes "#" ++ comment) ≡ [])

-- the words of the lines that have words
abbrev pub code_of : List Bytes → List (List Bytes)
code_of lines = filter (λ words. not (is_empty words)) (map words_of lines)

-- two lines have these words
abbrev pub HaveWords : Bytes → Bytes → List Bytes → Type 0
HaveWords line other words = (words_of line ≡ words) × (words_of other ≡ words)

-- lines before the first that consists of a mark
abbrev pub AreBefore : Bytes → List Bytes → Type 0
AreBefore mark lines = AllByRecursion (λ line. IsFalse (is_alone mark (words_of line))) lines

-- lines between <<END and END are a program without errors whose instructions are these, as they are written
pub record IsProgramOf (body instructions : List Bytes) : Type 0 where
  pub written : instructions_of (program_lines (counted_from 1 body)) ≡ instructions
  pub right : program_errors (program_lines (counted_from 1 body)) ≡ []
  pub few : length instructions ≤ PROGRAM_LINES

-- two lists of lines have the same words; lines without words may be left out or added, except among the K lines after
-- `exec TEXT K`, which are the same bytes, or a program between `<<END` and END in their place
pub data HaveSameCode : List Bytes → List Bytes → Type 0 where
  no_line : HaveSameCode [] []
  left_out : (line : Bytes) (lines others : List Bytes) → words_of line ≡ [] → HaveSameCode lines others → HaveSameCode (line ∷ lines) others
  added : (line : Bytes) (lines others : List Bytes) → words_of line ≡ [] → HaveSameCode lines others → HaveSameCode lines (line ∷ others)
  same_line : (line other first : Bytes) (words lines others : List Bytes) → HaveWords line other (first ∷ words) → IsFalse (bytes_eq first (codes "schedule")) → IsFalse (bytes_eq first (codes "exec"))
      → HaveSameCode lines others → HaveSameCode (line ∷ lines) (other ∷ others)
  counted : (line other : Bytes) (words body lines others : List Bytes) → HaveWords line other (codes "exec" ∷ words) → mark_of (last_word (codes "exec" ∷ words)) ≡ None
      → decimal_of (last_word (codes "exec" ∷ words)) ≡ Some (length body) → HaveSameCode lines others → HaveSameCode (line ∷ body ++ lines) (other ∷ body ++ others)
  marked : (line other mark end last : Bytes) (words body preserved lines others : List Bytes) → HaveWords line other (codes "exec" ∷ words) → mark_of (last_word (codes "exec" ∷ words)) ≡ Some mark
      → AreBefore mark body → IsTrue (is_alone mark (words_of end)) → AreBefore mark preserved → IsTrue (is_alone mark (words_of last)) → code_of body ≡ code_of preserved
      → HaveSameCode lines others → HaveSameCode (line ∷ body ++ end ∷ lines) (other ∷ preserved ++ last ∷ others)
  uncounted : (line other text word mark end : Bytes) (instructions body lines others : List Bytes) → words_of line ≡ codes "exec" ∷ text ∷ decimal (length instructions) ∷ []
      → words_of other ≡ codes "exec" ∷ text ∷ word ∷ [] → mark_of word ≡ Some mark → AreBefore mark body → IsTrue (is_alone mark (words_of end)) → IsProgramOf body instructions
      → HaveSameCode lines others → HaveSameCode (line ∷ instructions ++ lines) (other ∷ body ++ end ∷ others)
  scheduled : (line other : Bytes) (words lines others : List Bytes) → HaveWords line other (codes "schedule" ∷ words) → code_of lines ≡ code_of others
      → HaveSameCode (line ∷ lines) (other ∷ others)

-- the output for a source is the output for each source with the same words
abbrev pub CommentsChangeNothing : Type 0
CommentsChangeNothing = (source other text : Bytes) → HaveSameCode (lines_of source) (lines_of other) → read_source source ≡ Ok text → read_source other ≡ Ok text
