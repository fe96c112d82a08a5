-- Sources and the manifests or bundles that they denote, or their lines with errors.
use Rattle.std.specs.Prelude.{◌≡◌, refl, [], ◌∷◌, ◌++◌, Ok, Err, codes, replicate}
use Rattle.pv_model.specs.Machine.{read_source, words_of}
use Rattle.pv_model.specs.Source.OnLiterals.{sources_on_literals}
use Rattle.pv_laws_worked.specs.Bundles.{text_of_lines}

-- ---- lines

-- a comment begins only between words, not in a quoted text; a CR before an LF is ignored
pub words_and_comments : words_of (codes "  put \t \"a  # b\"  # c \"" ++ 13 ∷ []) ≡ codes "put" ∷ codes "\"a  # b\"" ∷ []
unfolding sources_on_literals
words_and_comments = refl

pub hash_in_a_word : words_of (codes "fork#child \"a\"#b #c") ≡ codes "fork#child" ∷ codes "\"a\"#b" ∷ []
unfolding sources_on_literals
hash_in_a_word = refl

-- a quoted text without a closing mark is split like other words
pub text_without_its_end : words_of (codes "put \"a b # c") ≡ codes "put" ∷ codes "\"a" ∷ codes "b" ∷ []
unfolding sources_on_literals
text_without_its_end = refl

-- ---- the written text

pub labels_are_numbers : read_source (text_of_lines (
    codes "# a loop" ∷
    codes "image 16 16" ∷
    [] ∷
    codes "exec  \"/init\"   <<END   # until a byte is read" ∷
    codes "\topen \"/init\" r" ∷
    codes "again: read r0 1" ∷
    codes "  jz r0 again" ∷
    codes "first:" ∷
    codes "second: jmp out" ∷
    codes "  jmp first" ∷
    codes "out:" ∷
    codes "END" ∷
    codes "schedule" ∷
    codes "1   9" ∷ [])) ≡ Ok (text_of_lines (
    codes "image 16 16" ∷
    codes "exec \"/init\" 6" ∷
    codes "open \"/init\" r" ∷
    codes "read r0 1" ∷
    codes "jz r0 2" ∷
    codes "jmp 6" ∷
    codes "jmp 4" ∷
    codes "exit 0" ∷
    codes "schedule" ∷
    codes "1 9" ∷ []))
unfolding sources_on_literals
labels_are_numbers = refl

-- the next K lines are copied unchanged, whether they are a program or not
pub lines_are_taken_as_they_are : read_source (text_of_lines (
    codes "image 32 32" ∷
    codes "exec \"/bin\" 4 # four" ∷
    codes "# no comment" ∷
    [] ∷
    codes "again: \t" ∷
    codes "schedule" ∷
    codes "exec \"/init\" 1" ∷
    codes "getpid" ∷ [])) ≡ Ok (text_of_lines (
    codes "image 32 32" ∷
    codes "exec \"/bin\" 4" ∷
    codes "# no comment" ∷
    [] ∷
    codes "again: \t" ∷
    codes "schedule" ∷
    codes "exec \"/init\" 1" ∷
    codes "getpid" ∷ []))
unfolding sources_on_literals
lines_are_taken_as_they_are = refl

-- ---- errors

-- if no line has words, the line after the last is an error
pub nothing_that_counts : (read_source [] ≡ Err (1 ∷ [])) × (read_source (codes "# one\n\n# three") ≡ Err (4 ∷ []))
unfolding sources_on_literals
nothing_that_counts = (refl, refl)

pub sizes_come_first : read_source (codes "\ndir \"/a\"\nimage 16 16\n") ≡ Err (2 ∷ 3 ∷ [])
unfolding sources_on_literals
sizes_come_first = refl

-- the tree is checked up to the first line of the manifest with another error; programs and the schedule are always
-- checked
pub each_line_is_judged : read_source (text_of_lines (
    codes "image 16 16" ∷
    codes "exec \"/ect/p\" <<END" ∷
    codes "frok" ∷
    codes "getpid 1" ∷
    codes "END" ∷
    codes "dri \"/a\"" ∷
    codes "dir \"/a/b\"" ∷
    codes "exec \"/init\" 1" ∷
    codes "jmp again" ∷
    codes "schedule now" ∷
    codes "1" ∷
    codes "0" ∷ [])) ≡ Err (2 ∷ 3 ∷ 4 ∷ 6 ∷ 9 ∷ 10 ∷ 12 ∷ [])
unfolding sources_on_literals
each_line_is_judged = refl

-- a label that is not defined, one that is defined twice, and words that are not labels
pub labels_in_error : read_source (text_of_lines (
    codes "image 16 16" ∷
    codes "exec \"/init\" <<END" ∷
    codes "a: jz r0 child" ∷
    codes "b:" ∷
    codes "a: fork" ∷
    codes "c: d: fork" ∷
    codes "1st: fork" ∷
    codes "e : fork" ∷
    codes "jz b" ∷
    codes "END" ∷ [])) ≡ Err (3 ∷ 5 ∷ 6 ∷ 7 ∷ 8 ∷ 9 ∷ [])
unfolding sources_on_literals
labels_in_error = refl

-- an entry with an error has no effect, and lack of room is reported once
pub errors_of_the_tree : read_source (text_of_lines (
    codes "image 16 3" ∷
    codes "dir \"/a\"" ∷
    codes "dir \"/a\"" ∷
    codes "name \"/b\" \"/a\"" ∷
    codes "dir \"/c/d\"" ∷
    codes "dir \"/c\"" ∷
    codes "dir \"/d\"" ∷
    codes "dir \"/e\"" ∷
    codes "dir \"/d/f\"" ∷ [])) ≡ Err (3 ∷ 4 ∷ 5 ∷ 7 ∷ 9 ∷ [])
unfolding sources_on_literals
errors_of_the_tree = refl

-- `/init` must be an `exec` entry; another node at that path is made, and the checks continue
pub sources_with_init_as_directory : read_source (text_of_lines (
    codes "image 16 16" ∷
    codes "exec \"/p\" 0" ∷
    codes "dir \"/init\"" ∷
    codes "dir \"/init/a\"" ∷
    codes "dir \"/init\"" ∷
    codes "dir \"/b/c\"" ∷ [])) ≡ Err (3 ∷ 5 ∷ 6 ∷ [])
unfolding sources_on_literals
sources_with_init_as_directory = refl

-- an `exec` line with an error still takes its lines; if they are missing, nothing after it is reported
pub exec_in_error : read_source (text_of_lines (
    codes "image 16 16" ∷
    codes "exec /p <<END" ∷
    codes "frok" ∷
    codes "END" ∷
    codes "exec \"/init\" and 2" ∷
    codes "frok" ∷
    codes "schedule" ∷
    codes "exec \"/q\" 3" ∷
    codes "frok" ∷
    codes "schedule 1" ∷ [])) ≡ Err (2 ∷ 3 ∷ 5 ∷ 6 ∷ 7 ∷ 8 ∷ [])
unfolding sources_on_literals
exec_in_error = refl

-- twenty errors are reported, in the order of their lines
pub twenty_are_reported : read_source (codes "image 16 16\nschedule\n" ++ text_of_lines (replicate 30 (codes "0")))
    ≡ Err (3 ∷ 4 ∷ 5 ∷ 6 ∷ 7 ∷ 8 ∷ 9 ∷ 10 ∷ 11 ∷ 12 ∷ 13 ∷ 14 ∷ 15 ∷ 16 ∷ 17 ∷ 18 ∷ 19 ∷ 20 ∷ 21 ∷ 22 ∷ [])
unfolding sources_on_literals
twenty_are_reported = refl

-- the 257th instruction is reported once, even if it is the `exit 0` for a label
pub instructions_too_many : (read_source (codes "image 99 16\nexec \"/init\" <<END\n" ++ text_of_lines (replicate 256 (codes "fork")) ++ codes "fork\nfork\nfrok\nEND\n") ≡ Err (259 ∷ 261 ∷ []))
    × (read_source (codes "image 99 16\nexec \"/init\" <<END\n" ++ text_of_lines (replicate 256 (codes "fork")) ++ codes "end:\nEND\n") ≡ Err (259 ∷ []))
unfolding sources_on_literals
instructions_too_many = (refl, refl)
