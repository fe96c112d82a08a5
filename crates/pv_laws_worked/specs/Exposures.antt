-- The text of `exposure` for small bundles, as a second implementation answers.
use Rattle.std.specs.Prelude.{◌≡◌, ℕ, List, [], ◌∷◌, codes, Option, Some, option_map, refl}
use Rattle.pv_model.specs.Answers.Exposure.{exposure_lines}
use Rattle.pv_model.specs.Machine.{answer_bytes, Bytes, program_of}
use Rattle.pv_laws_worked.specs.Bundles.{text_of_lines}
use Rattle.pv_laws_worked.specs.Questions.{questions_on_literals, started}

-- the text of `exposure` for a bundle, with a limit on the number of states
abbrev pub exposure_text : ℕ → List Bytes → Option Bytes
exposure_text limit lines = option_map (λ s. answer_bytes (exposure_lines program_of limit s.state)) (started lines)

-- a file without a name, and a descriptor as the first reason
pub lines_of_a_state : exposure_text 1000 (
    codes "image 16 16" ∷
    codes "bytes \"/f\" \"f\"" ∷
    codes "bytes \"/g\" \"g\"" ∷
    codes "exec \"/init\" 5" ∷
    codes "open \"/f\" r" ∷
    codes "stat \"/g\"" ∷
    codes "open \"/f\" w" ∷
    codes "open \"/g\" rw" ∷
    codes "unlink \"/f\"" ∷
    codes "schedule" ∷ []) ≡ Some (text_of_lines (
    codes "    0 PROG  1, \"/init\"" ∷
    codes "    1 BY    1 4" ∷
    codes "    1 LEAK  \"/f\", lines 1-5, reads descriptor 0" ∷
    codes "    1 BY    1 5" ∷
    codes "    1 LEAK  \"/g\", lines 1-6, reads descriptor 2" ∷
    codes "    1 BY    1 5" ∷
    codes "    1 LEAK  \"/init\", lines 1-6, no table" ∷
    codes "    1 BY    1 5" ∷
    codes "    1 LEAK  node 2, lines 6, reads descriptor 0" ∷
    codes "    0 DONE  7 states, complete" ∷ []))
unfolding questions_on_literals
lines_of_a_state = refl

-- lines that follow each other are a range
pub ranges_of_lines : exposure_text 1000 (
    codes "image 8 8" ∷
    codes "exec \"/init\" 6" ∷
    codes "jmp 3" ∷
    codes "exit 1" ∷
    codes "getpid" ∷
    codes "jmp 6" ∷
    codes "exit 2" ∷
    codes "exit 0" ∷
    codes "schedule" ∷ []) ≡ Some (text_of_lines (
    codes "    0 PROG  1, \"/init\"" ∷
    codes "    1 BY    1 3" ∷
    codes "    1 LEAK  \"/init\", lines 1, 3-4, 6, no table" ∷
    codes "    0 DONE  5 states, complete" ∷ []))
unfolding questions_on_literals
ranges_of_lines = refl

-- a file is safe if every process of the program is closed to it in every state
pub safe_files_are_listed : exposure_text 1000 (
    codes "image 24 20" ∷
    codes "dir \"/etc\"" ∷
    codes "bytes \"/etc/key\" \"key\"" ∷
    codes "dir \"/pub\"" ∷
    codes "bytes \"/pub/page\" \"p\"" ∷
    codes "exec \"/server\" 4" ∷
    codes "open \"/pub/page\" r" ∷
    codes "read 0 1" ∷
    codes "open \"/etc/key\" r" ∷
    codes "exit 0" ∷
    codes "exec \"/init\" 5" ∷
    codes "unveil \"/pub\" \"r\"" ∷
    codes "unveil \"/server\" \"x\"" ∷
    codes "unveil null null" ∷
    codes "pledge \"stdio exec\" \"stdio rpath\"" ∷
    codes "execve \"/server\"" ∷
    codes "schedule" ∷ []) ≡ Some (text_of_lines (
    codes "    0 PROG  1, \"/init\"" ∷
    codes "    1 BY    1 3" ∷
    codes "    1 LEAK  \"/etc/key\", lines 1-4, may exec" ∷
    codes "    1 BY    1 3" ∷
    codes "    1 LEAK  \"/init\", lines 1-4, may exec" ∷
    codes "    1 BY    1 4" ∷
    codes "    1 LEAK  \"/pub/page\", lines 1-5, entry 0 gives" ∷
    codes "    1 BY    1 4" ∷
    codes "    1 LEAK  \"/server\", lines 1-5, entry 1 gives" ∷
    codes "    0 PROG  2, \"/server\"" ∷
    codes "    1 BY    1 8" ∷
    codes "    1 LEAK  \"/pub/page\", lines 1-4, reads descriptor 0" ∷
    codes "    1 BY    1 8" ∷
    codes "    1 LEAK  \"/server\", lines 1-4, entry 1 gives" ∷
    codes "    0 SAFE  \"/etc/key\"" ∷
    codes "    0 SAFE  \"/init\"" ∷
    codes "    0 DONE  10 states, complete" ∷ []))
unfolding questions_on_literals
safe_files_are_listed = refl

-- no file is safe if the search is not complete
pub safe_if_complete : exposure_text 8 (
    codes "image 24 20" ∷
    codes "dir \"/etc\"" ∷
    codes "bytes \"/etc/key\" \"key\"" ∷
    codes "dir \"/pub\"" ∷
    codes "bytes \"/pub/page\" \"p\"" ∷
    codes "exec \"/server\" 4" ∷
    codes "open \"/pub/page\" r" ∷
    codes "read 0 1" ∷
    codes "open \"/etc/key\" r" ∷
    codes "exit 0" ∷
    codes "exec \"/init\" 5" ∷
    codes "unveil \"/pub\" \"r\"" ∷
    codes "unveil \"/server\" \"x\"" ∷
    codes "unveil null null" ∷
    codes "pledge \"stdio exec\" \"stdio rpath\"" ∷
    codes "execve \"/server\"" ∷
    codes "schedule" ∷ []) ≡ Some (text_of_lines (
    codes "    0 PROG  1, \"/init\"" ∷
    codes "    1 BY    1 3" ∷
    codes "    1 LEAK  \"/etc/key\", lines 1-4, may exec" ∷
    codes "    1 BY    1 3" ∷
    codes "    1 LEAK  \"/init\", lines 1-4, may exec" ∷
    codes "    1 BY    1 4" ∷
    codes "    1 LEAK  \"/pub/page\", lines 1-5, entry 0 gives" ∷
    codes "    1 BY    1 4" ∷
    codes "    1 LEAK  \"/server\", lines 1-5, entry 1 gives" ∷
    codes "    0 PROG  2, \"/server\"" ∷
    codes "    1 BY    1 7" ∷
    codes "    1 LEAK  \"/pub/page\", lines 1-3, reads descriptor 0" ∷
    codes "    1 BY    1 7" ∷
    codes "    1 LEAK  \"/server\", lines 1-3, entry 1 gives" ∷
    codes "    0 DONE  8 states, not complete" ∷ []))
unfolding questions_on_literals
safe_if_complete = refl

-- files are distinguished by their descriptions; the first state has an empty witness
pub exposures_of_reused_numbers : exposure_text 1000 (
    codes "image 16 16" ∷
    codes "bytes \"/secret\" \"key\"" ∷
    codes "bytes \"/other\" \"o\"" ∷
    codes "exec \"/init\" 7" ∷
    codes "unlink \"/secret\"" ∷
    codes "open \"/mine\" rw+create" ∷
    codes "put \"mine\"" ∷
    codes "write 0 4" ∷
    codes "lseek 0 0 set" ∷
    codes "read 0 4" ∷
    codes "stat \"/other\"" ∷
    codes "schedule" ∷ []) ≡ Some (text_of_lines (
    codes "    0 PROG  1, \"/init\"" ∷
    codes "    1 BY    1 7" ∷
    codes "    1 LEAK  \"/init\", lines 1-8, no table" ∷
    codes "    1 BY    1 7" ∷
    codes "    1 LEAK  \"/other\", lines 1-8, no table" ∷
    codes "    1 BY    " ∷
    codes "    1 LEAK  \"/secret\", lines 1, no table" ∷
    codes "    1 BY    1 7" ∷
    codes "    1 LEAK  \"/mine\", lines 3-8, reads descriptor 0" ∷
    codes "    0 DONE  9 states, complete" ∷ []))
unfolding questions_on_literals
exposures_of_reused_numbers = refl

-- a file is exposed by an entry with c above it
pub entries_above : exposure_text 1000 (
    codes "image 16 16" ∷
    codes "dir \"/s\"" ∷
    codes "bytes \"/s/secret\" \"k1\"" ∷
    codes "bytes \"/open\" \"o\"" ∷
    codes "exec \"/init\" 5" ∷
    codes "unveil \"/s\" \"c\"" ∷
    codes "unveil \"/s/secret\" \"\"" ∷
    codes "unveil null null" ∷
    codes "pledge \"stdio rpath cpath\" null" ∷
    codes "mkdir \"/s/d\"" ∷
    codes "schedule" ∷ []) ≡ Some (text_of_lines (
    codes "    0 PROG  1, \"/init\"" ∷
    codes "    1 BY    1 3" ∷
    codes "    1 LEAK  \"/init\", lines 1-4, may exec" ∷
    codes "    1 BY    1 3" ∷
    codes "    1 LEAK  \"/open\", lines 1-4, may exec" ∷
    codes "    1 BY    1 5" ∷
    codes "    1 LEAK  \"/s/secret\", lines 1-6, entry 0 above" ∷
    codes "    0 DONE  7 states, complete" ∷ []))
unfolding questions_on_literals
entries_above = refl

-- a file is exposed as long as an execve may end the restraints
pub execve_without_restraints : exposure_text 1000 (
    codes "image 16 16" ∷
    codes "dir \"/pub\"" ∷
    codes "bytes \"/secret\" \"k1\"" ∷
    codes "exec \"/init\" 5" ∷
    codes "unveil \"/pub\" \"rx\"" ∷
    codes "unveil null null" ∷
    codes "getpid" ∷
    codes "pledge null \"stdio rpath\"" ∷
    codes "getpid" ∷
    codes "schedule" ∷ []) ≡ Some (text_of_lines (
    codes "    0 PROG  1, \"/init\"" ∷
    codes "    1 BY    1 3" ∷
    codes "    1 LEAK  \"/init\", lines 1-4, may exec" ∷
    codes "    1 BY    1 3" ∷
    codes "    1 LEAK  \"/secret\", lines 1-4, may exec" ∷
    codes "    0 DONE  7 states, complete" ∷ []))
unfolding questions_on_literals
execve_without_restraints = refl

-- without `init` the program is empty, and a file that parses as it names it
pub no_first_program : exposure_text 1000 (
    codes "image 4 4" ∷
    codes "bytes \"/note\" \"x\"" ∷
    codes "exec \"/empty\" 0" ∷
    codes "schedule" ∷ []) ≡ Some (text_of_lines (
    codes "    0 PROG  1, \"/empty\"" ∷
    codes "    1 BY    " ∷
    codes "    1 LEAK  \"/empty\", lines 1, no table" ∷
    codes "    1 BY    " ∷
    codes "    1 LEAK  \"/note\", lines 1, no table" ∷
    codes "    0 DONE  2 states, complete" ∷ []))
unfolding questions_on_literals
no_first_program = refl

-- a search of one state
pub one_visited_state : exposure_text 1 (
    codes "image 16 16" ∷
    codes "bytes \"/f\" \"f\"" ∷
    codes "exec \"/init\" 2" ∷
    codes "stat \"/f\"" ∷
    codes "open \"/f\" r" ∷
    codes "schedule" ∷ []) ≡ Some (text_of_lines (
    codes "    0 PROG  1, \"/init\"" ∷
    codes "    1 BY    " ∷
    codes "    1 LEAK  \"/f\", lines 1, no table" ∷
    codes "    1 BY    " ∷
    codes "    1 LEAK  \"/init\", lines 1, no table" ∷
    codes "    0 DONE  1 states, not complete" ∷ []))
unfolding questions_on_literals
one_visited_state = refl

-- the least process at the greatest line is listed
pub two_processes : exposure_text 1000 (
    codes "image 8 8" ∷
    codes "bytes \"/f\" \"f\"" ∷
    codes "exec \"/init\" 2" ∷
    codes "fork" ∷
    codes "pledge \"stdio\" null" ∷
    codes "schedule" ∷ []) ≡ Some (text_of_lines (
    codes "    0 PROG  1, \"/init\"" ∷
    codes "    1 BY    1 1" ∷
    codes "    1 LEAK  \"/f\", lines 1-2, no table" ∷
    codes "    1 BY    1 1" ∷
    codes "    1 LEAK  \"/init\", lines 1-2, no table" ∷
    codes "    0 DONE  10 states, complete" ∷ []))
unfolding questions_on_literals
two_processes = refl
