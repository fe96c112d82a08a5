-- The text of `exposure` for small bundles, as a second implementation answers.
use Rattle.std.specs.Prelude.{⊤, ◌≡◌, ℕ, List, [], ◌∷◌, codes, Option, Some, option_map, refl}
use Rattle.std.specs.Result.{result_ok}
use Rattle.pv_model.specs.Answers.OnLiterals.{answers_on_literals}
use Rattle.pv_model.specs.Answers.Explore.{done_line}
use Rattle.pv_model.specs.Machine.{answer_bytes, Bytes, program_of, booted, bundle_started, started_on, states_found, is_complete, State, text_at, add_entry, read_bundle, read_manifest, read_program}
use Rattle.pv_model.specs.Grammar.Arguments.{parsed_flags}
use Rattle.pv_model.specs.Grammar.Instructions.{instruction_by}
use Rattle.pv_model.specs.Grammar.Manifests.{entry_by}
use Rattle.pv_model.specs.Sealed.{leaks}
use Rattle.pv_model_questions.specs.Exposure.{exposed_lines}
use Rattle.pv_model_questions.specs.ExposureAbout.{exposed_lines_about}
use Rattle.pv_model_questions.specs.Fixed.{edits}
use Rattle.pv_model_questions.specs.ExplainMoreWorked.{lines_text}

-- the definitions to unfold in a proof by computation
unfoldable pub exposure_on_literals : ⊤
unfolding answers_on_literals read_manifest read_bundle entry_by add_entry read_program instruction_by text_at parsed_flags bundle_started started_on booted leaks edits exposed_lines
exposure_on_literals = tt

abbrev pub exposed_from : ℕ → State → Bytes
exposed_from limit s =
    answer_bytes (exposed_lines program_of s.tree (is_complete program_of limit s) (states_found program_of limit s) (done_line program_of limit s))

-- the text of `exposure` for a bundle, with a limit on the number of states
abbrev pub exposed_text : ℕ → List Bytes → Option Bytes
exposed_text limit lines = option_map (λ s. exposed_from limit s.state) (result_ok (bundle_started (lines_text lines)))

-- a key is read before the fork, at a line at which the program still leaks it
pub key_read_before_fork : exposed_text 1000 (
    codes "image 16 16" ∷
    codes "bytes \"/key\" \"k\"" ∷
    codes "bytes \"/motd\" \"hi\"" ∷
    codes "exec \"/init\" 8" ∷
    codes "open \"/key\" r" ∷
    codes "read r0 1" ∷
    codes "close 0" ∷
    codes "pledge \"stdio proc\" null" ∷
    codes "fork" ∷
    codes "jnz r0 8" ∷
    codes "exit 0" ∷
    codes "wait" ∷
    codes "schedule" ∷ []) ≡ Some (lines_text (
    codes "    0 PROG  1, \"/init\"" ∷
    codes "    1 BY    1 3" ∷
    codes "    1 LEAK  \"/init\", lines 1-4, no table" ∷
    codes "    1 BY    1 3" ∷
    codes "    1 LEAK  \"/key\", lines 1-4, no table" ∷
    codes "    1 BY    1 3" ∷
    codes "    1 LEAK  \"/motd\", lines 1-4, no table" ∷
    codes "    1 BY    1 3" ∷
    codes "    1 EDIT  \"/init\", lines 1-4, no table" ∷
    codes "    1 BY    1 3" ∷
    codes "    1 EDIT  \"/key\", lines 1-4, no table" ∷
    codes "    1 BY    1 3" ∷
    codes "    1 EDIT  \"/motd\", lines 1-4, no table" ∷
    codes "    1 BY    1 2" ∷
    codes "    1 READ  \"/key\", lines 2" ∷
    codes "    0 DONE  13 states, complete" ∷ []))
unfolding exposure_on_literals
key_read_before_fork = refl

-- a file that another process moves is described with its first path
pub renamed_secret : exposed_text 1000 (
    codes "image 16 16" ∷
    codes "dir \"/in\"" ∷
    codes "dir \"/out\"" ∷
    codes "bytes \"/in/s\" \"s\"" ∷
    codes "exec \"/init\" 9" ∷
    codes "fork" ∷
    codes "jz r0 6" ∷
    codes "rename \"/in/s\" \"/out/s\"" ∷
    codes "rename \"/out/s\" \"/in/s\"" ∷
    codes "exit 0" ∷
    codes "unveil \"/out\" \"r\"" ∷
    codes "unveil null null" ∷
    codes "pledge \"stdio rpath\" null" ∷
    codes "exit 0" ∷
    codes "schedule" ∷ []) ≡ Some (lines_text (
    codes "    0 PROG  1, \"/init\"" ∷
    codes "    2 BY    1 1, 2 3" ∷
    codes "    2 LEAK  \"/in/s\", lines 1-3, 5-8, may exec" ∷
    codes "    2 BY    1 1, 2 3" ∷
    codes "    2 LEAK  \"/init\", lines 1-8, may exec" ∷
    codes "    2 BY    1 3, 2 4" ∷
    codes "    2 LEAK  \"/out/s\", first \"/in/s\", lines 2, 4, 6-9, entry 0 gives" ∷
    codes "    2 BY    1 1, 2 4" ∷
    codes "    2 PEER  \"/in/s\", lines 9, process 1 no table" ∷
    codes "    2 BY    1 1, 2 4" ∷
    codes "    2 PEER  \"/init\", lines 9, process 1 no table" ∷
    codes "    2 BY    1 1, 2 3" ∷
    codes "    2 EDIT  \"/in/s\", lines 1-3, 5-8, may exec" ∷
    codes "    2 BY    1 1, 2 3" ∷
    codes "    2 EDIT  \"/init\", lines 1-8, may exec" ∷
    codes "    2 BY    1 3, 2 3" ∷
    codes "    2 EDIT  \"/out/s\", first \"/in/s\", lines 2, 4, 6-8, entry 0 gives" ∷
    codes "    0 DONE  31 states, complete" ∷ []))
unfolding exposure_on_literals
renamed_secret = refl

-- a permission to read a file need not be one to change it
pub edits_with_entries_above : exposed_text 1000 (
    codes "image 16 16" ∷
    codes "dir \"/a\"" ∷
    codes "dir \"/a/b\"" ∷
    codes "bytes \"/a/b/f\" \"k\"" ∷
    codes "bytes \"/g\" \"g\"" ∷
    codes "exec \"/init\" 7" ∷
    codes "unveil \"/a\" \"wc\"" ∷
    codes "unveil \"/a/b\" \"c\"" ∷
    codes "unveil \"/a/b/f\" \"\"" ∷
    codes "unveil \"/g\" \"x\"" ∷
    codes "unveil null null" ∷
    codes "pledge \"stdio wpath cpath\" null" ∷
    codes "getpid" ∷
    codes "schedule" ∷ []) ≡ Some (lines_text (
    codes "    0 PROG  1, \"/init\"" ∷
    codes "    1 BY    1 7" ∷
    codes "    1 LEAK  \"/a/b/f\", lines 1-8, entry 0 above" ∷
    codes "    1 BY    1 7" ∷
    codes "    1 LEAK  \"/g\", lines 1-8, entry 3 gives" ∷
    codes "    1 BY    1 5" ∷
    codes "    1 LEAK  \"/init\", lines 1-6, may exec" ∷
    codes "    1 BY    1 7" ∷
    codes "    1 EDIT  \"/a/b/f\", lines 1-8, entry 0 above" ∷
    codes "    1 BY    1 5" ∷
    codes "    1 EDIT  \"/g\", lines 1-6, may exec" ∷
    codes "    1 BY    1 5" ∷
    codes "    1 EDIT  \"/init\", lines 1-6, may exec" ∷
    codes "    0 DONE  9 states, complete" ∷ []))
unfolding exposure_on_literals
edits_with_entries_above = refl

-- the first state has an empty schedule; a number that is used again keeps its first path
pub number_used_again : exposed_text 1000 (
    codes "image 16 16" ∷
    codes "bytes \"/secret\" \"key\"" ∷
    codes "bytes \"/other\" \"o\"" ∷
    codes "exec \"/init\" 7" ∷
    codes "unlink \"/secret\"" ∷
    codes "open \"/mine\" rw+create" ∷
    codes "put \"mine\"" ∷
    codes "write 0 4" ∷
    codes "lseek 0 0 set" ∷
    codes "read 0 4" ∷
    codes "stat \"/other\"" ∷
    codes "schedule" ∷ []) ≡ Some (lines_text (
    codes "    0 PROG  1, \"/init\"" ∷
    codes "    1 BY    1 7" ∷
    codes "    1 LEAK  \"/init\", lines 1-8, no table" ∷
    codes "    1 BY    1 7" ∷
    codes "    1 LEAK  \"/other\", lines 1-8, no table" ∷
    codes "    1 BY    " ∷
    codes "    1 LEAK  \"/secret\", lines 1, no table" ∷
    codes "    1 BY    1 7" ∷
    codes "    1 LEAK  \"/mine\", first \"/secret\", lines 3-8, reads descriptor 0" ∷
    codes "    1 BY    1 7" ∷
    codes "    1 EDIT  \"/init\", lines 1-8, no table" ∷
    codes "    1 BY    1 7" ∷
    codes "    1 EDIT  \"/other\", lines 1-8, no table" ∷
    codes "    1 BY    " ∷
    codes "    1 EDIT  \"/secret\", lines 1, no table" ∷
    codes "    1 BY    1 7" ∷
    codes "    1 EDIT  \"/mine\", first \"/secret\", lines 3-8, writes descriptor 0" ∷
    codes "    1 BY    1 6" ∷
    codes "    1 READ  \"/mine\", first \"/secret\", lines 6" ∷
    codes "    0 DONE  9 states, complete" ∷ []))
unfolding exposure_on_literals
number_used_again = refl

-- an execve that finds no program reads the file
pub execve_reads : exposed_text 1000 (
    codes "image 16 16" ∷
    codes "bytes \"/text\" \"x\"" ∷
    codes "exec \"/bad\" 1" ∷
    codes "frok" ∷
    codes "exec \"/worse\" 1" ∷
    codes "getpid 1" ∷
    codes "link \"/way\" \"worse\"" ∷
    codes "exec \"/init\" 4" ∷
    codes "execve \"/text\"" ∷
    codes "execve \"/bad\"" ∷
    codes "execve \"/way\"" ∷
    codes "execve \"/none\"" ∷
    codes "schedule" ∷ []) ≡ Some (lines_text (
    codes "    0 PROG  1, \"/init\"" ∷
    codes "    1 BY    1 4" ∷
    codes "    1 LEAK  \"/bad\", lines 1-5, no table" ∷
    codes "    1 BY    1 4" ∷
    codes "    1 LEAK  \"/init\", lines 1-5, no table" ∷
    codes "    1 BY    1 4" ∷
    codes "    1 LEAK  \"/text\", lines 1-5, no table" ∷
    codes "    1 BY    1 4" ∷
    codes "    1 LEAK  \"/worse\", lines 1-5, no table" ∷
    codes "    1 BY    1 4" ∷
    codes "    1 EDIT  \"/bad\", lines 1-5, no table" ∷
    codes "    1 BY    1 4" ∷
    codes "    1 EDIT  \"/init\", lines 1-5, no table" ∷
    codes "    1 BY    1 4" ∷
    codes "    1 EDIT  \"/text\", lines 1-5, no table" ∷
    codes "    1 BY    1 4" ∷
    codes "    1 EDIT  \"/worse\", lines 1-5, no table" ∷
    codes "    1 BY    1 2" ∷
    codes "    1 READ  \"/bad\", lines 2" ∷
    codes "    1 BY    1 3" ∷
    codes "    1 READ  \"/worse\", lines 3" ∷
    codes "    0 DONE  6 states, complete" ∷ []))
unfolding exposure_on_literals
execve_reads = refl

-- a file is not safe if another process is not closed to it
pub safe_lost_to_a_peer : exposed_text 1000 (
    codes "image 24 16" ∷
    codes "dir \"/bin\"" ∷
    codes "bytes \"/key\" \"k\"" ∷
    codes "bytes \"/cold\" \"c\"" ∷
    codes "exec \"/bin/worker\" 2" ∷
    codes "getpid" ∷
    codes "exit 0" ∷
    codes "exec \"/init\" 9" ∷
    codes "unveil \"/key\" \"r\"" ∷
    codes "unveil \"/bin/worker\" \"x\"" ∷
    codes "unveil null null" ∷
    codes "pledge \"stdio rpath proc exec\" \"stdio\"" ∷
    codes "fork" ∷
    codes "jz r0 9" ∷
    codes "wait" ∷
    codes "exit 0" ∷
    codes "execve \"/bin/worker\"" ∷
    codes "schedule" ∷ []) ≡ Some (lines_text (
    codes "    0 PROG  1, \"/init\"" ∷
    codes "    2 BY    1 5, 2 1" ∷
    codes "    2 LEAK  \"/bin/worker\", lines 1-9, entry 1 gives" ∷
    codes "    1 BY    1 3" ∷
    codes "    1 LEAK  \"/cold\", lines 1-4, may exec" ∷
    codes "    1 BY    1 3" ∷
    codes "    1 LEAK  \"/init\", lines 1-4, may exec" ∷
    codes "    2 BY    1 5, 2 1" ∷
    codes "    2 LEAK  \"/key\", lines 1-9, entry 0 gives" ∷
    codes "    1 BY    1 3" ∷
    codes "    1 EDIT  \"/bin/worker\", lines 1-4, may exec" ∷
    codes "    1 BY    1 3" ∷
    codes "    1 EDIT  \"/cold\", lines 1-4, may exec" ∷
    codes "    1 BY    1 3" ∷
    codes "    1 EDIT  \"/init\", lines 1-4, may exec" ∷
    codes "    2 BY    1 5, 2 1" ∷
    codes "    2 EDIT  \"/key\", lines 1-9, entry 0 gives" ∷
    codes "    0 PROG  2, \"/bin/worker\"" ∷
    codes "    2 BY    1 5, 2 3" ∷
    codes "    2 PEER  \"/bin/worker\", lines 1-2, process 1 entry 1 gives" ∷
    codes "    2 BY    1 5, 2 3" ∷
    codes "    2 PEER  \"/key\", lines 1-2, process 1 entry 0 gives" ∷
    codes "    0 SAFE  \"/cold\"" ∷
    codes "    0 SAFE  \"/init\"" ∷
    codes "    0 DONE  17 states, complete" ∷ []))
unfolding exposure_on_literals
safe_lost_to_a_peer = refl

-- a process without execpromises loses its table
pub may_exec : exposed_text 1000 (
    codes "image 16 16" ∷
    codes "dir \"/pub\"" ∷
    codes "bytes \"/secret\" \"k1\"" ∷
    codes "exec \"/init\" 5" ∷
    codes "unveil \"/pub\" \"rx\"" ∷
    codes "unveil null null" ∷
    codes "getpid" ∷
    codes "pledge null \"stdio rpath\"" ∷
    codes "getpid" ∷
    codes "schedule" ∷ []) ≡ Some (lines_text (
    codes "    0 PROG  1, \"/init\"" ∷
    codes "    1 BY    1 3" ∷
    codes "    1 LEAK  \"/init\", lines 1-4, may exec" ∷
    codes "    1 BY    1 3" ∷
    codes "    1 LEAK  \"/secret\", lines 1-4, may exec" ∷
    codes "    1 BY    1 3" ∷
    codes "    1 EDIT  \"/init\", lines 1-4, may exec" ∷
    codes "    1 BY    1 3" ∷
    codes "    1 EDIT  \"/secret\", lines 1-4, may exec" ∷
    codes "    0 DONE  7 states, complete" ∷ []))
unfolding exposure_on_literals
may_exec = refl

-- a descriptor that writes a file
pub written_through_a_descriptor : exposed_text 1000 (
    codes "image 16 16" ∷
    codes "bytes \"/log\" \"\"" ∷
    codes "bytes \"/conf\" \"on\"" ∷
    codes "exec \"/init\" 7" ∷
    codes "open \"/log\" w+append" ∷
    codes "unveil \"/conf\" \"r\"" ∷
    codes "unveil null null" ∷
    codes "pledge \"stdio rpath\" null" ∷
    codes "write 0 2" ∷
    codes "close 0" ∷
    codes "getpid" ∷
    codes "schedule" ∷ []) ≡ Some (lines_text (
    codes "    0 PROG  1, \"/init\"" ∷
    codes "    1 BY    1 7" ∷
    codes "    1 LEAK  \"/conf\", lines 1-8, entry 0 gives" ∷
    codes "    1 BY    1 3" ∷
    codes "    1 LEAK  \"/init\", lines 1-4, may exec" ∷
    codes "    1 BY    1 3" ∷
    codes "    1 LEAK  \"/log\", lines 1-4, may exec" ∷
    codes "    1 BY    1 3" ∷
    codes "    1 EDIT  \"/conf\", lines 1-4, entry 0 gives" ∷
    codes "    1 BY    1 3" ∷
    codes "    1 EDIT  \"/init\", lines 1-4, may exec" ∷
    codes "    1 BY    1 5" ∷
    codes "    1 EDIT  \"/log\", lines 1-6, writes descriptor 0" ∷
    codes "    0 DONE  9 states, complete" ∷ []))
unfolding exposure_on_literals
written_through_a_descriptor = refl

-- the text of `exposure` about files for a bundle, with a limit on the number of states
abbrev pub exposed_about_from : List Bytes → ℕ → State → Bytes
exposed_about_from files limit s =
    answer_bytes (exposed_lines_about files program_of s.tree (is_complete program_of limit s) (states_found program_of limit s) (done_line program_of limit s))

abbrev pub exposure_text_about : List Bytes → ℕ → List Bytes → Option Bytes
exposure_text_about files limit lines = option_map (λ s. exposed_about_from files limit s.state) (result_ok (bundle_started (lines_text lines)))

-- about one file: the findings of its node under each path, and no SAFE line of another file
pub exposure_about_a_renamed_file : exposure_text_about (codes "\"/d/key\"" ∷ []) 1000 (
    codes "image 24 16" ∷
    codes "dir \"/d\"" ∷
    codes "bytes \"/d/key\" \"k1\"" ∷
    codes "bytes \"/d/list\" \"l2\"" ∷
    codes "exec \"/init\" 10" ∷
    codes "rename \"/d/key\" \"/d/other\"" ∷
    codes "open \"/d/other\" r" ∷
    codes "read 0 1" ∷
    codes "link \"/d/list\" \"/list\"" ∷
    codes "open \"/list\" r" ∷
    codes "read 1 1" ∷
    codes "unlink \"/d/other\"" ∷
    codes "read 0 1" ∷
    codes "rename \"/d\" \"/e\"" ∷
    codes "stat \"/e\"" ∷
    codes "schedule" ∷ []) ≡ Some (lines_text (
    codes "    0 PROG  1, \"/init\"" ∷
    codes "    1 BY    " ∷
    codes "    1 LEAK  \"/d/key\", lines 1, no table" ∷
    codes "    1 BY    1 6" ∷
    codes "    1 LEAK  \"/d/other\", first \"/d/key\", lines 2-7, reads descriptor 0" ∷
    codes "    1 BY    1 10" ∷
    codes "    1 LEAK  node 3, first \"/d/key\", lines 8-11, reads descriptor 0" ∷
    codes "    1 BY    " ∷
    codes "    1 EDIT  \"/d/key\", lines 1, no table" ∷
    codes "    1 BY    1 6" ∷
    codes "    1 EDIT  \"/d/other\", first \"/d/key\", lines 2-7, no table" ∷
    codes "    1 BY    1 10" ∷
    codes "    1 EDIT  node 3, first \"/d/key\", lines 8-11, no table" ∷
    codes "    1 BY    1 3" ∷
    codes "    1 READ  \"/d/other\", first \"/d/key\", lines 3" ∷
    codes "    1 BY    1 8" ∷
    codes "    1 READ  node 3, first \"/d/key\", lines 8" ∷
    codes "    0 DONE  12 states, complete" ∷ []))
unfolding exposure_on_literals exposed_lines_about
exposure_about_a_renamed_file = refl
