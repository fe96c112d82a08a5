-- The text of `access` for small bundles, as a second implementation answers.
use Rattle.std.specs.Prelude.{⊤, ◌≡◌, ℕ, List, [], ◌∷◌, codes, Option, Some, option_map, refl}
use Rattle.std.specs.Result.{result_ok}
use Rattle.pv_model.specs.Answers.OnLiterals.{answers_on_literals}
use Rattle.pv_model.specs.Grammar.Arguments.{parsed_flags}
use Rattle.pv_model.specs.Grammar.Instructions.{instruction_by}
use Rattle.pv_model.specs.Grammar.Manifests.{entry_by}
use Rattle.pv_model.specs.Machine.{add_entry, answer_bytes, booted, bundle_started, Bytes, program_of, read_bundle, read_manifest, read_program, started_on, text_at}
use Rattle.pv_model_questions.specs.Accesses.{access_lines}
use Rattle.pv_model_questions.specs.ExplainMoreWorked.{lines_text}

-- the definitions to unfold in a proof by computation
unfoldable pub accesses_on_literals : ⊤
unfolding answers_on_literals read_manifest read_bundle entry_by add_entry read_program instruction_by text_at parsed_flags bundle_started started_on booted access_lines
accesses_on_literals = tt

-- the text of `access` about files for a bundle, with a limit on the number of states
abbrev pub access_text : List Bytes → ℕ → List Bytes → Option Bytes
access_text files limit lines = option_map (λ s. answer_bytes (access_lines program_of limit s.state files)) (result_ok (bundle_started (lines_text lines)))

-- a node that was renamed, linked or unlinked is described with its first path
pub first_paths : access_text [] 1000 (
    codes "image 24 16" ∷
    codes "dir \"/d\"" ∷
    codes "bytes \"/d/key\" \"k1\"" ∷
    codes "bytes \"/d/list\" \"l2\"" ∷
    codes "exec \"/init\" 10" ∷
    codes "rename \"/d/key\" \"/d/other\"" ∷
    codes "open \"/d/other\" r" ∷
    codes "read 0 1" ∷
    codes "link \"/d/list\" \"/list\"" ∷
    codes "open \"/list\" r" ∷
    codes "read 1 1" ∷
    codes "unlink \"/d/other\"" ∷
    codes "read 0 1" ∷
    codes "rename \"/d\" \"/e\"" ∷
    codes "stat \"/e\"" ∷
    codes "schedule" ∷ []) ≡ Some (lines_text (
    codes "    1 BY    1 1" ∷
    codes "    1 NAME  \"/d/key\"" ∷
    codes "    1 BY    1 1" ∷
    codes "    1 NAME  \"/d/other\"" ∷
    codes "    1 BY    1 2" ∷
    codes "    1 OPEN  r \"/d/other\", first \"/d/key\"" ∷
    codes "    1 BY    1 3" ∷
    codes "    1 READ  \"/d/other\", first \"/d/key\"" ∷
    codes "    1 BY    1 4" ∷
    codes "    1 NAME  \"/list\"" ∷
    codes "    1 BY    1 5" ∷
    codes "    1 OPEN  r \"/list\", first \"/d/list\"" ∷
    codes "    1 BY    1 6" ∷
    codes "    1 READ  \"/list\", first \"/d/list\"" ∷
    codes "    1 BY    1 8" ∷
    codes "    1 READ  node 3, first \"/d/key\"" ∷
    codes "    1 BY    1 9" ∷
    codes "    1 NAME  \"/d\"" ∷
    codes "    1 BY    1 9" ∷
    codes "    1 NAME  \"/e\"" ∷
    codes "    1 BY    1 10" ∷
    codes "    1 TELL  \"/e\", first \"/d\"" ∷
    codes "    0 DONE  12 states, complete" ∷ []))
unfolding accesses_on_literals
first_paths = refl

-- a number that is used again keeps the first path of its first node
pub first_paths_of_reused_numbers : access_text [] 1000 (
    codes "image 16 16" ∷
    codes "bytes \"/f\" \"k\"" ∷
    codes "link \"/l\" \"f\"" ∷
    codes "exec \"/init\" 6" ∷
    codes "unlink \"/f\"" ∷
    codes "mkdir \"/d\"" ∷
    codes "stat \"/d\"" ∷
    codes "unlink \"/l\"" ∷
    codes "open \"/g\" rw+create" ∷
    codes "lseek 0 0 end" ∷
    codes "schedule" ∷ []) ≡ Some (lines_text (
    codes "    1 BY    1 1" ∷
    codes "    1 NAME  \"/f\"" ∷
    codes "    1 BY    1 2" ∷
    codes "    1 NAME  \"/d\"" ∷
    codes "    1 BY    1 3" ∷
    codes "    1 TELL  \"/d\", first \"/f\"" ∷
    codes "    1 BY    1 4" ∷
    codes "    1 NAME  \"/l\"" ∷
    codes "    1 BY    1 5" ∷
    codes "    1 NAME  \"/g\"" ∷
    codes "    1 BY    1 5" ∷
    codes "    1 OPEN  rw \"/g\", first \"/l\"" ∷
    codes "    1 BY    1 6" ∷
    codes "    1 TELL  \"/g\", first \"/l\"" ∷
    codes "    0 UNRD  \"/f\"" ∷
    codes "    0 DONE  8 states, complete" ∷ []))
unfolding accesses_on_literals
first_paths_of_reused_numbers = refl

-- about one file: the lines of its node under each path, and those of its name
pub about_a_renamed_file : access_text (codes "\"/d/key\"" ∷ []) 1000 (
    codes "image 24 16" ∷
    codes "dir \"/d\"" ∷
    codes "bytes \"/d/key\" \"k1\"" ∷
    codes "bytes \"/d/list\" \"l2\"" ∷
    codes "exec \"/init\" 10" ∷
    codes "rename \"/d/key\" \"/d/other\"" ∷
    codes "open \"/d/other\" r" ∷
    codes "read 0 1" ∷
    codes "link \"/d/list\" \"/list\"" ∷
    codes "open \"/list\" r" ∷
    codes "read 1 1" ∷
    codes "unlink \"/d/other\"" ∷
    codes "read 0 1" ∷
    codes "rename \"/d\" \"/e\"" ∷
    codes "stat \"/e\"" ∷
    codes "schedule" ∷ []) ≡ Some (lines_text (
    codes "    1 BY    1 1" ∷
    codes "    1 NAME  \"/d/key\"" ∷
    codes "    1 BY    1 2" ∷
    codes "    1 OPEN  r \"/d/other\", first \"/d/key\"" ∷
    codes "    1 BY    1 3" ∷
    codes "    1 READ  \"/d/other\", first \"/d/key\"" ∷
    codes "    1 BY    1 8" ∷
    codes "    1 READ  node 3, first \"/d/key\"" ∷
    codes "    0 DONE  12 states, complete" ∷ []))
unfolding accesses_on_literals
about_a_renamed_file = refl

-- about two files, the first by the name that its description does not have
pub about_a_second_name : access_text (codes "\"/a/g\"" ∷ codes "\"/z/f\"" ∷ []) 1000 (
    codes "image 16 16" ∷
    codes "dir \"/z\"" ∷
    codes "dir \"/a\"" ∷
    codes "bytes \"/z/f\" \"f\"" ∷
    codes "name \"/a/f\" \"/z/f\"" ∷
    codes "bytes \"/z/g\" \"g\"" ∷
    codes "name \"/a/g\" \"/z/g\"" ∷
    codes "exec \"/init\" 4" ∷
    codes "open \"/a/g\" r" ∷
    codes "read 0 1" ∷
    codes "unlink \"/z/g\"" ∷
    codes "fstat 0" ∷
    codes "schedule" ∷ []) ≡ Some (lines_text (
    codes "    1 BY    1 1" ∷
    codes "    1 OPEN  r \"/z/g\"" ∷
    codes "    1 BY    1 2" ∷
    codes "    1 READ  \"/z/g\"" ∷
    codes "    1 BY    1 4" ∷
    codes "    1 TELL  \"/a/g\", first \"/z/g\"" ∷
    codes "    0 UNRD  \"/z/f\"" ∷
    codes "    0 DONE  6 states, complete" ∷ []))
unfolding accesses_on_literals
about_a_second_name = refl

-- about a path that no file has
pub about_no_file : access_text (codes "\"/none\"" ∷ []) 1000 (
    codes "image 16 16" ∷
    codes "dir \"/z\"" ∷
    codes "dir \"/a\"" ∷
    codes "bytes \"/z/f\" \"f\"" ∷
    codes "name \"/a/f\" \"/z/f\"" ∷
    codes "bytes \"/z/g\" \"g\"" ∷
    codes "name \"/a/g\" \"/z/g\"" ∷
    codes "exec \"/init\" 4" ∷
    codes "open \"/a/g\" r" ∷
    codes "read 0 1" ∷
    codes "unlink \"/z/g\"" ∷
    codes "fstat 0" ∷
    codes "schedule" ∷ []) ≡ Some (lines_text (
    codes "    0 DONE  6 states, complete" ∷ []))
unfolding accesses_on_literals
about_no_file = refl

-- a search that leaves a state out lists no file as unread
pub unread_if_complete_alone : access_text [] 3 (
    codes "image 16 16" ∷
    codes "dir \"/z\"" ∷
    codes "dir \"/a\"" ∷
    codes "bytes \"/z/f\" \"f\"" ∷
    codes "name \"/a/f\" \"/z/f\"" ∷
    codes "bytes \"/z/g\" \"g\"" ∷
    codes "name \"/a/g\" \"/z/g\"" ∷
    codes "exec \"/init\" 4" ∷
    codes "open \"/a/g\" r" ∷
    codes "read 0 1" ∷
    codes "unlink \"/z/g\"" ∷
    codes "fstat 0" ∷
    codes "schedule" ∷ []) ≡ Some (lines_text (
    codes "    1 BY    1 1" ∷
    codes "    1 OPEN  r \"/z/g\"" ∷
    codes "    1 BY    1 2" ∷
    codes "    1 READ  \"/z/g\"" ∷
    codes "    1 BY    1 3" ∷
    codes "    1 NAME  \"/z/g\"" ∷
    codes "    0 DONE  3 states, not complete" ∷ []))
unfolding accesses_on_literals
unread_if_complete_alone = refl
