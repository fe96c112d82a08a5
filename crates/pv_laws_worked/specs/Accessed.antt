-- The text of `access` for small bundles, as a second implementation answers.
use Rattle.std.specs.Prelude.{◌≡◌, [], ◌∷◌, codes, Some, refl}
use Rattle.pv_model_questions.specs.AccessesWorked.{access_text, accesses_on_literals}
use Rattle.pv_laws_worked.specs.Bundles.{text_of_lines}

-- a truncation of a file that exists writes it; a file that an open creates is a name that it changes, with the words after the step
pub truncation_and_creation : access_text [] 1000 (
    codes "image 16 16" ∷
    codes "bytes \"/old\" \"old\"" ∷
    codes "bytes \"/more\" \"more\"" ∷
    codes "exec \"/init\" 8" ∷
    codes "open \"/old\" w+trunc" ∷
    codes "open \"/new\" w+create+trunc" ∷
    codes "open \"/new\" w+create+trunc" ∷
    codes "open \"/more\" w+create" ∷
    codes "ftruncate 3 4" ∷
    codes "write 3 0" ∷
    codes "put \"m\"" ∷
    codes "write 3 1" ∷
    codes "schedule" ∷ []) ≡ Some (text_of_lines (
    codes "    1 BY    1 1" ∷
    codes "    1 WRIT  \"/old\"" ∷
    codes "    1 BY    1 1" ∷
    codes "    1 OPEN  w \"/old\"" ∷
    codes "    1 BY    1 2" ∷
    codes "    1 NAME  \"/new\"" ∷
    codes "    1 BY    1 2" ∷
    codes "    1 OPEN  w \"/new\"" ∷
    codes "    1 BY    1 3" ∷
    codes "    1 WRIT  \"/new\"" ∷
    codes "    1 BY    1 4" ∷
    codes "    1 OPEN  w \"/more\"" ∷
    codes "    1 BY    1 5" ∷
    codes "    1 WRIT  \"/more\"" ∷
    codes "    0 UNRD  \"/more\"" ∷
    codes "    0 UNRD  \"/old\"" ∷
    codes "    0 DONE  10 states, complete" ∷ []))
unfolding accesses_on_literals
truncation_and_creation = refl

-- an execve that finds no program reads the file at the end of its walk
pub refused_programs_are_read : access_text [] 1000 (
    codes "image 16 16" ∷
    codes "bytes \"/text\" \"x\"" ∷
    codes "exec \"/bad\" 1" ∷
    codes "frok" ∷
    codes "exec \"/worse\" 1" ∷
    codes "getpid 1" ∷
    codes "link \"/way\" \"worse\"" ∷
    codes "exec \"/init\" 4" ∷
    codes "execve \"/text\"" ∷
    codes "execve \"/bad\"" ∷
    codes "execve \"/way\"" ∷
    codes "execve \"/none\"" ∷
    codes "schedule" ∷ []) ≡ Some (text_of_lines (
    codes "    1 BY    1 2" ∷
    codes "    1 READ  \"/bad\"" ∷
    codes "    1 BY    1 3" ∷
    codes "    1 READ  \"/worse\"" ∷
    codes "    0 UNRD  \"/text\"" ∷
    codes "    0 DONE  6 states, complete" ∷ []))
unfolding accesses_on_literals
refused_programs_are_read = refl

-- a read that returns no bytes and a write of no bytes access nothing, and a failed call has no access
pub no_bytes_no_access : access_text [] 1000 (
    codes "image 8 8" ∷
    codes "bytes \"/f\" \"\"" ∷
    codes "exec \"/init\" 5" ∷
    codes "open \"/f\" rw" ∷
    codes "read 0 4" ∷
    codes "write 0 0" ∷
    codes "open \"/none\" r" ∷
    codes "mkdir \"/f\"" ∷
    codes "schedule" ∷ []) ≡ Some (text_of_lines (
    codes "    1 BY    1 1" ∷
    codes "    1 OPEN  rw \"/f\"" ∷
    codes "    0 UNRD  \"/f\"" ∷
    codes "    0 DONE  7 states, complete" ∷ []))
unfolding accesses_on_literals
no_bytes_no_access = refl

-- a file is not listed as unread if its number is read after its removal, nor if it is `init`
pub accesses_of_reused_numbers : access_text [] 1000 (
    codes "image 16 16" ∷
    codes "bytes \"/secret\" \"key\"" ∷
    codes "bytes \"/other\" \"o\"" ∷
    codes "exec \"/init\" 7" ∷
    codes "unlink \"/secret\"" ∷
    codes "open \"/mine\" rw+create" ∷
    codes "put \"mine\"" ∷
    codes "write 0 4" ∷
    codes "lseek 0 0 set" ∷
    codes "read 0 4" ∷
    codes "stat \"/other\"" ∷
    codes "schedule" ∷ []) ≡ Some (text_of_lines (
    codes "    1 BY    1 1" ∷
    codes "    1 NAME  \"/secret\"" ∷
    codes "    1 BY    1 2" ∷
    codes "    1 NAME  \"/mine\"" ∷
    codes "    1 BY    1 2" ∷
    codes "    1 OPEN  rw \"/mine\", first \"/secret\"" ∷
    codes "    1 BY    1 4" ∷
    codes "    1 WRIT  \"/mine\", first \"/secret\"" ∷
    codes "    1 BY    1 5" ∷
    codes "    1 TELL  \"/mine\", first \"/secret\"" ∷
    codes "    1 BY    1 6" ∷
    codes "    1 READ  \"/mine\", first \"/secret\"" ∷
    codes "    1 BY    1 7" ∷
    codes "    1 TELL  \"/other\"" ∷
    codes "    0 UNRD  \"/other\"" ∷
    codes "    0 DONE  9 states, complete" ∷ []))
unfolding accesses_on_literals
accesses_of_reused_numbers = refl

-- a rename changes both names, in the order of its paths; only the first step with an access is listed
pub both_names_of_rename : access_text [] 1000 (
    codes "image 16 16" ∷
    codes "bytes \"/f\" \"f\"" ∷
    codes "name \"/g\" \"/f\"" ∷
    codes "dir \"/d\"" ∷
    codes "exec \"/init\" 5" ∷
    codes "rename \"/f\" \"/f\"" ∷
    codes "rename \"/f\" \"/g\"" ∷
    codes "rename \"/d\" \"/d/\"" ∷
    codes "rename \"/f\" \"/d/f\"" ∷
    codes "rename \"/d\" \"/d/e\"" ∷
    codes "schedule" ∷ []) ≡ Some (text_of_lines (
    codes "    1 BY    1 1" ∷
    codes "    1 NAME  \"/f\"" ∷
    codes "    1 BY    1 2" ∷
    codes "    1 NAME  \"/g\"" ∷
    codes "    1 BY    1 3" ∷
    codes "    1 NAME  \"/d\"" ∷
    codes "    1 BY    1 4" ∷
    codes "    1 NAME  \"/d/f\"" ∷
    codes "    0 UNRD  \"/f\"" ∷
    codes "    0 DONE  7 states, complete" ∷ []))
unfolding accesses_on_literals
both_names_of_rename = refl

-- a link changes the second name alone, and a program that execve starts is executed
pub second_name_of_link : access_text [] 1000 (
    codes "image 8 8" ∷
    codes "bytes \"/f\" \"f\"" ∷
    codes "exec \"/p\" 0" ∷
    codes "exec \"/init\" 2" ∷
    codes "link \"/f\" \"/g\"" ∷
    codes "execve \"/p\"" ∷
    codes "schedule" ∷ []) ≡ Some (text_of_lines (
    codes "    1 BY    1 1" ∷
    codes "    1 NAME  \"/g\"" ∷
    codes "    1 BY    1 2" ∷
    codes "    1 EXEC  \"/p\"" ∷
    codes "    0 UNRD  \"/f\"" ∷
    codes "    0 DONE  4 states, complete" ∷ []))
unfolding accesses_on_literals
second_name_of_link = refl

-- calls on a descriptor report its node, whose words are those of the state before the step
pub nodes_of_descriptors : access_text [] 1000 (
    codes "image 8 8" ∷
    codes "dir \"/d\"" ∷
    codes "bytes \"/d/f\" \"f\"" ∷
    codes "exec \"/init\" 5" ∷
    codes "open \"/d/f\" r" ∷
    codes "read 0 1" ∷
    codes "unlink \"/d/f\"" ∷
    codes "lseek 0 0 set" ∷
    codes "fstat 0" ∷
    codes "schedule" ∷ []) ≡ Some (text_of_lines (
    codes "    1 BY    1 1" ∷
    codes "    1 OPEN  r \"/d/f\"" ∷
    codes "    1 BY    1 2" ∷
    codes "    1 READ  \"/d/f\"" ∷
    codes "    1 BY    1 3" ∷
    codes "    1 NAME  \"/d/f\"" ∷
    codes "    1 BY    1 4" ∷
    codes "    1 TELL  node 3, first \"/d/f\"" ∷
    codes "    0 DONE  7 states, complete" ∷ []))
unfolding accesses_on_literals
nodes_of_descriptors = refl

-- a node without a path is described by its number
pub nodes_without_paths : access_text [] 1000 (
    codes "image 16 16" ∷
    codes "exec \"/init\" 9" ∷
    codes "mkdir \"/w\"" ∷
    codes "chdir \"/w\"" ∷
    codes "rmdir \"../w\"" ∷
    codes "stat \".\"" ∷
    codes "open \".\" r" ∷
    codes "getdents 0" ∷
    codes "openat 0 \".\" r" ∷
    codes "stat \"..\"" ∷
    codes "mkdir \"n\"" ∷
    codes "schedule" ∷ []) ≡ Some (text_of_lines (
    codes "    1 BY    1 1" ∷
    codes "    1 NAME  \"/w\"" ∷
    codes "    1 BY    1 2" ∷
    codes "    1 TELL  \"/w\"" ∷
    codes "    1 BY    1 4" ∷
    codes "    1 TELL  node 3" ∷
    codes "    1 BY    1 5" ∷
    codes "    1 OPEN  r node 3" ∷
    codes "    0 DONE  11 states, complete" ∷ []))
unfolding accesses_on_literals
nodes_without_paths = refl

-- an unread file with two names is listed once
pub files_of_two_names : access_text [] 1000 (
    codes "image 16 16" ∷
    codes "dir \"/z\"" ∷
    codes "dir \"/a\"" ∷
    codes "bytes \"/z/f\" \"f\"" ∷
    codes "name \"/a/f\" \"/z/f\"" ∷
    codes "bytes \"/z/g\" \"g\"" ∷
    codes "name \"/a/g\" \"/z/g\"" ∷
    codes "exec \"/init\" 4" ∷
    codes "open \"/a/g\" r" ∷
    codes "read 0 1" ∷
    codes "unlink \"/z/g\"" ∷
    codes "fstat 0" ∷
    codes "schedule" ∷ []) ≡ Some (text_of_lines (
    codes "    1 BY    1 1" ∷
    codes "    1 OPEN  r \"/z/g\"" ∷
    codes "    1 BY    1 2" ∷
    codes "    1 READ  \"/z/g\"" ∷
    codes "    1 BY    1 3" ∷
    codes "    1 NAME  \"/z/g\"" ∷
    codes "    1 BY    1 4" ∷
    codes "    1 TELL  \"/a/g\", first \"/z/g\"" ∷
    codes "    0 UNRD  \"/z/f\"" ∷
    codes "    0 DONE  6 states, complete" ∷ []))
unfolding accesses_on_literals
files_of_two_names = refl

-- the accesses of two processes to a file are two accesses
pub each_process_has_its_own : access_text [] 1000 (
    codes "image 8 8" ∷
    codes "bytes \"/f\" \"f\"" ∷
    codes "exec \"/init\" 2" ∷
    codes "fork" ∷
    codes "stat \"/f\"" ∷
    codes "schedule" ∷ []) ≡ Some (text_of_lines (
    codes "    1 BY    1 2" ∷
    codes "    1 TELL  \"/f\"" ∷
    codes "    2 BY    1 1, 2 1" ∷
    codes "    2 TELL  \"/f\"" ∷
    codes "    0 UNRD  \"/f\"" ∷
    codes "    0 DONE  10 states, complete" ∷ []))
unfolding accesses_on_literals
each_process_has_its_own = refl

-- no file is listed as unread if the search is not complete
pub unread_if_complete : access_text [] 2 (
    codes "image 8 8" ∷
    codes "bytes \"/f\" \"f\"" ∷
    codes "exec \"/init\" 2" ∷
    codes "stat \"/f\"" ∷
    codes "getpid" ∷
    codes "schedule" ∷ []) ≡ Some (text_of_lines (
    codes "    1 BY    1 1" ∷
    codes "    1 TELL  \"/f\"" ∷
    codes "    0 DONE  2 states, not complete" ∷ []))
unfolding accesses_on_literals
unread_if_complete = refl
