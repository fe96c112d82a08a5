-- The text of `policy` for small bundles, as a second implementation answers.
use Rattle.std.specs.Prelude.{◌≡◌, ℕ, List, [], ◌∷◌, codes, Option, Some, option_map, refl}
use Rattle.pv_model.specs.Answers.Policy.{granted_policy_lines, policy_lines}
use Rattle.pv_model.specs.Machine.{answer_bytes, Bytes, program_of}
use Rattle.pv_laws_worked.specs.Bundles.{text_of_lines}
use Rattle.pv_laws_worked.specs.Questions.{questions_on_literals, started}

-- the text of `policy` for a bundle, with a limit on the number of states
abbrev pub policy_text : ℕ → List Bytes → Option Bytes
policy_text limit lines = option_map (λ s. answer_bytes (policy_lines program_of limit s.state)) (started lines)

-- the same of the granted calls alone
abbrev pub granted_policy_text : ℕ → List Bytes → Option Bytes
granted_policy_text limit lines = option_map (λ s. answer_bytes (granted_policy_lines program_of limit s.state)) (started lines)

-- each line UNVL has the permissions that are new at its target, and lines for one target are together
pub permissions_that_are_new : policy_text 1000 (
    codes "image 16 16" ∷
    codes "bytes \"/f\" \"f\"" ∷
    codes "bytes \"/g\" \"g\"" ∷
    codes "exec \"/init\" 5" ∷
    codes "open \"/f\" r" ∷
    codes "stat \"/g\"" ∷
    codes "open \"/f\" w" ∷
    codes "open \"/g\" rw" ∷
    codes "unlink \"/f\"" ∷
    codes "schedule" ∷ []) ≡ Some (text_of_lines (
    codes "    0 PROG  1, \"/init\"" ∷
    codes "    1 BY    1 1" ∷
    codes "    1 PLDG  rpath, line 1" ∷
    codes "    1 BY    1 3" ∷
    codes "    1 PLDG  wpath, line 3" ∷
    codes "    1 BY    1 5" ∷
    codes "    1 PLDG  cpath, line 5" ∷
    codes "    1 BY    1 1" ∷
    codes "    1 UNVL  r---, \"/f\"" ∷
    codes "    1 BY    1 3" ∷
    codes "    1 UNVL  -w--, \"/f\"" ∷
    codes "    1 BY    1 5" ∷
    codes "    1 UNVL  ---c, \"/f\"" ∷
    codes "    1 BY    1 2" ∷
    codes "    1 UNVL  r---, \"/g\"" ∷
    codes "    1 BY    1 4" ∷
    codes "    1 UNVL  -w--, \"/g\"" ∷
    codes "    0 DONE  7 states, complete" ∷ []))
unfolding questions_on_literals
permissions_that_are_new = refl

-- rpath or wpath suffices for every call that needs one of them
pub either_of_two : policy_text 1000 (
    codes "image 16 16" ∷
    codes "bytes \"/f\" \"f\"" ∷
    codes "link \"/l\" \"f\"" ∷
    codes "exec \"/init\" 3" ∷
    codes "stat \"/f\"" ∷
    codes "readlink \"/l\"" ∷
    codes "lstat \"/l\"" ∷
    codes "schedule" ∷ []) ≡ Some (text_of_lines (
    codes "    0 PROG  1, \"/init\"" ∷
    codes "    1 BY    1 1" ∷
    codes "    1 PLDG  rpath|wpath, line 1" ∷
    codes "    1 BY    1 1" ∷
    codes "    1 UNVL  r---, \"/f\"" ∷
    codes "    1 BY    1 2" ∷
    codes "    1 UNVL  r---, \"/l\"" ∷
    codes "    0 DONE  5 states, complete" ∷ []))
unfolding questions_on_literals
either_of_two = refl

-- wpath is listed in addition to the alternatives if a call needs it
pub either_with_wpath : policy_text 1000 (
    codes "image 16 16" ∷
    codes "bytes \"/f\" \"f\"" ∷
    codes "exec \"/init\" 4" ∷
    codes "pledge \"stdio rpath wpath\" null" ∷
    codes "stat \"/f\"" ∷
    codes "open \"/f\" w" ∷
    codes "close 0" ∷
    codes "schedule" ∷ []) ≡ Some (text_of_lines (
    codes "    0 PROG  1, \"/init\"" ∷
    codes "    1 BY    1 4" ∷
    codes "    1 PLDG  stdio, line 4" ∷
    codes "    1 BY    1 2" ∷
    codes "    1 PLDG  rpath|wpath, line 2" ∷
    codes "    1 BY    1 3" ∷
    codes "    1 PLDG  wpath, line 3" ∷
    codes "    1 BY    1 2" ∷
    codes "    1 UNVL  r---, \"/f\"" ∷
    codes "    1 BY    1 3" ∷
    codes "    1 UNVL  -w--, \"/f\"" ∷
    codes "    0 DONE  6 states, complete" ∷ []))
unfolding questions_on_literals
either_with_wpath = refl

-- rpath replaces the alternatives if a call needs it; a promise that may be an alternative is not idle
pub rpath_itself : policy_text 1000 (
    codes "image 16 16" ∷
    codes "dir \"/d\"" ∷
    codes "exec \"/init\" 4" ∷
    codes "pledge \"rpath wpath\" null" ∷
    codes "stat \"/d\"" ∷
    codes "chdir \"/d\"" ∷
    codes "stat \"..\"" ∷
    codes "schedule" ∷ []) ≡ Some (text_of_lines (
    codes "    0 PROG  1, \"/init\"" ∷
    codes "    1 BY    1 3" ∷
    codes "    1 PLDG  rpath, line 3" ∷
    codes "    1 BY    1 2" ∷
    codes "    1 UNVL  r---, node 2 \"/d\"" ∷
    codes "    1 BY    1 4" ∷
    codes "    1 UNVL  r---, node 1 \"/\"" ∷
    codes "    0 DONE  6 states, complete" ∷ []))
unfolding questions_on_literals
rpath_itself = refl

-- a promise is idle if the process holds it at a call other than pledge, and no call needs it
pub idle_promises : policy_text 1000 (
    codes "image 16 16" ∷
    codes "exec \"/init\" 5" ∷
    codes "pledge \"stdio rpath cpath proc\" \"stdio exec\"" ∷
    codes "pledge \"stdio proc\" null" ∷
    codes "getpid" ∷
    codes "pledge \"stdio\" null" ∷
    codes "getpid" ∷
    codes "schedule" ∷ []) ≡ Some (text_of_lines (
    codes "    0 PROG  1, \"/init\"" ∷
    codes "    1 BY    1 3" ∷
    codes "    1 PLDG  stdio, line 3" ∷
    codes "    0 IDLE  proc" ∷
    codes "    0 DONE  7 states, complete" ∷ []))
unfolding questions_on_literals
idle_promises = refl

-- a permission is idle if an entry gives it at a call other than unveil, and no allowed walk uses it there
pub idle_permissions : policy_text 1000 (
    codes "image 16 16" ∷
    codes "bytes \"/f\" \"f\"" ∷
    codes "bytes \"/g\" \"g\"" ∷
    codes "exec \"/init\" 6" ∷
    codes "unveil \"/f\" \"rwx\"" ∷
    codes "getpid" ∷
    codes "unveil \"/f\" \"r\"" ∷
    codes "open \"/f\" r" ∷
    codes "open \"/g\" r" ∷
    codes "unveil \"/f\" \"\"" ∷
    codes "schedule" ∷ []) ≡ Some (text_of_lines (
    codes "    0 PROG  1, \"/init\"" ∷
    codes "    1 BY    1 2" ∷
    codes "    1 PLDG  stdio, line 2" ∷
    codes "    1 BY    1 4" ∷
    codes "    1 PLDG  rpath, line 4" ∷
    codes "    1 BY    1 1" ∷
    codes "    1 PLDG  unveil, line 1" ∷
    codes "    1 BY    1 4" ∷
    codes "    1 UNVL  r---, \"/f\"" ∷
    codes "    1 BY    1 5" ∷
    codes "    1 UNVL  r---, \"/g\"" ∷
    codes "    0 IDLE  -wx-, \"/f\"" ∷
    codes "    0 DONE  8 states, complete" ∷ []))
unfolding questions_on_literals
idle_permissions = refl

-- a call that a promise refuses needs that promise, but checks no walk
pub refused_permissions_are_idle : policy_text 1000 (
    codes "image 16 16" ∷
    codes "bytes \"/f\" \"f\"" ∷
    codes "exec \"/init\" 5" ∷
    codes "unveil \"/f\" \"r\"" ∷
    codes "pledge \"stdio rpath error\" null" ∷
    codes "open \"/f\" rw" ∷
    codes "open \"/f\" w" ∷
    codes "exit 0" ∷
    codes "schedule" ∷ []) ≡ Some (text_of_lines (
    codes "    0 PROG  1, \"/init\"" ∷
    codes "    1 BY    1 3" ∷
    codes "    1 PLDG  rpath, line 3" ∷
    codes "    1 BY    1 3" ∷
    codes "    1 PLDG  wpath, line 3" ∷
    codes "    1 BY    1 1" ∷
    codes "    1 PLDG  unveil, line 1" ∷
    codes "    0 IDLE  stdio" ∷
    codes "    0 IDLE  r---, \"/f\"" ∷
    codes "    0 DONE  6 states, complete" ∷ []))
unfolding questions_on_literals
refused_permissions_are_idle = refl

-- the entries with the same words at different calls are one target
pub idle_by_words : policy_text 1000 (
    codes "image 16 16" ∷
    codes "dir \"/d\"" ∷
    codes "exec \"/init\" 7" ∷
    codes "unveil \"/d\" \"rc\"" ∷
    codes "unveil \"/d/x\" \"w\"" ∷
    codes "unveil \"/\" \"c\"" ∷
    codes "getpid" ∷
    codes "chdir \"/d\"" ∷
    codes "rmdir \"/d\"" ∷
    codes "getpid" ∷
    codes "schedule" ∷ []) ≡ Some (text_of_lines (
    codes "    0 PROG  1, \"/init\"" ∷
    codes "    1 BY    1 4" ∷
    codes "    1 PLDG  stdio, line 4" ∷
    codes "    1 BY    1 5" ∷
    codes "    1 PLDG  rpath, line 5" ∷
    codes "    1 BY    1 6" ∷
    codes "    1 PLDG  cpath, line 6" ∷
    codes "    1 BY    1 1" ∷
    codes "    1 PLDG  unveil, line 1" ∷
    codes "    1 BY    1 5" ∷
    codes "    1 UNVL  r---, node 2 \"/d\"" ∷
    codes "    1 BY    1 6" ∷
    codes "    1 UNVL  ---c, node 2 \"/d\"" ∷
    codes "    0 IDLE  -w--, \"/d/x\"" ∷
    codes "    0 IDLE  ---c, node 1 \"/\"" ∷
    codes "    0 IDLE  r--c, node 2" ∷
    codes "    0 IDLE  -w--, \"x\" in node 2" ∷
    codes "    0 DONE  9 states, complete" ∷ []))
unfolding questions_on_literals
idle_by_words = refl

-- each program that a process gets by execve has its own needs
pub programs_of_execve : policy_text 1000 (
    codes "image 16 16" ∷
    codes "bytes \"/f\" \"f\"" ∷
    codes "exec \"/p\" 1" ∷
    codes "open \"/f\" r" ∷
    codes "exec \"/init\" 5" ∷
    codes "unveil \"/\" \"rx\"" ∷
    codes "unveil \"/f\" \"rw\"" ∷
    codes "unveil null null" ∷
    codes "pledge null \"stdio rpath wpath\"" ∷
    codes "execve \"/p\"" ∷
    codes "schedule" ∷ []) ≡ Some (text_of_lines (
    codes "    0 PROG  1, \"/init\"" ∷
    codes "    1 BY    1 5" ∷
    codes "    1 PLDG  exec, line 5" ∷
    codes "    1 BY    1 1" ∷
    codes "    1 PLDG  unveil, line 1" ∷
    codes "    1 BY    1 5" ∷
    codes "    1 UNVL  --x-, \"/p\"" ∷
    codes "    0 IDLE  r---, node 1 \"/\"" ∷
    codes "    0 IDLE  rw--, \"/f\"" ∷
    codes "    0 PROG  2, \"/p\"" ∷
    codes "    1 BY    1 6" ∷
    codes "    1 PLDG  rpath, line 1" ∷
    codes "    1 BY    1 6" ∷
    codes "    1 UNVL  r---, \"/f\"" ∷
    codes "    0 IDLE  stdio" ∷
    codes "    0 IDLE  wpath" ∷
    codes "    0 IDLE  r-x-, node 1 \"/\"" ∷
    codes "    0 IDLE  -w--, \"/f\"" ∷
    codes "    0 DONE  8 states, complete" ∷ []))
unfolding questions_on_literals
programs_of_execve = refl

-- a program that no file of the first tree holds
pub program_without_file : policy_text 1000 (
    codes "image 16 16" ∷
    codes "exec \"/p\" 1" ∷
    codes "getpid" ∷
    codes "exec \"/init\" 5" ∷
    codes "open \"/p\" w+trunc" ∷
    codes "put \"getppid\\x0astat \\x22/p\\x22\\x0a\"" ∷
    codes "write 0 18" ∷
    codes "close 0" ∷
    codes "execve \"/p\"" ∷
    codes "schedule" ∷ []) ≡ Some (text_of_lines (
    codes "    0 PROG  1, \"/init\"" ∷
    codes "    1 BY    1 3" ∷
    codes "    1 PLDG  stdio, line 3" ∷
    codes "    1 BY    1 1" ∷
    codes "    1 PLDG  wpath, line 1" ∷
    codes "    1 BY    1 5" ∷
    codes "    1 PLDG  exec, line 5" ∷
    codes "    1 BY    1 1" ∷
    codes "    1 UNVL  -w--, \"/p\"" ∷
    codes "    1 BY    1 5" ∷
    codes "    1 UNVL  --x-, \"/p\"" ∷
    codes "    0 PROG  2, no file" ∷
    codes "    1 BY    1 6" ∷
    codes "    1 PLDG  stdio, line 1" ∷
    codes "    1 BY    1 7" ∷
    codes "    1 PLDG  rpath|wpath, line 2" ∷
    codes "    1 BY    1 7" ∷
    codes "    1 UNVL  r---, \"/p\"" ∷
    codes "    0 DONE  9 states, complete" ∷ []))
unfolding questions_on_literals
program_without_file = refl

-- a program that two files hold is named after the first one in the order of the listing
pub files_of_one_program : policy_text 1000 (
    codes "image 8 8" ∷
    codes "exec \"/a\" 1" ∷
    codes "exit 0" ∷
    codes "exec \"/init\" 1" ∷
    codes "exit 0" ∷
    codes "schedule" ∷ []) ≡ Some (text_of_lines (
    codes "    0 PROG  1, \"/a\"" ∷
    codes "    0 DONE  2 states, complete" ∷ []))
unfolding questions_on_literals
files_of_one_program = refl

-- a program without calls is left out
pub programs_without_calls : policy_text 1000 (
    codes "image 8 8" ∷
    codes "exec \"/init\" 1" ∷
    codes "jmp 1" ∷
    codes "schedule" ∷ []) ≡ Some (text_of_lines (
    codes "    0 DONE  1 states, complete" ∷ []))
unfolding questions_on_literals
programs_without_calls = refl

-- no promise or permission is idle if the search is not complete
pub idle_if_complete : policy_text 4 (
    codes "image 8 8" ∷
    codes "exec \"/init\" 4" ∷
    codes "pledge \"stdio rpath unveil\" null" ∷
    codes "unveil \"/\" \"r\"" ∷
    codes "getpid" ∷
    codes "getpid" ∷
    codes "schedule" ∷ []) ≡ Some (text_of_lines (
    codes "    0 PROG  1, \"/init\"" ∷
    codes "    1 BY    1 3" ∷
    codes "    1 PLDG  stdio, line 3" ∷
    codes "    1 BY    1 2" ∷
    codes "    1 PLDG  unveil, line 2" ∷
    codes "    0 DONE  4 states, not complete" ∷ []))
unfolding questions_on_literals
idle_if_complete = refl

-- a call that a table or a promise refuses asks for nothing, and a call that fails for another reason does; a
-- permission that only refused calls ask for is idle
pub granted_calls_alone : granted_policy_text 1000 (
    codes "image 16 16" ∷
    codes "bytes \"/f\" \"f\"" ∷
    codes "bytes \"/g\" \"g\"" ∷
    codes "exec \"/init\" 6" ∷
    codes "unveil \"/f\" \"rw\"" ∷
    codes "pledge \"stdio rpath wpath error\" null" ∷
    codes "open \"/f\" r" ∷
    codes "open \"/g\" w" ∷
    codes "fork" ∷
    codes "close 9" ∷
    codes "schedule" ∷ []) ≡ Some (text_of_lines (
    codes "    0 PROG  1, \"/init\"" ∷
    codes "    1 BY    1 6" ∷
    codes "    1 PLDG  stdio, line 6" ∷
    codes "    1 BY    1 3" ∷
    codes "    1 PLDG  rpath, line 3" ∷
    codes "    1 BY    1 1" ∷
    codes "    1 PLDG  unveil, line 1" ∷
    codes "    1 BY    1 3" ∷
    codes "    1 UNVL  r---, \"/f\"" ∷
    codes "    0 IDLE  wpath" ∷
    codes "    0 IDLE  -w--, \"/f\"" ∷
    codes "    0 DONE  8 states, complete" ∷ []))
unfolding questions_on_literals
granted_calls_alone = refl

-- a program whose calls are all refused is left out
pub refused_programs : granted_policy_text 1000 (
    codes "image 16 16" ∷
    codes "exec \"/p\" 1" ∷
    codes "getpid" ∷
    codes "exec \"/init\" 2" ∷
    codes "pledge null \"\"" ∷
    codes "execve \"/p\"" ∷
    codes "schedule" ∷ []) ≡ Some (text_of_lines (
    codes "    0 PROG  1, \"/init\"" ∷
    codes "    1 BY    1 2" ∷
    codes "    1 PLDG  exec, line 2" ∷
    codes "    1 BY    1 2" ∷
    codes "    1 UNVL  --x-, \"/p\"" ∷
    codes "    0 DONE  4 states, complete" ∷ []))
unfolding questions_on_literals
refused_programs = refl
