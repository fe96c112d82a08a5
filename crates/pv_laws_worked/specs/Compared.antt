-- The text of `compare` for pairs of small bundles, as a second implementation answers.
use Rattle.std.specs.Prelude.{◌≡◌, ℕ, List, [], ◌∷◌, codes, Option, Some, option_map, option_and_then, refl}
use Rattle.pv_model.specs.Machine.{comparison, answer_bytes, Bytes, program_of}
use Rattle.pv_model.specs.Answers.Compare.{comparison_lines}
use Rattle.pv_laws_worked.specs.Bundles.{text_of_lines}
use Rattle.pv_laws_worked.specs.Questions.{questions_on_literals, started}

-- the text of `compare` for two bundles, with a limit on the number of pairs
abbrev pub compare_text : ℕ → List Bytes → List Bytes → Option Bytes
compare_text limit lines others =
    option_and_then (λ s. option_map (λ t. answer_bytes (comparison_lines (comparison program_of limit s.state t.state))) (started others)) (started lines)

-- the first step that differs, with its lines in both states
pub an_entry_with_fewer_permissions : compare_text 1000 (
    codes "image 16 16" ∷
    codes "bytes \"/f\" \"f\"" ∷
    codes "exec \"/init\" 4" ∷
    codes "unveil \"/f\" \"rw\"" ∷
    codes "fork" ∷
    codes "open \"/f\" r" ∷
    codes "open \"/f\" rw" ∷
    codes "schedule" ∷ []) (
    codes "image 16 16" ∷
    codes "bytes \"/f\" \"f\"" ∷
    codes "exec \"/init\" 4" ∷
    codes "unveil \"/f\" \"r\"" ∷
    codes "fork" ∷
    codes "open \"/f\" r" ∷
    codes "open \"/f\" rw" ∷
    codes "schedule" ∷ []) ≡ Some (text_of_lines (
    codes "    1 BY    1 4" ∷
    codes "    0 SIDE  first" ∷
    codes "    1 CALL  open(\"/f\", rw)" ∷
    codes "    1 NAMI  \"/f\"" ∷
    codes "    1 RET   open 1" ∷
    codes "    0 SIDE  second" ∷
    codes "    1 CALL  open(\"/f\", rw)" ∷
    codes "    1 NAMI  \"/f\"" ∷
    codes "    1 UNVL  entry 0, needs rw" ∷
    codes "    1 RET   open -1 errno 13 EACCES" ∷
    codes "    0 DONE  5 pairs, different" ∷ []))
unfolding questions_on_literals
an_entry_with_fewer_permissions = refl

-- a step that calls pledge or unveil in both states is not compared
pub calls_of_setup_are_not_compared : compare_text 1000 (
    codes "image 16 16" ∷
    codes "bytes \"/f\" \"f\"" ∷
    codes "exec \"/init\" 3" ∷
    codes "pledge \"stdio rpath unveil\" null" ∷
    codes "pledge null null" ∷
    codes "open \"/f\" r" ∷
    codes "schedule" ∷ []) (
    codes "image 16 16" ∷
    codes "bytes \"/f\" \"f\"" ∷
    codes "exec \"/init\" 3" ∷
    codes "pledge \"stdio rpath unveil\" null" ∷
    codes "unveil \"/f\" \"r\"" ∷
    codes "open \"/f\" r" ∷
    codes "schedule" ∷ []) ≡ Some (text_of_lines (
    codes "    0 DONE  5 pairs, complete, the same" ∷ []))
unfolding questions_on_literals
calls_of_setup_are_not_compared = refl

-- such a step is not compared either if one of them is refused
pub refused_calls_of_setup : compare_text 1000 (
    codes "image 16 16" ∷
    codes "exec \"/init\" 4" ∷
    codes "pledge \"stdio rpath\" null" ∷
    codes "pledge \"stdio\" null" ∷
    codes "jnz r0 4" ∷
    codes "getpid" ∷
    codes "schedule" ∷ []) (
    codes "image 16 16" ∷
    codes "exec \"/init\" 4" ∷
    codes "pledge \"stdio\" null" ∷
    codes "pledge \"stdio rpath\" null" ∷
    codes "jnz r0 4" ∷
    codes "getpid" ∷
    codes "schedule" ∷ []) ≡ Some (text_of_lines (
    codes "    0 DONE  6 pairs, complete, the same" ∷ []))
unfolding questions_on_literals
refused_calls_of_setup = refl

-- a pledge paired with another call is compared
pub other_calls_are_compared : compare_text 1000 (
    codes "image 16 16" ∷
    codes "bytes \"/f\" \"f\"" ∷
    codes "exec \"/init\" 2" ∷
    codes "pledge null null" ∷
    codes "exit 0" ∷
    codes "schedule" ∷ []) (
    codes "image 16 16" ∷
    codes "bytes \"/f\" \"f\"" ∷
    codes "exec \"/init\" 2" ∷
    codes "unlink \"/f\"" ∷
    codes "exit 0" ∷
    codes "schedule" ∷ []) ≡ Some (text_of_lines (
    codes "    1 BY    1 1" ∷
    codes "    0 SIDE  first" ∷
    codes "    1 CALL  pledge(null, null)" ∷
    codes "    1 RET   pledge 0" ∷
    codes "    0 SIDE  second" ∷
    codes "    1 CALL  unlink(\"/f\")" ∷
    codes "    1 NAMI  \"/f\"" ∷
    codes "    1 RET   unlink 0" ∷
    codes "    0 DONE  1 pairs, different" ∷ []))
unfolding questions_on_literals
other_calls_are_compared = refl

-- a process that has ended in one state has the text of such a step there
pub one_state_has_ended : compare_text 1000 (
    codes "image 16 16" ∷
    codes "exec \"/init\" 5" ∷
    codes "pledge \"stdio unveil\" null" ∷
    codes "unveil \"/\" \"r\"" ∷
    codes "set r2 1" ∷
    codes "set r3 1" ∷
    codes "getpid" ∷
    codes "schedule" ∷ []) (
    codes "image 16 16" ∷
    codes "exec \"/init\" 5" ∷
    codes "pledge \"stdio\" null" ∷
    codes "unveil \"/\" \"r\"" ∷
    codes "set r2 1" ∷
    codes "set r3 1" ∷
    codes "getpid" ∷
    codes "schedule" ∷ []) ≡ Some (text_of_lines (
    codes "    1 BY    1 3" ∷
    codes "    0 SIDE  first" ∷
    codes "    0 SIDE  second" ∷
    codes "    1 GONE  no such process" ∷
    codes "    0 DONE  3 pairs, different" ∷ []))
unfolding questions_on_literals
one_state_has_ended = refl

-- a step is compared if the process is live in one state only
pub live_in_one_state_only : compare_text 1000 (
    codes "image 16 16" ∷
    codes "exec \"/init\" 6" ∷
    codes "fork" ∷
    codes "jnz r0 6" ∷
    codes "pledge \"stdio unveil\" null" ∷
    codes "unveil \"/\" \"r\"" ∷
    codes "exit 0" ∷
    codes "wait" ∷
    codes "schedule" ∷ []) (
    codes "image 16 16" ∷
    codes "exec \"/init\" 6" ∷
    codes "fork" ∷
    codes "jnz r0 6" ∷
    codes "pledge \"stdio\" null" ∷
    codes "unveil \"/\" \"r\"" ∷
    codes "exit 0" ∷
    codes "wait" ∷
    codes "schedule" ∷ []) ≡ Some (text_of_lines (
    codes "    2 BY    1 1, 2 4" ∷
    codes "    0 SIDE  first" ∷
    codes "    2 CALL  exit(0)" ∷
    codes "    0 SIDE  second" ∷
    codes "    2 GONE  no such process" ∷
    codes "    0 DONE  9 pairs, different" ∷ []))
unfolding questions_on_literals
live_in_one_state_only = refl

-- a program that is longer differs for stat
pub programs_are_files : compare_text 1000 (
    codes "image 16 16" ∷
    codes "exec \"/p\" 2" ∷
    codes "pledge \"stdio rpath\" null" ∷
    codes "stat \"/p\"" ∷
    codes "exec \"/init\" 1" ∷
    codes "execve \"/p\"" ∷
    codes "schedule" ∷ []) (
    codes "image 16 16" ∷
    codes "exec \"/p\" 2" ∷
    codes "pledge null null" ∷
    codes "stat \"/p\"" ∷
    codes "exec \"/init\" 1" ∷
    codes "execve \"/p\"" ∷
    codes "schedule" ∷ []) ≡ Some (text_of_lines (
    codes "    1 BY    1 3" ∷
    codes "    0 SIDE  first" ∷
    codes "    1 CALL  stat(\"/p\")" ∷
    codes "    1 NAMI  \"/p\"" ∷
    codes "    1 GIO   read 8 0300020024000000" ∷
    codes "    1 RET   stat 0" ∷
    codes "    0 SIDE  second" ∷
    codes "    1 CALL  stat(\"/p\")" ∷
    codes "    1 NAMI  \"/p\"" ∷
    codes "    1 GIO   read 8 030002001b000000" ∷
    codes "    1 RET   stat 0" ∷
    codes "    0 DONE  3 pairs, different" ∷ []))
unfolding questions_on_literals
programs_are_files = refl

-- no difference among the pairs that a limited search visits
pub not_all_pairs : compare_text 9 (
    codes "image 16 16" ∷
    codes "exec \"/init\" 4" ∷
    codes "fork" ∷
    codes "getpid" ∷
    codes "getppid" ∷
    codes "exit 0" ∷
    codes "schedule" ∷ []) (
    codes "image 16 16" ∷
    codes "exec \"/init\" 5" ∷
    codes "fork" ∷
    codes "getpid" ∷
    codes "getppid" ∷
    codes "exit 0" ∷
    codes "getpid" ∷
    codes "schedule" ∷ []) ≡ Some (text_of_lines (
    codes "    0 DONE  9 pairs, not complete, no difference found" ∷ []))
unfolding questions_on_literals
not_all_pairs = refl

-- a pledge without arguments replaces a pledge
pub an_empty_pledge : compare_text 1000 (
    codes "image 8 8" ∷
    codes "exec \"/init\" 2" ∷
    codes "pledge \"stdio\" null" ∷
    codes "getpid" ∷
    codes "schedule" ∷ []) (
    codes "image 8 8" ∷
    codes "exec \"/init\" 2" ∷
    codes "pledge null null" ∷
    codes "getpid" ∷
    codes "schedule" ∷ []) ≡ Some (text_of_lines (
    codes "    0 DONE  4 pairs, complete, the same" ∷ []))
unfolding questions_on_literals
an_empty_pledge = refl

-- an image never differs from itself
pub an_image_and_itself : compare_text 1000 (
    codes "image 8 8" ∷
    codes "exec \"/init\" 2" ∷
    codes "fork" ∷
    codes "wait" ∷
    codes "schedule" ∷ []) (
    codes "image 8 8" ∷
    codes "exec \"/init\" 2" ∷
    codes "fork" ∷
    codes "wait" ∷
    codes "schedule" ∷ []) ≡ Some (text_of_lines (
    codes "    0 DONE  6 pairs, complete, the same" ∷ []))
unfolding questions_on_literals
an_image_and_itself = refl
