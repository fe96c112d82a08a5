-- Searches of all schedules of small programs, and their state graphs.
use Rattle.std.specs.Prelude.{◌≡◌, ℕ, Bool, false, List, [], ◌∷◌, codes, Option, Some, option_map, refl}
use Rattle.pv_model.specs.Answers.Explore.{explore_lines}
use Rattle.pv_model.specs.Machine.{graph_lines, answer_bytes, Bytes, program_of}
use Rattle.pv_laws_worked.specs.Bundles.{text_of_lines}
use Rattle.pv_laws_worked.specs.Questions.{questions_on_literals, started}

-- the text of `explore` for a bundle, with a limit on the number of states
abbrev pub explore_text : ℕ → List Bytes → Option Bytes
explore_text limit lines = option_map (λ s. answer_bytes (explore_lines program_of limit s.state)) (started lines)

-- the text of `graph` for a bundle
abbrev pub graph_text : ℕ → Bool → List Bytes → Option Bytes
graph_text limit trees lines = option_map (λ s. answer_bytes (graph_lines program_of limit trees s.state)) (started lines)

-- a loop with only instructions on registers
abbrev pub goes_round : List Bytes
goes_round =
    codes "image 64 64" ∷
    codes "exec \"/init\" 3" ∷
    codes "jmp 3" ∷
    codes "exit 7" ∷
    codes "jz r0 1" ∷
    codes "schedule" ∷
    codes "1 5" ∷ []

-- a parent that may wait before its child exits
abbrev pub waits_for_child : List Bytes
waits_for_child =
    codes "image 64 64" ∷
    codes "exec \"/init\" 4" ∷
    codes "fork" ∷
    codes "jz r0 4" ∷
    codes "wait" ∷
    codes "exit 3" ∷
    codes "schedule" ∷
    codes "1 1" ∷ []

-- the second state leads back to the first, and the program never ends
pub a_loop_has_two_states : explore_text 10 goes_round ≡ Some (text_of_lines (
    codes "    0 DONE  2 states, complete" ∷
    codes "    0 DONE  0 endings" ∷ []))
unfolding questions_on_literals
a_loop_has_two_states = refl

pub a_loop_leads_back : graph_text 10 false goes_round ≡ Some (text_of_lines (
    codes "    0 AT    0" ∷
    codes "    1 PROC  live, parent 0, line 1 of 3" ∷
    codes "    1 NEXT  registers" ∷
    codes "    1 CWD   node 1 \"/\"" ∷
    codes "    1 PLDG  none" ∷
    codes "    1 EXPR  none" ∷
    codes "    1 UNVL  none" ∷
    codes "    1 REGS  0 0 0 0 0 0 0 0" ∷
    codes "    1 BUF   0" ∷
    codes "    1 STEP  to 1" ∷
    codes "    0 AT    1" ∷
    codes "    1 PROC  live, parent 0, line 3 of 3" ∷
    codes "    1 NEXT  registers" ∷
    codes "    1 CWD   node 1 \"/\"" ∷
    codes "    1 PLDG  none" ∷
    codes "    1 EXPR  none" ∷
    codes "    1 UNVL  none" ∷
    codes "    1 REGS  0 0 0 0 0 0 0 0" ∷
    codes "    1 BUF   0" ∷
    codes "    1 STEP  to 0" ∷
    codes "    0 DONE  2 states, complete" ∷ []))
unfolding questions_on_literals
a_loop_leads_back = refl

-- each text has its shortest witness, including that of a wait that blocks
pub each_text_has_its_witness : explore_text 100 waits_for_child ≡ Some (text_of_lines (
    codes "    1 BY    1 1" ∷
    codes "    1 CALL  fork()" ∷
    codes "    1 RET   fork 2" ∷
    codes "    1 BY    1 3" ∷
    codes "    1 CALL  wait()" ∷
    codes "    1 WAIT  blocked" ∷
    codes "    2 BY    1 1, 2 2" ∷
    codes "    2 CALL  exit(3)" ∷
    codes "    1 BY    1 2, 2 2, 1 1" ∷
    codes "    1 CALL  wait()" ∷
    codes "    1 GIO   read 4 00030000" ∷
    codes "    1 RET   wait 2" ∷
    codes "    1 BY    1 2, 2 2, 1 2" ∷
    codes "    1 CALL  exit(3)" ∷
    codes "    0 DONE  9 states, complete" ∷
    codes "    0 DONE  1 endings" ∷ []))
unfolding questions_on_literals
each_text_has_its_witness = refl

-- a state beyond the limit is left out, and its steps are not made
pub a_state_is_left_out : explore_text 3 waits_for_child ≡ Some (text_of_lines (
    codes "    1 BY    1 1" ∷
    codes "    1 CALL  fork()" ∷
    codes "    1 RET   fork 2" ∷
    codes "    1 BY    1 3" ∷
    codes "    1 CALL  wait()" ∷
    codes "    1 WAIT  blocked" ∷
    codes "    0 DONE  3 states, not complete" ∷
    codes "    0 DONE  0 endings" ∷ []))
unfolding questions_on_literals
a_state_is_left_out = refl

-- the order of two steps determines the number of a node, so there are two final trees
pub two_orders_end_apart : explore_text 100 (
    codes "image 64 64" ∷
    codes "exec \"/init\" 5" ∷
    codes "fork" ∷
    codes "jz r0 5" ∷
    codes "mkdir \"/a\"" ∷
    codes "exit 0" ∷
    codes "mkdir \"/b\"" ∷
    codes "schedule" ∷
    codes "1 1" ∷ []) ≡ Some (text_of_lines (
    codes "    1 BY    1 1" ∷
    codes "    1 CALL  fork()" ∷
    codes "    1 RET   fork 2" ∷
    codes "    1 BY    1 3" ∷
    codes "    1 CALL  mkdir(\"/a\")" ∷
    codes "    1 NAMI  \"/a\"" ∷
    codes "    1 RET   mkdir 0" ∷
    codes "    2 BY    1 1, 2 2" ∷
    codes "    2 CALL  mkdir(\"/b\")" ∷
    codes "    2 NAMI  \"/b\"" ∷
    codes "    2 RET   mkdir 0" ∷
    codes "    1 BY    1 4" ∷
    codes "    1 CALL  exit(0)" ∷
    codes "    2 BY    1 1, 2 3" ∷
    codes "    2 CALL  exit(0)" ∷
    codes "    0 DONE  21 states, complete" ∷
    codes "    0 DONE  2 endings" ∷ []))
unfolding questions_on_literals
two_orders_end_apart = refl
