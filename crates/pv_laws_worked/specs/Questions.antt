-- The texts of `state`, `reach`, `explain`, `needs` and `turns` for small runs.
use Rattle.std.specs.Prelude.{⊤, ◌≡◌, ℕ, List, [], ◌∷◌, codes, Option, Some, option_map, refl}
use Rattle.std.specs.Result.{result_ok}
use Rattle.pv_model.specs.Answers.Explain.{explain_lines}
use Rattle.pv_model.specs.Machine.{answer_bytes, reach_lines, state_lines, turns, Bytes, program_of, Started, bundle_started, started_on, booted, State, run, steps_of}
use Rattle.pv_model.specs.Answers.Needs.{needs_lines}
use Rattle.pv_model.specs.Answers.OnLiterals.{answers_on_literals}
use Rattle.pv_model.specs.Answers.Turns.{schedule_text}
use Rattle.pv_laws_worked.specs.Bundles.{bundles_on_literals, text_of_lines}

-- the definitions to unfold in a proof by computation
unfoldable pub questions_on_literals : ⊤
unfolding bundles_on_literals answers_on_literals bundle_started started_on booted
questions_on_literals = tt

-- the start of a bundle, given its lines
abbrev pub started : List Bytes → Option Started
started lines = result_ok (bundle_started (text_of_lines lines))

abbrev pub state_after_schedule : Started → State
state_after_schedule s = (run program_of (steps_of s.schedule) s.state).final

-- the text of `state` after the schedule of a bundle
abbrev pub state_text : List Bytes → Option Bytes
state_text lines = option_map (λ s. answer_bytes (state_lines (state_after_schedule s))) (started lines)

-- the text of `reach` after the schedule of a bundle
abbrev pub reach_text : List Bytes → Option Bytes
reach_text lines = option_map (λ s. answer_bytes (reach_lines (state_after_schedule s))) (started lines)

-- the text of `explain` for a bundle
abbrev pub explain_text : List Bytes → Option Bytes
explain_text lines = option_map (λ s. answer_bytes (explain_lines program_of (steps_of s.schedule) s.state)) (started lines)

-- the text of `needs` for a bundle
abbrev pub needs_text : List Bytes → Option Bytes
needs_text lines = option_map (λ s. answer_bytes (needs_lines program_of (steps_of s.schedule) s.state)) (started lines)

-- the text of `turns` for a bundle
abbrev pub text_of_turns : ℕ → ℕ → List Bytes → Option Bytes
text_of_turns slice steps lines = option_map (λ s. schedule_text (turns program_of slice steps s.state)) (started lines)

-- a parent with a table, two descriptors and bytes in its buffer, and a child that has exited
abbrev pub parent_and_child : List Bytes
parent_and_child =
    codes "image 64 64" ∷
    codes "dir \"/d\"" ∷
    codes "bytes \"/d/f\" \"hi\"" ∷
    codes "exec \"/init\" 10" ∷
    codes "unveil \"/d\" \"rwc\"" ∷
    codes "unveil \"/d/new\" \"r\"" ∷
    codes "open \"/d\" r+cloexec" ∷
    codes "getdents 0" ∷
    codes "open \"/d/f\" rw+append" ∷
    codes "put \"ab\"" ∷
    codes "fork" ∷
    codes "jz r0 10" ∷
    codes "pledge \"stdio rpath cpath\" \"stdio\"" ∷
    codes "exit 3" ∷
    codes "schedule" ∷
    codes "1 9" ∷
    codes "2 2" ∷ []

-- the state of each process
pub each_is_reported : state_text parent_and_child ≡ Some (text_of_lines (
    codes "    1 PROC  live, parent 0, line 10 of 10" ∷
    codes "    1 NEXT  exit(3)" ∷
    codes "    1 CWD   node 1 \"/\"" ∷
    codes "    1 PLDG  \"stdio rpath cpath\"" ∷
    codes "    1 EXPR  \"stdio\"" ∷
    codes "    1 UNVL  in force" ∷
    codes "    1 UNVL  entry 0, rw-c, node 2 \"/d\"" ∷
    codes "    1 UNVL  entry 1, r---, \"/d/new\"" ∷
    codes "    1 FD    0, file 0, r+cloexec, offset 0, node 2 \"/d\", listed \"f\"" ∷
    codes "    1 FD    1, file 1, rw+append, offset 0, node 3 \"/d/f\"" ∷
    codes "    1 REGS  0 0 0 0 0 0 0 0" ∷
    codes "    1 BUF   2 6162" ∷
    codes "    2 PROC  ended, parent 1, status 768" ∷ []))
unfolding questions_on_literals
each_is_reported = refl

-- each name of the tree, and an entry whose name does not exist
pub places_are_reached : reach_text parent_and_child ≡ Some (text_of_lines (
    codes "    1 MAY   ---- \"/\", none" ∷
    codes "    1 MAY   r--c \"/d\", entry 0, descriptor 0 r" ∷
    codes "    1 MAY   r--c \"/d/f\", entry 0, descriptor 1 rw" ∷
    codes "    1 MAY   ---- \"/init\", none" ∷
    codes "    1 MAY   r--- \"/d/new\", entry 1, absent" ∷ []))
unfolding questions_on_literals
places_are_reached = refl

-- a removed directory is reached as the working directory and by a descriptor
pub removed_is_reached : reach_text (
    codes "image 64 64" ∷
    codes "dir \"/d\"" ∷
    codes "dir \"/d/e\"" ∷
    codes "exec \"/init\" 4" ∷
    codes "chdir \"/d/e\"" ∷
    codes "open \".\" r" ∷
    codes "unveil \".\" \"rxc\"" ∷
    codes "rmdir \"/d/e\"" ∷
    codes "schedule" ∷
    codes "1 4" ∷ []) ≡ Some (text_of_lines (
    codes "    1 MAY   ---- \"/\", none" ∷
    codes "    1 MAY   ---- \"/d\", none" ∷
    codes "    1 MAY   ---- \"/init\", none" ∷
    codes "    1 MAY   r-xc node 3, entry 0, working directory" ∷
    codes "    1 MAY   r-xc node 3, entry 0, descriptor 0 r" ∷ []))
unfolding questions_on_literals
removed_is_reached = refl

-- each refusal has its reason, and each entry the line that set it, even in an earlier program
pub refusals_are_explained : explain_text (
    codes "image 64 64" ∷
    codes "dir \"/d\"" ∷
    codes "bytes \"/d/f\" \"hi\"" ∷
    codes "exec \"/p\" 2" ∷
    codes "open \"/d/f\" w" ∷
    codes "unveil \"/d/f\" \"x\"" ∷
    codes "exec \"/init\" 9" ∷
    codes "open \"/d/f\" r" ∷
    codes "read 0 9" ∷
    codes "unveil \"/d\" \"rc\"" ∷
    codes "unveil \"/d/f\" \"r\"" ∷
    codes "mkdir \"/x\"" ∷
    codes "unveil \"/p\" \"x\"" ∷
    codes "pledge \"stdio rpath wpath exec unveil error\" \"stdio wpath unveil\"" ∷
    codes "mkdir \"/y\"" ∷
    codes "execve \"/p\"" ∷
    codes "schedule" ∷
    codes "1 12" ∷
    codes "2" ∷ []) ≡ Some (text_of_lines (
    codes "    1 STEP  1, line 1" ∷
    codes "    1 CALL  open(\"/d/f\", r)" ∷
    codes "    1 NAMI  \"/d/f\"" ∷
    codes "    1 RET   open 0" ∷
    codes "    1 STEP  2, line 2" ∷
    codes "    1 CALL  read(0, 9)" ∷
    codes "    1 GIO   read 2 6869" ∷
    codes "    1 TEXT  \"hi\", node 3 \"/d/f\"" ∷
    codes "    1 RET   read 2" ∷
    codes "    1 STEP  3, line 3" ∷
    codes "    1 CALL  unveil(\"/d\", \"rc\")" ∷
    codes "    1 NAMI  \"/d\"" ∷
    codes "    1 RET   unveil 0" ∷
    codes "    1 STEP  4, line 4" ∷
    codes "    1 CALL  unveil(\"/d/f\", \"r\")" ∷
    codes "    1 NAMI  \"/d/f\"" ∷
    codes "    1 RET   unveil 0" ∷
    codes "    1 STEP  5, line 5" ∷
    codes "    1 CALL  mkdir(\"/x\")" ∷
    codes "    1 NAMI  \"/x\"" ∷
    codes "    1 UNVL  none, needs c" ∷
    codes "    1 WHY   name \"/x\": no entry" ∷
    codes "    1 WHY   directory \"/\": no entry" ∷
    codes "    1 RET   mkdir -1 errno 2 ENOENT" ∷
    codes "    1 STEP  6, line 6" ∷
    codes "    1 CALL  unveil(\"/p\", \"x\")" ∷
    codes "    1 NAMI  \"/p\"" ∷
    codes "    1 RET   unveil 0" ∷
    codes "    1 STEP  7, line 7" ∷
    codes "    1 CALL  pledge(\"stdio rpath wpath exec unveil error\", \"stdio wpath unveil\")" ∷
    codes "    1 RET   pledge 0" ∷
    codes "    1 STEP  8, line 8" ∷
    codes "    1 CALL  mkdir(\"/y\")" ∷
    codes "    1 PLDG  mkdir, \"cpath\", refused" ∷
    codes "    1 WHY   mkdir needs \"cpath\", has \"stdio rpath wpath exec unveil error\"" ∷
    codes "    1 RET   mkdir -1 errno 78 ENOSYS" ∷
    codes "    1 STEP  9, line 9" ∷
    codes "    1 CALL  execve(\"/p\")" ∷
    codes "    1 NAMI  \"/p\"" ∷
    codes "    1 RET   execve 0" ∷
    codes "    1 STEP  10, line 1" ∷
    codes "    1 CALL  open(\"/d/f\", w)" ∷
    codes "    1 NAMI  \"/d/f\"" ∷
    codes "    1 UNVL  entry 1, needs w" ∷
    codes "    1 WHY   name \"/d/f\": entry 1 has r---, lacks -w--, set at line 4, of an earlier program" ∷
    codes "    1 RET   open -1 errno 13 EACCES" ∷
    codes "    1 STEP  11, line 2" ∷
    codes "    1 CALL  unveil(\"/d/f\", \"x\")" ∷
    codes "    1 NAMI  \"/d/f\"" ∷
    codes "    1 UNVL  entry 1, needs x" ∷
    codes "    1 WHY   entry 1 has r---, asked --x-, set at line 4, of an earlier program" ∷
    codes "    1 RET   unveil -1 errno 1 EPERM" ∷
    codes "    1 STEP  12, line 3" ∷
    codes "    1 CALL  exit(0)" ∷
    codes "    2 STEP  13" ∷
    codes "    2 GONE  no such process" ∷ []))
unfolding questions_on_literals
refusals_are_explained = refl

-- each program has a program image of its own
pub process_images_ask : needs_text (
    codes "image 64 64" ∷
    codes "bytes \"/f\" \"hi\"" ∷
    codes "exec \"/p\" 2" ∷
    codes "stat \"/f\"" ∷
    codes "unveil \"/f\" \"w\"" ∷
    codes "exec \"/init\" 4" ∷
    codes "open \"/f\" r" ∷
    codes "stat \"/f\"" ∷
    codes "mkdir \"/d\"" ∷
    codes "execve \"/p\"" ∷
    codes "schedule" ∷
    codes "1 6" ∷ []) ≡ Some (text_of_lines (
    codes "    1 STNT  1" ∷
    codes "    1 PLDG  rpath, calls 2, last line 2" ∷
    codes "    1 PLDG  cpath, calls 1, last line 3" ∷
    codes "    1 PLDG  exec, calls 1, last line 4" ∷
    codes "    1 UNVL  r---, \"/f\", walks 2, last line 2" ∷
    codes "    1 UNVL  ---c, \"/d\", walks 1, last line 3" ∷
    codes "    1 UNVL  --x-, \"/p\", walks 1, last line 4" ∷
    codes "    1 STNT  2" ∷
    codes "    1 PLDG  rpath, calls 1, last line 1" ∷
    codes "    1 PLDG  unveil, calls 1, last line 2" ∷
    codes "    1 UNVL  r---, \"/f\", walks 1, last line 1" ∷ []))
unfolding questions_on_literals
process_images_ask = refl

-- a child gets its turn in the round in which it was forked, and a wait that blocks gets none
pub turns_are_taken : text_of_turns 2 9 (
    codes "image 64 64" ∷
    codes "exec \"/init\" 6" ∷
    codes "fork" ∷
    codes "jz r0 5" ∷
    codes "wait" ∷
    codes "exit 0" ∷
    codes "set r1 1" ∷
    codes "set r2 2" ∷
    codes "schedule" ∷
    codes "1" ∷ []) ≡ Some (text_of_lines (
    codes "1 2" ∷
    codes "2 2" ∷
    codes "2 2" ∷
    codes "1 2" ∷ []))
unfolding questions_on_literals
turns_are_taken = refl
