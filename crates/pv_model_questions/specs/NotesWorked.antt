-- The notes on answers about small runs.
use Rattle.std.specs.Prelude.{⊤, ◌≡◌, Bool, true, false, List, [], ◌∷◌, flat_map, codes, Option, None, Some, option_map, refl}
use Rattle.std.specs.Result.{result_ok}
use Rattle.pv_model.specs.Grammar.Arguments.{parsed_flags}
use Rattle.pv_model.specs.Grammar.Instructions.{instruction_by}
use Rattle.pv_model.specs.Grammar.Manifests.{entry_by}
use Rattle.pv_model.specs.Machine.{Bytes, State, add_entry, booted, bundle_started, machine_on_literals, program_of, read_bundle, read_manifest, read_program, run, started_on, steps_of, text_at, with_line_end}
use Rattle.pv_model_questions.specs.Notes.{audit_notes, ended_notes, has_init}

-- the definitions to unfold in a proof by computation
unfoldable pub notes_on_literals : ⊤
unfolding machine_on_literals read_manifest read_bundle entry_by add_entry read_program instruction_by text_at parsed_flags bundle_started started_on booted
notes_on_literals = tt

-- the notes on the run of a bundle, given its lines
abbrev pub notes_text : (Bool → State → Bytes) → List Bytes → Option Bytes
notes_text notes lines =
    option_map (λ it. notes (has_init it.state.tree) (run program_of (steps_of it.schedule) it.state).final) (result_ok (bundle_started (flat_map with_line_end lines)))

-- ---- a run that has ended

-- process 1 is live
pub live_run : notes_text ended_notes (
    codes "image 64 64" ∷
    codes "exec \"/init\" 1" ∷
    codes "fork" ∷
    codes "schedule" ∷
    codes "1 1" ∷ []) ≡ Some []
unfolding notes_on_literals
live_run = refl

-- both processes have exited
pub ended_run : notes_text ended_notes (
    codes "image 64 64" ∷
    codes "exec \"/init\" 1" ∷
    codes "fork" ∷
    codes "schedule" ∷
    codes "1 2" ∷
    codes "2 1" ∷ []) ≡ Some (codes "pvsim: note: no process is live: the run has ended\n")
unfolding notes_on_literals
ended_run = refl

-- the program of process 1 is empty
pub run_without_init : notes_text ended_notes (
    codes "image 64 64" ∷
    codes "exec \"/main\" 1" ∷
    codes "fork" ∷
    codes "schedule" ∷
    codes "1 2" ∷ []) ≡ Some (codes "pvsim: note: the image has no /init\n")
unfolding notes_on_literals
run_without_init = refl

-- a program that removes its own file is no reason for this note
pub removed_init : notes_text ended_notes (
    codes "image 64 64" ∷
    codes "exec \"/init\" 1" ∷
    codes "unlink \"/init\"" ∷
    codes "schedule" ∷
    codes "1 2" ∷ []) ≡ Some (codes "pvsim: note: no process is live: the run has ended\n")
unfolding notes_on_literals
removed_init = refl

-- ---- a table that is not locked, of a process that has dropped unveil

-- a process that is pledged without `unveil` after one unveil
abbrev pub pledged_lines : Bytes → List Bytes
pledged_lines pledge =
    codes "image 64 64" ∷
    codes "dir \"/pub\"" ∷
    codes "bytes \"/secret\" \"k1\"" ∷
    codes "exec \"/init\" 3" ∷
    codes "unveil \"/pub\" \"r\"" ∷
    pledge ∷
    codes "fork" ∷
    codes "schedule" ∷
    codes "1 3" ∷ []

-- the verdict names the parent, and each reason the parent and the child
pub pledged_secret : notes_text (λ is_loaded s. audit_notes false is_loaded s (Some (codes "/secret"))) (pledged_lines (codes "pledge \"stdio rpath proc\" null"))
    ≡ Some (codes "pvsim: note: process 1: pledged without unveil: add unveil(NULL, NULL) before the pledge, and the verdict covers it\n")
unfolding notes_on_literals
pledged_secret = refl

pub pledged_report : notes_text (λ is_loaded s. audit_notes false is_loaded s None) (pledged_lines (codes "pledge \"stdio rpath proc\" null"))
    ≡ Some (codes "pvsim: note: process 1: pledged without unveil: add unveil(NULL, NULL) before the pledge, and the verdict covers it\n")
unfolding notes_on_literals
pledged_report = refl

pub pledged_reasons : notes_text (λ is_loaded s. audit_notes true is_loaded s None) (pledged_lines (codes "pledge \"stdio rpath proc\" null"))
    ≡ Some (codes "pvsim: note: process 1: pledged without unveil: add unveil(NULL, NULL) before the pledge, and the verdict covers it\npvsim: note: process 2: pledged without unveil: add unveil(NULL, NULL) before the pledge, and the verdict covers it\n")
unfolding notes_on_literals
pledged_reasons = refl

-- a process that keeps `unveil`, or that may execute without execpromises, is not noted
pub keeps_unveil : notes_text (λ is_loaded s. audit_notes true is_loaded s None) (pledged_lines (codes "pledge \"stdio rpath proc unveil\" null")) ≡ Some []
unfolding notes_on_literals
keeps_unveil = refl

pub may_execute : notes_text (λ is_loaded s. audit_notes true is_loaded s None) (pledged_lines (codes "pledge \"stdio rpath proc exec\" null")) ≡ Some []
unfolding notes_on_literals
may_execute = refl

-- execpromises keep the table over execve
pub executes_with_execpromises : notes_text (λ is_loaded s. audit_notes false is_loaded s None) (pledged_lines (codes "pledge \"stdio rpath proc exec\" \"stdio\""))
    ≡ Some (codes "pvsim: note: process 1: pledged without unveil: add unveil(NULL, NULL) before the pledge, and the verdict covers it\n")
unfolding notes_on_literals
executes_with_execpromises = refl

-- a process that cannot open files is closed to the file
pub opens_nothing : notes_text (λ is_loaded s. audit_notes false is_loaded s (Some (codes "/secret"))) (pledged_lines (codes "pledge \"stdio proc\" null")) ≡ Some []
unfolding notes_on_literals
opens_nothing = refl
