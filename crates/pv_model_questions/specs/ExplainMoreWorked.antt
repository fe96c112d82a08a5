-- The lines that `explain` adds in small runs.
use Rattle.std.specs.Prelude.{⊤, ◌≡◌, Bool, List, [], ◌∷◌, ◌++◌, codes, filter, flat_map, bytes_eq, Option, Some, option_map, refl}
use Rattle.std.specs.Result.{result_ok}
use Rattle.pv_model.specs.Answers.OnLiterals.{answers_on_literals}
use Rattle.pv_model.specs.Grammar.Arguments.{parsed_flags}
use Rattle.pv_model.specs.Grammar.Instructions.{instruction_by}
use Rattle.pv_model.specs.Grammar.Manifests.{entry_by}
use Rattle.pv_model.specs.Machine.{AnswerLine, answer_bytes, Bytes, Started, bundle_started, started_on, booted, read_manifest, read_bundle, add_entry, read_program, steps_of, text_at, with_line_end}
use Rattle.pv_model_questions.specs.ExplainMore.{Added, allowed_lines, execve_lines, explain_adding, lines_of_call}

-- the definitions to unfold in a proof by computation
unfoldable pub explain_more_on_literals : ⊤
unfolding answers_on_literals read_manifest read_bundle entry_by add_entry read_program instruction_by text_at parsed_flags bundle_started started_on booted lines_of_call
explain_more_on_literals = tt

abbrev pub lines_text : List Bytes → Bytes
lines_text lines = flat_map with_line_end lines

abbrev pub all_added : Added
all_added source s pid = allowed_lines source s pid ++ execve_lines s pid

abbrev pub is_why : AnswerLine → Bool
is_why l = bytes_eq l.word (codes "WHY")

abbrev pub why_lines : Started → List AnswerLine
why_lines it = filter is_why (explain_adding all_added 1 [] (steps_of it.schedule) it.state)

-- the WHY lines of the run of a bundle, given its lines
abbrev pub why_lines_text : List Bytes → Option Bytes
why_lines_text lines = option_map (λ it. answer_bytes (why_lines it)) (result_ok (bundle_started (lines_text lines)))

-- the reason why each walk is allowed: no table, the entry of the directory above, and an entry that was set in an
-- earlier program; under execpromises an execve keeps the table and the lock
pub allowed_walks_are_explained : why_lines_text (
    codes "image 64 64" ∷
    codes "dir \"/d\"" ∷
    codes "bytes \"/d/f\" \"hi\"" ∷
    codes "exec \"/p\" 2" ∷
    codes "chdir \"/d\"" ∷
    codes "stat \"/p\"" ∷
    codes "exec \"/init\" 7" ∷
    codes "stat \"/d/f\"" ∷
    codes "unveil \"/d\" \"rwc\"" ∷
    codes "unveil \"/p\" \"x\"" ∷
    codes "unveil null null" ∷
    codes "link \"/d/f\" \"/d/g\"" ∷
    codes "pledge \"stdio exec\" \"stdio rpath\"" ∷
    codes "execve \"/p\"" ∷
    codes "schedule" ∷
    codes "1 9" ∷ []) ≡ Some (lines_text (
    codes "    1 WHY   allowed, name \"/d/f\": no table" ∷
    codes "    1 WHY   allowed, directory \"/d\": entry 0 has rw-c, asked r---, set at line 2" ∷
    codes "    1 WHY   allowed, directory \"/d\": entry 0 has rw-c, asked ---c, set at line 2" ∷
    codes "    1 WHY   allowed, name \"/p\": entry 1 has --x-, asked --x-, set at line 3" ∷
    codes "    1 WHY   promises \"stdio exec\" become \"stdio rpath\", execpromises \"stdio rpath\" stay, table stays, lock stays" ∷
    codes "    1 WHY   allowed, directory \"/d\": entry 0 has rw-c, asked r---, set at line 2, of an earlier program" ∷
    codes "    1 WHY   name \"/p\": entry 1 has --x-, lacks r---, set at line 3, of an earlier program" ∷ []))
unfolding explain_more_on_literals
allowed_walks_are_explained = refl

-- without execpromises an execve drops the promises, the table and the lock; a directory that is moved or removed is known
-- by the name that it had
pub moved_directories_are_known : why_lines_text (
    codes "image 64 64" ∷
    codes "dir \"/d\"" ∷
    codes "exec \"/p\" 2" ∷
    codes "chdir \"/\"" ∷
    codes "execve \"/p\"" ∷
    codes "exec \"/init\" 7" ∷
    codes "unveil \"/\" \"xc\"" ∷
    codes "unveil \"/d\" \"c\"" ∷
    codes "unveil null null" ∷
    codes "rename \"/d\" \"/e\"" ∷
    codes "rmdir \"/e\"" ∷
    codes "pledge \"stdio exec\" null" ∷
    codes "execve \"/p\"" ∷
    codes "schedule" ∷
    codes "1 9" ∷ []) ≡ Some (lines_text (
    codes "    1 WHY   allowed, directory \"/d\": entry 1 has ---c, asked ---c, set at line 2" ∷
    codes "    1 WHY   allowed, directory \"/\": entry 0 has --xc, asked ---c, set at line 1" ∷
    codes "    1 WHY   allowed, directory \"/e\": entry 1 has ---c, asked ---c, set at line 2" ∷
    codes "    1 WHY   allowed, directory \"/\": entry 0 has --xc, asked --x-, set at line 1" ∷
    codes "    1 WHY   promises \"stdio exec\" become none, no execpromises, table dropped, lock dropped" ∷
    codes "    1 WHY   allowed, directory \"/\": no table" ∷
    codes "    1 WHY   allowed, name \"/p\": no table" ∷
    codes "    1 WHY   promises none become none, no execpromises, no table, no lock" ∷ []))
unfolding explain_more_on_literals
moved_directories_are_known = refl
