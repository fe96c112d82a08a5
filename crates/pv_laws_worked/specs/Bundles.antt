-- Runs of bundles: common definitions of the worked examples.
use Rattle.std.specs.Prelude.{⊤, Bool, true, false, if◌then◌else◌, ◌==◌, ℕ, List, [], ◌++◌, flat_map, filter, map, codes, Option, option_map, option_and_then, Result, Ok, Err}
use Rattle.std.specs.Fmt.{decimal}
use Rattle.std.specs.Result.{result_ok}
use Rattle.pv_model.specs.declared.verdict.AuditFault.{AuditFault}
use Rattle.pv_model.specs.declared.verdict.AuditFault.TheVariants.{Walk, NotFile}
use Rattle.pv_model.specs.declared.verdict.Verdict.{Verdict}
use Rattle.pv_model.specs.Machine.{Bytes, errno_number, text_at, Manifest, read_manifest, read_bundle, add_entry, tree_of, with_line_end, read_program, program_of, schedule_of_lines, report, machine_on_literals, Run, Schedule, steps_of, boot, run, Word, call_word, nami_word, Line, trace_bytes, Tree}
use Rattle.pv_model.specs.Errno.{errno_name}
use Rattle.pv_model.specs.Grammar.Arguments.{parsed_flags}
use Rattle.pv_model.specs.Grammar.Instructions.{instruction_by}
use Rattle.pv_model.specs.Grammar.Manifests.{entry_by}
use Rattle.pv_model.specs.Sealed.{audit, verdict_text}
use Rattle.pv_model.specs.Trace.{pad_right, word_name, word_text}

-- the definitions to unfold in a proof by computation
unfoldable pub bundles_on_literals : ⊤
unfolding machine_on_literals read_manifest read_bundle entry_by add_entry read_program instruction_by text_at parsed_flags
bundles_on_literals = tt

abbrev pub text_of_lines : List Bytes → Bytes
text_of_lines lines = flat_map with_line_end lines

-- the tree of a manifest, given its lines
abbrev pub tree_of_lines : List Bytes → Option Tree
tree_of_lines lines = option_and_then (λ m. result_ok (tree_of m)) (result_ok (read_manifest (text_of_lines lines)))

abbrev pub run_on : Tree → Schedule → Option Run
run_on t schedule = option_map (run program_of (steps_of schedule)) (boot program_of t)

abbrev pub run_of_parts : Manifest → Option Run
run_of_parts m =
    option_and_then (λ t. option_and_then (run_on t) (result_ok (schedule_of_lines m.listed.following))) (result_ok (tree_of m))

-- the run of a bundle, given its lines
abbrev pub run_of_bundle : List Bytes → Option Run
run_of_bundle lines = option_and_then run_of_parts (result_ok (read_bundle (text_of_lines lines)))

-- the trace of that run
abbrev pub trace_of_bundle : List Bytes → Option Bytes
trace_of_bundle lines = option_map (λ r. trace_bytes r.lines) (run_of_bundle lines)

abbrev pub is_word_shown : Word → Bool
is_word_shown (call_word call) = false
is_word_shown (nami_word path) = false
is_word_shown _ = true

abbrev pub number_shown : ℕ → Bytes
number_shown pid = if pid == 1 then [] else decimal pid ++ codes " "

abbrev pub shown_line : Line → Bytes
shown_line l = number_shown l.pid ++ pad_right 4 (word_name l.word) ++ codes "  " ++ word_text l.word

-- the lines of that run without CALL and NAMI, and without the number of process 1
abbrev pub shown_of : List Bytes → Option (List Bytes)
shown_of lines = option_map (λ r. map shown_line (filter (λ l. is_word_shown l.word) r.lines)) (run_of_bundle lines)

abbrev pub audited_text : Result Verdict AuditFault → Bytes
audited_text (Ok found) = verdict_text found
audited_text (Err (Walk e)) = codes "errno " ++ decimal (errno_number e) ++ codes " " ++ errno_name e
audited_text (Err NotFile) = codes "not a file"

-- the audit of a path after that run
abbrev pub audited_of : List Bytes → Bytes → Option Bytes
audited_of lines path = option_map (λ r. audited_text (audit r.final path)) (run_of_bundle lines)

-- the report of all files after that run
abbrev pub report_of_bundle : List Bytes → Option Bytes
report_of_bundle lines = option_map (λ r. report r.final) (run_of_bundle lines)
