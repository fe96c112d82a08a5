-- The answer to a question: a text with the result that it reports, or a refusal.
use Rattle.std.specs.Prelude.{◌≡◌, ⊤, ℕ, max, Bool, true, if◌then◌else◌, List, [], ◌∷◌, Option, None, Some, is_some, not, ◌&&◌, option_map, Result, Ok, Err}
use Rattle.std.specs.Borrow.{Bor}
use Rattle.pv_access.specs.Answers.{access_lines_by}
use Rattle.pv_access.specs.OfNamedFiles.FirstPaths.{path_texts}
use Rattle.pv_compare.specs.Answering.{compared_of}
use Rattle.pv_compare.specs.declared.compare.Compared.{Compared}
use Rattle.pv_compare.specs.declared.compare.Compared.TheVariants.{Same, Incomplete as NotComplete, Different as Differs}
use Rattle.pv_explain.specs.Errors.{explained_lines}
use Rattle.pv_exposure.specs.Answers.{exposed_lines_by}
use Rattle.pv_model.specs.Answers.Compare.{comparison_lines}
use Rattle.pv_model.specs.Answers.Reach.{reach_of_one}
use Rattle.pv_model.specs.Answers.Turns.{schedule_text}
use Rattle.pv_model.specs.declared.verdict.AuditFault.{AuditFault}
use Rattle.pv_model.specs.declared.verdict.Verdict.{Verdict}
use Rattle.pv_model.specs.Machine.{AnswerLine, answer_bytes, state_lines, reach_lines, Bytes, Comparison, Process, comparison, graph_lines, is_complete, lines_of, listing, program_of, report, turns, Started, and_then, bundle_started, started_on, State, Tree, steps_of}
use Rattle.pv_model.specs.Sealed.{audit, verdict_line}
use Rattle.pv_model_questions.specs.Notes.{audit_notes, drops_unveil, ended_notes, has_init}
use Rattle.pv_policy.specs.OfNeeds.Granted.{lines_of_demands}
use Rattle.pv_policy.specs.OfProcs.declared.record.ProcessRecord.{ProcessRecord}
use Rattle.pv_policy.specs.OfReduced.Kinds.{explore_lines_by, is_complete_by, policy_lines_by}
use Rattle.pv_run.specs.OfSession.Running.{run_of}
use Rattle.pv_run.specs.Run.{text_of}
use Rattle.pv_questions.specs.Failures.{failure_of_run}
use Rattle.pv_questions.specs.FilePaths.{paths_of}
use Rattle.pv_questions.specs.Files.{cat_of}
use Rattle.pv_questions.specs.Reasons.{audit_reasons}
use Rattle.pv_questions.specs.Schedules.{cut_after}
use Rattle.pv_questions.specs.Trees.{machine_in, input_tree}
use Rattle.pv_questions.specs.declared.answering.End.{End}
use Rattle.pv_questions.specs.declared.answering.End.TheVariants.{Complete, Incomplete, Different}
use Rattle.pv_questions.specs.declared.failure.Failure.{Failure}
use Rattle.pv_questions.specs.declared.failure.Failure.TheVariants.{Refused}
use Rattle.pv_questions.specs.declared.failure.Refusal.TheVariants as refusal
use Rattle.pv_questions.specs.declared.input.Format.{Format}
use Rattle.pv_questions.specs.declared.input.Format.TheVariants.{Image as AsImage, Text as AsText}
use Rattle.pv_questions.specs.declared.input.Input.{Input}
use Rattle.pv_questions.specs.declared.input.Inputs.{Inputs}
use Rattle.pv_questions.specs.declared.input.Turns.{Turns}
use Rattle.pv_questions.specs.declared.input.Turns.TheVariants.{Own, Text, Fair}
use Rattle.pv_questions.specs.declared.question.Question.{Question}
use Rattle.pv_questions.specs.declared.question.Question.TheVariants as asked

-- a text, and how it ends
pub record EndedText : Type 0 where
  pub text : Bytes
  pub end : End

abbrev pub Answer : Type 0
Answer = Result EndedText Failure

abbrev pub of_text : Bytes → Answer
of_text text = Ok (record { text = text; end = Complete })

abbrev pub of_lines : List AnswerLine → Answer
of_lines lines = of_text (answer_bytes lines)

abbrev pub end_of_search : Bool → End
end_of_search complete = if complete then Complete else Incomplete

-- the answer of a search, which leaves a state out or not
abbrev pub of_search : List AnswerLine → Bool → Answer
of_search lines complete = Ok (record { text = answer_bytes lines; end = end_of_search complete })

-- ---- the start of a run

-- the text of the fair schedule: a step in a turn, and at most 65,536 turns, the maximum of a schedule
abbrev pub fair_text_of : Format → Bytes → Result Bytes Failure
fair_text_of format bytes = and_then (λ failure. failure) (machine_in format bytes) (λ s. Ok (schedule_text (turns program_of 1 65536 s)))

-- the start of a run under the text of a schedule
abbrev pub started_under : Format → Bytes → Bytes → Result Started Failure
started_under format bytes text =
    and_then (λ failure. failure) (input_tree format bytes) (λ t. and_then failure_of_run (started_on t (lines_of text)) (λ it. Ok it))

-- the start of a run under the schedule of the input; an image has none
abbrev pub own_started : Format → Bytes → Result Started Failure
own_started AsText bytes = and_then failure_of_run (bundle_started bytes) (λ it. Ok it)
own_started AsImage bytes = and_then (λ failure. failure) (input_tree AsImage bytes) (λ t. Err (Refused refusal.Unscheduled))

-- the start of a run under any schedule
abbrev pub whole_started : Format → Bytes → Turns → Result Started Failure
whole_started format bytes Own = own_started format bytes
whole_started format bytes (Text text) = started_under format bytes text.items
whole_started format bytes Fair = and_then (λ failure. failure) (fair_text_of format bytes) (started_under format bytes)

-- the start of the run, whose schedule is cut
abbrev pub started_by : Format → Bytes → Turns → Option ℕ → Result Started Failure
started_by format bytes turns steps = and_then (λ failure. failure) (whole_started format bytes turns) (λ it. Ok (cut_after steps it))

abbrev pub run_started : Inputs → Result Started Failure
run_started inputs = started_by inputs.input.format inputs.input.bytes.items inputs.turns inputs.steps

-- the state after a run
abbrev pub last_state : Started → State
last_state it = (run_of it.state it.schedule).final

-- ---- answers

-- the lines of a process, if it is live
abbrev pub process_answer : Option (List AnswerLine) → Answer
process_answer None = Err (Refused refusal.NoProcess)
process_answer (Some lines) = of_lines lines

abbrev pub of_verdict : Result Verdict AuditFault → Answer
of_verdict (Ok found) = of_text (verdict_line found)
of_verdict (Err fault) = Err (Refused (refusal.NotAudited fault))

abbrev pub of_audit : Result Bytes AuditFault → Answer
of_audit (Ok text) = of_text text
of_audit (Err fault) = Err (Refused (refusal.NotAudited fault))

abbrev pub of_file : Result Bytes AuditFault → Answer
of_file (Ok text) = of_text text
of_file (Err fault) = Err (Refused (refusal.NotFile fault))

-- the answers about a state with a process, and with a path
abbrev pub reach_answer : State → Option ℕ → Answer
reach_answer s None = of_lines (reach_lines s)
reach_answer s (Some pid) = process_answer (reach_of_one s pid)

abbrev pub audit_answer : State → Option (Bor Bytes) → Answer
audit_answer s None = of_text (report s)
audit_answer s (Some path) = of_verdict (audit s path.now)

-- the answer to a question about a state
abbrev pub state_answer : Question → State → Answer
state_answer (asked.Reach pid) s = reach_answer s pid
state_answer (asked.Audit path) s = audit_answer s path
state_answer (asked.Reasons path) s = of_audit (audit_reasons s (option_map (λ p. p.now) path))
state_answer question s = of_lines (state_lines s)

-- the lines of a search, which visits at least one state
abbrev pub search_lines : Question → State → List AnswerLine
search_lines (asked.Explore kind states) s = explore_lines_by kind (max 1 states) s
search_lines (asked.Access kind files states) s = access_lines_by (path_texts (paths_of files)) kind (max 1 states) s
search_lines (asked.Exposure kind files states) s = exposed_lines_by (path_texts (paths_of files)) kind (max 1 states) s
search_lines (asked.Policy kind granted states) s = policy_lines_by granted kind (max 1 states) s
search_lines (asked.Graph tree states) s = graph_lines program_of (max 1 states) tree s
search_lines question s = []

-- the search leaves no state out
abbrev pub search_is_complete : Question → State → Bool
search_is_complete (asked.Explore kind states) s = is_complete_by kind (max 1 states) s
search_is_complete (asked.Access kind files states) s = is_complete_by kind (max 1 states) s
search_is_complete (asked.Exposure kind files states) s = is_complete_by kind (max 1 states) s
search_is_complete (asked.Policy kind granted states) s = is_complete_by kind (max 1 states) s
search_is_complete (asked.Graph tree states) s = is_complete program_of (max 1 states) s
search_is_complete question s = true

abbrev pub search_answer : Question → State → Answer
search_answer question s = of_search (search_lines question s) (search_is_complete question s)

-- the question is about the state after a run, or a search
abbrev pub IsOfState : Question → Type 0
IsOfState asked.State = ⊤
IsOfState (asked.Reach pid) = ⊤
IsOfState (asked.Audit path) = ⊤
IsOfState (asked.Reasons path) = ⊤
IsOfState question = ⊥

abbrev pub IsSearch : Question → Type 0
IsSearch (asked.Explore kind states) = ⊤
IsSearch (asked.Access kind files states) = ⊤
IsSearch (asked.Exposure kind files states) = ⊤
IsSearch (asked.Policy kind granted states) = ⊤
IsSearch (asked.Graph tree states) = ⊤
IsSearch question = ⊥

module _ (format : Format) (bytes : Bytes) (turned : Turns) (steps : Option ℕ) where
  -- the answer about a run, about the state after it, about a tree, and about a machine, after the checks
  abbrev pub of_run_by : (Started → Answer) → Answer
  of_run_by answered = and_then (λ failure. failure) (started_by format bytes turned steps) answered

  abbrev pub of_state_by : (State → Answer) → Answer
  of_state_by answered = of_run_by (λ it. answered (last_state it))

  abbrev pub of_tree_by : (Tree → Answer) → Answer
  of_tree_by answered = and_then (λ failure. failure) (input_tree format bytes) answered

  abbrev pub of_machine_by : (State → Answer) → Answer
  of_machine_by answered = and_then (λ failure. failure) (machine_in format bytes) answered

  -- the answer to a question; a schedule has at least one step in a turn
  abbrev pub answer_by : Question → Answer
  answer_by asked.Trace = of_run_by (λ it. of_text (text_of it))
  answer_by asked.State = of_state_by (state_answer asked.State)
  answer_by (asked.Reach pid) = of_state_by (state_answer (asked.Reach pid))
  answer_by (asked.Explain errors allowed) =
      of_run_by (λ it. of_lines (explained_lines (record { errors = errors; allowed = allowed }) (steps_of it.schedule) it.state))
  answer_by (asked.Needs granted) = of_run_by (λ it. of_lines (lines_of_demands program_of granted (steps_of it.schedule) it.state))
  answer_by (asked.Audit path) = of_state_by (state_answer (asked.Audit path))
  answer_by (asked.Reasons path) = of_state_by (state_answer (asked.Reasons path))
  answer_by asked.Listing = of_tree_by (λ t. of_text (listing t))
  answer_by (asked.File path) = of_tree_by (λ t. of_file (cat_of t path.now))
  answer_by (asked.Turns slice limit) = of_machine_by (λ s. of_text (schedule_text (turns program_of (max 1 slice) limit s)))
  answer_by question = of_machine_by (search_answer question)

abbrev pub answer_to : Question → Inputs → Answer
answer_to question inputs = answer_by inputs.input.format inputs.input.bytes.items inputs.turns inputs.steps question

-- the comparison of two machines
abbrev pub end_of_comparison : Compared → End
end_of_comparison Same = Complete
end_of_comparison NotComplete = Incomplete
end_of_comparison Differs = Different

abbrev pub of_comparison : Comparison → Answer
of_comparison c = Ok (record { text = answer_bytes (comparison_lines c); end = end_of_comparison (compared_of c) })

-- the same for two inputs; the first is checked first, and a search visits at least one pair
abbrev pub compared_to : ℕ → (first second : Input) → Answer
compared_to pairs first second =
    and_then (λ failure. failure) (machine_in first.format first.bytes.items) (λ s. and_then (λ failure. failure) (machine_in second.format second.bytes.items)
    (λ t. of_comparison (comparison program_of (max 1 pairs) s t)))

-- ---- the notes on an answer

-- the notes about the state after a run
abbrev pub notes_of : Question → (is_loaded : Bool) → State → Bytes
notes_of asked.State is_loaded s = ended_notes is_loaded s
notes_of (asked.Reach pid) is_loaded s = ended_notes is_loaded s
notes_of (asked.Audit path) is_loaded s = audit_notes (not true) is_loaded s (option_map (λ p. p.now) path)
notes_of (asked.Reasons path) is_loaded s = audit_notes true is_loaded s (option_map (λ p. p.now) path)
notes_of question is_loaded s = []

module _ (format : Format) (bytes : Bytes) (turned : Turns) (steps : Option ℕ) where
  abbrev pub notes_after : Question → Result Bytes Failure
  notes_after question =
      and_then (λ failure. failure) (started_by format bytes turned steps) (λ it. Ok (notes_of question (has_init it.state.tree) (last_state it)))

  -- the notes on the answer to a question; only the answers about the state after a run have notes
  abbrev pub noted_at : Question → Result Bytes Failure
  noted_at asked.State = notes_after asked.State
  noted_at (asked.Reach pid) = notes_after (asked.Reach pid)
  noted_at (asked.Audit path) = notes_after (asked.Audit path)
  noted_at (asked.Reasons path) = notes_after (asked.Reasons path)
  noted_at question = Ok []

abbrev pub notes_of_inputs : Question → Inputs → Result Bytes Failure
notes_of_inputs question inputs = noted_at inputs.input.format inputs.input.bytes.items inputs.turns inputs.steps question

-- ---- parts of the notes, as the code finds them

-- the number of a process, if it is live
abbrev pub number_if_live : ℕ → Option Process → List ℕ
number_if_live pid None = []
number_if_live pid (Some p) = pid ∷ []

-- the record of a process has a table that is not locked, and the process has dropped unveil
abbrev pub record_has_dropped_unveil : ProcessRecord → Bool
record_has_dropped_unveil r =
    is_some r.unveiled.table
    && not r.unveiled.locked
    && drops_unveil r.pledge.promises r.pledge.execpromises
