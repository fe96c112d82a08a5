-- The answers to the questions about the state after a run, and about a search.
use Rattle.std.proofs.Common.{◌≡◌, ◌⊎◌, ◌∙◌, ap, sym, subst, refl, inl, inr, ℕ, Bool, List, [], Option, None, Some, unwrap_or, Result, Ok, Err, IfOk, OnOk}
use Rattle.std.specs.Borrow.{Bor}
use Rattle.std.specs.Prelude.{option_map}
use Rattle.std.specs.Result.{IsErrAnd}
use Rattle.pv_model.specs.declared.stream.Sink.{Ghosts as Writing}
use Rattle.pv_model.specs.Answers.Reach.{reach_of, reach_of_one}
use Rattle.pv_model.specs.Machine.{AnswerLine, Bytes, Process, Started, State, and_then, answer_bytes, process_at, state_lines, steps_of}
use Rattle.pv_model_questions.specs.Notes.{has_init}
use Rattle.pv_policy.specs.OfAnswers.Reaching.{reached_by}
use Rattle.pv_streams.specs.ProperPrefixes.{WritesProperPrefix}
use Rattle.pv_policy.specs.OfReduced.declared.kind.SearchKind.{SearchKind}
use Rattle.pv_run.specs.OfSession.Stopping.{StopsOn}
use Rattle.pv_streams.specs.declared.stop.Stop.{Stop}
use Rattle.pv_streams.specs.declared.stop.Stop.TheVariants.{Memory as NoStepMemory, Write as Unwritten}
use Rattle.pv_streams.specs.Sinks.{FailsBy, WritesOr}
use Rattle.pv_questions.specs.Answered.{IsWritten, StopsAnswer, StopsExactly, StopsSearch, WritesPart}
use Rattle.pv_questions.specs.Answers.{Answer, IsOfState, IsSearch, answer_by, answer_to, last_state, notes_of, notes_of_inputs, of_lines, process_answer}
use Rattle.pv_questions.specs.Answers.{run_started, search_answer, state_answer}
use Rattle.pv_questions.specs.Failures.{failure_of_stop}
use Rattle.pv_questions.specs.Trees.{machine_in}
use Rattle.pv_questions.specs.declared.answering.End.{End}
use Rattle.pv_questions.specs.declared.failure.Failure.{Failure}
use Rattle.pv_questions.specs.declared.failure.Failure.TheVariants.{Memory, Refused, Write}
use Rattle.pv_questions.specs.declared.failure.Refusal.TheVariants.{NoProcess}
use Rattle.pv_questions.specs.declared.failure.Target.TheVariants.{Output}
use Rattle.pv_questions.specs.declared.input.Format.{Format}
use Rattle.pv_questions.specs.declared.input.Inputs.{Inputs}
use Rattle.pv_questions.specs.declared.input.Turns.TheVariants.{Own}
use Rattle.pv_questions.specs.declared.question.Files.{Files}
use Rattle.pv_questions.specs.declared.question.Question.{Question}
use Rattle.pv_questions.specs.declared.question.Question.TheVariants as asked
use Rattle.pv_questions.proofs.WrittenAnswers.{answer-as, is_error}

-- ---- the state after a run

module _ (inputs : Inputs) where
  pub of_state : (question : Question) → IsOfState question
      → answer_to question inputs ≡ and_then (λ f. f) (run_started inputs) (λ it. state_answer question (last_state it))
  of_state asked.State is = refl
  of_state (asked.Reach pid) is = refl
  of_state (asked.Audit path) is = refl
  of_state (asked.Reasons path) is = refl
  of_state question is = absurd is

  left-by : (started : Result Started Failure) (s : State) (notes : Started → Bytes) (noted : Bytes) → and_then (λ f. f) started (λ it. Ok (notes it)) ≡ Ok noted
      → IfOk started (λ it. s ≡ last_state it) → (it : Started) × (started ≡ Ok it) × (s ≡ last_state it)
  left-by (Ok it) s notes noted is left = (it, refl, left)
  left-by (Err failure) s notes noted is left = cc is

  -- the run was started, since the notes are known
  pub state_left : (question : Question) → IsOfState question → (s : State) (noted : Bytes) → notes_of_inputs question inputs ≡ Ok noted
      → IfOk (run_started inputs) (λ it. s ≡ last_state it) → (it : Started) × (run_started inputs ≡ Ok it) × (s ≡ last_state it)
  state_left asked.State is s noted e left = left-by (run_started inputs) s (λ it. notes_of asked.State (has_init it.state.tree) (last_state it)) noted e left
  state_left (asked.Reach pid) is s noted e left = left-by (run_started inputs) s (λ it. notes_of (asked.Reach pid) (has_init it.state.tree) (last_state it)) noted e left
  state_left (asked.Audit path) is s noted e left = left-by (run_started inputs) s (λ it. notes_of (asked.Audit path) (has_init it.state.tree) (last_state it)) noted e left
  state_left (asked.Reasons path) is s noted e left =
      left-by (run_started inputs) s (λ it. notes_of (asked.Reasons path) (has_init it.state.tree) (last_state it)) noted e left
  state_left question is s noted e left = absurd is

  -- what was written about the state is the answer
  pub state-written : {W : Type 0} (sink : Writing W) (question : Question) → IsOfState question → (s : State) (noted : Bytes) (old new : W) (result : Result End Failure)
      → notes_of_inputs question inputs ≡ Ok noted → IfOk (run_started inputs) (λ it. s ≡ last_state it) → IsWritten sink (state_answer question s) old new result
      → IsWritten sink (answer_to question inputs) old new result
  state-written sink question is s noted old new result e left written =
      let l = state_left question is s noted e left in
      let same = of_state question is ∙ ap (λ (a : Result Started Failure). and_then (λ f. f) a (λ it. state_answer question (last_state it))) l.1
      ∙ ap (state_answer question) (sym l.2) in
      subst (λ (a : Answer). IsWritten sink a old new result) (sym same) written

  -- ---- a run that stopped

  pub stopped-exactly : (it : Started) (now : State) (before after : Option Bytes) (stop : Stop) (r : Result End Failure) → run_started inputs ≡ Ok it
      → IsErrAnd r (λ e. e ≡ failure_of_stop stop) → StopsOn stop (steps_of it.schedule) it.state now before after → r ≡ Err Memory → StopsExactly (run_started inputs) before after
  stopped-exactly it now before after NoStepMemory r is same stops e = inr (it, now, is, stops)
  stopped-exactly it now before after Unwritten r is same stops e = let u = is_error r (Write Output) same in cc (u, e)

  -- ---- a search

  of_search : (question : Question) → IsSearch question
      → answer_by inputs.input.format inputs.input.bytes.items Own None question ≡ answer_to question inputs
  of_search (asked.Explore kind states) is = refl
  of_search (asked.Access kind files states) is = refl
  of_search (asked.Exposure kind files states) is = refl
  of_search (asked.Policy kind granted states) is = refl
  of_search (asked.Graph tree states) is = refl
  of_search question is = absurd is

  stops_as : (question : Question) → IsSearch question → (before after : Option Bytes) → StopsSearch question (answer_to question inputs) before after
      → StopsAnswer question inputs before after
  stops_as (asked.Explore kind states) is before after stops = stops
  stops_as (asked.Access kind files states) is before after stops = stops
  stops_as (asked.Exposure kind files states) is before after stops = stops
  stops_as (asked.Policy kind granted states) is before after stops = stops
  stops_as (asked.Graph tree states) is before after stops = stops
  stops_as question is before after stops = absurd is

  -- a search ignores the schedule, and has no notes
  pub search-written : {W : Type 0} {sink : Writing W} {old new : W} {r : Result End Failure} (question : Question) → IsSearch question
      → IsWritten sink (answer_by inputs.input.format inputs.input.bytes.items Own None question) old new r → IsWritten sink (answer_to question inputs) old new r
  search-written question is written = answer-as (of_search question is) written

  pub search-stopped : (before after : Option Bytes) (question : Question) → IsSearch question
      → StopsSearch question (answer_by inputs.input.format inputs.input.bytes.items Own None question) before after → StopsAnswer question inputs before after
  search-stopped before after question is stops =
      stops_as question is before after (subst (λ (a : Answer). StopsSearch question a before after) (of_search question is) stops)

  pub search-noted : (question : Question) → IsSearch question → notes_of_inputs question inputs ≡ Ok []
  search-noted (asked.Explore kind states) is = refl
  search-noted (asked.Access kind files states) is = refl
  search-noted (asked.Exposure kind files states) is = refl
  search-noted (asked.Policy kind granted states) is = refl
  search-noted (asked.Graph tree states) is = refl
  search-noted question is = absurd is

  -- an answer about a state has all or none of its text
  pub state-stopped : (before after : Option Bytes) (question : Question) → IsOfState question → StopsAnswer question inputs before after
  state-stopped before after asked.State is = tt
  state-stopped before after (asked.Reach pid) is = tt
  state-stopped before after (asked.Audit path) is = tt
  state-stopped before after (asked.Reasons path) is = tt
  state-stopped before after question is = absurd is

-- ---- the kinds of questions

pub state_from : (question : Question)
    → (question ≡ asked.State) ⊎ (((x : Option ℕ) × (question ≡ asked.Reach x))
    ⊎ (((x : Option (Bor Bytes)) × (question ≡ asked.Audit x)) ⊎ ((x : Option (Bor Bytes)) × (question ≡ asked.Reasons x))))
    → IsOfState question
state_from question (inl is) = subst IsOfState (sym is) tt
state_from question (inr (inl is)) = subst IsOfState (sym is.1) tt
state_from question (inr (inr (inl is))) = subst IsOfState (sym is.1) tt
state_from question (inr (inr (inr is))) = subst IsOfState (sym is.1) tt

pub search_from : (question : Question)
    → ((x : SearchKind) × (n : ℕ) × (question ≡ asked.Explore x n)) ⊎ (((x : SearchKind) × (files : Files) × (n : ℕ) × (question ≡ asked.Access x files n))
    ⊎ (((x : SearchKind) × (files : Files) × (n : ℕ) × (question ≡ asked.Exposure x files n))
    ⊎ (((x : SearchKind) × (granted : Bool) × (n : ℕ) × (question ≡ asked.Policy x granted n))
    ⊎ ((tree : Bool) × (n : ℕ) × (question ≡ asked.Graph tree n)))))
    → IsSearch question
search_from question (inl is) = subst IsSearch (sym is.2) tt
search_from question (inr (inl is)) = subst IsSearch (sym is.3) tt
search_from question (inr (inr (inl is))) = subst IsSearch (sym is.3) tt
search_from question (inr (inr (inr (inl is)))) = subst IsSearch (sym is.3) tt
search_from question (inr (inr (inr (inr is)))) = subst IsSearch (sym is.2) tt

-- ---- the machine of a search

module _ (format : Format) (bytes : Bytes) where
  pub of_machine : (question : Question) → IsSearch question → answer_by format bytes Own None question ≡ and_then (λ f. f) (machine_in format bytes) (search_answer question)
  of_machine (asked.Explore kind states) is = refl
  of_machine (asked.Access kind files states) is = refl
  of_machine (asked.Exposure kind files states) is = refl
  of_machine (asked.Policy kind granted states) is = refl
  of_machine (asked.Graph tree states) is = refl
  of_machine question is = absurd is

  pub of_first : (question : Question) → IsSearch question → (s : State) → machine_in format bytes ≡ Ok s → answer_by format bytes Own None question ≡ search_answer question s
  of_first question is s held = of_machine question is ∙ ap (λ (a : Result State Failure). and_then (λ f. f) a (search_answer question)) held

-- a search stopped before it wrote anything
pub stops-nowhere : (question : Question) (answer : Answer) (written : Option Bytes) → IsSearch question → StopsSearch question answer written written
stops-nowhere (asked.Explore kind states) answer written is = inl refl
stops-nowhere (asked.Access kind files states) answer written is = inl refl
stops-nowhere (asked.Exposure kind files states) answer written is = refl
stops-nowhere (asked.Policy kind granted states) answer written is = refl
stops-nowhere (asked.Graph tree states) answer written is = inl refl
stops-nowhere question answer written is = absurd is

-- only lack of memory stops a search so
pub stop-is_memory : (stop : Stop) (r : Result End Failure) → IsErrAnd r (λ e. e ≡ failure_of_stop stop) → r ≡ Err Memory → stop ≡ NoStepMemory
stop-is_memory NoStepMemory r same e = refl
stop-is_memory Unwritten r same e = let u = is_error r (Write Output) same in cc (u, e)

-- the lines of a search, and what it returned
pub lines-as : {W T : Type 0} {sink : Writing W} {old new : W} {r : Result T Stop} {a b : List AnswerLine} → a ≡ b → WritesOr sink FailsBy (answer_bytes a) old new r
    → WritesOr sink FailsBy (answer_bytes b) old new r
lines-as {sink = sink} {old = old} {new = new} {r = r} same writes = subst (λ (ls : List AnswerLine). WritesOr sink FailsBy (answer_bytes ls) old new r) same writes

pub complete-as : {a b : Bool} (r : Result Bool Stop) → a ≡ b → IfOk r (λ x. x ≡ a) → IfOk r (λ x. x ≡ b)
complete-as r same complete = subst (λ (b : Bool). IfOk r (λ x. x ≡ b)) same complete

-- a part of the lines of a search was written
pub part-as : {a b : List AnswerLine} {before after : Option Bytes} (end : End) → a ≡ b → WritesProperPrefix (answer_bytes a) before after
    → WritesPart (Ok (record { text = answer_bytes b; end = end })) before after
part-as {b = b} {before = before} {after = after} end same part =
    inr (record { text = answer_bytes b; end = end }, refl, subst (λ (ls : List AnswerLine). WritesProperPrefix (answer_bytes ls) before after) same part)

pub no_search : (question : Question) → IsSearch question → ((kind : SearchKind) (files : Files) (states : ℕ) → question ≡ asked.Access kind files states → ⊥)
    → ((kind : SearchKind) (files : Files) (states : ℕ) → question ≡ asked.Exposure kind files states → ⊥)
    → ((kind : SearchKind) (granted : Bool) (states : ℕ) → question ≡ asked.Policy kind granted states → ⊥)
    → ((tree : Bool) (states : ℕ) → question ≡ asked.Graph tree states → ⊥) → ((kind : SearchKind) (states : ℕ) → question ≡ asked.Explore kind states → ⊥) → ⊥
no_search (asked.Access kind files states) is access exposure policy graph explore = access kind files states refl
no_search (asked.Exposure kind files states) is access exposure policy graph explore = exposure kind files states refl
no_search (asked.Policy kind granted states) is access exposure policy graph explore = policy kind granted states refl
no_search (asked.Graph tree states) is access exposure policy graph explore = graph tree states refl
no_search (asked.Explore kind states) is access exposure policy graph explore = explore kind states refl
no_search question is access exposure policy graph explore = is

-- ---- a state

-- any other question about a state
pub other_state : (question : Question) (s : State) → ((pid : Option ℕ) → question ≡ asked.Reach pid → ⊥) → ((path : Option (Bor Bytes)) → question ≡ asked.Audit path → ⊥)
    → ((path : Option (Bor Bytes)) → question ≡ asked.Reasons path → ⊥) → state_answer question s ≡ of_lines (state_lines s)
other_state (asked.Reach pid) s reach audit reasons = absurd (reach pid refl)
other_state (asked.Audit path) s reach audit reasons = absurd (audit path refl)
other_state (asked.Reasons path) s reach audit reasons = absurd (reasons path refl)
other_state question s reach audit reasons = refl

-- the permissions of a process, if it is live
module _ (s : State) (pid : ℕ) {A : Type 0} (f : Process → A) where
  live-by : (p : Option Process) (r : A) → option_map f p ≡ Some r → of_lines (unwrap_or (option_map (reach_of s pid) p) []) ≡ process_answer (option_map (reach_of s pid) p)
  live-by (Some p) r is = refl
  live-by None r is = cc is

  dead-by : (p : Option Process) → option_map f p ≡ None → process_answer (option_map (reach_of s pid) p) ≡ Err (Refused NoProcess)
  dead-by None is = refl
  dead-by (Some p) is = cc is

  pub live-answer : (r : A) → option_map f (process_at s pid) ≡ Some r → of_lines (reached_by s pid) ≡ process_answer (reach_of_one s pid)
  live-answer r is = live-by (process_at s pid) r is

  pub dead-answer : option_map f (process_at s pid) ≡ None → process_answer (reach_of_one s pid) ≡ Err (Refused NoProcess)
  dead-answer is = dead-by (process_at s pid) is

-- what holds after any result
pub always_ok : {T E P : Type 0} (r : Result T E) → P → OnOk r P
always_ok (Ok value) holds = holds
always_ok (Err error) holds = tt
