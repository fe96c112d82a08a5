-- The lines of a graph that begin a state or a step, or are the last.
use Rattle.std.proofs.Common.{◌≡◌, ap₂, refl, ℕ, Bool, true, false, ◌||◌, List, [], ◌∷◌, ◌++◌, map, flat_map, codes, Option, None, Some}
use Rattle.std.proofs.lemmas.Bool.{or_parts}
use Rattle.std.specs.List.{list_any}
use Rattle.pv_model.specs.declared.call.Call.{Call}
use Rattle.pv_model.specs.Machine.{Answered, answer, explained_step, Found, Move, AnswerLine, answer_line, of_trace, state_lines, reach_lines, Bytes, entries_of_table, lines_of, live_processes, listing, Next, inside, calls_for, next, Program, Process, ProcessRecord, live, ended_record, State, process_at, Word, call_word, nami_word, pldg_word, unvl_word, gio_word, ret_word, call_lines}
use Rattle.pv_model.specs.Answers.Explain.{unveil_reasons, remarks, with_remarks, explained_next, explained_of}
use Rattle.pv_model.specs.Answers.Graph.{unreported, listing_lines, tree_lines, step_lines}
use Rattle.pv_model.specs.Answers.Lines.{counted}
use Rattle.pv_model.specs.Answers.ProcessRecord.{entry_text, descriptor_text, open_descriptors, location_lines, held_lines}
use Rattle.pv_model.specs.Answers.Reach.{reach_of, reach_texts}
use Rattle.pv_model.specs.Trace.{psig_word, wait_word, gone_word}
use Rattle.pv_laws_answers.specs.Graphs.{begins_state, begins_step, is_last, ends_state, ends_step}
use Rattle.pv_laws_answers.proofs.MarkedLists.{none-append, none-map, none-flat, none-weaker}

-- ---- lines of `state`, `ls` and `reach`

location-plain : (pid : ℕ) (r : ProcessRecord) → list_any ends_step (location_lines pid r) ≡ false
location-plain pid (live p) = refl
location-plain pid (ended_record parent status) = refl

held-plain : (s : State) (pid : ℕ) (r : ProcessRecord) → list_any ends_step (held_lines s pid r) ≡ false
held-plain s pid (ended_record parent status) = refl
held-plain s pid (live p) =
    none-append ends_step
    (map (λ e. answer_line pid (codes "UNVL") (entry_text s e)) (counted (entries_of_table p.table)) ++ map (λ d. answer_line pid (codes "FD") (descriptor_text s d)) (open_descriptors s p)) _
    (none-append ends_step (map (λ e. answer_line pid (codes "UNVL") (entry_text s e)) (counted (entries_of_table p.table))) (map (λ d. answer_line pid (codes "FD") (descriptor_text s d)) (open_descriptors s p))
    (none-map ends_step (λ e. answer_line pid (codes "UNVL") (entry_text s e)) (λ e. refl) (counted (entries_of_table p.table)))
    (none-map ends_step (λ d. answer_line pid (codes "FD") (descriptor_text s d)) (λ d. refl) (open_descriptors s p))) refl

state-plain : (s : State) → list_any ends_step (state_lines s) ≡ false
unfolding state_lines
state-plain s =
    none-flat ends_step (λ r. location_lines r.0 r.1 ++ held_lines s r.0 r.1)
    (λ r. none-append ends_step (location_lines r.0 r.1) (held_lines s r.0 r.1) (location-plain r.0 r.1) (held-plain s r.0 r.1)) s.processes

reach-plain : (s : State) → list_any ends_step (reach_lines s) ≡ false
unfolding reach_lines
reach-plain s = none-flat ends_step (λ p. reach_of s p.0 p.1) (λ p. none-map ends_step (answer_line p.0 (codes "MAY")) (λ text. refl) (reach_texts s p.1)) (live_processes s.processes)

tree-plain : (trees : Bool) (s : State) → list_any ends_step (tree_lines trees s) ≡ false
tree-plain false s = refl
tree-plain true s =
    none-append ends_step (listing_lines s.tree) (reach_lines s) (none-map ends_step (answer_line 0 (codes "LS")) (λ text. refl) (lines_of (listing s.tree))) (reach-plain s)

pub front-plain : (trees : Bool) (s : State) → list_any ends_step (state_lines s ++ tree_lines trees s) ≡ false
front-plain trees s = none-append ends_step (state_lines s) (tree_lines trees s) (state-plain s) (tree-plain trees s)

-- ---- lines of a step

word-plain : (pid : ℕ) (word : Word) → ends_step (of_trace (record { pid = pid; word = word })) ≡ false
word-plain pid (call_word call) = refl
word-plain pid (nami_word path) = refl
word-plain pid (pldg_word call promise verdict) = refl
word-plain pid (unvl_word verdict) = refl
word-plain pid (gio_word witness bytes) = refl
word-plain pid (ret_word call returned) = refl
word-plain pid psig_word = refl
word-plain pid wait_word = refl
word-plain pid gone_word = refl

module _ (s : State) (pid : ℕ) (p : Process) (source : ℕ → Bytes) (call : Call) (a : Answered) where
  remarks-plain : (word : Word) → list_any ends_step (remarks s pid p source call a word) ≡ false
  remarks-plain (call_word c) = refl
  remarks-plain (nami_word path) = refl
  remarks-plain (pldg_word c promise verdict) = refl
  remarks-plain (unvl_word verdict) = none-map ends_step (answer_line pid (codes "WHY")) (λ text. refl) (unveil_reasons s p source call a.walks verdict)
  remarks-plain (gio_word witness []) = refl
  remarks-plain (gio_word witness (b ∷ bs)) = refl
  remarks-plain (ret_word c returned) = refl
  remarks-plain psig_word = refl
  remarks-plain wait_word = refl
  remarks-plain gone_word = refl

  call-plain : list_any ends_step (flat_map (with_remarks s pid p source call a) (call_lines pid p call a)) ≡ false
  call-plain = none-flat ends_step (with_remarks s pid p source call a) (λ l. ap₂ (λ x y. x || y) (word-plain l.pid l.word) (remarks-plain l.word)) (call_lines pid p call a)

module _ (program_of : Bytes → Option Program) (source : ℕ → Bytes) (s : State) (pid : ℕ) where
  next-plain : (p : Process) (n : Next) → list_any ends_step (explained_next program_of source s pid p n) ≡ false
  next-plain p (inside q) = refl
  next-plain p (calls_for call) = call-plain s pid p source call (answer program_of s pid call)

  of-plain : (o : Option Process) → list_any ends_step (explained_of program_of source s pid o) ≡ false
  of-plain None = refl
  of-plain (Some p) = next-plain p (next p)

  pub explained-plain : list_any ends_step (explained_step program_of source s pid) ≡ false
  unfolding explained_step
  explained-plain = of-plain (process_at s pid)

-- ---- lines without marks

pub of_state : (l : AnswerLine) → ends_step l ≡ false → ends_state l ≡ false
of_state l none = (or_parts (begins_step l) (ends_state l) none).1

pub of_start : (l : AnswerLine) → ends_step l ≡ false → begins_state l ≡ false
of_start l none = (or_parts (begins_state l) (is_last l) (of_state l none)).0

pub of_step : (l : AnswerLine) → ends_step l ≡ false → begins_step l ≡ false
of_step l none = (or_parts (begins_step l) (ends_state l) none).0

-- the lines of a state's steps begin no state
pub steps-plain : (program_of : Bytes → Option Program) (found : List Found) (f : Found) (ms : List Move) → list_any ends_state (flat_map (step_lines program_of found f) ms) ≡ false
steps-plain program_of found f ms =
    none-flat ends_state (step_lines program_of found f)
    (λ m. none-weaker ends_step ends_state of_state (explained_step program_of unreported f.state m.pid) (explained-plain program_of unreported f.state m.pid)) ms
