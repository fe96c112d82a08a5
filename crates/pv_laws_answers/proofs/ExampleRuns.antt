-- The files that the next call of a process may read, and a worked search and its graph, by computation.
use Rattle.std.proofs.Common.{◌≡◌, ◌∙◌, sym, ap, refl, ℕ, ◌<◌, lit<, Bool, true, false, not, ◌==◌, List, [], ◌∷◌, take, drop, codes, Option, None, Some, is_some, inr, ⊎_elim}
use Rattle.std.specs.List.{list_any, list_all}
use Rattle.std.proofs.lemmas.Bool.{eq-eqb}
use Rattle.std.proofs.lemmas.List.Elements.{All-cons, All-nil}
use Rattle.pv_model.specs.declared.call.Call.{Call}
use Rattle.pv_model.specs.declared.call.Call.TheVariants as TheCall
use Rattle.pv_model.specs.Machine.{Found, states_found, graph_lines, AnswerLine, answer_line, Bytes, open_file, live_processes, Next, inside, calls_for, next, OpenFile, Program, Process, State, process_at, step, run, read_file, with_bytes, Touches, Justifies, read_by_descriptor, read_by_execve}
use Rattle.pv_model.specs.Answers.OnLiterals.{answers_on_literals}
use Rattle.pv_laws_states.specs.ExampleStates.{no_programs}
use Rattle.pv_laws_states.proofs.ExampleStates.{or_first}
use Rattle.pv_laws_access.specs.Justice.{reads_bytes}
use Rattle.pv_laws_access.proofs.JustifiedReads.{near-or_read}
use Rattle.pv_laws_access.proofs.SimilarTrees.{as_is, as_is-fine, same-but_file}
use Rattle.pv_laws_access.proofs.ExampleRuns.{other_byte}
use Rattle.pv_laws_answers.specs.SearchExamples.{start, graph, UnreadExamples, GraphExamples}
use Rattle.pv_laws_answers.specs.Graphs.{HasStepLines}
use Rattle.pv_laws_answers.specs.Unread.{IsNeverRead}
use Rattle.pv_laws_answers.proofs.Lists.{all-among, none-among, each-from_among}
use Rattle.pv_laws_answers.proofs.LiveProcesses.{live-listed}

-- ---- calls that may read a file

abbrev is_on : ℕ → Option (ℕ × OpenFile) → Bool
is_on f None = false
is_on f (Some (k, file)) = file.node == f

abbrev may_read : State → ℕ → Process → Call → Bool
may_read s f p (TheCall.Read d n) = is_on f (open_file s p d)
may_read s f p (TheCall.Execve path) = true
may_read s f p call = false

abbrev next_may_read : State → ℕ → Process → Next → Bool
next_may_read s f p (inside q) = false
next_may_read s f p (calls_for call) = may_read s f p call

justified-may : (s : State) (f : ℕ) (p : Process) (call : Call) → reads_bytes call ≡ true → Justifies s p call (read_file f) → may_read s f p call ≡ true
justified-may s f p (TheCall.Read d n) is (read_by_descriptor _ (e, k, file, own, opened, node, reads)) =
    let same : d ≡ e = cc own in
    ap (λ x. is_on f (open_file s p x)) same ∙ ap (is_on f) opened ∙ eq-eqb file.node f node
justified-may s f p (TheCall.Read d n) is (read_by_execve path place _ named allowed node) = absurd (cc named)
justified-may s f p (TheCall.Execve path) is justified = refl
justified-may s f p call is justified = let bad : false ≡ true = is in cc bad

reads-may : (program_of : Bytes → Option Program) (s : State) (pid f : ℕ) → Touches program_of s pid (read_file f) → (p : Process) × (process_at s pid ≡ Some p) × (next_may_read s f p (next p) ≡ true)
reads-may program_of s pid f reads =
    let u : State = with_bytes s f reads.0 in
    ⊎_elim
    (λ e. (e.0, e.2, ap (next_may_read s f e.0) e.3 ∙ justified-may s f e.0 e.1 e.5.0 e.5.1))
    (λ near. absurd (⊎_elim (λ other. other near.outcome) (λ apart. apart (same-but_file as_is f (step program_of s pid).after (step program_of u pid).after near.after)) reads.3))
    (near-or_read as_is as_is-fine program_of s pid f reads.0 reads.2 (λ by m n same. same))

-- a state in which no next call may read a file
abbrev spares : ℕ → Found → Bool
spares f g = not (list_any (λ p. next_may_read g.state f p.1 (next p.1)) (live_processes g.state.processes))

spares-unread : (program_of : Bytes → Option Program) (f : ℕ) (g : Found) → spares f g ≡ true → (pid : ℕ) → is_some (process_at g.state pid) ≡ true → Touches program_of g.state pid (read_file f) → ⊥
spares-unread program_of f g spared pid lives reads =
    let may = reads-may program_of g.state pid f reads in
    let none = none-among (λ (p : ℕ × Process). next_may_read g.state f p.1 (next p.1)) (live_processes g.state.processes) (by (list_any (λ p. next_may_read g.state f p.1 (next p.1)) (live_processes g.state.processes)) spared)
    (pid, may.0) (live-listed g.state pid may.0 may.1) in
    let both : true ≡ false = sym may.2 ∙ none in cc both
  where
    by : (b : Bool) → not b ≡ true → b ≡ false
    by true is = let bad : false ≡ true = is in cc bad
    by false is = refl

all-spare : (program_of : Bytes → Option Program) (limit : ℕ) (s : State) (f : ℕ) → list_all (spares f) (states_found program_of limit s) ≡ true → IsNeverRead program_of limit s f
all-spare program_of limit s f spared =
    each-from_among (λ (g : Found). (pid : ℕ) → is_some (process_at g.state pid) ≡ true → Touches program_of g.state pid (read_file f) → ⊥) (states_found program_of limit s)
    (λ g within. spares-unread program_of f g (all-among (spares f) (states_found program_of limit s) spared g within))

-- ---- the worked search

abbrev first_byte : State → Bytes
first_byte s = take 1 (or_first (process_at s 1)).buffer

was_read : Touches no_programs (run no_programs (1 ∷ []) start).final 1 (read_file 2)
unfolding answers_on_literals
was_read = (
  codes "ji",
  All-cons (λ b. b < 256) 106 (codes "i") (lit< tt) (All-cons (λ b. b < 256) 105 [] (lit< tt) (All-nil (λ b. b < 256))),
  refl,
  inr (λ same. other_byte (ap first_byte same)),
)

pub unread-happens : UnreadExamples
unfolding answers_on_literals
unread-happens = record { complete = refl; unread = all-spare no_programs 4 start 3 refl; exposed = refl; read = was_read }

-- ---- its graph

abbrev lines_from : ℕ → ℕ → List AnswerLine
lines_from k n = take n (drop k graph)

opens : HasStepLines graph (codes "0") 1 (codes "to 1") (lines_from 10 3)
opens = record { before = []; inside = lines_from 1 8; end_line = answer_line 0 (codes "AT") (codes "1"); rest = drop 14 graph; parts = refl; one_state = refl; one_step = refl; ends = refl }

reads : HasStepLines graph (codes "1") 1 (codes "to 2") (lines_from 24 4)
reads = record { before = lines_from 0 13; inside = lines_from 14 9; end_line = answer_line 0 (codes "AT") (codes "2"); rest = drop 29 graph; parts = refl; one_state = refl; one_step = refl; ends = refl }

graph-is : graph_lines no_programs 4 false start ≡ graph
unfolding answers_on_literals
graph-is = refl

pub graph-happens : GraphExamples
graph-happens = record {
  lines = graph-is;
  along = (codes "1", lines_from 10 3, lines_from 24 4, opens, (codes "2", lines_from 24 4, [], reads, (refl, refl), refl), refl);
}
