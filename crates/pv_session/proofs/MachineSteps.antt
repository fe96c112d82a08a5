-- A step of the machine, by the fetched instruction and the answer.
use Rattle.std.proofs.Common.{◌≡◌, ◌∙◌, ℕ, ℤ, List, [], ap, sym, refl, Option, None, Some}
use Rattle.pv_calls.specs.OfCallsState.Changes.{StepsInside}
use Rattle.pv_calls.specs.OfCallsState.Counts.{processes_of}
use Rattle.pv_calls.specs.OfProcs.ProcessTable.{ProcessTable, process_in}
use Rattle.pv_calls.specs.OfCallsPlain.declared.answer.Answer.{Answer}
use Rattle.pv_calls.specs.OfCallsPlain.Performed.{answered}
use Rattle.pv_model.specs.declared.call.Call.{Call}
use Rattle.pv_model.specs.declared.call.Call.TheVariants.{Write}
use Rattle.pv_model.specs.declared.outcome.Outcome.{Outcome}
use Rattle.pv_model.specs.declared.outcome.Outcome.TheVariants.{Value, Text, Failed, Killed, Exited, Blocked, Gone}
use Rattle.pv_model.specs.Machine.{Answered, answer, program_of, inside, calls_for, next, Process, State, process_at, with_process, Stepped, step, step_of, step_by, Line, buffer_of, call_lines, moved_words, Bytes}
use Rattle.pv_model.specs.Trace.{gone_lines}
use Rattle.std.proofs.lemmas.List.{append-nil}
use Rattle.pv_session.specs.Running.{BeginsLines, WrittenLines, stepped}
use Rattle.pv_session.proofs.BufferAfterWrite.{write-keeps}
use Rattle.pv_trace.specs.Steps.{lines_by, moved_by}

-- a step of a process that is not live
pub step-gone : (s : State) (pid : ℕ) → process_at s pid ≡ None → stepped s pid ≡ record { after = s; outcome = Gone; lines = gone_lines pid }
unfolding step
step-gone s pid none = ap (step_of program_of s pid) none

-- a step inside a process
pub step-inside : (s : State) (pid : ℕ) (me after : Process) → process_at s pid ≡ Some me → next me ≡ inside after
    → stepped s pid ≡ record { after = with_process s pid after; outcome = Value 0; lines = [] }
unfolding step
step-inside s pid me after at is = ap (step_of program_of s pid) at ∙ ap (step_by program_of s pid me) is

-- the words for moved bytes
moved : (after : State) (pid : ℕ) (p : Process) (call : Call) (outcome : Outcome) → ((d n : ℤ) (k : ℕ) → call ≡ Write d n → outcome ≡ Value k → buffer_of (process_at after pid) ≡ p.buffer)
    → moved_words after pid p call outcome ≡ moved_by (buffer_of (process_at after pid)) call outcome
moved after pid p call (Text taken) keeps = refl
moved after pid p (Write d n) (Value count) keeps = ap (λ front. moved_by front (Write d n) (Value count)) (sym (keeps d n count refl refl))
moved after pid p _ (Value count) keeps = refl
moved after pid p call (Failed e c) keeps = refl
moved after pid p call (Killed q) keeps = refl
moved after pid p call Exited keeps = refl
moved after pid p call Blocked keeps = refl
moved after pid p call Gone keeps = refl

lines-of : (pid : ℕ) (p : Process) (call : Call) (a : Answered)
    → moved_words a.after pid p call a.outcome ≡ moved_by (buffer_of (process_at a.after pid)) call a.outcome
    → call_lines pid p call a ≡ lines_by pid (buffer_of (process_at a.after pid)) call a.outcome a.walks
unfolding call_lines lines_by
lines-of pid p call a same = rw same refl

-- the lines of a call, by the buffer after it
pub called-lines_by : (s : State) (pid : ℕ) (me : Process) (call : Call) (a : Answered) → process_at s pid ≡ Some me → answer program_of s pid call ≡ a
    → call_lines pid me call a ≡ lines_by pid (buffer_of (process_at a.after pid)) call a.outcome a.walks
called-lines_by s pid me call a at answered = lines-of pid me call a (moved a.after pid me call a.outcome keeps)
  where
    keeps : (d n : ℤ) (k : ℕ) → call ≡ Write d n → a.outcome ≡ Value k → buffer_of (process_at a.after pid) ≡ me.buffer
    keeps d n k write value =
        let same : answer program_of s pid (Write d n) ≡ a = ap (answer program_of s pid) (sym write) ∙ answered in
        ap (λ (x : Answered). buffer_of (process_at x.after pid)) (sym same) ∙ write-keeps program_of s pid me d n at k (ap (λ (x : Answered). x.outcome) same ∙ value)

-- a step that makes a call
pub step-called : (s : State) (pid : ℕ) (me : Process) (call : Call) (a : Answered) → process_at s pid ≡ Some me → next me ≡ calls_for call
    → answer program_of s pid call ≡ a
    → stepped s pid ≡ record { after = a.after; outcome = a.outcome; lines = lines_by pid (buffer_of (process_at a.after pid)) call a.outcome a.walks }
unfolding step
step-called s pid me call a at is answered =
    ap (step_of program_of s pid) at ∙ ap (step_by program_of s pid me) is
    ∙ ap (λ x. let it : Stepped = record { after = x.after; outcome = x.outcome; lines = call_lines pid me call x } in it) answered
    ∙ ap (λ (ls : List Line). let it : Stepped = record { after = a.after; outcome = a.outcome; lines = ls } in it)
    (called-lines_by s pid me call a at answered)

-- ---- the next instruction

-- the process of a state, as the process table that its parts lend has it
pub lent-process : (s lent : State) (table : ProcessTable) (pid : ℕ) → lent ≡ s → table ≡ processes_of lent → process_in table pid ≡ process_at s pid
lent-process s lent table pid same is = ap (λ (x : ProcessTable). process_in x pid) is ∙ ap (λ (x : State). process_at x pid) same

-- an instruction inside a process was carried out
module _ (s : State) (pid : ℕ) (new : State) (made : StepsInside s pid new) where
  pub inside-is : stepped s pid ≡ record { after = new; outcome = Value 0; lines = [] }
  inside-is =
      step-inside s pid made.me made.after made.lives made.step
      ∙ ap (λ after. let it : Stepped = record { after = after; outcome = Value 0; lines = [] } in it) (sym made.only)

  pub inside-after : new ≡ (stepped s pid).after
  inside-after = sym (ap (λ (x : Stepped). x.after) inside-is)

  pub inside-outcome : Value 0 ≡ (stepped s pid).outcome
  inside-outcome = sym (ap (λ (x : Stepped). x.outcome) inside-is)

-- a call is next in a process
abbrev pub Asks : State → ℕ → Call → Type 0
Asks s pid call = (me : Process) × (process_at s pid ≡ Some me) × (next me ≡ calls_for call)

module _ (s : State) (pid : ℕ) (call : Call) (new : State) where
  -- an answered call, as a step
  pub called-is : (a : Answer) → Asks s pid call → answer program_of s pid call ≡ answered new a
      → stepped s pid ≡ record { after = new; outcome = a.outcome; lines = lines_by pid (buffer_of (process_at new pid)) call a.outcome a.walks }
  called-is a fetched is = step-called s pid fetched.0 call (answered new a) fetched.1 fetched.2 is

  pub called-after : (a : Answer) → Asks s pid call → answer program_of s pid call ≡ answered new a → new ≡ (stepped s pid).after
  called-after a fetched is = sym (ap (λ (x : Stepped). x.after) (called-is a fetched is))

  pub called-outcome : (a : Answer) → Asks s pid call → answer program_of s pid call ≡ answered new a → a.outcome ≡ (stepped s pid).outcome
  called-outcome a fetched is = sym (ap (λ (x : Stepped). x.outcome) (called-is a fetched is))

  -- the lines of the call, by the buffer after it
  pub called-lines : (a : Answer) → Asks s pid call → answer program_of s pid call ≡ answered new a
      → (front : Bytes) → front ≡ buffer_of (process_at new pid) → lines_by pid front call a.outcome a.walks ≡ (stepped s pid).lines
  called-lines a fetched is front buffer =
      ap (λ bytes. lines_by pid bytes call a.outcome a.walks) buffer ∙ sym (ap (λ (x : Stepped). x.lines) (called-is a fetched is))

pub gone-lines : (s t : State) (pid : ℕ) → s ≡ t → process_at s pid ≡ None → (stepped t pid).lines ≡ gone_lines pid
gone-lines s t pid same none = ap (λ x. (stepped x pid).lines) (sym same) ∙ ap (λ (x : Stepped). x.lines) (step-gone s pid none)

-- no lines write nothing
pub written-none : (written : Option Bytes) → WrittenLines [] written written
written-none None = refl
written-none (Some had) = ap (λ (bs : Bytes). Some bs) (sym (append-nil had))

-- nothing is a prefix of any lines
pub begins-none : (lines : List Line) (written : Option Bytes) → BeginsLines lines written written
begins-none lines None = (0, refl)
begins-none lines (Some had) = (0, ap (λ (bs : Bytes). Some bs) (sym (append-nil had)))
