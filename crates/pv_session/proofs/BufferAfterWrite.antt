-- A write keeps the buffer of its process.
use Rattle.std.proofs.Common.{◌≡◌, ◌∙◌, ap, sym, subst, refl, ℕ, zero, suc, ℤ, pos, Option, Some}
use Rattle.pv_model.specs.declared.call.Call.TheVariants.{Write}
use Rattle.pv_model.specs.declared.errno.Errno.TheVariants.{EBADF, EINVAL, EFBIG}
use Rattle.pv_model.specs.declared.outcome.Outcome.TheVariants.{Value}
use Rattle.pv_model.specs.declared.limits.TheConstants.{BUFFER}
use Rattle.pv_model.specs.Machine.{Answered, answer, answer_by_attempt, at_next_line, effect, update, Attempt, done, refused, Bytes, open_file_for, within, write, write_end, after_write, is_past_greatest, with_result, Effect, answers, returns, returns_bytes, ends, waits, OpenFile, Program, Process, State, writes, process_at, with_process, buffer_of}
use Rattle.pv_laws_states.proofs.AttemptValues.{Leads, leads-demand, leads-refuse_if, leads-room}
use Rattle.pv_laws_states.proofs.CallOutcomes.{at_call, by_answer}
use Rattle.pv_laws_states.proofs.Processes.{process_at-same, update-is}
use Rattle.pv_laws_states.proofs.CollectedStates.{processes-collect}

-- a write changes no process
abbrev SameProcesses : State → Effect → Type 0
SameProcesses s e = e.0.processes ≡ s.processes

module _ (s : State) (pid : ℕ) (me : Process) where
  as_written : (k : ℕ) (file : OpenFile) (count : ℕ) → (after_write s pid me k file count).processes ≡ s.processes
  as_written k file zero = refl
  as_written k file (suc n) = refl

  write-leads : (d n : ℤ) → Leads (SameProcesses s) (write s pid me d n)
  write-leads d n =
      leads-demand (SameProcesses s) EBADF (open_file_for s pid me writes d) _ (λ found is.
      leads-demand (SameProcesses s) EINVAL (within BUFFER n) _ (λ count fits.
      leads-refuse_if (SameProcesses s) EFBIG (is_past_greatest s.tree (write_end s pid me found.1 count)) _ (λ near.
      leads-room (SameProcesses s) (after_write s pid me found.0 found.1 count) (λ roomy. answers roomy count) (λ long fit. as_written found.0 found.1 count))))

-- if a call answers a value, its process has this buffer
abbrev KeepsBuffer : ℕ → Bytes → Answered → Type 0
KeepsBuffer pid buffer a = (n : ℕ) → a.outcome ≡ Value n → buffer_of (process_at a.after pid) ≡ buffer

preserved-by : (s t : State) (pid : ℕ) (me : Process) → process_at t pid ≡ Some me → (a : Attempt Effect) → Leads (SameProcesses t) a → KeepsBuffer pid me.buffer (answer_by_attempt s t pid me a)
preserved-by s t pid me at (done walks (after, returns v)) same = λ n is.
    let there : process_at after pid ≡ Some me = ap (λ rs. Rattle.pv_model.specs.State.live_process (Rattle.std.specs.FinMap.Entries.find Rattle.std.specs.Ordering.nat_cmp pid rs)) same ∙ at in
    let written = with_result me (pos v) 0 in
    ap (λ rs. buffer_of (Rattle.pv_model.specs.State.live_process (Rattle.std.specs.FinMap.Entries.find Rattle.std.specs.Ordering.nat_cmp pid rs)))
    (processes-collect (update after pid (λ p. with_result p (pos v) 0)) ∙ ap (λ (x : State). x.processes) (update-is after pid (λ p. with_result p (pos v) 0) me there))
    ∙ ap buffer_of (process_at-same after pid written)
preserved-by s t pid me at (done walks (after, returns_bytes v bytes)) same = λ n is. cc is
preserved-by s t pid me at (done walks (after, ends status)) same = λ n is. cc is
preserved-by s t pid me at (done walks (after, waits)) same = λ n is. cc is
preserved-by s t pid me at (refused walks errno cause) same = λ n is. cc is

pub write-keeps : (program_of : Bytes → Option Program) (s : State) (pid : ℕ) (p : Process) (d n : ℤ) → process_at s pid ≡ Some p → KeepsBuffer pid p.buffer (answer program_of s pid (Write d n))
unfolding effect
write-keeps program_of s pid p d n at =
    by_answer (KeepsBuffer pid p.buffer) program_of s pid (Write d n) (λ none k is. cc is)
    (λ me is missing. subst (λ (b : Bytes). KeepsBuffer pid b (answer_by_attempt s (at_call s pid me) pid (at_next_line me) (effect program_of (at_call s pid me) pid (at_next_line me) (Write d n))))
    (ap (λ o. buffer_of o) (sym is ∙ at))
    (preserved-by s (at_call s pid me) pid (at_next_line me) (process_at-same s pid (at_next_line me)) (write (at_call s pid me) pid (at_next_line me) d n) (write-leads (at_call s pid me) pid (at_next_line me) d n)))
    (λ me promise is missing lenient k no. cc no) (λ me promise is missing lenient k no. cc no)
