-- The answers of a live process's call that the promises allow.
use Rattle.std.specs.Prelude.{◌≡◌, ◌≢◌, ⊤, ℕ, Bool, true, false, Some}
use Rattle.pv_calls_path.specs.OfCallsPlain.declared.answer.Answer.{Answer}
use Rattle.pv_calls_path.specs.OfCallsPlain.Performed.{IsAnswered, IsPerformed, answered}
use Rattle.pv_calls.specs.declared.calls.Reply.{Reply}
use Rattle.pv_calls.specs.declared.calls.Reply.TheVariants.{Performed, Reported}
use Rattle.pv_model.specs.declared.call.Call.{Call}
use Rattle.pv_model.specs.declared.call.Call.TheVariants.{Wait, Execve}
use Rattle.pv_model.specs.Machine.{answer_by_attempt, at_next_line, effect, Attempt, give, wait, Effect, waits, program_of, Process, State, process_at, with_process}

abbrev pub is_execve : Call → Bool
is_execve (Execve path) = true
is_execve call = false

-- ---- replies

-- the call of a live process has this reply and leaves this state
abbrev pub IsReply : (State → Process → Attempt Effect) → State → ℕ → State → Reply → Type 0
IsReply performed old pid new (Performed result) = IsPerformed performed old pid new result
IsReply performed old pid new (Reported answer) = IsAnswered performed old pid new answer

-- ---- waits

-- if the call is a wait(2), it does not block
abbrev pub DoesNotBlock : State → ℕ → Call → Type 0
DoesNotBlock s pid Wait = (me : Process) → process_at s pid ≡ Some me → wait s pid me ≢ give (s, waits)
DoesNotBlock s pid call = ⊤

-- the call is a wait(2) that blocks
abbrev pub IsBlocked : State → ℕ → Call → Type 0
IsBlocked s pid Wait = (me : Process) → process_at s pid ≡ Some me → wait s pid me ≡ give (s, waits)
IsBlocked s pid call = ⊥

-- the process moves to its next line, and the system call then has this answer
abbrev pub IsCarriedOut : State → ℕ → Call → State → Answer → Type 0
IsCarriedOut s pid call new a =
    (me : Process) → process_at s pid ≡ Some me
    → answer_by_attempt s (with_process s pid (at_next_line me)) pid (at_next_line me) (effect program_of (with_process s pid (at_next_line me)) pid (at_next_line me) call)
    ≡ answered new a
