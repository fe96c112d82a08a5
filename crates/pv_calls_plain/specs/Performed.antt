-- The result of a system call in code, and its report to the process.
use Rattle.std.specs.Prelude.{◌≡◌, ◌≤◌, ℕ, ℤ, length, IfOk, OnErr, Some, Result, Ok, Err}
use Rattle.pv_model.specs.declared.limits.TheConstants.{NUMBER}
use Rattle.pv_model.specs.Machine.{Answered, answer_by_attempt, update, with_front, Attempt, done, refused, Bytes, Effect, returns, returns_bytes, open_file, at_number, OpenFile, Process, State, process_at}
use Rattle.pv_calls_state.specs.Attempts.{collected_attempt}
use Rattle.pv_calls_plain.specs.declared.answer.Answer.{Answer}
use Rattle.pv_calls_plain.specs.declared.answer.Done.{Done}
use Rattle.pv_calls_plain.specs.declared.answer.Refused.{Refused}

-- the attempt of the definitions that ends in state s
abbrev pub attempt_of : State → Result Done Refused → Attempt Effect
attempt_of s (Ok d) = done d.walks (s, returns d.value)
attempt_of s (Err r) = refused r.walks r.errno r.cause

-- the answer of a call, with the state after it
abbrev pub answered : State → Answer → Answered
answered s a = record { after = s; outcome = a.outcome; walks = a.walks }

-- a system call of a live process has this answer and leaves this state
abbrev pub IsAnswered : (State → Process → Attempt Effect) → State → ℕ → State → Answer → Type 0
IsAnswered performed old pid new answer =
    (before : State) (me : Process) → process_at old pid ≡ Some me → answer_by_attempt before old pid me (performed old me) ≡ answered new answer

-- a system call of a live process has this result and leaves this state: it is the attempt of the definitions with
-- unreferenced nodes collected, a refusal changes nothing, and the value fits a register
pub record IsPerformed (performed : State → Process → Attempt Effect) (old : State) (pid : ℕ) (new : State) (result : Result Done Refused) : Type 0 where
  pub as_defined : (me : Process) → process_at old pid ≡ Some me → collected_attempt (performed old me) ≡ attempt_of new result
  pub unchanged : OnErr result (new ≡ old)
  pub small : IfOk result (λ d. d.value ≤ NUMBER)

-- descriptor d refers to open file k
pub record IsOn (s : State) (me : Process) (d : ℤ) (k : ℕ) : Type 0 where
  pub file : OpenFile
  pub opened : open_file s me d ≡ Some (k, file)
  pub there : at_number s.files k ≡ Some file

-- a system call gave `count` bytes, which are already at the front of the process's buffer
pub record GivesFront (performed : Attempt Effect) (pid count : ℕ) (new : State) : Type 0 where
  pub after : State
  pub bytes : Bytes
  pub long : count ≡ length bytes
  pub gives : performed ≡ done 0 (after, returns_bytes count bytes)
  pub front : new ≡ update after pid (with_front bytes)
