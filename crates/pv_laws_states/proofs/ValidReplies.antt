-- A call leaves a valid state if its effect is valid.
use Rattle.std.proofs.Common.{◌≡◌, ℕ, ◌≤◌, ℤ, pos, negsuc, true, length, Option, Some, refl, ap, sym, subst, ◌∙◌, arith}
use Rattle.pv_model.specs.declared.call.Call.{Call}
use Rattle.pv_model.specs.declared.errno.Errno.TheVariants.{ENOSYS}
use Rattle.pv_model.specs.declared.outcome.Cause.TheVariants.{Promise as ByPromise}
use Rattle.pv_model.specs.Machine.{answer, answer_by_attempt, at_next_line, with_front, update, effect, Attempt, done, refused, Bytes, with_result, end_process, Effect, returns, returns_bytes, ends, waits, errno_number, collect, fits, is_too_long, Program, Process, State, process_at}
use Rattle.pv_laws_states.specs.Calls.{reported_error}
use Rattle.pv_laws_states.specs.States.{are_bytes, IsValid}
use Rattle.pv_laws_states.proofs.AttemptValues.{Leads}
use Rattle.pv_laws_states.proofs.ValidEnds.{solid-end, tree-end}
use Rattle.pv_laws_states.proofs.CallOutcomes.{at_call, by_answer}
use Rattle.pv_laws_states.proofs.Processes.{update-with, process_at-same}
use Rattle.pv_laws_states.proofs.ProcessInsides.{word, errno-word, running-result, running-front, running-next, SameHolds, valid-inside, IsReady, ready-update}
use Rattle.pv_laws_states.proofs.ValidStates.{has_room, collect-valid, solid}

-- a valid effect in a state
abbrev pub IsEffect : State → Effect → Type 0
IsEffect s (after, returns n) = IsReady after × (n ≤ 2147483647)
IsEffect s (after, returns_bytes n bytes) = IsReady after × (n ≤ 2147483647) × (length bytes ≤ 4096) × (are_bytes bytes ≡ true)
IsEffect s (after, ends status) = (after ≡ s) × (status ≤ 65535)
IsEffect s (after, waits) = Unit {0}

pub valid-collect : (s : State) → IsReady s → IsValid (collect s)
valid-collect s ready = collect-valid s ready.solid ready.room

-- the references of a process stay when it receives a result
same_result : (p : Process) (value : ℤ) (error : ℕ) → SameHolds p (with_result p value error)
same_result p value error = record { directory = refl; table = refl; descriptors = refl; parent = refl }

same_next : (p : Process) → SameHolds p (at_next_line p)
same_next p = record { directory = refl; table = refl; descriptors = refl; parent = refl }

pub valid-at_call : (s : State) (pid : ℕ) (me : Process) → IsValid s → process_at s pid ≡ Some me → IsValid (at_call s pid me)
valid-at_call s pid me whole at = valid-inside s pid me (at_next_line me) whole at (same_next me) (running-next me (whole.processes.running pid me at))

-- the end of a process
valid-end : (s : State) (pid : ℕ) (p me : Process) (status : ℕ) → IsValid s → process_at s pid ≡ Some p → me.parent ≡ p.parent → status ≤ 65535 → IsValid (collect (end_process s pid me status))
valid-end s pid p me status whole at same low =
    collect-valid (end_process s pid me status) (solid-end s (solid s whole) pid p me at same status low)
    (has_room (end_process s pid me status) (ap fits (tree-end s pid me status) ∙ whole.fits) (ap is_too_long (tree-end s pid me status) ∙ whole.not_too_long))

pub valid-attempt : (s : State) (pid : ℕ) (me : Process) (a : Attempt Effect) → IsValid s → process_at s pid ≡ Some me → Leads (IsEffect (at_call s pid me)) a
    → IsValid (answer_by_attempt s (at_call s pid me) pid (at_next_line me) a).after
valid-attempt s pid me (done walks (after, returns n)) whole at good =
    valid-collect (update after pid (λ p. with_result p (pos n) 0))
    (ready-update after pid (λ p. with_result p (pos n) 0) good.0 (λ p. same_result p (pos n) 0) (λ p is. running-result p (pos n) 0 (word n good.1) refl is))
valid-attempt s pid me (done walks (after, returns_bytes n bytes)) whole at good =
    valid-collect (update after pid (λ p. with_front bytes (with_result p (pos n) 0)))
    (ready-update after pid (λ p. with_front bytes (with_result p (pos n) 0)) good.0
    (λ p. record { directory = refl; table = refl; descriptors = refl; parent = refl })
    (λ p is. running-front (with_result p (pos n) 0) bytes good.2 good.3 (running-result p (pos n) 0 (word n good.1) refl is)))
valid-attempt s pid me (done walks (after, ends status)) whole at good =
    let now : State = at_call s pid me in
    subst (λ x. IsValid (collect (end_process x pid (at_next_line me) status))) (sym good.0)
    (valid-end now pid (at_next_line me) (at_next_line me) status (valid-at_call s pid me whole at) (process_at-same s pid (at_next_line me)) refl good.1)
valid-attempt s pid me (done walks (after, waits)) whole at good = whole
valid-attempt s pid me (refused walks errno cause) whole at good =
    subst IsValid (sym (update-with s pid (λ p. with_result p (negsuc 0) (errno_number errno)) (at_next_line me)))
    (valid-inside s pid me (reported_error me errno) whole at (record { directory = refl; table = refl; descriptors = refl; parent = refl })
    (running-result (at_next_line me) (negsuc 0) (errno_number errno) refl (errno-word errno) (running-next me (whole.processes.running pid me at))))

-- a call with a valid effect preserves validity
pub valid-answer : (program_of : Bytes → Option Program) (s : State) (pid : ℕ) (call : Call) → IsValid s
    → ((x : State) (me : Process) → IsValid x → process_at x pid ≡ Some me → Leads (IsEffect x) (effect program_of x pid me call)) → IsValid (answer program_of s pid call).after
valid-answer program_of s pid call whole good =
    by_answer (λ a. IsValid a.after) program_of s pid call
    (λ none. whole)
    (λ me at missing. valid-attempt s pid me (effect program_of (at_call s pid me) pid (at_next_line me) call) whole at
    (good (at_call s pid me) (at_next_line me) (valid-at_call s pid me whole at) (process_at-same s pid (at_next_line me))))
    (λ me p at missing lenient. valid-attempt s pid me (refused 0 ENOSYS (ByPromise p)) whole at tt)
    (λ me p at missing lenient. valid-end s pid me (at_next_line me) 6 whole at refl (omega arith))
