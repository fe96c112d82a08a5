-- The outcomes of calls.
use Rattle.std.proofs.Common.{◌≡◌, ℕ, suc, pos, negsuc, Bool, true, false, cond, ◌||◌, IsTrue, IsFalse, nat_le, nat_lt, List, ◌++◌, Option, None, Some, length, refl, ap, ◌∙◌, sym, arith}
use Rattle.std.specs.FinMap.Entries.{find}
use Rattle.std.specs.Ordering.{nat_cmp}
use Rattle.std.proofs.lemmas.Bool.{or_parts, ltb-false, le-leb}
use Rattle.pv_model.specs.declared.call.Call.{Call}
use Rattle.pv_model.specs.declared.call.Call.TheVariants.{Exit, GetPid, GetPpid, Fork, Wait, Pledge, Unveil, Execve, Open, OpenAt, Close, Dup, Dup2, Read, Write, Lseek, Fstat, Ftruncate, Getdents, Fchdir, Chdir, Stat, Lstat, Readlink, Mkdir, Symlink, Link, Unlink, Rmdir, Rename}
use Rattle.pv_model.specs.declared.errno.Errno.{Errno}
use Rattle.pv_model.specs.declared.errno.Errno.TheVariants.{ENOSYS, EAGAIN}
use Rattle.pv_model.specs.declared.open_flags.Mode.{Mode}
use Rattle.pv_model.specs.declared.open_flags.Mode.TheVariants.{Read as ReadMode, Write as WriteMode, ReadWrite}
use Rattle.pv_model.specs.declared.outcome.Cause.{Cause}
use Rattle.pv_model.specs.declared.outcome.Cause.TheVariants.{Promise as ByPromise}
use Rattle.pv_model.specs.declared.outcome.Outcome.TheVariants.{Value, Failed, Killed, Blocked, Gone}
use Rattle.pv_model.specs.declared.promise.Promise.{Promise}
use Rattle.pv_model.specs.declared.promise.Promise.TheVariants.{Stdio, Rpath, Wpath, Cpath, Proc, Exec as ExecPromise, Unveil as UnveilPromise}
use Rattle.pv_model.specs.Machine.{Answered, answer, answer_of, answer_where, answer_by_attempt, at_next_line, effect, Attempt, done, refused, ◌>>◌, refuse_if, Bytes, with_result, end_process, child, fork, Effect, answers, returns, returns_bytes, ends, waits, errno_number, collect, needs, needs_of_mode, Need, missing_promise, is_lenient, Program, Process, State, process_at, with_process}
use Rattle.pv_laws_states.specs.Calls.{reported_error, OnlyReports, SameRights, IsUnharmed, IsOfNoProcess, needs_nothing, IsNewNumber}
use Rattle.pv_laws_states.proofs.Processes.{find-put_other, process_at-same, update-with, last_process-update}

-- the caller at its next line
abbrev pub at_call : State → ℕ → Process → State
at_call s pid me = with_process s pid (at_next_line me)

-- a property of every answer
pub by_answer : (P : Answered → Type 0) (program_of : Bytes → Option Program) (s : State) (pid : ℕ) (call : Call)
    → (process_at s pid ≡ None → P (record { after = s; outcome = Gone; walks = 0 }))
    → ((me : Process) → process_at s pid ≡ Some me → missing_promise me.promises (needs call) ≡ None
    → P (answer_by_attempt s (at_call s pid me) pid (at_next_line me) (effect program_of (at_call s pid me) pid (at_next_line me) call)))
    → ((me : Process) (p : Promise) → process_at s pid ≡ Some me → missing_promise me.promises (needs call) ≡ Some p → is_lenient me.promises ≡ true
    → P (answer_by_attempt s (at_call s pid me) pid (at_next_line me) (refused 0 ENOSYS (ByPromise p))))
    → ((me : Process) (p : Promise) → process_at s pid ≡ Some me → missing_promise me.promises (needs call) ≡ Some p → is_lenient me.promises ≡ false
    → P (record { after = collect (end_process s pid (at_next_line me) 6); outcome = Killed p; walks = 0 }))
    → P (answer program_of s pid call)
unfolding answer
by_answer P program_of s pid call gone does reported killed = at (process_at s pid) refl
  where
    chosen : (me : Process) (p : Promise) → process_at s pid ≡ Some me → missing_promise me.promises (needs call) ≡ Some p → (b : Bool) → is_lenient me.promises ≡ b
        → P (cond b (answer_by_attempt s (at_call s pid me) pid (at_next_line me) (refused 0 ENOSYS (ByPromise p)))
        (record { after = collect (end_process s pid (at_next_line me) 6); outcome = Killed p; walks = 0 }))
    chosen me p is missing true lenient = reported me p is missing lenient
    chosen me p is missing false lenient = killed me p is missing lenient

    of : (me : Process) → process_at s pid ≡ Some me → (o : Option Promise) → missing_promise me.promises (needs call) ≡ o
        → P (answer_where program_of s (at_call s pid me) pid (at_next_line me) call o)
    of me is None missing = does me is missing
    of me is (Some p) missing = chosen me p is missing (is_lenient me.promises) refl

    at : (o : Option Process) → process_at s pid ≡ o → P (answer_of program_of s pid call o)
    at None is = gone is
    at (Some me) is = of me is (missing_promise me.promises (needs call)) refl

-- ---- refusals

reported_by : (s : State) (pid : ℕ) (me : Process) (a : Attempt Effect) (e : Errno) (c : Cause) → process_at s pid ≡ Some me
    → (answer_by_attempt s (at_call s pid me) pid (at_next_line me) a).outcome ≡ Failed e c
    → OnlyReports s pid e (answer_by_attempt s (at_call s pid me) pid (at_next_line me) a).after
reported_by s pid me (done walks (after, returns n)) e c at is = cc
reported_by s pid me (done walks (after, returns_bytes n bytes)) e c at is = cc
reported_by s pid me (done walks (after, ends status)) e c at is = cc
reported_by s pid me (done walks (after, waits)) e c at is = cc
reported_by s pid me (refused walks errno cause) e c at is =
    let same : errno ≡ e = cc is in
    (me, at, update-with s pid (λ p. with_result p (negsuc 0) (errno_number errno)) (at_next_line me) ∙ ap (λ x. with_process s pid (reported_error me x)) same)

pub refused-reports : (program_of : Bytes → Option Program) (s : State) (pid : ℕ) (call : Call) (e : Errno) (c : Cause)
    → (answer program_of s pid call).outcome ≡ Failed e c → OnlyReports s pid e (answer program_of s pid call).after
refused-reports program_of s pid call e c =
    by_answer (λ a. a.outcome ≡ Failed e c → OnlyReports s pid e a.after) program_of s pid call
    (λ none is. cc)
    (λ me at missing is. reported_by s pid me (effect program_of (at_call s pid me) pid (at_next_line me) call) e c at is)
    (λ me p at missing lenient is. reported_by s pid me (refused 0 ENOSYS (ByPromise p)) e c at is)
    (λ me p at missing lenient is. cc)

same_rights : (p : Process) (e : Errno) → SameRights p (reported_error p e)
same_rights p e = record {
  promises = refl;
  execpromises = refl;
  table = refl;
  locked = refl;
  directory = refl;
  descriptors = refl;
  program = refl;
  buffer = refl;
  parent = refl;
}

unharmed : (s : State) (pid : ℕ) (e : Errno) (after : State) → OnlyReports s pid e after → IsUnharmed s pid after
unharmed s pid e after reported = record {
  tree = ap (λ s. s.tree) reported.2;
  files = ap (λ s. s.files) reported.2;
  last_process = ap (λ s. s.last_process) reported.2;
  others = λ q other. ap (λ s. find nat_cmp q s.processes) reported.2 ∙ find-put_other q pid _ s.processes other;
  caller = λ p is.
      let same : reported.0 ≡ p = cc in
      (reported_error p e, ap (λ s. process_at s pid) reported.2 ∙ process_at-same s pid (reported_error reported.0 e) ∙ ap (λ x. Some (reported_error x e)) same, same_rights p e);
}

pub refused-unharmed : (program_of : Bytes → Option Program) (s : State) (pid : ℕ) (call : Call) (e : Errno) (c : Cause)
    → (answer program_of s pid call).outcome ≡ Failed e c → IsUnharmed s pid (answer program_of s pid call).after
refused-unharmed program_of s pid call e c is = unharmed s pid e (answer program_of s pid call).after (refused-reports program_of s pid call e c is)

-- ---- calls that wait, and processes that are not live

blocked_by : (s t : State) (pid : ℕ) (me : Process) (a : Attempt Effect) → (answer_by_attempt s t pid me a).outcome ≡ Blocked → (answer_by_attempt s t pid me a).after ≡ s
blocked_by s t pid me (done walks (after, returns n)) is = cc
blocked_by s t pid me (done walks (after, returns_bytes n bytes)) is = cc
blocked_by s t pid me (done walks (after, ends status)) is = cc
blocked_by s t pid me (done walks (after, waits)) is = refl
blocked_by s t pid me (refused walks errno cause) is = cc

pub blocked-leaves : (program_of : Bytes → Option Program) (s : State) (pid : ℕ) (call : Call)
    → (answer program_of s pid call).outcome ≡ Blocked → (answer program_of s pid call).after ≡ s
blocked-leaves program_of s pid call =
    by_answer (λ a. a.outcome ≡ Blocked → a.after ≡ s) program_of s pid call
    (λ none is. cc)
    (λ me at missing is. blocked_by s (at_call s pid me) pid (at_next_line me) (effect program_of (at_call s pid me) pid (at_next_line me) call) is)
    (λ me p at missing lenient is. cc)
    (λ me p at missing lenient is. cc)

not_gone : {P : Type 0} (s t : State) (pid : ℕ) (me : Process) (a : Attempt Effect) → (answer_by_attempt s t pid me a).outcome ≡ Gone → P
not_gone s t pid me (done walks (after, returns n)) is = cc
not_gone s t pid me (done walks (after, returns_bytes n bytes)) is = cc
not_gone s t pid me (done walks (after, ends status)) is = cc
not_gone s t pid me (done walks (after, waits)) is = cc
not_gone s t pid me (refused walks errno cause) is = cc

pub gone-leaves : (program_of : Bytes → Option Program) (s : State) (pid : ℕ) (call : Call)
    → (answer program_of s pid call).outcome ≡ Gone → IsOfNoProcess s pid (answer program_of s pid call)
gone-leaves program_of s pid call =
    by_answer (λ a. a.outcome ≡ Gone → IsOfNoProcess s pid a) program_of s pid call
    (λ none is. record { not_live = none; leaves = refl; no_walks = refl })
    (λ me at missing is. not_gone s (at_call s pid me) pid (at_next_line me) (effect program_of (at_call s pid me) pid (at_next_line me) call) is)
    (λ me p at missing lenient is. cc)
    (λ me p at missing lenient is. cc)

-- ---- calls that need no promise

pub answered-always : (held : Option Rattle.pv_model.specs.Promises.Promises) (call : Call) → IsTrue (needs_nothing call) → missing_promise held (needs call) ≡ None
unfolding needs
answered-always held (Exit status) is = refl
answered-always held (Pledge promises execpromises) is = refl
answered-always held call is = cc

lacks_of_mode : (m : Mode) (rest : List Need) → (p : Promise) × (missing_promise (Some 0) (needs_of_mode m ++ rest) ≡ Some p)
lacks_of_mode ReadMode rest = (Rpath, refl)
lacks_of_mode WriteMode rest = (Wpath, refl)
lacks_of_mode ReadWrite rest = (Rpath, refl)

-- each other call lacks a promise under the empty set
pub lacks : (call : Call) → IsFalse (needs_nothing call) → (p : Promise) × (missing_promise (Some 0) (needs call) ≡ Some p)
unfolding needs
lacks (Exit status) other = cc
lacks (Pledge promises execpromises) other = cc
lacks (Fork) other = (Proc, refl)
lacks (Execve path) other = (ExecPromise, refl)
lacks (Unveil path permissions) other = (UnveilPromise, refl)
lacks (Open path flags) other = lacks_of_mode flags.mode _
lacks (OpenAt start path flags) other = lacks_of_mode flags.mode _
lacks (Chdir path) other = (Rpath, refl)
lacks (Stat path) other = (Rpath, refl)
lacks (Lstat path) other = (Rpath, refl)
lacks (Readlink path) other = (Rpath, refl)
lacks (Mkdir path) other = (Cpath, refl)
lacks (Symlink text path) other = (Cpath, refl)
lacks (Link path new) other = (Cpath, refl)
lacks (Unlink path) other = (Cpath, refl)
lacks (Rmdir path) other = (Cpath, refl)
lacks (Rename path new) other = (Cpath, refl)
lacks (GetPid) other = (Stdio, refl)
lacks (GetPpid) other = (Stdio, refl)
lacks (Wait) other = (Stdio, refl)
lacks (Close d) other = (Stdio, refl)
lacks (Dup d) other = (Stdio, refl)
lacks (Dup2 d e) other = (Stdio, refl)
lacks (Read d n) other = (Stdio, refl)
lacks (Write d n) other = (Stdio, refl)
lacks (Lseek d by whence) other = (Stdio, refl)
lacks (Fstat d) other = (Stdio, refl)
lacks (Ftruncate d n) other = (Stdio, refl)
lacks (Getdents d) other = (Stdio, refl)
lacks (Fchdir d) other = (Stdio, refl)

pub others-kill : (program_of : Bytes → Option Program) (s : State) (pid : ℕ) (p : Process) (call : Call)
    → process_at s pid ≡ Some p → p.promises ≡ Some 0 → IsFalse (needs_nothing call) → (missing : Promise) × ((answer program_of s pid call).outcome ≡ Killed missing)
others-kill program_of s pid p call at empty other =
    let lack = lacks call other in
    let has : (me : Process) → process_at s pid ≡ Some me → me.promises ≡ Some 0 = λ me is. let same : me ≡ p = cc in ap (λ q. q.promises) same ∙ empty in
    by_answer (λ a. (missing : Promise) × (a.outcome ≡ Killed missing)) program_of s pid call
    (λ none. cc)
    (λ me is missing. let found : missing_promise me.promises (needs call) ≡ Some lack.0 = ap (λ held. missing_promise held (needs call)) (has me is) ∙ lack.1 in cc)
    (λ me q is missing lenient. let strict : is_lenient me.promises ≡ false = ap is_lenient (has me is) in cc)
    (λ me q is missing lenient. (q, refl))

-- ---- process numbers

number_of : (s : State) (pid : ℕ) (me : Process) (before : State) (n : ℕ)
    → (answer_by_attempt before s pid me (fork s pid me)).outcome ≡ Value n → IsNewNumber s n (answer_by_attempt before s pid me (fork s pid me)).after
unfolding collect
number_of s pid me before n = by (nat_le 32 (length s.processes) || nat_lt 99999 (suc s.last_process)) refl
  where
    by : (b : Bool) → (nat_le 32 (length s.processes) || nat_lt 99999 (suc s.last_process)) ≡ b
        → (answer_by_attempt before s pid me (refuse_if EAGAIN b >> answers (record (with_process s (suc s.last_process) (child s pid me)) { last_process = suc s.last_process }) (suc s.last_process))).outcome ≡ Value n
        → IsNewNumber s n (answer_by_attempt before s pid me (refuse_if EAGAIN b >> answers (record (with_process s (suc s.last_process) (child s pid me)) { last_process = suc s.last_process }) (suc s.last_process))).after
    by true test is = cc
    by false test is =
        let now : State = record (with_process s (suc s.last_process) (child s pid me)) { last_process = suc s.last_process } in
        let same : suc s.last_process ≡ n = cc is in
        let few : nat_lt 99999 (suc s.last_process) ≡ false = (or_parts (nat_le 32 (length s.processes)) (nat_lt 99999 (suc s.last_process)) test).1 in
        record {
          next = sym same;
          preserved = last_process-update now pid (λ p. with_result p (pos (suc s.last_process)) 0) ∙ same;
          within = le-leb n 99999 (omega (arith, ltb-false 99999 (suc s.last_process) few));
        }

pub next-number : (program_of : Bytes → Option Program) (s : State) (pid n : ℕ)
    → (answer program_of s pid Fork).outcome ≡ Value n → IsNewNumber s n (answer program_of s pid Fork).after
unfolding effect
next-number program_of s pid n =
    by_answer (λ a. a.outcome ≡ Value n → IsNewNumber s n a.after) program_of s pid Fork
    (λ none is. cc)
    (λ me at missing is. let new = number_of (at_call s pid me) pid (at_next_line me) s n is in record { next = new.next; preserved = new.preserved; within = new.within })
    (λ me p at missing lenient is. cc)
    (λ me p at missing lenient is. cc)
