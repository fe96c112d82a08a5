-- The outcomes of an execve that has a program to load.
use Rattle.std.proofs.Common.{◌≡◌, ℕ, inl, inr, Option, None, Some, refl, sym, subst}
use Rattle.pv_calls.specs.Loading.{IsOfLoading, LoadsProgram}
use Rattle.pv_calls.proofs.ExecveSteps.{execve-next}
use Rattle.pv_model.specs.declared.call.Call.{Call}
use Rattle.pv_model.specs.declared.call.Call.TheVariants.{Execve}
use Rattle.pv_model.specs.declared.errno.Errno.TheVariants.{ENOENT, EACCES, ENOEXEC}
use Rattle.pv_model.specs.declared.outcome.Cause.TheVariants.{Plain}
use Rattle.pv_model.specs.declared.place.Place.{Place}
use Rattle.pv_model.specs.Machine.{answer, answer_by_attempt, at_next_line, effect, Attempt, done, refused, after_walks, demand, ◌>>=◌, ◌>>◌, Bytes, execve, executable_bytes, with_program, Effect, returns, returns_bytes, ends, waits, answers, node_of, walk, judge, program_of, Program, Process, State, with_process, Tree, node_at, execve_walk}
use Rattle.pv_calls_path.specs.Execve.{LeadsToProgram}

-- the attempt is not refused
abbrev IsDone : {A : Type 0} → Attempt A → Type 0
IsDone (done walks value) = Unit {0}
IsDone (refused walks errno cause) = ⊥

done-after : {A : Type 0} (n : ℕ) (a : Attempt A) → IsDone (after_walks n a) → IsDone a
done-after n (done walks value) is = tt
done-after n (refused walks errno cause) is = is

-- the attempt answers 0, or is refused with ENOEXEC
abbrev IsLoaded : Attempt Effect → Type 0
IsLoaded (done walks effect) = effect.1 ≡ returns 0
IsLoaded (refused walks errno cause) = (errno ≡ ENOEXEC) × (cause ≡ Plain)

loaded-after : (n : ℕ) (a : Attempt Effect) → IsLoaded a → IsLoaded (after_walks n a)
loaded-after n (done walks effect) is = is
loaded-after n (refused walks errno cause) is = is

loaded-program : (put : Program → State) (o : Option Program) → IsLoaded (demand ENOEXEC o >>= (λ p. answers (put p) 0))
loaded-program put None = (refl, refl)
loaded-program put (Some p) = refl

module _ (t : Tree) (rest : Bytes → Attempt Effect) (loads : (bytes : Bytes) → IsLoaded (rest bytes)) where
  by-bytes : (o : Option Bytes) → IsDone (demand EACCES o) → IsLoaded (demand EACCES o >>= rest)
  by-bytes None is = absurd is
  by-bytes (Some bytes) is = loaded-after 0 (rest bytes) (loads bytes)

  by-node : (o : Option ℕ) → IsDone (demand ENOENT o >>= (λ n. demand EACCES (executable_bytes (node_at t n))))
      → IsLoaded (demand ENOENT o >>= (λ n. demand EACCES (executable_bytes (node_at t n)) >>= rest))
  by-node None is = absurd is
  by-node (Some n) is =
      loaded-after 0 (demand EACCES (executable_bytes (node_at t n)) >>= rest)
      (by-bytes (executable_bytes (node_at t n)) (done-after 0 (demand EACCES (executable_bytes (node_at t n))) is))

  by-judged : (judged : Attempt (Unit {0})) (read : Attempt Bytes) (next : Attempt Effect) → IsDone (judged >> read) → (IsDone read → IsLoaded next) → IsLoaded (judged >> next)
  by-judged (done walks value) read next is then' = loaded-after walks next (then' (done-after walks read is))
  by-judged (refused walks errno cause) read next is then' = absurd is

  by-walk : (walked : Attempt Place) (judged : Place → Attempt (Unit {0}))
      → IsDone (walked >>= (λ place. judged place >> (demand ENOENT (node_of place) >>= (λ n. demand EACCES (executable_bytes (node_at t n))))))
      → IsLoaded (walked >>= (λ place. judged place >> (demand ENOENT (node_of place) >>= (λ n. demand EACCES (executable_bytes (node_at t n)) >>= rest))))
  by-walk (done walks place) judged is =
      let read = demand ENOENT (node_of place) >>= (λ n. demand EACCES (executable_bytes (node_at t n))) in
      let next = demand ENOENT (node_of place) >>= (λ n. demand EACCES (executable_bytes (node_at t n)) >>= rest) in
      loaded-after walks (judged place >> next) (by-judged (judged place) read next (done-after walks (judged place >> read) is) (by-node (node_of place)))
  by-walk (refused walks errno cause) judged is = absurd is

leads-loaded : (s : State) (pid : ℕ) (me : Process) (path : Bytes) → LeadsToProgram s me path → IsLoaded (execve s pid me program_of path)
leads-loaded s pid me path (bytes, leads) =
    by-walk s.tree (λ bytes. demand ENOEXEC (program_of bytes) >>= (λ p. answers (with_process s pid (with_program s pid me p)) 0))
    (λ bytes. loaded-program (λ p. with_process s pid (with_program s pid me p)) (program_of bytes))
    (walk s me (execve_walk path)) (judge s me (execve_walk path)) (subst IsDone (sym leads) tt)

loaded-outcome : (before s : State) (pid : ℕ) (me : Process) (a : Attempt Effect) → IsLoaded a → IsOfLoading (answer_by_attempt before s pid me a).outcome
loaded-outcome before s pid me (done walks (after, returns n)) is = inl cc
loaded-outcome before s pid me (done walks (after, returns_bytes n bytes)) is = absurd cc
loaded-outcome before s pid me (done walks (after, ends status)) is = absurd cc
loaded-outcome before s pid me (done walks (after, waits)) is = absurd cc
loaded-outcome before s pid me (refused walks errno cause) is = inr (rw (is.0, is.1) refl)

-- the call answers 0 or ENOEXEC
pub loading-answer : (s : State) (pid : ℕ) (call : Call) → LoadsProgram s pid call → IsOfLoading (answer program_of s pid call).outcome
unfolding answer effect
loading-answer s pid (Execve path) it =
    let next = with_process s pid (at_next_line it.me) in
    rw (it.lives, it.promised)
    (loaded-outcome s next pid (at_next_line it.me) (execve next pid (at_next_line it.me) program_of path)
    (subst IsLoaded (sym (execve-next s pid it.me path)) (leads-loaded s pid it.me path it.loads)))
loading-answer s pid call it = absurd it.loads
