-- An execve that is made before its process moves to the next line.
use Rattle.std.proofs.Common.{◌≡◌, ap, refl, ℕ, Option, None, Some}
use Rattle.pv_model.specs.declared.errno.Errno.TheVariants.{ENOENT, EACCES, ENOEXEC}
use Rattle.pv_model.specs.declared.place.Place.{Place}
use Rattle.pv_model.specs.Machine.{at_next_line, Attempt, done, refused, after_walks, demand, ◌>>=◌, ◌>>◌, Bytes, execve, executable_bytes, with_program, answers, node_of, walk, judge, program_of, Program, Process, State, with_process, Tree, node_at, execve_walk}
use Rattle.pv_laws_states.proofs.Processes.{with_process-twice}

module _ (put other : Program → State) (same : (p : Program) → put p ≡ other p) (t : Tree) where
  by-program : (o : Option Program) → (demand ENOEXEC o >>= (λ p. answers (put p) 0)) ≡ (demand ENOEXEC o >>= (λ p. answers (other p) 0))
  by-program None = refl
  by-program (Some p) = ap (λ s. after_walks 0 (answers s 0)) (same p)

  by-bytes : (o : Option Bytes) → (demand EACCES o >>= (λ bytes. demand ENOEXEC (program_of bytes) >>= (λ p. answers (put p) 0)))
      ≡ (demand EACCES o >>= (λ bytes. demand ENOEXEC (program_of bytes) >>= (λ p. answers (other p) 0)))
  by-bytes None = refl
  by-bytes (Some bytes) = ap (λ a. after_walks 0 a) (by-program (program_of bytes))

  by-node : (o : Option ℕ) → (demand ENOENT o >>= (λ n. demand EACCES (executable_bytes (node_at t n)) >>= (λ bytes. demand ENOEXEC (program_of bytes) >>= (λ p. answers (put p) 0))))
      ≡ (demand ENOENT o >>= (λ n. demand EACCES (executable_bytes (node_at t n)) >>= (λ bytes. demand ENOEXEC (program_of bytes) >>= (λ p. answers (other p) 0))))
  by-node None = refl
  by-node (Some n) = ap (λ a. after_walks 0 a) (by-bytes (executable_bytes (node_at t n)))

  by-walk : (walked : Attempt Place) (judged : Place → Attempt (Unit {0}))
      → (walked >>= (λ place. judged place >> (demand ENOENT (node_of place) >>= (λ n. demand EACCES (executable_bytes (node_at t n)) >>= (λ bytes. demand ENOEXEC (program_of bytes) >>= (λ p. answers (put p) 0))))))
      ≡ (walked >>= (λ place. judged place >> (demand ENOENT (node_of place) >>= (λ n. demand EACCES (executable_bytes (node_at t n)) >>= (λ bytes. demand ENOEXEC (program_of bytes) >>= (λ p. answers (other p) 0))))))
  by-walk (done walks place) judged = ap (λ a. after_walks walks (judged place >> a)) (by-node (node_of place))
  by-walk (refused walks errno cause) judged = refl

-- the result from the next line is the same
pub execve-next : (s : State) (pid : ℕ) (me : Process) (path : Bytes)
    → execve (with_process s pid (at_next_line me)) pid (at_next_line me) program_of path ≡ execve s pid me program_of path
execve-next s pid me path =
    by-walk (λ p. with_process (with_process s pid (at_next_line me)) pid (with_program s pid me p)) (λ p. with_process s pid (with_program s pid me p))
    (λ p. with_process-twice s pid (at_next_line me) (with_program s pid me p)) s.tree (walk s me (execve_walk path)) (judge s me (execve_walk path))
