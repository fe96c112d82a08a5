-- The number of bytes that a call gives, if their meaning has a fixed size.
use Rattle.std.proofs.Common.{◌≡◌, ◌⊎◌, inl, inr, ℕ, ℤ, List, [], ◌∷◌, length, Option, None, Some, refl, ap, subst}
use Rattle.pv_model.specs.declared.call.Call.{Call}
use Rattle.pv_model.specs.declared.call.Call.TheVariants.{Wait, Fstat, Stat, Lstat}
use Rattle.pv_model.specs.declared.errno.Errno.TheVariants.{EBADF, ECHILD, ENOENT}
use Rattle.pv_model.specs.declared.follow.Follow.{Follow}
use Rattle.pv_model.specs.declared.follow.Follow.TheVariants.{Last, Keep}
use Rattle.pv_model.specs.declared.outcome.Outcome.TheVariants.{Text}
use Rattle.pv_model.specs.declared.outcome.Taken.{Taken}
use Rattle.pv_model.specs.Machine.{Answered, answer, answer_by_attempt, effect, Attempt, done, refused, refuse_if, Bytes, is_empty, stat_at, fstat, children, reap, statuses, wait, Effect, returns, returns_bytes, ends, waits, answers_bytes, node_of, open_file, status, permission_r, Program, Process, State, Node, node_at, from_here}
use Rattle.pv_model.specs.Effect.{status_of}
use Rattle.pv_laws_states.proofs.AttemptValues.{Leads, leads-demand, leads-place, leads-then}
use Rattle.pv_laws_states.proofs.CallOutcomes.{at_call, by_answer}
use Rattle.pv_laws_states.proofs.CallRemainders

-- the number of bytes of a reply satisfies the predicate
abbrev Gives : (ℕ → Type 0) → Effect → Type 0
Gives P (after, returns n) = Unit {0}
Gives P (after, returns_bytes n bytes) = P (length bytes)
Gives P (after, ends status) = Unit {0}
Gives P (after, waits) = Unit {0}

abbrev Takes : (ℕ → Type 0) → Answered → Type 0
Takes P a = (taken : Taken) → a.outcome ≡ Text taken → P taken.len

-- no bytes, or eight
abbrev IsStatus : ℕ → Type 0
IsStatus n = (n ≡ 0) ⊎ (n ≡ 8)

status-size : (n : ℕ) (o : Option Node) → IsStatus (length (status_of n o))
status-size n None = inl refl
status-size n (Some node) = inr refl

module _ (s : State) (pid : ℕ) (me : Process) where
  reap-size : (rs : List (ℕ × ℕ)) → Leads (Gives (λ n. n ≡ 4)) (reap s pid me rs)
  reap-size [] = tt
  reap-size ((number, left) ∷ rs) = refl

  wait-size : Leads (Gives (λ n. n ≡ 4)) (wait s pid me)
  wait-size = leads-then (Gives (λ n. n ≡ 4)) (refuse_if ECHILD (is_empty (children s pid me))) (reap s pid me (statuses (children s pid me))) (reap-size (statuses (children s pid me)))

  stat-size : (follow : Follow) (path : Bytes) → Leads (Gives IsStatus) (stat_at s pid me (from_here follow path permission_r))
  stat-size follow path =
      leads-place (Gives IsStatus) s me me.directory follow path permission_r (CallRemainders.stat_1 s pid me) (λ place found.
      leads-demand (Gives IsStatus) ENOENT (node_of place) (λ n. answers_bytes s 0 (status s.tree n)) (λ n is. status-size n (node_at s.tree n)))

  fstat-size : (d : ℤ) → Leads (Gives IsStatus) (fstat s pid me d)
  fstat-size d = leads-demand (Gives IsStatus) EBADF (open_file s me d) (λ (k, file). answers_bytes s 0 (status s.tree file.node)) (λ f is. status-size f.1.node (node_at s.tree f.1.node))

taken-by : (P : ℕ → Type 0) (s t : State) (pid : ℕ) (me : Process) (a : Attempt Effect) → Leads (Gives P) a → Takes P (answer_by_attempt s t pid me a)
taken-by P s t pid me (done walks (after, returns n)) gives taken is = cc is
taken-by P s t pid me (done walks (after, returns_bytes n bytes)) gives taken is =
    let same : record { value = n; len = length bytes } ≡ taken = cc is in subst P (ap (λ (x : Taken). x.len) same) gives
taken-by P s t pid me (done walks (after, ends status)) gives taken is = cc is
taken-by P s t pid me (done walks (after, waits)) gives taken is = cc is
taken-by P s t pid me (refused walks errno cause) gives taken is = cc is

-- a fact about a call that holds for every process
takes-by : (P : ℕ → Type 0) (program_of : Bytes → Option Program) (s : State) (pid : ℕ) (call : Call)
    → ((x : State) (me : Process) → Leads (Gives P) (effect program_of x pid me call)) → Takes P (answer program_of s pid call)
takes-by P program_of s pid call gives =
    by_answer (Takes P) program_of s pid call
    (λ none taken is. cc is)
    (λ me at missing. taken-by P s (at_call s pid me) pid _ (effect program_of (at_call s pid me) pid _ call) (gives (at_call s pid me) _))
    (λ me p at missing lenient taken is. cc is)
    (λ me p at missing lenient taken is. cc is)

module _ (program_of : Bytes → Option Program) (s : State) (pid : ℕ) where
  pub wait-takes : Takes (λ n. n ≡ 4) (answer program_of s pid Wait)
  unfolding effect
  wait-takes = takes-by (λ n. n ≡ 4) program_of s pid Wait (λ x me. wait-size x pid me)

  pub stat-takes : (path : Bytes) → Takes IsStatus (answer program_of s pid (Stat path))
  unfolding effect
  stat-takes path = takes-by IsStatus program_of s pid (Stat path) (λ x me. stat-size x pid me Last path)

  pub lstat-takes : (path : Bytes) → Takes IsStatus (answer program_of s pid (Lstat path))
  unfolding effect
  lstat-takes path = takes-by IsStatus program_of s pid (Lstat path) (λ x me. stat-size x pid me Keep path)

  pub fstat-takes : (d : ℤ) → Takes IsStatus (answer program_of s pid (Fstat d))
  unfolding effect
  fstat-takes d = takes-by IsStatus program_of s pid (Fstat d) (λ x me. fstat-size x pid me d)
