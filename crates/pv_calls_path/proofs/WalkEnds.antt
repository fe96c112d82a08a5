-- The walks that a call has begun end at the places of `Ends`.
use Rattle.std.proofs.Common.{◌≡◌, ◌∙◌, ◌⊎◌, inl, inr, ℕ, zero, suc, ◌≤◌, true, false, not, if◌then◌else◌, List, [], ◌∷◌, slice_get, Option, None, Some, refl, sym, ap, subst, arith}
use Rattle.std.proofs.lemmas.Bool.{cases_Bool}
use Rattle.std.specs.List.{AllByRecursion}
use Rattle.pv_model.specs.declared.call.Call.{Call}
use Rattle.pv_model.specs.declared.call.Call.TheVariants.{Exit, GetPid, GetPpid, Fork, Wait, Pledge, Unveil, Execve, Open, OpenAt, Close, Dup, Dup2, Read, Write, Lseek, Fstat, Ftruncate, Getdents, Fchdir, Chdir, Stat, Lstat, Readlink, Mkdir, Symlink, Link, Unlink, Rmdir, Rename}
use Rattle.pv_model.specs.declared.call.Start.{Start}
use Rattle.pv_model.specs.declared.call.Start.TheVariants.{WorkingDirectory, Descriptor as AtDescriptor}
use Rattle.pv_model.specs.declared.errno.Errno.{Errno}
use Rattle.pv_model.specs.declared.errno.Errno.TheVariants.{EBADF, EINVAL, ENOSYS, ENOTDIR}
use Rattle.pv_model.specs.declared.open_flags.OpenFlags.{OpenFlags}
use Rattle.pv_model.specs.declared.outcome.Cause.TheVariants.{Plain, Promise as ByPromise}
use Rattle.pv_model.specs.declared.outcome.Outcome.TheVariants.{Killed}
use Rattle.pv_model.specs.declared.place.Place.{Place}
use Rattle.pv_model.specs.declared.promise.Promise.{Promise}
use Rattle.pv_model.specs.Machine.{Answered, answer, answer_by_attempt, answer_of, answer_where, at_next_line, effect, Attempt, done, refused, give, demand, refuse_if, ◌>>=◌, ◌>>◌, Bytes, check_start, contradicts, directory_of, open_at, end_process, Effect, Reply, returns, returns_bytes, ends, waits, end_of, open_file, collect, needs, is_lenient, missing_promise, OpenFile, Process, Program, State, process_at, with_process, place_found, is_directory_at, is_absolute, Walk, open_walk, walk_number, walks_of}
use Rattle.pv_model.specs.Answer.{answer_by_reply}
use Rattle.pv_calls_path.specs.Ends.{end_begun, if_given}
use Rattle.pv_calls_plain.proofs.OfCallsState.AttemptSequences.{refused_before}
use Rattle.pv_calls_path.proofs.OpenCalls.{open_unstarted}

-- ---- the number of walks of an attempt

abbrev walks_begun : Attempt Effect → ℕ
walks_begun (done walks value) = walks
walks_begun (refused walks e cause) = walks

reply-walks : (before s : State) (pid : ℕ) (me : Process) (walks : ℕ) (reply : Reply) (after : State) → (answer_by_reply before s pid me walks reply after).walks ≡ walks
reply-walks before s pid me walks (returns n) after = refl
reply-walks before s pid me walks (returns_bytes n bytes) after = refl
reply-walks before s pid me walks (ends status) after = refl
reply-walks before s pid me walks waits after = refl

attempt-walks : (before s : State) (pid : ℕ) (me : Process) (a : Attempt Effect) → (answer_by_attempt before s pid me a).walks ≡ walks_begun a
attempt-walks before s pid me (done walks (after, reply)) = reply-walks before s pid me walks reply after
attempt-walks before s pid me (refused walks e cause) = refl

module _ (program_of : Bytes → Option Program) where
  where-walks : (before s : State) (pid : ℕ) (me : Process) (call : Call) (missing : Option Promise)
      → 1 ≤ (answer_where program_of before s pid me call missing).walks → 1 ≤ walks_begun (effect program_of s pid me call)
  where-walks before s pid me call None some = subst (λ (n : ℕ). 1 ≤ n) (attempt-walks before s pid me (effect program_of s pid me call)) some
  where-walks before s pid me call (Some p) some =
      elim (is_lenient me.promises) as (λ b. 1 ≤ (if b then answer_by_attempt before s pid me (refused 0 ENOSYS (ByPromise p)) else record { after = collect (end_process before pid me 6); outcome = Killed p; walks = 0 }).walks → 1 ≤ walks_begun (effect program_of s pid me call)) [
        | true ↦ λ one. absurd (omega (arith, one))
        | false ↦ λ one. absurd (omega (arith, one))
      ] some

  -- a call that counts a walk has made one
  answer-walks : (s : State) (pid : ℕ) (p : Process) (call : Call) → process_at s pid ≡ Some p → 1 ≤ (answer program_of s pid call).walks
      → 1 ≤ walks_begun (effect program_of (with_process s pid (at_next_line p)) pid (at_next_line p) call)
  unfolding answer
  answer-walks s pid p call at some =
      where-walks s (with_process s pid (at_next_line p)) pid (at_next_line p) call (missing_promise p.promises (needs call))
      (subst (λ (me : Option Process). 1 ≤ (answer_of program_of s pid call me).walks) at some)

-- ---- the start of a walk

-- the attempt was not refused, or it was refused before a walk
abbrev IsFirst : Attempt (Unit {0}) → Type 0
IsFirst a = (a ≡ give tt) ⊎ ((e : Errno) × (a ≡ refused 0 e Plain))

module _ (s : State) (pid : ℕ) (me : Process) where
  descriptor-cases : (opened : Option (ℕ × OpenFile))
      → IsFirst ((demand EBADF opened >>= (λ (file : ℕ × OpenFile). refuse_if ENOTDIR (not (is_directory_at s.tree file.1.node)) >> give file.1.node)) >> give tt)
  descriptor-cases None = inr (EBADF, refl)
  descriptor-cases (Some (k, file)) =
      elim (is_directory_at s.tree file.node) as (λ b. IsFirst ((demand EBADF (Some (k, file)) >>= (λ (other : ℕ × OpenFile). refuse_if ENOTDIR (not b) >> give other.1.node)) >> give tt)) [
        | true ↦ inl refl
        | false ↦ inr (ENOTDIR, refl)
      ]

  start-cases : (start : Start) (path : Bytes) → IsFirst (check_start s pid me start path)
  start-cases WorkingDirectory path = inl refl
  start-cases (AtDescriptor d) path =
      elim (is_absolute path) as (λ b. IsFirst (if b then give tt else directory_of s pid me d >> give tt)) [
        | true ↦ inl refl
        | false ↦ descriptor-cases (open_file s me d)
      ]

  started : (start : Start) (path : Bytes) (f : OpenFlags) → (contradicts f ≡ true) ⊎ (contradicts f ≡ false) → IsFirst (check_start s pid me start path)
      → 1 ≤ walks_begun (open_at s pid me start path f) → check_start s pid me start path ≡ give tt
  started start path f (inl bad) first some =
      let none : 1 ≤ 0 = subst (λ a. 1 ≤ walks_begun a) (refused_before (refuse_if EINVAL (contradicts f)) _ 0 EINVAL Plain (ap (refuse_if EINVAL) bad)) some in
      absurd (omega arith)
  started start path f (inr fine) (inl is) some = is
  started start path f (inr fine) (inr denied) some =
      let none : 1 ≤ 0 = subst (λ a. 1 ≤ walks_begun a) (open_unstarted s pid me start path f fine denied.0 denied.1) some in
      absurd (omega arith)

numbered : (P : Walk → Type 0) (ws : List Walk) (k : ℕ) (w : Walk) → AllByRecursion P ws → slice_get ws k ≡ Some w → P w
numbered P [] k w each is = absurd (cc)
numbered P (v ∷ ws) zero w each is = let e : v ≡ w = cc in subst P e each.0
numbered P (v ∷ ws) (suc k) w each is = numbered P ws k w each.1 is

opened-walks : (program_of : Bytes → Option Program) (s : State) (pid : ℕ) (me : Process) (start : Start) (path : Bytes) (f : OpenFlags)
    → 1 ≤ walks_begun (effect program_of s pid me (OpenAt start path f)) → 1 ≤ walks_begun (open_at s pid me start path f)
unfolding effect
opened-walks program_of s pid me start path f some = some

module _ (program_of : Bytes → Option Program) (s : State) (pid : ℕ) (p : Process) (at : process_at s pid ≡ Some p) where
  abbrev IsStarted : Walk → Type 0
  IsStarted w = check_start s pid p w.start w.path ≡ give tt

  each-started : (call : Call) → 1 ≤ (answer program_of s pid call).walks → AllByRecursion IsStarted (walks_of call)
  each-started (Execve path) some = (refl, tt)
  each-started (Open path flags) some = (refl, tt)
  each-started (OpenAt start path flags) some =
      let me = at_next_line p in
      let after = with_process s pid me in (
        started after pid me start path flags (cases_Bool (contradicts flags)) (start-cases after pid me start path)
            (opened-walks program_of after pid me start path flags (answer-walks program_of s pid p (OpenAt start path flags) at some)),
        tt,
      )
  each-started (Chdir path) some = (refl, tt)
  each-started (Stat path) some = (refl, tt)
  each-started (Lstat path) some = (refl, tt)
  each-started (Readlink path) some = (refl, tt)
  each-started (Mkdir path) some = (refl, tt)
  each-started (Symlink text path) some = (refl, tt)
  each-started (Link path new) some = (refl, (refl, tt))
  each-started (Unlink path) some = (refl, tt)
  each-started (Rmdir path) some = (refl, tt)
  each-started (Rename path new) some = (refl, (refl, tt))
  each-started (Unveil (Some path) (Some text)) some = (refl, tt)
  each-started _ some = tt

  begun : (w : Walk) → IsStarted w → end_begun s pid p w ≡ place_found (end_of s p w)
  begun w is = ap (λ a. if_given a (place_found (end_of s p w))) is

  -- the ends of the walks that a call began are those of its walks
  pub begun-ends : (call : Call) (k : ℕ) (w : Walk) → walk_number (walks_of call) k ≡ Some w → k ≤ (answer program_of s pid call).walks
      → end_begun s pid p w ≡ place_found (end_of s p w)
  begun-ends call zero w is few = absurd (cc)
  begun-ends call (suc k) w is few = begun w (numbered IsStarted (walks_of call) k w (each-started call (omega arith)) is)
