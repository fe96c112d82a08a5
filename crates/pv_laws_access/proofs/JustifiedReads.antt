-- The justification of steps that depend on the bytes of a file.
use Rattle.std.proofs.Common.{◌≡◌, ℕ, pos, negsuc, true, false, if◌then◌else◌, length, Option, None, Some, refl, ap, sym, subst, ◌⊎◌, inl, inr, ⊎_elim}
use Rattle.pv_model.specs.declared.call.Call.{Call}
use Rattle.pv_model.specs.declared.errno.Errno.{Errno}
use Rattle.pv_model.specs.declared.errno.Errno.TheVariants.{ENOSYS}
use Rattle.pv_model.specs.declared.outcome.Cause.TheVariants.{Promise as ByPromise}
use Rattle.pv_model.specs.declared.outcome.Outcome.TheVariants.{Failed, Killed}
use Rattle.pv_model.specs.declared.promise.Promise.{Promise}
use Rattle.pv_model.specs.Machine.{Answered, answer, answer_of, answer_where, answer_by_attempt, at_next_line, with_front, update_live, update, effect, Attempt, done, refused, Bytes, with_result, end_process, Effect, Reply, returns, returns_bytes, ends, waits, errno_number, collect, needs, Numbered, Next, inside, calls_for, next, missing_promise, is_lenient, Program, Process, State, process_at, Stepped, step, step_of, step_by, read_file, change_file, report_node, gain_descriptor, with_bytes, file_bytes, Touches, call_lines, Node}
use Rattle.pv_model.specs.Touch.{change_entry, IsJustified}
use Rattle.pv_laws_states.specs.States.{IsValid}
use Rattle.pv_laws_states.proofs.CallOutcomes.{at_call}
use Rattle.pv_laws_states.proofs.OtherInsidesCalls.{lines-alike}
use Rattle.pv_laws_access.specs.Justice.{ReadsBytes, HasEffectNext, IsExplained}
use Rattle.pv_laws_access.specs.Secrets.{StepsDifferInFile}
use Rattle.pv_laws_access.proofs.JustifiedChanges.{entries-justified, files-justified}
use Rattle.pv_laws_access.proofs.JustifiedGains.{gains-justified}
use Rattle.pv_laws_access.proofs.JustifiedReports.{reporting-justified}
use Rattle.pv_laws_access.proofs.SimilarTrees.{GoesByLength, IsExact, IsFine, as_is, as_is-fine, near-length_of, AreNear, near_state, IsNear, near-collect, same-but_file, near-bytes}
use Rattle.pv_laws_access.proofs.SimilarCalls.{AreNearBy, near-effect}
use Rattle.pv_laws_access.proofs.TouchingCalls.{back}

module _ (size : ℕ → ℕ) (fine : IsFine size) where
  -- the same answer, and states that differ only in the file
  record IsNearAnswer (f : ℕ) (a b : Answered) : Type 0 where
    outcome : b.outcome ≡ a.outcome
    walks : b.walks ≡ a.walks
    after : IsNear size f a.after b.after

  -- the lines of a call are the same
  near-lines : (f pid : ℕ) (p : Process) (call : Call) (a b : Answered) → IsNearAnswer f a b → call_lines pid p call b ≡ call_lines pid p call a
  near-lines f pid p call a b near =
      lines-alike pid p call b a (record { outcome = near.outcome; walks = near.walks; buffer = λ n len said. ap (λ (y : State). process_at y pid) near.after.rest })

  -- ---- states

  near-update : (f : ℕ) (a : State) (ys : Numbered Node) → AreNear size f a.tree.nodes ys → (pid : ℕ) (g : Process → Process) → IsNear size f (update a pid g) (update (near_state a ys) pid g)
  near-update f a ys near pid g = by (process_at a pid)
    where
      by : (o : Option Process) → IsNear size f (update_live a pid g o) (update_live (near_state a ys) pid g o)
      by None = record { nodes = near; rest = refl }
      by (Some p) = record { nodes = near; rest = refl }

  collected : (f : ℕ) (a b : State) → IsNear size f a b → IsNear size f (collect a) (collect b)
  collected f a b near = subst (λ (y : State). IsNear size f (collect a) (collect y)) (sym near.rest) (near-collect size f a b.tree.nodes near.nodes)

  updated : (f : ℕ) (a b : State) → IsNear size f a b → (pid : ℕ) (g : Process → Process) → IsNear size f (update a pid g) (update b pid g)
  updated f a b near pid g = subst (λ (y : State). IsNear size f (update a pid g) (update y pid g)) (sym near.rest) (near-update f a b.tree.nodes near.nodes pid g)

  ended : (f : ℕ) (a b : State) → IsNear size f a b → (pid : ℕ) (me : Process) (status : ℕ) → IsNear size f (end_process a pid me status) (end_process b pid me status)
  unfolding end_process
  ended f a b near pid me status = subst (λ (y : State). IsNear size f (end_process a pid me status) (end_process y pid me status)) (sym near.rest) (record { nodes = near.nodes; rest = refl })

  -- ---- answers

  module _ (f : ℕ) (s u : State) (near : IsNear size f s u) (x y : State) (alike : IsNear size f x y) (pid : ℕ) (now : Process) where
    near-attempt : (a b : Attempt Effect) → AreNearBy size fine f a b → IsNearAnswer f (answer_by_attempt s x pid now a) (answer_by_attempt u y pid now b)
    near-attempt (done w (a, r)) (done v (b, q)) is =
        subst (λ (z : Reply). IsNearAnswer f (answer_by_attempt s x pid now (done w (a, r))) (answer_by_attempt u y pid now (done v (b, z)))) is.1 (by r)
      where
        by : (r : Reply) → IsNearAnswer f (answer_by_attempt s x pid now (done w (a, r))) (answer_by_attempt u y pid now (done v (b, r)))
        by (returns n) = record { outcome = refl; walks = sym is.0; after = collected f (update a pid (λ p. with_result p (pos n) 0)) (update b pid (λ p. with_result p (pos n) 0)) (updated f a b is.2 pid (λ p. with_result p (pos n) 0)) }
        by (returns_bytes n bytes) = record { outcome = refl; walks = sym is.0; after = collected f (update a pid (λ p. with_front bytes (with_result p (pos n) 0))) (update b pid (λ p. with_front bytes (with_result p (pos n) 0))) (updated f a b is.2 pid (λ p. with_front bytes (with_result p (pos n) 0))) }
        by (ends status) = record { outcome = refl; walks = sym is.0; after = collected f (end_process a pid now status) (end_process b pid now status) (ended f a b is.2 pid now status) }
        by waits = record { outcome = refl; walks = sym is.0; after = near }
    near-attempt (done w (a, r)) (refused v g d) is = absurd is
    near-attempt (refused w e c) (done v (b, q)) is = absurd is
    near-attempt (refused w e c) (refused v g d) is =
        subst (λ (k : Errno). IsNearAnswer f (answer_by_attempt s x pid now (refused w e c)) (answer_by_attempt u y pid now (refused v k d))) is.1
        (record { outcome = ap (Failed e) (sym is.2); walks = sym is.0; after = updated f x y alike pid (λ p. with_result p (negsuc 0) (errno_number e)) })

    near-killed : (me : Process) (p : Promise) → IsNearAnswer f (record { after = collect (end_process s pid me 6); outcome = Killed p; walks = 0 }) (record { after = collect (end_process u pid me 6); outcome = Killed p; walks = 0 })
    near-killed me p = record { outcome = refl; walks = refl; after = collected f (end_process s pid me 6) (end_process u pid me 6) (ended f s u near pid me 6) }

  -- two steps have the same outcome and lines, and the next states differ only in the file
  pub record AreNearSteps (f : ℕ) (a b : Stepped) : Type 0 where
    pub outcome : b.outcome ≡ a.outcome
    pub lines : b.lines ≡ a.lines
    pub after : IsNear size f a.after b.after

  -- the call is justified to read, with its promises held; or the bytes do not matter, nor does their number if the
  -- call does not depend on it
  module _ (program_of : Bytes → Option Program) (f : ℕ) (s : State) (pid : ℕ) (ys : Numbered Node) (near : AreNear size f s.tree.nodes ys) where
    abbrev u : State
    u = near_state s ys

    abbrev near_s : IsNear size f s u
    near_s = record { nodes = near; rest = refl }

    module _ (me : Process) (call : Call) where
      abbrev x : State
      x = at_call s pid me

      abbrev now : Process
      now = at_next_line me

      abbrev IsRead : Type 0
      IsRead = (missing_promise me.promises (needs call) ≡ None) × ReadsBytes s me call f

      lacking : (p : Promise) → IsNearAnswer f (answer_where program_of s x pid now call (Some p)) (answer_where program_of u (at_call u pid me) pid now call (Some p))
      lacking p =
          elim (is_lenient me.promises) as (λ b. IsNearAnswer f
          (if b then answer_by_attempt s x pid now (refused 0 ENOSYS (ByPromise p)) else record { after = collect (end_process s pid now 6); outcome = Killed p; walks = 0 })
          (if b then answer_by_attempt u (at_call u pid me) pid now (refused 0 ENOSYS (ByPromise p)) else record { after = collect (end_process u pid now 6); outcome = Killed p; walks = 0 })) [
            | true ↦ near-attempt f s u near_s x (at_call u pid me) (record { nodes = near; rest = refl }) pid now (refused 0 ENOSYS (ByPromise p)) (refused 0 ENOSYS (ByPromise p)) (refl, refl, refl)
            | false ↦ near-killed f s u near_s x (at_call u pid me) (record { nodes = near; rest = refl }) pid now now p
          ]

      -- a call that depends on the length after the line is advanced depends on it before
      length_back : GoesByLength x now call f → GoesByLength s me call f
      length_back by = ⊎_elim (λ asks. inl (asks.0, back s pid me call (report_node f) asks.1)) (λ changes. inr (changes.0, back s pid me call (change_file f) changes.1)) by

      by_promise : ((missing_promise me.promises (needs call) ≡ None) → GoesByLength s me call f → IsExact size) → (o : Option Promise) → missing_promise me.promises (needs call) ≡ o
          → IsRead ⊎ IsNearAnswer f (answer_where program_of s x pid now call o) (answer_where program_of u (at_call u pid me) pid now call o)
      by_promise exact None held =
          ⊎_elim (λ justified. inl (held, (justified.0, back s pid me call (read_file f) justified.1)))
          (λ by. inr (near-attempt f s u near_s x (at_call u pid me) (record { nodes = near; rest = refl }) pid now (effect program_of x pid now call) (effect program_of (at_call u pid me) pid now call) by))
          (near-effect size fine f x ys near pid now program_of call (λ by. exact held (length_back by)))
      by_promise exact (Some p) lacks = inr (lacking p)

      by_call : ((missing_promise me.promises (needs call) ≡ None) → GoesByLength s me call f → IsExact size) → process_at s pid ≡ Some me → IsRead ⊎ IsNearAnswer f (answer program_of s pid call) (answer program_of u pid call)
      unfolding answer
      by_call exact at =
          subst (λ (o : Option Process). IsRead ⊎ IsNearAnswer f (answer_of program_of s pid call o) (answer_of program_of u pid call o)) (sym at) (by_promise exact (missing_promise me.promises (needs call)) refl)

    -- ---- steps

    module _ (exact : HasEffectNext GoesByLength s pid f → IsExact size) where
      by_next : (me : Process) → process_at s pid ≡ Some me → (n : Next) → next me ≡ n → HasEffectNext ReadsBytes s pid f ⊎ AreNearSteps f (step_by program_of s pid me n) (step_by program_of u pid me n)
      by_next me at (inside q) is = inr (record { outcome = refl; lines = refl; after = record { nodes = near; rest = refl } })
      by_next me at (calls_for call) is =
          ⊎_elim (λ read. inl (me, call, at, is, read.0, read.1)) (λ alike. inr (record { outcome = alike.outcome; lines = near-lines f pid me call (answer program_of s pid call) (answer program_of u pid call) alike; after = alike.after })) (by_call me call (λ held by. exact (me, call, at, is, held, by)) at)

      by_process : (o : Option Process) → process_at s pid ≡ o → HasEffectNext ReadsBytes s pid f ⊎ AreNearSteps f (step_of program_of s pid o) (step_of program_of u pid o)
      by_process None gone = inr (record { outcome = refl; lines = refl; after = near_s })
      by_process (Some me) at = by_next me at (next me) refl

      by_step : HasEffectNext ReadsBytes s pid f ⊎ AreNearSteps f (step program_of s pid) (step program_of u pid)
      unfolding step
      by_step = by_process (process_at s pid) refl

  -- with other bytes of similar length, the step has the same outcome and a next state that differs only in them,
  -- unless a read is justified; the lengths are equal if the step depends on them
  pub near-or_read : (program_of : Bytes → Option Program) (s : State) (pid f : ℕ) (bytes : Bytes) → size (length bytes) ≡ size (length (file_bytes s f)) → (HasEffectNext GoesByLength s pid f → IsExact size)
      → HasEffectNext ReadsBytes s pid f ⊎ AreNearSteps f (step program_of s pid) (step program_of (with_bytes s f bytes) pid)
  near-or_read program_of s pid f bytes long exact =
      let near = near-bytes size s f bytes long in
      subst (λ (y : State). HasEffectNext ReadsBytes s pid f ⊎ AreNearSteps f (step program_of s pid) (step program_of y pid)) (sym near.rest) (by_step program_of f s pid (with_bytes s f bytes).tree.nodes near.nodes exact)

-- the same for other bytes of equal length
near-as_many : (program_of : Bytes → Option Program) (s : State) (pid f : ℕ) (bytes : Bytes) → length bytes ≡ length (file_bytes s f)
    → HasEffectNext ReadsBytes s pid f ⊎ AreNearSteps as_is as_is-fine f (step program_of s pid) (step program_of (with_bytes s f bytes) pid)
near-as_many program_of s pid f bytes long = near-or_read as_is as_is-fine program_of s pid f bytes long (λ by m n same. same)

pub reads-justified : (program_of : Bytes → Option Program) (s : State) (pid f : ℕ) → Touches program_of s pid (read_file f) → IsExplained s pid (read_file f)
reads-justified program_of s pid f reads =
    let u : State = with_bytes s f reads.0 in
    ⊎_elim (λ e. (e.0, e.1, e.2, e.3, e.4, e.5.1))
    (λ alike. absurd (⊎_elim (λ other. other alike.outcome) (λ apart. apart (same-but_file as_is f (step program_of s pid).after (step program_of u pid).after alike.after)) reads.3))
    (near-as_many program_of s pid f reads.0 reads.2)

-- with other bytes of equal length, the step has the same outcome and lines, and a next state that differs only in
-- them, unless a read is justified
pub alike-or_read : (program_of : Bytes → Option Program) (s : State) (pid f : ℕ) (bytes : Bytes) → length bytes ≡ length (file_bytes s f)
    → IsExplained s pid (read_file f) ⊎ StepsDifferInFile f (step program_of s pid) (step program_of (with_bytes s f bytes) pid)
alike-or_read program_of s pid f bytes long =
    let u : State = with_bytes s f bytes in
    ⊎_elim (λ e. inl (e.0, e.1, e.2, e.3, e.4, e.5.1))
    (λ alike. inr (record {
      outcome = alike.outcome;
      lines = alike.lines;
      after = same-but_file as_is f (step program_of s pid).after (step program_of u pid).after alike.after;
      as_many = near-length_of as_is f (step program_of s pid).after (step program_of u pid).after alike.after;
    }))
    (near-as_many program_of s pid f bytes long)

-- ---- all touches

pub all-justified : (program_of : Bytes → Option Program) (s : State) (pid : ℕ) → IsValid s → IsJustified program_of s pid
all-justified program_of s pid whole (read_file f) touches = reads-justified program_of s pid f touches
all-justified program_of s pid whole (change_file f) touches = files-justified program_of s pid f whole touches
all-justified program_of s pid whole (change_entry d name) touches = entries-justified program_of s pid d name whole touches
all-justified program_of s pid whole (report_node n) touches = reporting-justified program_of s pid n whole touches
all-justified program_of s pid whole (gain_descriptor n mode) touches = gains-justified program_of s pid n mode whole touches
