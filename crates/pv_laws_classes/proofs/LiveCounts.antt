-- The outcome of a write is the number of bytes that it was asked to write, and the lines of a call.
use Rattle.std.proofs.Common.{◌≡◌, ℕ, ◌≤◌, ℤ, pos, negsuc, Bool, true, false, cond, if◌then◌else◌, nat_le, [], ◌∷◌, take, Option, None, Some, refl, ap, ap₂, subst, ◌∙◌}
use Rattle.std.proofs.lemmas.Bool.{leb-true}
use Rattle.pv_model.specs.declared.call.Call.{Call}
use Rattle.pv_model.specs.declared.call.Call.TheVariants as TheCall
use Rattle.pv_model.specs.declared.errno.Errno.TheVariants.{EFBIG, EINVAL, ENOSYS}
use Rattle.pv_model.specs.declared.limits.TheConstants.{BUFFER}
use Rattle.pv_model.specs.declared.outcome.Cause.TheVariants.{Promise as ByPromise}
use Rattle.pv_model.specs.declared.outcome.Outcome.{Outcome}
use Rattle.pv_model.specs.declared.outcome.Outcome.TheVariants.{Value, Text, Killed}
use Rattle.pv_model.specs.declared.promise.Promise.{Promise}
use Rattle.pv_model.specs.Machine.{Answered, answer, answer_of, answer_where, answer_by_attempt, at_next_line, effect, Attempt, done, refused, after_walks, ◌>>=◌, ◌>>◌, refuse_if, demand, Bytes, is_past_greatest, write_end, after_write, write, end_process, Effect, returns, returns_bytes, ends, waits, answers, with_room, collect, needs, missing_promise, is_lenient, OpenFile, Program, Process, State, process_at, with_process, gio_word, gave, moved_words, call_lines}
use Rattle.pv_model.specs.Trace.{took}
use Rattle.pv_laws_states.proofs.CallRemainders
use Rattle.pv_laws_steps.proofs.ReportedParts.{lines_of}
use Rattle.pv_laws_classes.proofs.LiveAnswers.{GivesAlike}
use Rattle.pv_laws_classes.specs.Liveness.{Live}

-- ---- the values that an attempt returns

module _ (P : ℕ → Type 0) where
  abbrev Returns : Attempt Effect → Type 0
  Returns (done w (x, returns v)) = P v
  Returns (done w (x, returns_bytes v bytes)) = Unit {0}
  Returns (done w (x, ends status)) = Unit {0}
  Returns (done w (x, waits)) = Unit {0}
  Returns (refused w e c) = Unit {0}

  returns-after : (m : ℕ) (a : Attempt Effect) → Returns a → Returns (after_walks m a)
  returns-after m (done w (x, returns v)) is = is
  returns-after m (done w (x, returns_bytes v bytes)) is = tt
  returns-after m (done w (x, ends status)) is = tt
  returns-after m (done w (x, waits)) is = tt
  returns-after m (refused w e c) is = tt

  returns-bind : {B : Type 0} (a : Attempt B) (g : B → Attempt Effect) → ((v : B) → Returns (g v)) → Returns (a >>= g)
  returns-bind (done w v) g is = returns-after w (g v) (is v)
  returns-bind (refused w e c) g is = tt

  returns-then : {B : Type 0} (a : Attempt B) (g : Attempt Effect) → Returns g → Returns (a >> g)
  returns-then (done w v) g is = returns-after w g is
  returns-then (refused w e c) g is = tt

  returns-value : (before s : State) (pid : ℕ) (me : Process) (a : Attempt Effect) (v : ℕ) → Returns a → (answer_by_attempt before s pid me a).outcome ≡ Value v → P v
  returns-value before s pid me (done w (x, returns n)) v is same = let eq : n ≡ v = cc same in subst P eq is
  returns-value before s pid me (done w (x, returns_bytes n bytes)) v is same = cc same
  returns-value before s pid me (done w (x, ends status)) v is same = cc same
  returns-value before s pid me (done w (x, waits)) v is same = cc same
  returns-value before s pid me (refused w e c) v is same = cc same

module _ (program_of : Bytes → Option Program) (d n : ℤ) where
  -- the count of a write
  abbrev pub IsCount : ℕ → Type 0
  IsCount v = (n ≡ pos v) × (v ≤ BUFFER)

  write-returns : (s : State) (pid : ℕ) (me : Process) → Returns IsCount (write s pid me d n)
  write-returns s pid me = returns-bind IsCount _ _ (λ v. by n refl v.0 v.1)
    where
      of : (m : ℕ) (b : Bool) → (b ≡ true → IsCount m) → (j : ℕ) (file : OpenFile) → Returns IsCount (demand EINVAL (cond b (Some m) None) >>= CallRemainders.write_2 s pid me j file)
      of m true is j file = returns-after IsCount 0 (CallRemainders.write_2 s pid me j file m)
          (returns-then IsCount (refuse_if EFBIG (is_past_greatest s.tree (write_end s pid me file m))) (CallRemainders.write_3 s pid me j file m)
          (returns-bind IsCount (with_room (after_write s pid me j file m)) (λ roomy. answers roomy m) (λ roomy. is refl)))
      of m false is j file = tt

      by : (k : ℤ) → n ≡ k → (j : ℕ) (file : OpenFile) → Returns IsCount (CallRemainders.write_1 s pid me k (j, file))
      by (pos m) same j file = of m (nat_le m 4096) (λ within. (same, leb-true m 4096 within)) j file
      by (negsuc m) same j file = tt

  pub write-count : (s : State) (pid v : ℕ) → (answer program_of s pid (TheCall.Write d n)).outcome ≡ Value v → IsCount v
  unfolding answer effect
  write-count s pid v is = by (process_at s pid) is
    where
      missing : (x : State) (p : Process) (a : Promise) (b : Bool)
          → (if b then answer_by_attempt s x pid p (refused 0 ENOSYS (ByPromise a)) else record { after = collect (end_process s pid p 6); outcome = Killed a; walks = 0 }).outcome ≡ Value v → IsCount v
      missing x p a true is = cc is
      missing x p a false is = cc is

      of : (x : State) (p : Process) (o : Option Promise) → (answer_where program_of s x pid p (TheCall.Write d n) o).outcome ≡ Value v → IsCount v
      of x p None is = returns-value IsCount s x pid p (write x pid p d n) v (write-returns x pid p) is
      of x p (Some a) is = missing x p a (is_lenient p.promises) is

      by : (o : Option Process) → (answer_of program_of s pid (TheCall.Write d n) o).outcome ≡ Value v → IsCount v
      by None is = cc is
      by (Some p) is = of (with_process s pid (at_next_line p)) (at_next_line p) (missing_promise p.promises (needs (TheCall.Write d n))) is

-- ---- the lines of a call

module _ (is_live : Live) (pid : ℕ) (p q : Process) where
  -- the bytes that a write reports are the same
  abbrev pub TakesAlike : Call → Outcome → Type 0
  TakesAlike (TheCall.Write d n) (Value count) = take count q.buffer ≡ take count p.buffer
  TakesAlike call o = Unit {0}

  moved-same : (y z : State) (c : Call) (o : Outcome) → GivesAlike is_live pid o y z → TakesAlike c o → moved_words z pid q c o ≡ moved_words y pid p c o
  moved-same y z c (Text taken) given took_it = ap (λ bs. gio_word gave bs ∷ []) given
  moved-same y z (TheCall.Write d n) (Value count) given took_it = ap (λ bs. gio_word took bs ∷ []) took_it
  moved-same y z c o given took_it = refl

  pub lines-alike : (call : Call) (a b : Answered) → b.outcome ≡ a.outcome → b.walks ≡ a.walks → GivesAlike is_live pid a.outcome a.after b.after → TakesAlike call a.outcome → call_lines pid q call b ≡ call_lines pid p call a
  unfolding call_lines
  lines-alike call a b outcome walks given took_it =
      ap₂ (λ o w. call_lines pid q call (record { after = b.after; outcome = o; walks = w })) outcome walks ∙ ap (lines_of pid call a.walks a.outcome) (moved-same a.after b.after call a.outcome given took_it)
