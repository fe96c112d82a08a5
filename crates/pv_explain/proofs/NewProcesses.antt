-- A process that is live after a step was live before it, or is the child of a fork.
use Rattle.std.proofs.Common.{◌≡◌, ◌⊎◌, inl, inr, ℕ, suc, true, pos, negsuc, Option, None, Some, refl, ap, sym, subst, ◌∙◌, ⊎_elim}
use Rattle.std.specs.FinMap.Entries.{find, where_key, is_sorted}
use Rattle.std.specs.Ordering.{nat_cmp}
use Rattle.std.proofs.lemmas.Bool.{cases_eq}
use Rattle.pv_model.specs.declared.call.Call.{Call}
use Rattle.pv_model.specs.declared.call.Call.TheVariants.{Fork}
use Rattle.pv_model.specs.declared.errno.Errno.TheVariants.{ENOSYS}
use Rattle.pv_model.specs.declared.outcome.Cause.TheVariants.{Promise as ByPromise}
use Rattle.pv_model.specs.declared.outcome.Outcome.{Outcome}
use Rattle.pv_model.specs.declared.outcome.Outcome.TheVariants.{Value}
use Rattle.pv_model.specs.Machine.{Answered, answer, answer_by_attempt, at_next_line, with_front, update, update_live, effect, Attempt, done, refused, Bytes, with_program, with_result, child, end_process, Effect, Reply, returns, returns_bytes, ends, waits, errno_number, collect, Program, Process, live, ended_record, State, process_at, with_process}
use Rattle.pv_laws_states.proofs.AttemptValues.{Leads}
use Rattle.pv_laws_states.proofs.ValidEnds.{adopted, mapped, map-adopt, sorted-mapped, found-filtered, found-mapped, live-adopted}
use Rattle.pv_laws_states.proofs.ReferenceMembers.{live-found, found-live}
use Rattle.pv_laws_states.proofs.CallOutcomes.{at_call, by_answer}
use Rattle.pv_laws_states.proofs.Processes.{process_at-other, find-put_same, find-put_other}
use Rattle.pv_laws_states.proofs.ValidStates.{sorted-put_number}
use Rattle.pv_laws_access.specs.Growth.{IsInOrder}
use Rattle.pv_laws_access.proofs.CallEffects.{HasEffect, stays, restrains, begins, closes, copies, forks, reaps, moves, cuts, writes_bytes, makes, links, unlinks, renames, opens, creates, Did}
use Rattle.pv_laws_access.proofs.EffectByCall.{does-effect}
use Rattle.pv_laws_access.proofs.ProcessesAfterEnds.{process_at-collect, in_order-call, ended-not_live, put_away, heir, claimed}
use Rattle.pv_explain.specs.Keeping.{IsLive}

-- ---- one process put into a state

put-lives : (s : State) (pid k : ℕ) (p : Process) → IsLive s pid → IsLive (with_process s pid p) k → IsLive s k
put-lives s pid k p at lives =
    ⊎_elim
    (λ same. subst (λ (n : ℕ). IsLive s n) (sym same) at)
    (λ other. (lives.0, sym (process_at-other s pid p k other) ∙ lives.1)) (cases_eq k pid)

update-lives : (s : State) (pid k : ℕ) (f : Process → Process) → IsLive (update s pid f) k → IsLive s k
update-lives s pid k f = by (process_at s pid) refl
  where
    by : (o : Option Process) → process_at s pid ≡ o → IsLive (update_live s pid f o) k → IsLive s k
    by None none lives = lives
    by (Some p) at lives = put-lives s pid k (f p) (p, at) lives

collect-lives : (s : State) (k : ℕ) → IsLive (collect s) k → IsLive s k
collect-lives s k lives = (lives.0, sym (process_at-collect s k) ∙ lives.1)

-- ---- the end of a process

module _ (s : State) (pid : ℕ) (me : Process) (status : ℕ) (ascending : is_sorted nat_cmp s.processes ≡ true) where
  ended-lives : (k : ℕ) → IsLive (end_process s pid me status) k → IsLive s k
  unfolding end_process
  ended-lives k lives =
      let found = subst (λ es. find nat_cmp k (Rattle.std.specs.Prelude.filter (claimed s pid me status) es) ≡ Some (live lives.0)) (map-adopt pid (heir s pid me status) (put_away s pid me status)) (live-found (end_process s pid me status) k lives.0 lives.1) in
      let in_order : is_sorted nat_cmp (mapped (adopted pid (heir s pid me status)) (put_away s pid me status)) ≡ true =
      sorted-mapped (adopted pid (heir s pid me status)) (put_away s pid me status) ∙ sorted-put_number pid (ended_record me.parent status) s.processes ascending in
      let preserved = found-filtered (claimed s pid me status) (mapped (adopted pid (heir s pid me status)) (put_away s pid me status)) in_order k (live lives.0) found in
      let was = found-mapped (adopted pid (heir s pid me status)) k (put_away s pid me status) (live lives.0) preserved.0 in
      let old = live-adopted pid (heir s pid me status) was.0 lives.0 was.2 in
      ⊎_elim
      (λ same. absurd (ended-not_live s pid me status ascending lives.0 (subst (λ (n : ℕ). process_at (end_process s pid me status) n ≡ Some lives.0) same lives.1)))
      (λ other. (old.0, found-live s k old.0 (sym (find-put_other k pid (ended_record me.parent status) s.processes other) ∙ was.1 ∙ ap Some old.1)))
      (cases_eq k pid)

-- ---- the state after a call

module _ (s : State) (pid : ℕ) (me : Process) (call : Call) (order : IsInOrder s) (at : process_at s pid ≡ Some me) where
  -- the process was live before, or is a child of this call
  abbrev Came : ℕ → Reply → Type 0
  Came k r = IsLive s k ⊎ ((call ≡ Fork) × (r ≡ returns k))

  own : (q : Process) (r : Reply) (k : ℕ) → IsLive (with_process s pid q) k → Came k r
  own q r k lives = inl (put-lives s pid k q (me, at) lives)

  spared : (j k : ℕ) → IsLive (record s { processes = where_key nat_cmp (λ other. Rattle.std.specs.Prelude.not (Rattle.std.specs.Prelude.◌==◌ other j)) s.processes }) k → IsLive s k
  spared j k lives =
      let found = found-filtered (λ r. Rattle.std.specs.Prelude.not (Rattle.std.specs.Prelude.◌==◌ r.0 j)) s.processes order.ascending k (live lives.0)
      (live-found (record s { processes = where_key nat_cmp (λ other. Rattle.std.specs.Prelude.not (Rattle.std.specs.Prelude.◌==◌ other j)) s.processes }) k lives.0 lives.1) in
      (lives.0, found-live s k lives.0 found.0)

  born : (k : ℕ) → call ≡ Fork → IsLive (record (with_process s (suc s.last_process) (child s pid me)) { last_process = suc s.last_process }) k → Came k (returns (suc s.last_process))
  born k is lives =
      ⊎_elim
      (λ same. inr (is, ap returns (sym same)))
      (λ other. inl (lives.0, sym (process_at-other s (suc s.last_process) (child s pid me) k other) ∙ lives.1)) (cases_eq k (suc s.last_process))

  came : (k : ℕ) (after : State) (r : Reply) → HasEffect s pid me call after r → IsLive after k → Came k r
  came k _ _ (stays r waiting) lives = inl lives
  came k _ _ (restrains q r no_more same parent table goes) lives = own q r k lives
  came k _ _ (begins path program is) lives = own (with_program s pid me program) (returns 0) k lives
  came k _ _ (closes d) lives = own _ (returns 0) k lives
  came k _ _ (copies d x n is) lives = own _ (returns n) k lives
  came k _ _ (forks is) lives = born k is lives
  came k _ _ (reaps j r ended goes) lives = inl (spared j k lives)
  came k _ _ (moves j old new r there node mode named goes) lives = inl lives
  came k _ _ (cuts f bytes has) lives = inl lives
  came k _ _ (writes_bytes f bytes j old new n has there node mode named) lives = inl lives
  came k _ _ (makes place p node change none bare) lives = inl lives
  came k _ _ (links place p old n change from_old is fine) lives = inl lives
  came k _ _ (unlinks place p change) lives = inl lives
  came k _ _ (renames place p there q n from into is) lives = inl lives
  came k _ _ (opens flags place n m flagged allowed is fine written) lives = own _ (returns m) k lives
  came k _ _ (creates flags place p m flagged allowed create named none fine) lives = own _ (returns m) k lives

-- ---- calls

module _ (program_of : Bytes → Option Program) (s : State) (pid : ℕ) (order : IsInOrder s) (call : Call) where
  abbrev Comes : ℕ → Answered → Type 0
  Comes k a = IsLive a.after k → IsLive s k ⊎ ((call ≡ Fork) × (a.outcome ≡ Value k))

  module _ (me : Process) (at : process_at s pid ≡ Some me) where
    abbrev x : State
    x = at_call s pid me

    abbrev now : Process
    now = at_next_line me

    x_at : process_at x pid ≡ Some now
    x_at = Rattle.pv_laws_states.proofs.Processes.process_at-same s pid now

    x_order : IsInOrder x
    x_order = in_order-call s pid me order at

    back : (k : ℕ) → IsLive x k → IsLive s k
    back k lives = put-lives s pid k now (me, at) lives

    reported : (after : State) (r : Reply) (f : Process → Process) (o : Outcome) → HasEffect x pid now call after r → ((n : ℕ) → r ≡ returns n → o ≡ Value n) → (k : ℕ)
        → IsLive (collect (update after pid f)) k → IsLive s k ⊎ ((call ≡ Fork) × (o ≡ Value k))
    reported after r f o does value k lives =
        ⊎_elim (λ was. inl (back k was)) (λ is. inr (is.0, value k is.1))
        (came x pid now call x_order x_at k after r does (update-lives after pid k f (collect-lives (update after pid f) k lives)))

    attempted : (a : Attempt Effect) → Leads (Did x pid now call) a → (k : ℕ) → Comes k (answer_by_attempt s x pid now a)
    attempted (done walks (after, returns n)) does k lives =
        reported after (returns n) (λ p. with_result p (pos n) 0) (Value n) does (λ m is. let same : n ≡ m = cc is in ap Value same) k lives
    attempted (done walks (after, returns_bytes n bytes)) does k lives =
        inl (⊎_elim (λ was. was) (λ is. cc is.1)
        (⊎_elim {C = IsLive s k ⊎ ((call ≡ Fork) × (returns_bytes n bytes ≡ returns k))} (λ was. inl (back k was)) (λ is. inr is)
        (came x pid now call x_order x_at k after (returns_bytes n bytes) does
        (update-lives after pid k (λ p. with_front bytes (with_result p (pos n) 0)) (collect-lives (update after pid (λ p. with_front bytes (with_result p (pos n) 0))) k lives)))))
    attempted (done walks (after, ends status)) does k lives = inl (back k (ended k lives))
      where
        same : after ≡ x
        same = Rattle.pv_laws_access.proofs.CallEffects.ends-stays x pid now call after (ends status) status does refl

        ended : (k : ℕ) → IsLive (collect (end_process after pid now status)) k → IsLive x k
        ended k lives = ended-lives x pid now status x_order.ascending k (subst (λ (y : State). IsLive (end_process y pid now status) k) same (collect-lives (end_process after pid now status) k lives))
    attempted (done walks (after, waits)) does k lives = inl lives
    attempted (refused walks errno cause) does k lives = inl (back k (update-lives x pid k (λ p. with_result p (negsuc 0) (errno_number errno)) lives))

  pub answered-comes : (k : ℕ) → Comes k (answer program_of s pid call)
  answered-comes k =
      by_answer (Comes k) program_of s pid call
      (λ none lives. inl lives)
      (λ me at missing. attempted me at (effect program_of (at_call s pid me) pid (at_next_line me) call) (does-effect program_of (at_call s pid me) pid (at_next_line me) call) k)
      (λ me lacks at missing lenient. attempted me at (refused 0 ENOSYS (ByPromise lacks)) tt k)
      (λ me lacks at missing lenient lives. inl (ended-lives s pid (at_next_line me) 6 order.ascending k (collect-lives (end_process s pid (at_next_line me) 6) k lives)))

-- ---- steps inside a process

pub inside-comes : (s : State) (pid k : ℕ) (me q : Process) → process_at s pid ≡ Some me → IsLive (with_process s pid q) k → IsLive s k
inside-comes s pid k me q at lives = put-lives s pid k q (me, at) lives
