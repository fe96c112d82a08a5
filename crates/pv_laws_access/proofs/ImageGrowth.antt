-- In one program image a process gains nothing, and other processes keep their rights.
use Rattle.std.proofs.Common.{◌≡◌, ◌≢◌, ℕ, suc, pos, negsuc, true, false, not, ◌==◌, Option, Some, refl, ap, sym, subst, ◌∙◌}
use Rattle.std.specs.FinMap.Entries.{find, where_key}
use Rattle.std.specs.Ordering.{nat_cmp}
use Rattle.std.proofs.lemmas.Bool.{ne_eqb}
use Rattle.pv_model.specs.declared.call.Call.{Call}
use Rattle.pv_model.specs.declared.errno.Errno.{Errno}
use Rattle.pv_model.specs.declared.errno.Errno.TheVariants.{ENOSYS}
use Rattle.pv_model.specs.declared.outcome.Cause.TheVariants.{Promise as ByPromise}
use Rattle.pv_model.specs.declared.outcome.Outcome.TheVariants.{Value, Gone}
use Rattle.pv_model.specs.Machine.{Answered, answer, answer_by_attempt, at_next_line, with_front, update, effect, Attempt, done, refused, Bytes, with_program, with_result, child, end_process, Effect, Reply, returns, returns_bytes, ends, waits, errno_number, collect, calls_for, next, Program, Process, live, ended_record, State, process_at, with_process, is_unveil}
use Rattle.pv_laws_states.proofs.AttemptValues.{Leads}
use Rattle.pv_laws_states.proofs.ValidEnds.{filtered-found}
use Rattle.pv_laws_states.proofs.ReferenceMembers.{live-found, found-live}
use Rattle.pv_laws_states.proofs.CallOutcomes.{at_call, by_answer}
use Rattle.pv_laws_states.proofs.Processes.{process_at-same, process_at-other}
use Rattle.pv_laws_access.specs.Growth.{HasNoMoreRights, HasSameRights, IsUnchangedExceptParent, IsInOrder, begins_image}
use Rattle.pv_laws_access.proofs.CallEffects.{HasEffect, stays, restrains, begins, closes, copies, forks, reaps, moves, cuts, writes_bytes, makes, links, unlinks, renames, opens, creates, Did, ends-stays}
use Rattle.pv_laws_access.proofs.EffectByCall.{does-effect}
use Rattle.pv_laws_access.proofs.ProcessesAfterEnds.{alone-itself, process_at-collect, update-live, update-other, not_next, in_order-call, ended-not_live, ended-others}
use Rattle.pv_laws_access.proofs.NarrowedRestraints.{no_more-along, no_more-same, no_more-of_same}

-- ---- the caller after a call

-- a reply that starts no new image
abbrev IsQuiet : Call → Reply → Type 0
IsQuiet call r = (n : ℕ) → r ≡ returns n → begins_image (calls_for call) (Value n) ≡ false

-- a call other than unveil leaves the table and the lock unchanged
abbrev pub LeavesTable : Call → Process → Process → Type 0
LeavesTable call p q = is_unveil call ≡ false → (q.table ≡ p.table) × (q.locked ≡ p.locked)

-- the caller is live, and gains nothing unless it started a new image
abbrev HasNoMore : Process → ℕ → Call → State → Reply → Type 0
HasNoMore me pid call after r = (q : Process) × (process_at after pid ≡ Some q) × (IsQuiet call r → HasNoMoreRights me q × LeavesTable call me q)

module _ (s : State) (pid : ℕ) (me : Process) (call : Call) (order : IsInOrder s) (at : process_at s pid ≡ Some me) where
  itself : (r : Reply) → HasNoMore me pid call s r
  itself r = (me, at, λ quiet. (no_more-same me me refl refl refl refl, λ no. (refl, refl)))

  becomes : (x : State) (q : Process) (r : Reply) → HasNoMoreRights me q → LeavesTable call me q → HasNoMore me pid call (with_process x pid q) r
  becomes x q r no_more leaves = (q, process_at-same x pid q, λ quiet. (no_more, leaves))

  -- a live process is not a record to be removed
  pub spared : (j : ℕ) (p : Process) → process_at s j ≡ Some p → (k : ℕ) → (parent : ℕ) × (status : ℕ) × (find nat_cmp k s.processes ≡ Some (ended_record parent status))
      → process_at (record s { processes = where_key nat_cmp (λ other. not (other == k)) s.processes }) j ≡ Some p
  spared j p live_at k gone =
      let there = live-found s j p live_at in
      let other : j ≢ k = λ same. let eq : Some (live p) ≡ Some (ended_record gone.0 gone.1) = sym there ∙ ap (λ n. find nat_cmp n s.processes) same ∙ gone.2 in cc eq in
      found-live (record s { processes = where_key nat_cmp (λ other. not (other == k)) s.processes }) j p (filtered-found (λ r. not (r.0 == k)) s.processes j (live p) there (ap not (ne_eqb j k other)))

  pub caller : (after : State) (r : Reply) → HasEffect s pid me call after r → HasNoMore me pid call after r
  caller _ _ (stays r waiting) = itself r
  caller _ _ (restrains q r no_more same parent table goes) = becomes s q r no_more table
  caller _ _ (begins path program is) = (
    with_program s pid me program,
    process_at-same s pid (with_program s pid me program),
    λ quiet. let new : begins_image (calls_for call) (Value 0) ≡ true = ap (λ c. begins_image (calls_for c) (Value 0)) is in let none = quiet 0 refl in cc,
  )
  caller _ _ (closes d) = becomes s _ (returns 0) (no_more-same me _ refl refl refl refl) (λ no. (refl, refl))
  caller _ _ (copies d x n is) = becomes s _ (returns n) (no_more-same me _ refl refl refl refl) (λ no. (refl, refl))
  caller _ _ (forks is) =
      (me, process_at-other s (suc s.last_process) (child s pid me) pid (not_next s order pid me at) ∙ at, λ quiet. (no_more-same me me refl refl refl refl, λ no. (refl, refl)))
  caller _ _ (reaps k r ended goes) = (me, spared pid me at k (ended order.ascending), λ quiet. (no_more-same me me refl refl refl refl, λ no. (refl, refl)))
  caller _ _ (moves k old new r there node mode named goes) = itself r
  caller _ _ (cuts f bytes has) = itself (returns 0)
  caller _ _ (writes_bytes f bytes k old new n has there node mode named) = itself (returns n)
  caller _ _ (makes place p node change none bare) = itself (returns 0)
  caller _ _ (links place p old n change from_old is fine) = itself (returns 0)
  caller _ _ (unlinks place p change) = itself (returns 0)
  caller _ _ (renames place p there q n from into is) = itself (returns 0)
  caller _ _ (opens flags place n m flagged allowed is fine written) = becomes s _ (returns m) (no_more-same me _ refl refl refl refl) (λ no. (refl, refl))
  caller _ _ (creates flags place p m flagged allowed create named none fine) = becomes s _ (returns m) (no_more-same me _ refl refl refl refl) (λ no. (refl, refl))

  -- each other live process is unchanged
  pub other : (k : ℕ) (p : Process) → k ≢ pid → process_at s k ≡ Some p → (after : State) (r : Reply) → HasEffect s pid me call after r → process_at after k ≡ Some p
  other k p apart there _ _ (stays r waiting) = there
  other k p apart there _ _ (restrains q r no_more same parent table goes) = process_at-other s pid q k apart ∙ there
  other k p apart there _ _ (begins path program is) = process_at-other s pid (with_program s pid me program) k apart ∙ there
  other k p apart there _ _ (closes d) = process_at-other s pid _ k apart ∙ there
  other k p apart there _ _ (copies d x n is) = process_at-other s pid _ k apart ∙ there
  other k p apart there _ _ (forks is) = process_at-other s (suc s.last_process) (child s pid me) k (not_next s order k p there) ∙ there
  other k p apart there _ _ (reaps j r ended goes) = spared k p there j (ended order.ascending)
  other k p apart there _ _ (moves j old new r is node mode named goes) = there
  other k p apart there _ _ (cuts f bytes has) = there
  other k p apart there _ _ (writes_bytes f bytes j old new n has is node mode named) = there
  other k p apart there _ _ (makes place q node change none bare) = there
  other k p apart there _ _ (links place q old n change from_old is fine) = there
  other k p apart there _ _ (unlinks place q change) = there
  other k p apart there _ _ (renames place q next r n from into is) = there
  other k p apart there _ _ (opens flags place n m flagged allowed is fine written) = process_at-other s pid _ k apart ∙ there
  other k p apart there _ _ (creates flags place q m flagged allowed create named none fine) = process_at-other s pid _ k apart ∙ there

-- ---- calls

-- a property of a process that does not depend on its result registers and buffer
reported : (call : Call) (me q : Process) (f : Process → Process) → HasSameRights q (f q) → HasNoMoreRights me q × LeavesTable call me q → HasNoMoreRights me (f q) × LeavesTable call me (f q)
reported call me q f same both =
    (no_more-along me q (f q) both.0 (no_more-of_same q (f q) same), λ no. let preserved = both.1 no in (same.table ∙ preserved.0, same.locked ∙ preserved.1))

module _ (program_of : Bytes → Option Program) (s : State) (pid : ℕ) (order : IsInOrder s) (me : Process) (at : process_at s pid ≡ Some me) (call : Call) where
  abbrev x : State
  x = at_call s pid me

  abbrev now : Process
  now = at_next_line me

  x_at : process_at x pid ≡ Some now
  x_at = process_at-same s pid now

  x_order : IsInOrder x
  x_order = in_order-call s pid me order at

  -- the caller after its answer
  abbrev Keeps : Answered → Type 0
  Keeps a = (q : Process) → process_at a.after pid ≡ Some q → begins_image (calls_for call) a.outcome ≡ false → HasNoMoreRights me q × LeavesTable call me q

  abbrev Leaves : Process → Type 0
  Leaves q = HasNoMoreRights me q × LeavesTable call me q

  as-was : (q : Process) → HasSameRights me q → Leaves q
  as-was q same = (no_more-of_same me q same, λ no. (same.table, same.locked))

  since : (q : Process) → HasNoMoreRights now q × LeavesTable call now q → Leaves q
  since q both = (no_more-along me now q (no_more-same me now refl refl refl refl) both.0, both.1)

  preserved-reported : (after : State) (r : Reply) (f : Process → Process) → ((p : Process) → HasSameRights p (f p)) → HasNoMore now pid call after r → IsQuiet call r
      → (q : Process) → process_at (collect (update after pid f)) pid ≡ Some q → Leaves q
  preserved-reported after r f same has quiet q there =
      let is : Some (f has.0) ≡ Some q = sym (process_at-collect (update after pid f) pid ∙ update-live after pid f has.0 has.1) ∙ there in
      let eq : f has.0 ≡ q = cc is in
      subst Leaves eq (since (f has.0) (reported call now has.0 f (same has.0) (has.2 quiet)))

  ended : (after : State) (status : ℕ) → HasEffect x pid now call after (ends status) → (q : Process) → process_at (collect (end_process after pid now status)) pid ≡ Some q → Leaves q
  ended after status does q there =
      let same = ends-stays x pid now call after (ends status) status does refl in
      absurd (ended-not_live x pid now status x_order.ascending q
      (subst (λ (y : State). process_at (end_process y pid now status) pid ≡ Some q) same (sym (process_at-collect (end_process after pid now status) pid) ∙ there)))

  preserved-attempt : (a : Attempt Effect) → Leads (Did x pid now call) a → Keeps (answer_by_attempt s x pid now a)
  preserved-attempt (done walks (after, returns n)) does q there quiet =
      preserved-reported after (returns n) (λ p. with_result p (pos n) 0) (λ p. record { promises = refl; execpromises = refl; table = refl; locked = refl; descriptors = refl })
      (caller x pid now call x_order x_at after (returns n) does) (λ m is. let same : n ≡ m = cc is in ap (λ k. begins_image (calls_for call) (Value k)) (sym same) ∙ quiet) q there
  preserved-attempt (done walks (after, returns_bytes n bytes)) does q there quiet =
      preserved-reported after (returns_bytes n bytes) (λ p. with_front bytes (with_result p (pos n) 0)) (λ p. record { promises = refl; execpromises = refl; table = refl; locked = refl; descriptors = refl })
      (caller x pid now call x_order x_at after (returns_bytes n bytes) does) (λ m is. cc is) q there
  preserved-attempt (done walks (after, ends status)) does q there quiet = ended after status does q there
  preserved-attempt (done walks (after, waits)) does q there quiet = let is : Some me ≡ Some q = sym at ∙ there in let same : me ≡ q = cc is in subst Leaves same (as-was me (record { promises = refl; execpromises = refl; table = refl; locked = refl; descriptors = refl }))
  preserved-attempt (refused walks errno cause) does q there quiet = refused-keeps errno q there
    where
      refused-keeps : (errno : Errno) (q : Process) → process_at (update x pid (λ p. with_result p (negsuc 0) (errno_number errno))) pid ≡ Some q → Leaves q
      refused-keeps errno q there =
          let is : Some (with_result now (negsuc 0) (errno_number errno)) ≡ Some q = sym (update-live x pid (λ p. with_result p (negsuc 0) (errno_number errno)) now x_at) ∙ there in
          let same : with_result now (negsuc 0) (errno_number errno) ≡ q = cc is in subst Leaves same (as-was (with_result now (negsuc 0) (errno_number errno)) (record { promises = refl; execpromises = refl; table = refl; locked = refl; descriptors = refl }))

  pub preserved : Keeps (answer program_of s pid call)
  preserved =
      by_answer Keeps program_of s pid call
      (λ none. cc)
      (λ p is missing. let same : p ≡ me = cc in subst (λ (y : Process). Keeps (answer_by_attempt s (at_call s pid y) pid (at_next_line y) (effect program_of (at_call s pid y) pid (at_next_line y) call))) (sym same)
      (preserved-attempt (effect program_of x pid now call) (does-effect program_of x pid now call)))
      (λ p lacks is missing lenient. let same : p ≡ me = cc in subst (λ (y : Process). Keeps (answer_by_attempt s (at_call s pid y) pid (at_next_line y) (refused 0 ENOSYS (ByPromise lacks)))) (sym same)
      (preserved-attempt (refused 0 ENOSYS (ByPromise lacks)) tt))
      (λ p lacks is missing lenient q there quiet. absurd (ended-not_live s pid (at_next_line p) 6 order.ascending q (sym (process_at-collect (end_process s pid (at_next_line p) 6) pid) ∙ there)))

  -- ---- others

  -- another process after the answer
  abbrev KeepsOther : ℕ → Process → Answered → Type 0
  KeepsOther k p a = (q : Process) × (process_at a.after k ≡ Some q) × IsUnchangedExceptParent p q

  module _ (k : ℕ) (p : Process) (apart : k ≢ pid) (there : process_at s k ≡ Some p) where
    x_there : process_at x k ≡ Some p
    x_there = process_at-other s pid now k apart ∙ there

    other-reported : (after : State) (r : Reply) (f : Process → Process) → HasEffect x pid now call after r → KeepsOther k p (record { after = collect (update after pid f); outcome = Gone; walks = 0 })
    other-reported after r f does =
        (p, process_at-collect (update after pid f) k ∙ update-other after pid f k apart ∙ other x pid now call x_order x_at k p apart x_there after r does, alone-itself p)

    other-ended : (after : State) (status : ℕ) → process_at after k ≡ Some p → KeepsOther k p (record { after = collect (end_process after pid now status); outcome = Gone; walks = 0 })
    other-ended after status stays_there =
        let left = ended-others after pid now status k p apart stays_there in
        (left.0, process_at-collect (end_process after pid now status) k ∙ left.1, left.2)

    other-attempt : (a : Attempt Effect) → Leads (Did x pid now call) a → KeepsOther k p (answer_by_attempt s x pid now a)
    other-attempt (done walks (after, returns n)) does = other-reported after (returns n) (λ p. with_result p (pos n) 0) does
    other-attempt (done walks (after, returns_bytes n bytes)) does = other-reported after (returns_bytes n bytes) (λ p. with_front bytes (with_result p (pos n) 0)) does
    other-attempt (done walks (after, ends status)) does = other-ended after status (other x pid now call x_order x_at k p apart x_there after (ends status) does)
    other-attempt (done walks (after, waits)) does = (p, there, alone-itself p)
    other-attempt (refused walks errno cause) does = (p, update-other x pid (λ q. with_result q (negsuc 0) (errno_number errno)) k apart ∙ x_there, alone-itself p)

    pub other-preserved : KeepsOther k p (answer program_of s pid call)
    other-preserved =
        by_answer (KeepsOther k p) program_of s pid call
        (λ none. (p, there, alone-itself p))
        (λ y is missing. let same : y ≡ me = cc in subst (λ (y : Process). KeepsOther k p (answer_by_attempt s (at_call s pid y) pid (at_next_line y) (effect program_of (at_call s pid y) pid (at_next_line y) call))) (sym same)
        (other-attempt (effect program_of x pid now call) (does-effect program_of x pid now call)))
        (λ y lacks is missing lenient. let same : y ≡ me = cc in subst (λ (y : Process). KeepsOther k p (answer_by_attempt s (at_call s pid y) pid (at_next_line y) (refused 0 ENOSYS (ByPromise lacks)))) (sym same)
        (other-attempt (refused 0 ENOSYS (ByPromise lacks)) tt))
        (λ y lacks is missing lenient.
        let left = ended-others s pid (at_next_line y) 6 k p apart there in
        (left.0, process_at-collect (end_process s pid (at_next_line y) 6) k ∙ left.1, left.2))
