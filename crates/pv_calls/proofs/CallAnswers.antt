-- From the result of a call, by its promises, to its answer.
use Rattle.std.proofs.Common.{◌≡◌, ◌∙◌, ap, sym, subst, refl, ℕ, negsuc, Bool, true, false, List, Option, None, Some, Result, Ok, Err}
use Rattle.std.specs.Prelude.{IsSome, IfErr, IfOk, option_map}
use Rattle.pv_model.specs.declared.call.Call.{Call}
use Rattle.pv_model.specs.declared.errno.Errno.TheVariants.{ENOSYS}
use Rattle.pv_model.specs.declared.outcome.Cause.TheVariants.{Promise as ByPromise}
use Rattle.pv_model.specs.declared.outcome.Outcome.TheVariants.{Gone, Killed, Blocked}
use Rattle.pv_model.specs.declared.promise.Promise.{Promise}
use Rattle.pv_model.specs.Machine.{Answered, answer, answer_by_attempt, at_next_line, effect, update, refused, give, waits, end_process, wait, with_result, program_of, collect, needs, Promises, is_lenient, missing_promise, Process, State, process_at, with_process, Bytes, errno_number, Tree, find_entry, IsWellFormed}
use Rattle.pv_model.specs.declared.call.Call.TheVariants.{Wait}
use Rattle.std.specs.FinMap.Entries.{is_sorted}
use Rattle.std.specs.Ordering.{nat_cmp}
use Rattle.pv_calls.proofs.WaitBlocking.{waits-next}
use Rattle.pv_promises.specs.Decision.{unless_missing, decision}
use Rattle.pv_promises.specs.declared.pledge.Decision.TheVariants.{Allowed, Kill, Refuse}
use Rattle.pv_calls_path.specs.OfCallsPlain.declared.answer.Answer.{Answer}
use Rattle.pv_calls.specs.Calls.{IsCarriedOut, IsBlocked, DoesNotBlock}
use Rattle.pv_calls.specs.Loading.{Loads, LoadsProgram}
use Rattle.pv_calls_path.specs.Caller.{IsCaller}
use Rattle.pv_calls_path.specs.OfCallsPlain.declared.answer.Refused.{Refused}
use Rattle.pv_calls_path.specs.OfCallsPlain.Performed.{answered, IsAnswered}
use Rattle.pv_laws_states.specs.States.{IsValid}
use Rattle.pv_laws_states.proofs.Processes.{process_at-same, update-is, tree-update}
use Rattle.pv_laws_states.proofs.ValidReplies.{valid-at_call}
use Rattle.pv_laws_states.proofs.CollectedStates.{tree-collect, held_after}
use Rattle.pv_audit.specs.OfProcs.declared.record.ProcessRecord.{ProcessRecord}
use Rattle.pv_audit.specs.OfProcs.Parts.{record_of}
use Rattle.pv_promises.specs.declared.pledge.Decision.{Decision}
use Rattle.pv_laws_trees.specs.Preserved.{numbers_wanted}
use Rattle.pv_laws_trees.proofs.Collection.{find-only, wanted-covers}
use Rattle.pv_laws_trees.proofs.Trees.{sound}
use Rattle.pv_audit.proofs.OfCallsState.UncountedChanges.{some-at}
use Rattle.pv_laws_states.proofs.ValidEnds.{tree-end}
use Rattle.pv_model.specs.declared.kernel_fault.StepFault.{StepFault}

nothing_missing : (lenient : Bool) (missing : Option Promise) → unless_missing lenient missing ≡ Allowed → missing ≡ None
nothing_missing lenient None h = refl
nothing_missing true (Some p) h = cc
nothing_missing false (Some p) h = cc

kills : (lenient : Bool) (missing : Option Promise) (p : Promise) → unless_missing lenient missing ≡ Kill p → (missing ≡ Some p) × (lenient ≡ false)
kills lenient None p h = cc
kills true (Some q) p h = cc
kills false (Some q) p h = let same : q ≡ p = cc in (ap Some same, refl)

refuses : (lenient : Bool) (missing : Option Promise) (p : Promise) → unless_missing lenient missing ≡ Refuse p → (missing ≡ Some p) × (lenient ≡ true)
refuses lenient None p h = cc
refuses true (Some q) p h = let same : q ≡ p = cc in (ap Some same, refl)
refuses false (Some q) p h = cc

module _ (s : State) (pid : ℕ) (call : Call) where
  -- the process is not live
  pub answer-gone : process_at s pid ≡ None → answer program_of s pid call ≡ record { after = s; outcome = Gone; walks = 0 }
  unfolding answer
  answer-gone none = rw none refl

  module _ (me : Process) (at : process_at s pid ≡ Some me) where
    -- if no promise is missing, the call is made from the next line
    pub answer-allowed : (new : State) (a : Answer) → decision me.promises (needs call) ≡ Allowed → IsCarriedOut s pid call new a → answer program_of s pid call ≡ answered new a
    unfolding answer
    answer-allowed new a allowed carried =
        rw (at, nothing_missing (is_lenient me.promises) (missing_promise me.promises (needs call)) allowed) (carried me at)

    pub answer-refused : (p : Promise) → decision me.promises (needs call) ≡ Refuse p
        → answer program_of s pid call ≡ answer_by_attempt s (with_process s pid (at_next_line me)) pid (at_next_line me) (refused 0 ENOSYS (ByPromise p))
    unfolding answer
    answer-refused p refuse =
        let parts = refuses (is_lenient me.promises) (missing_promise me.promises (needs call)) p refuse in
        rw (at, parts.0, parts.1) refl

    pub answer-killed : (p : Promise) → decision me.promises (needs call) ≡ Kill p
        → answer program_of s pid call ≡ record { after = collect (end_process s pid (at_next_line me) 6); outcome = Killed p; walks = 0 }
    unfolding answer
    answer-killed p kill =
        let parts = kills (is_lenient me.promises) (missing_promise me.promises (needs call)) p kill in
        rw (at, parts.0, parts.1) refl

-- the state after the end of a process does not depend on its line
pub end-next_line : (s : State) (pid : ℕ) (me : Process) (status : ℕ) → end_process s pid (at_next_line me) status ≡ end_process s pid me status
unfolding end_process
end-next_line s pid me status = refl

-- ---- after the next line

-- a process that has advanced is live, its state is valid, and a lookup that agreed with the tree still agrees with it
pub next-live : (s s1 : State) (pid : ℕ) → s1 ≡ update s pid at_next_line → IsSome (process_at s pid) → IsSome (process_at s1 pid)
next-live s s1 pid is live =
    let me = some-at (process_at s pid) live in
    subst (λ x. IsSome (process_at x pid)) (sym (is ∙ update-is s pid at_next_line me.0 me.1))
    (subst IsSome (sym (process_at-same s pid (at_next_line me.0))) refl)

next-valid : (s s1 : State) (pid : ℕ) → s1 ≡ update s pid at_next_line → IsSome (process_at s pid) → IsValid s → IsValid s1
next-valid s s1 pid is live whole =
    let me = some-at (process_at s pid) live in
    subst IsValid (sym (is ∙ update-is s pid at_next_line me.0 me.1)) (valid-at_call s pid me.0 whole me.1)

pub next-caller : (Agrees : (ℕ → List ℕ → Option ℕ) → Type 0) (s s1 : State) (pid : ℕ) → s1 ≡ update s pid at_next_line → IsCaller Agrees s pid → IsCaller Agrees s1 pid
next-caller Agrees s s1 pid is caller = record {
  whole = next-valid s s1 pid is caller.live caller.whole;
  live = next-live s s1 pid is caller.live;
  agrees = subst (λ (t : Tree). Agrees (find_entry t)) (sym (ap (λ (x : State). x.tree) is ∙ tree-update s pid at_next_line)) caller.agrees;
}

-- the effect for a process that has advanced is the result of the call
pub carried-on : (s s1 : State) (pid : ℕ) (call : Call) (new : State) (a : Answer) → s1 ≡ update s pid at_next_line
    → IsAnswered (λ x m. effect program_of x pid m call) s1 pid new a → IsCarriedOut s pid call new a
carried-on s s1 pid call new a is performed = λ me at.
    subst (λ x. IsAnswered (λ y m. effect program_of y pid m call) x pid new a) (is ∙ update-is s pid at_next_line me at) performed s (at_next_line me)
    (process_at-same s pid (at_next_line me))

pub reported-tree : (before s : State) (pid : ℕ) (me : Process) (r : Refused) (new : State) (a : Answer)
    → answer_by_attempt before s pid me (refused r.walks r.errno r.cause) ≡ answered new a → new.tree ≡ s.tree
reported-tree before s pid me r new a is =
    ap (λ (x : Answered). x.after.tree) (sym is) ∙ tree-update s pid (λ p. with_result p (negsuc 0) (errno_number r.errno))

-- ---- the decision

promises-of : (o : Option Process) (me : Process) (r : ProcessRecord) → o ≡ Some me → option_map record_of o ≡ Some r → r.pledge.promises ≡ me.promises
promises-of o me r is has = let same : Some (record_of me) ≡ Some r = ap (λ x. option_map record_of x) (sym is) ∙ has in ap (λ x. promises_in x) (sym same)
  where
    promises_in : Option ProcessRecord → Option Promises
    promises_in None = None
    promises_in (Some x) = x.pledge.promises

pub decided : (s : State) (pid : ℕ) (r : ProcessRecord) (call : Call) (d : Decision) → option_map record_of (process_at s pid) ≡ Some r → d ≡ decision r.pledge.promises (needs call)
    → (me : Process) → process_at s pid ≡ Some me → decision me.promises (needs call) ≡ d
decided s pid r call d has is me at = ap (λ h. decision h (needs call)) (sym (promises-of (process_at s pid) me r at has)) ∙ sym is

-- ---- collection keeps the names

pub find-collect : (s : State) → IsWellFormed s.tree → (d : ℕ) (name : Bytes) → find_entry (collect s).tree d name ≡ find_entry s.tree d name
find-collect s well d name =
    ap (λ t. find_entry t d name) (tree-collect s) ∙ find-only s.tree (numbers_wanted s.tree (held_after s)) (sound s.tree well) (wanted-covers s.tree (held_after s)) d name

-- ---- waits

pub next-DoesNotBlock : (s s1 : State) (pid : ℕ) (call : Call) → s1 ≡ update s pid at_next_line → IsSome (process_at s pid) → is_sorted nat_cmp s.processes ≡ true → DoesNotBlock s pid call → DoesNotBlock s1 pid call
next-DoesNotBlock s s1 pid Wait is live sorted on = λ x at-x waits-x.
    let me = some-at (process_at s pid) live in
    let same : s1 ≡ with_process s pid (at_next_line me.0) = is ∙ update-is s pid at_next_line me.0 me.1 in
    let here : x ≡ at_next_line me.0 = some_is (sym at-x ∙ ap (λ y. process_at y pid) same ∙ process_at-same s pid (at_next_line me.0)) in
    on me.0 me.1 ((waits-next s pid me.0 sorted me.1).0 (subst (λ y. wait y pid (at_next_line me.0) ≡ give (y, waits)) same (subst (λ m. wait s1 pid m ≡ give (s1, waits)) here waits-x)))
  where
    some_is : {x y : Process} → Some x ≡ Some y → x ≡ y
    some_is {x} {y} e = cc e
next-DoesNotBlock s s1 pid call is live sorted on = tt

pub blocked-carried : (s : State) (pid : ℕ) (call : Call) → is_sorted nat_cmp s.processes ≡ true → IsBlocked s pid call → IsCarriedOut s pid call s (record { outcome = Blocked; walks = 0 })
unfolding effect
blocked-carried s pid Wait sorted blocked = λ me at.
    ap (answer_by_attempt s (with_process s pid (at_next_line me)) pid (at_next_line me)) ((waits-next s pid me sorted at).1 (blocked me at))
blocked-carried s pid call sorted blocked = absurd blocked

-- ---- the lemmas for make_call

-- a process with a record is live, and a process without one is not
pub live-of : (s : State) (pid : ℕ) (r : ProcessRecord) → option_map record_of (process_at s pid) ≡ Some r → (me : Process) × (process_at s pid ≡ Some me)
live-of s pid r has = by (process_at s pid) refl has
  where
    by : (o : Option Process) → process_at s pid ≡ o → option_map record_of o ≡ Some r → (me : Process) × (process_at s pid ≡ Some me)
    by None at none = absurd cc
    by (Some me) at is = (me, at)

pub gone-of : (s : State) (pid : ℕ) → option_map record_of (process_at s pid) ≡ None → process_at s pid ≡ None
gone-of s pid none = by (process_at s pid) none
  where
    by : (o : Option Process) → option_map record_of o ≡ None → o ≡ None
    by None e = refl
    by (Some me) e = absurd cc

pub answer-allowed-if : (s : State) (pid : ℕ) (call : Call) (me : Process) → process_at s pid ≡ Some me → (new : State) (r : Result Answer StepFault) → decision me.promises (needs call) ≡ Allowed
    → IfOk r (λ a. IsCarriedOut s pid call new a) → IfOk r (λ a. answer program_of s pid call ≡ answered new a)
answer-allowed-if s pid call me at new (Ok a) allowed carried = answer-allowed s pid call me at new a allowed carried
answer-allowed-if s pid call me at new (Err e) allowed carried = tt

pub loads-if : (s : State) (pid : ℕ) (call : Call) (me : Process) → process_at s pid ≡ Some me → (r : Result Answer StepFault) → decision me.promises (needs call) ≡ Allowed
    → IfErr r (λ _. (p : Process) → process_at s pid ≡ Some p → Loads s p call) → IfErr r (λ _. LoadsProgram s pid call)
loads-if s pid call me at (Ok a) allowed loads = tt
loads-if s pid call me at (Err e) allowed loads =
    record { me = me; lives = at; promised = nothing_missing (is_lenient me.promises) (missing_promise me.promises (needs call)) allowed; loads = loads me at }

pub killed-so : (s : State) (pid : ℕ) (call : Call) (me : Process) → process_at s pid ≡ Some me → (p : Promise) (new : State) → decision me.promises (needs call) ≡ Kill p
    → new ≡ collect (end_process s pid me 6) → answer program_of s pid call ≡ answered new (record { outcome = Killed p; walks = 0 })
killed-so s pid call me at p new kill is =
    answer-killed s pid call me at p kill
    ∙ ap (λ after. let a : Answered = record { after = after; outcome = Killed p; walks = 0 } in a) (ap collect (end-next_line s pid me 6) ∙ sym is)

pub find-end : (s : State) (pid : ℕ) (me : Process) (status : ℕ) (new : State) → IsValid s → new ≡ collect (end_process s pid me status)
    → (d : ℕ) (name : Bytes) → find_entry new.tree d name ≡ find_entry s.tree d name
find-end s pid me status new whole is d name =
    ap (λ x. find_entry x.tree d name) is ∙ find-collect (end_process s pid me status) (subst IsWellFormed (sym (tree-end s pid me status)) whole.tree.well_formed) d name
    ∙ ap (λ t. find_entry t d name) (tree-end s pid me status)
