-- Calls that answer a number, and a bound of it.
use Rattle.std.proofs.Common.{◌≡◌, ℕ, ◌≤◌, Result, Ok, Err, ap, sym, subst, ◌∙◌}
use Rattle.std.specs.Prelude.{IfOk, IsSome, MatchResult, OnErr, Some}
use Rattle.pv_calls_plain.specs.declared.answer.Done.{Done}
use Rattle.pv_calls_plain.specs.declared.answer.Refused.{Refused}
use Rattle.pv_calls_state.specs.Attempts.{plainly, collected_attempt}
use Rattle.pv_calls_plain.specs.Performed.{IsPerformed, attempt_of}
use Rattle.pv_model.specs.declared.errno.Errno.{Errno}
use Rattle.pv_model.specs.declared.outcome.Cause.TheVariants.{Plain}
use Rattle.pv_model.specs.Machine.{Attempt, done, refused, Effect, returns, returns_bytes, ends, waits, collect, Process, State, process_at}
use Rattle.pv_laws_states.proofs.AttemptValues.{Leads}
use Rattle.pv_laws_states.proofs.ValidReplies.{IsEffect}
use Rattle.pv_calls_state.proofs.UncountedChanges.{some-at}

-- the value of an effect fits a register
pub low-value : (s new : State) (a : Attempt Effect) (n value : ℕ) → Leads (IsEffect s) a → collected_attempt a ≡ done n (new, returns value) → value ≤ 2147483647
low-value s new (done walks (after, returns m)) n value good is =
    let pair : ◌≡◌ {A = Effect} (collect after, returns m) (new, returns value) = cc is in
    let reply : returns m ≡ returns value = ap (λ (x : Effect). x.1) pair in
    let same : m ≡ value = cc reply in subst (λ k. k ≤ 2147483647) same good.1
low-value s new (done walks (after, returns_bytes m bytes)) n value good is =
    let pair : ◌≡◌ {A = Effect} (collect after, returns_bytes m bytes) (new, returns value) = cc is in
    let reply : returns_bytes m bytes ≡ returns value = ap (λ (x : Effect). x.1) pair in cc reply
low-value s new (done walks (after, ends status)) n value good is =
    let pair : ◌≡◌ {A = Effect} (collect after, ends status) (new, returns value) = cc is in
    let reply : ends status ≡ returns value = ap (λ (x : Effect). x.1) pair in cc reply
low-value s new (done walks (after, waits)) n value good is =
    let pair : ◌≡◌ {A = Effect} (collect after, waits) (new, returns value) = cc is in
    let reply : waits ≡ returns value = ap (λ (x : Effect). x.1) pair in cc reply
low-value s new (refused walks errno cause) n value good is = cc

-- the same for the result of a system call
pub low-performed : (s new : State) (a : Attempt Effect) (performed : Result Done Refused) → Leads (IsEffect s) a → collected_attempt a ≡ attempt_of new performed → IfOk performed (λ d. d.value ≤ 2147483647)
low-performed s new a (Ok d) good is = low-value s new a d.walks d.value good is
low-performed s new a (Err r) good is = tt

abbrev pub IsPlain : Result ℕ Errno → Result Done Refused → Type 0
IsPlain performed result =
    MatchResult performed (λ value. result ≡ Ok (record { walks = 0; value = value })) (λ errno. result ≡ Err (record { walks = 0; errno = errno; cause = Plain }))

-- a system call of the parts
plain-performed : (new : State) (a : Attempt Effect) (performed : Result ℕ Errno) (result : Result Done Refused) → IsPlain performed result → collected_attempt a ≡ plainly new performed → collected_attempt a ≡ attempt_of new result
plain-performed new a (Ok value) result plain is = is ∙ sym (ap (attempt_of new) plain)
plain-performed new a (Err errno) result plain is = is ∙ sym (ap (attempt_of new) plain)

-- the value of a successful call is small
small-performed : (s new : State) (r : Result ℕ Errno) (a : Attempt Effect) → collected_attempt a ≡ plainly new r → Leads (IsEffect s) a → IfOk r (λ n. n ≤ 2147483647)
small-performed s new (Ok value) (done walks (after, returns n)) is good =
    let pair : ◌≡◌ {A = Effect} (collect after, returns n) (new, returns value) = cc in
    let reply : returns n ≡ returns value = ap (λ (x : Effect). x.1) pair in
    let number : n ≡ value = cc in
    subst (λ k. k ≤ 2147483647) number good.1
small-performed s new (Ok value) (done walks (after, returns_bytes n bytes)) is good =
    let pair : ◌≡◌ {A = Effect} (collect after, returns_bytes n bytes) (new, returns value) = cc in
    let reply : returns_bytes n bytes ≡ returns value = ap (λ (x : Effect). x.1) pair in cc
small-performed s new (Ok value) (done walks (after, ends status)) is good =
    let pair : ◌≡◌ {A = Effect} (collect after, ends status) (new, returns value) = cc in
    let reply : ends status ≡ returns value = ap (λ (x : Effect). x.1) pair in cc
small-performed s new (Ok value) (done walks (after, waits)) is good =
    let pair : ◌≡◌ {A = Effect} (collect after, waits) (new, returns value) = cc in
    let reply : waits ≡ returns value = ap (λ (x : Effect). x.1) pair in cc
small-performed s new (Ok value) (refused walks errno cause) is good = cc
small-performed s new (Err errno) a is good = tt

plain-small : (r : Result ℕ Errno) (performed : Result Done Refused) → MatchResult r (λ value. performed ≡ Ok (record { walks = 0; value = value }))
    (λ errno. performed ≡ Err (record { walks = 0; errno = errno; cause = Plain })) → IfOk r (λ n. n ≤ 2147483647) → IfOk performed (λ d. d.value ≤ 2147483647)
plain-small (Ok value) performed is small = subst (λ x. IfOk x (λ d. d.value ≤ 2147483647)) (sym is) small
plain-small (Err errno) performed is small = subst (λ x. IfOk x (λ d. d.value ≤ 2147483647)) (sym is) tt

plain-unchanged : (s new : State) (r : Result ℕ Errno) (result : Result Done Refused) → IsPlain r result → OnErr r (new ≡ s) → OnErr result (new ≡ s)
plain-unchanged s new (Ok value) result plain same = subst (λ x. OnErr x (new ≡ s)) (sym plain) tt
plain-unchanged s new (Err errno) result plain same = subst (λ x. OnErr x (new ≡ s)) (sym plain) same

-- a system call of the parts is performed, if its value fits a register in each attempt
pub plainly-performed : (f : State → Process → Attempt Effect) (s new : State) (pid : ℕ) (r : Result ℕ Errno) (result : Result Done Refused) → IsPlain r result
    → ((me : Process) → process_at s pid ≡ Some me → collected_attempt (f s me) ≡ plainly new r) → OnErr r (new ≡ s) → IsSome (process_at s pid)
    → ((me : Process) → process_at s pid ≡ Some me → Leads (IsEffect s) (f s me)) → IsPerformed f s pid new result
plainly-performed f s new pid r result plain is same live good = record {
  as_defined = λ me at. plain-performed new (f s me) r result plain (is me at);
  unchanged = plain-unchanged s new r result plain same;
  small = let mine = some-at (process_at s pid) live in plain-small r result plain (small-performed s new r (f s mine.0) (is mine.0 mine.1) (good mine.0 mine.1));
}
