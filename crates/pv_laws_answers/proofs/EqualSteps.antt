-- Outcomes and states that are not different are equal.
use Rattle.std.proofs.Common.{◌≡◌, ◌≢◌, ◌∙◌, sym, ap, refl, ℕ, Bool, true, false, ◌==◌, List, [], ◌∷◌, filter, slice_get, bytes_eq, Option, None, Some}
use Rattle.pv_model.specs.declared.errno.Errno.{Errno}
use Rattle.pv_model.specs.declared.errno.Errno.TheVariants.{EPERM, ENOENT, E2BIG, ENOEXEC, EBADF, ECHILD, EACCES, EBUSY, EEXIST, ENOTDIR, EISDIR, EINVAL, ENFILE, EMFILE, EFBIG, ENOSPC, EAGAIN, ELOOP, ENAMETOOLONG, ENOTEMPTY, ENOSYS}
use Rattle.pv_model.specs.declared.outcome.Cause.{Cause}
use Rattle.pv_model.specs.declared.outcome.Cause.TheVariants.{Plain, Promise as ByPromise, Unveil as ByUnveil, Locked}
use Rattle.pv_model.specs.declared.outcome.Outcome.{Outcome}
use Rattle.pv_model.specs.declared.outcome.Outcome.TheVariants.{Value, Text, Failed, Killed, Exited, Blocked, Gone}
use Rattle.pv_model.specs.declared.promise.Promise.{Promise}
use Rattle.pv_model.specs.declared.promise.Promise.TheVariants.{Stdio}
use Rattle.pv_model.specs.Machine.{Numbers, same_state, errno_number, all_promises, State}
use Rattle.pv_model.specs.Promise.{promise_bit}
use Rattle.pv_laws_trees.proofs.DirectoryEntries.{bytes_eq-same, bytes_eq-itself}
use Rattle.pv_laws_answers.proofs.StateDecoding.{reported-apart}

-- ---- decoding the numbers of an outcome

abbrev first_number : Numbers → ℕ
first_number [] = 0
first_number (n ∷ ns) = n

abbrev rest_of : Numbers → Numbers
rest_of [] = []
rest_of (n ∷ ns) = ns

abbrev or_else : {X : Type 0} → X → Option X → X
or_else x None = x
or_else x (Some y) = y

abbrev all_errnos : List Errno
all_errnos =
    EPERM ∷ ENOENT ∷ E2BIG ∷ ENOEXEC ∷ EBADF ∷ ECHILD ∷ EACCES ∷ EBUSY ∷ EEXIST ∷ ENOTDIR ∷ EISDIR ∷ EINVAL ∷ ENFILE ∷ EMFILE ∷ EFBIG ∷ ENOSPC ∷ EAGAIN ∷ ELOOP
    ∷ ENAMETOOLONG ∷ ENOTEMPTY ∷ ENOSYS ∷ []

abbrev errno_of : ℕ → Errno
errno_of n = or_else ENOSYS (slice_get (filter (λ e. errno_number e == n) all_errnos) 0)

back-errno : (e : Errno) → errno_of (errno_number e) ≡ e
back-errno EPERM = refl
back-errno e = refl

abbrev promise_of : ℕ → Promise
promise_of n = or_else Stdio (slice_get all_promises n)

back-promise : (p : Promise) → promise_of (promise_bit p) ≡ p
back-promise Stdio = refl
back-promise p = refl

abbrev cause_numbers : Cause → Numbers
cause_numbers Plain = 0 ∷ []
cause_numbers (ByPromise p) = 1 ∷ promise_bit p ∷ []
cause_numbers (ByUnveil None) = 2 ∷ []
cause_numbers (ByUnveil (Some k)) = 3 ∷ k ∷ []
cause_numbers Locked = 4 ∷ []

abbrev cause_of : Numbers → Cause
cause_of ns =
    or_else Plain (slice_get (Plain ∷ ByPromise (promise_of (first_number (rest_of ns))) ∷ ByUnveil None ∷ ByUnveil (Some (first_number (rest_of ns))) ∷ Locked ∷ []) (first_number ns))

back-cause : (c : Cause) → cause_of (cause_numbers c) ≡ c
back-cause Plain = refl
back-cause (ByPromise p) = ap (λ q. ByPromise q) (back-promise p)
back-cause (ByUnveil None) = refl
back-cause (ByUnveil (Some k)) = refl
back-cause Locked = refl

abbrev outcome_numbers : Outcome → Numbers
outcome_numbers (Value n) = 0 ∷ n ∷ []
outcome_numbers (Text taken) = 1 ∷ taken.value ∷ taken.len ∷ []
outcome_numbers (Failed e c) = 2 ∷ errno_number e ∷ cause_numbers c
outcome_numbers (Killed p) = 3 ∷ promise_bit p ∷ []
outcome_numbers Exited = 4 ∷ []
outcome_numbers Blocked = 5 ∷ []
outcome_numbers Gone = 6 ∷ []

abbrev outcome_of : Numbers → Outcome
outcome_of ns =
    or_else Gone (slice_get (
    Value (first_number (rest_of ns))
    ∷ Text (record { value = first_number (rest_of ns); len = first_number (rest_of (rest_of ns)) })
    ∷ Failed (errno_of (first_number (rest_of ns))) (cause_of (rest_of (rest_of ns)))
    ∷ Killed (promise_of (first_number (rest_of ns))) ∷ Exited ∷ Blocked ∷ Gone ∷ []) (first_number ns))

back-outcome : (o : Outcome) → outcome_of (outcome_numbers o) ≡ o
back-outcome (Value n) = refl
back-outcome (Text taken) = refl
back-outcome (Failed e c) = ap (λ d. Failed d (cause_of (cause_numbers c))) (back-errno e) ∙ ap (λ d. Failed e d) (back-cause c)
back-outcome (Killed p) = ap (λ q. Killed q) (back-promise p)
back-outcome Exited = refl
back-outcome Blocked = refl
back-outcome Gone = refl

-- ---- outcomes that are not different are equal

pub outcome-same : (a b : Outcome) → (a ≢ b → ⊥) → a ≡ b
outcome-same a b alike = by (bytes_eq (outcome_numbers a) (outcome_numbers b)) refl
  where
    by : (equal : Bool) → bytes_eq (outcome_numbers a) (outcome_numbers b) ≡ equal → a ≡ b
    by true is = sym (back-outcome a) ∙ ap outcome_of (bytes_eq-same (outcome_numbers a) (outcome_numbers b) is) ∙ back-outcome b
    by false is =
        absurd (alike (λ same.
        let yes : bytes_eq (outcome_numbers a) (outcome_numbers b) ≡ true = ap (λ o. bytes_eq (outcome_numbers a) (outcome_numbers o)) (sym same) ∙ bytes_eq-itself (outcome_numbers a) in
        let both : true ≡ false = sym yes ∙ is in cc both))

pub state-same : (a b : State) → ((a ≡ b → ⊥) → ⊥) → a ≡ b
state-same a b alike = by (same_state a b) refl
  where
    by : (equal : Bool) → same_state a b ≡ equal → a ≡ b
    by true is = (reported-apart a b).0 is
    by false is = absurd (alike (λ same. let both : true ≡ false = sym ((reported-apart a b).1 same) ∙ is in cc both))
