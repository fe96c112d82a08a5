-- Sequences of attempts.
use Rattle.std.proofs.Common.{◌≡◌, ℕ, refl, ap, zero-add}
use Rattle.pv_model.specs.declared.errno.Errno.{Errno}
use Rattle.pv_model.specs.declared.outcome.Cause.{Cause}
use Rattle.pv_model.specs.Machine.{Attempt, done, refused, after_walks, ◌>>=◌, ◌>>◌, give}

-- an attempt after no walk is the attempt itself
pub after_none : {A : Type 0} (a : Attempt A) → after_walks 0 a ≡ a
after_none (done walks value) = ap (λ n. done n value) (zero-add walks)
after_none (refused walks errno cause) = ap (λ n. refused n errno cause) (zero-add walks)

-- if the first attempt gives a value, only the rest remains
pub given : {A B : Type 0} (a : Attempt A) (value : A) (next : A → Attempt B) → a ≡ give value → (a >>= next) ≡ next value
given a value next is = rw is (after_none (next value))

pub passed : {A B : Type 0} (a : Attempt A) (value : A) (next : Attempt B) → a ≡ give value → (a >> next) ≡ next
passed a value next is = rw is (after_none next)

-- if the first attempt is refused, the sequence is refused
pub refused_first : {A B : Type 0} (a : Attempt A) (next : A → Attempt B) (walks : ℕ) (errno : Errno) (cause : Cause)
    → a ≡ refused walks errno cause → (a >>= next) ≡ refused walks errno cause
refused_first a next walks errno cause is = rw is refl

pub refused_before : {A B : Type 0} (a : Attempt A) (next : Attempt B) (walks : ℕ) (errno : Errno) (cause : Cause)
    → a ≡ refused walks errno cause → (a >> next) ≡ refused walks errno cause
refused_before a next walks errno cause is = rw is refl
