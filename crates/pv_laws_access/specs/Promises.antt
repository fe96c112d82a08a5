-- Refusals and kills that name a promise: when they occur, and which promise they name. pledge(2).
use Rattle.std.specs.Prelude.{◌≡◌, ◌↔◌, ◌⊎◌, ℕ, ◌<◌, ◌≤◌, IsTrue, IsFalse, List, ◌∷◌, Contains, Option, None, Some}
use Rattle.pv_model.specs.declared.call.Call.{Call}
use Rattle.pv_model.specs.declared.call.Call.TheVariants.{Pledge}
use Rattle.pv_model.specs.declared.errno.Errno.{Errno}
use Rattle.pv_model.specs.declared.errno.Errno.TheVariants.{EPERM, ENOSYS}
use Rattle.pv_model.specs.declared.outcome.Cause.TheVariants.{Promise as ByPromise}
use Rattle.pv_model.specs.declared.outcome.Outcome.TheVariants.{Failed, Killed}
use Rattle.pv_model.specs.declared.promise.Promise.{Promise}
use Rattle.pv_model.specs.Machine.{answer, Bytes, needs, Promises, contains, is_lenient, is_met, missing_promise, Program, Process, State, process_at}
use Rattle.pv_model.specs.Promise.{promise_bit}
use Rattle.pv_model.specs.Promises.{read_promises, first_increase}

-- ---- the first promise that is missing

-- the promise is the first of a need that is not met, and no unmet need begins with an earlier promise
pub record IsFirstMissing (held : Option Promises) (call : Call) (a : Promise) : Type 0 where
  pub others : List Promise
  pub asked : Contains (needs call) (a ∷ others)
  pub unmet : IsFalse (is_met held (a ∷ others))
  pub first : (b : Promise) (more : List Promise) → Contains (needs call) (b ∷ more) → IsFalse (is_met held (b ∷ more)) → promise_bit a ≤ promise_bit b

-- the named promise is the first missing one, and one is named if and only if a need is not met
abbrev pub FirstMissingIsNamed : Type 0
FirstMissingIsNamed = (held : Option Promises) (call : Call) (a : Promise) → (missing_promise held (needs call) ≡ Some a) ↔ IsFirstMissing held call a

-- ---- the first keyword that is not held

-- a keyword is requested and not held, and each earlier requested keyword is held
pub record IsFirstIncrease (held asked : Promises) (a : Promise) : Type 0 where
  pub wanted : IsTrue (contains asked a)
  pub not_held : IsFalse (contains held a)
  pub first : (b : Promise) → promise_bit b < promise_bit a → IsTrue (contains asked b) → IsTrue (contains held b)

abbrev pub FirstIncreaseIsNamed : Type 0
FirstIncreaseIsNamed = (held asked : Promises) (a : Promise) → (first_increase held asked ≡ Some a) ↔ IsFirstIncrease held asked a

-- ---- refusals

-- the set that an argument of pledge requests, or None if the argument is null
abbrev pub Asks : Option Bytes → Option Promises → Type 0
Asks None asked = asked ≡ None
Asks (Some text) asked = (set : Promises) × (read_promises text ≡ Some set) × (asked ≡ Some set)

-- the first promise that is requested but not held
abbrev pub Increases : Option Promises → Option Promises → Promise → Type 0
Increases held asked a = (has : Promises) × (wants : Promises) × (held ≡ Some has) × (asked ≡ Some wants) × IsFirstIncrease has wants a

-- every requested promise is held
abbrev pub IncreasesNothing : Option Promises → Option Promises → Type 0
IncreasesNothing held asked = (a : Promise) → ¬ Increases held asked a

-- a pledge requests more than the process has: in the promises, or else in the execpromises
pub record IsIncrease (me : Process) (call : Call) (a : Promise) : Type 0 where
  pub promises : Option Bytes
  pub execpromises : Option Bytes
  pub pledges : call ≡ Pledge promises execpromises
  pub strict : IsFalse (is_lenient me.promises)
  pub asked : Option Promises
  pub asks : Asks promises asked
  pub exec_asked : Option Promises
  pub exec_asks : Asks execpromises exec_asked
  pub increases : Increases me.promises asked a ⊎ (IncreasesNothing me.promises asked × Increases me.execpromises exec_asked a)

-- the reason why a refusal names a promise: it is the first missing one, under `error`; or a pledge requests it, first
-- of those not held
pub data IsRefusedByPromise (me : Process) (call : Call) (a : Promise) : Errno → Type 0 where
  missing : IsTrue (is_lenient me.promises) → IsFirstMissing me.promises call a → IsRefusedByPromise me call a ENOSYS
  increase : IsIncrease me call a → IsRefusedByPromise me call a EPERM

-- a refusal names a promise if and only if there is such a reason
abbrev pub PromiseRefusesExactly : Type 0
PromiseRefusesExactly =
    (program_of : Bytes → Option Program) (s : State) (pid : ℕ) (me : Process) (call : Call) (errno : Errno) (a : Promise) → process_at s pid ≡ Some me
    → ((answer program_of s pid call).outcome ≡ Failed errno (ByPromise a)) ↔ IsRefusedByPromise me call a errno

-- a kill names a promise if and only if it is the first missing one and `error` is not held
abbrev pub PromiseKillsExactly : Type 0
PromiseKillsExactly =
    (program_of : Bytes → Option Program) (s : State) (pid : ℕ) (me : Process) (call : Call) (a : Promise) → process_at s pid ≡ Some me
    → ((answer program_of s pid call).outcome ≡ Killed a) ↔ (IsFalse (is_lenient me.promises) × IsFirstMissing me.promises call a)
