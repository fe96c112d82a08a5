-- The pledge of a process, as contracts see it.
use Rattle.std.specs.Prelude.{◌≡◌, refl, Option, Some, None, Result, Ok, Err}
use Rattle.pv_model.specs.declared.promise.Promise.{Promise}
use Rattle.pv_model.specs.declared.promises.Promises.{Promises as Set}
use Rattle.pv_model.specs.Machine.{Promises, narrow_promises, is_lenient}

-- the promises of a process, and those that it gets with execve(2), each absent until it is set
pub record Pledged : Type 0 where
  pub promises : Option Promises
  pub execpromises : Option Promises

-- the bits of a set that may be absent
abbrev pub bits_of : Option Set → Option Promises
bits_of None = None
bits_of (Some set) = Some set.0

-- the inverse
abbrev pub promise_set_of : Option Promises → Option Set
promise_set_of None = None
promise_set_of (Some bits) = Some (record { 0 = bits })

pub promise_set_of-bits_of : (set : Option Set) → promise_set_of (bits_of set) ≡ set
promise_set_of-bits_of None = refl
promise_set_of-bits_of (Some set) = refl

-- the bits of a new set, or the promise that is an increase
abbrev pub bits_of_result : Result (Option Set) Promise → Result (Option Promises) Promise
bits_of_result (Ok set) = Ok (bits_of set)
bits_of_result (Err p) = Err p

abbrev pub both_preserved : Result (Option Promises) Promise → Result (Option Promises) Promise → Result Pledged Promise
both_preserved (Ok preserved) (Ok exec_preserved) = Ok (record { promises = preserved; execpromises = exec_preserved })
both_preserved (Err p) _ = Err p
both_preserved (Ok preserved) (Err p) = Err p

-- both sets narrowed; if both would fail, the error is that of the promises
abbrev pub narrow_both : Pledged → Option Promises → Option Promises → Result Pledged Promise
narrow_both held promises execpromises =
    let lenient = is_lenient held.promises in
    both_preserved (narrow_promises lenient held.promises promises) (narrow_promises lenient held.execpromises execpromises)
