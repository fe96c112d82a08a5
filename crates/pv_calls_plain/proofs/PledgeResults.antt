-- pledge(2), by the result of narrowing both values together.
use Rattle.std.proofs.Common.{◌≡◌, ℕ, Option, Result, Ok, Err, ap}
use Rattle.pv_model.specs.declared.errno.Errno.TheVariants.{EPERM}
use Rattle.pv_model.specs.declared.outcome.Cause.TheVariants.{Promise as ByPromise}
use Rattle.pv_model.specs.declared.promise.Promise.{Promise}
use Rattle.pv_model.specs.Machine.{Attempt, done, refused, ◌>>=◌, give, Bytes, asked_promises, unless_refused, pledge, Effect, answers, returns, Promises, is_lenient, narrow_promises, Process, State, with_process}
use Rattle.pv_promises.specs.Pledge.{Pledged, narrow_both, both_preserved}
use Rattle.pv_calls_state.proofs.AttemptSequences.{after_none}

abbrev pub pledged : Process → Pledged
pledged p = record { promises = p.promises; execpromises = p.execpromises }

abbrev pub with_pledged : Pledged → Process → Process
with_pledged v p = record p { promises = v.promises; execpromises = v.execpromises }

module _ (s : State) (pid : ℕ) (me : Process) where
  abbrev both_asked : Result (Option Promises) Promise → Result (Option Promises) Promise → Attempt Effect
  both_asked first second =
      unless_refused first >>= (λ preserved. unless_refused second >>= (λ exec_preserved. answers (with_process s pid (record me { promises = preserved; execpromises = exec_preserved })) 0))

  preserved : (first second : Result (Option Promises) Promise) (v : Pledged) → both_preserved first second ≡ Ok v
      → both_asked first second ≡ done 0 (with_process s pid (with_pledged v me), returns 0)
  preserved (Ok a) (Ok b) v e =
      let same : ◌≡◌ {A = Pledged} (record { promises = a; execpromises = b }) v = cc in
      ap (λ w. done 0 (with_process s pid (with_pledged w me), returns 0)) same
  preserved (Ok a) (Err p) v e = cc
  preserved (Err p) second v e = cc

  refused_promise : (first second : Result (Option Promises) Promise) (p : Promise) → both_preserved first second ≡ Err p → both_asked first second ≡ refused 0 EPERM (ByPromise p)
  refused_promise (Ok a) (Ok b) p e = cc
  refused_promise (Ok a) (Err q) p e = let same : q ≡ p = cc in ap (λ r. refused 0 EPERM (ByPromise r)) same
  refused_promise (Err q) second p e = let same : q ≡ p = cc in ap (λ r. refused 0 EPERM (ByPromise r)) same

  module _ (promises execpromises : Option Bytes) (asked exec_asked : Option Promises)
      (first : asked_promises promises ≡ give asked) (second : asked_promises execpromises ≡ give exec_asked) where
    pub pledge-preserved : (v : Pledged) → narrow_both (pledged me) asked exec_asked ≡ Ok v
        → pledge s pid me promises execpromises ≡ done 0 (with_process s pid (with_pledged v me), returns 0)
    pledge-preserved v e =
        rw (first, second, after_none, after_none) (preserved
        (narrow_promises (is_lenient me.promises) me.promises asked)
        (narrow_promises (is_lenient me.promises) me.execpromises exec_asked) v e)

    pub pledge-refused : (p : Promise) → narrow_both (pledged me) asked exec_asked ≡ Err p
        → pledge s pid me promises execpromises ≡ refused 0 EPERM (ByPromise p)
    pledge-refused p e =
        rw (first, second, after_none, after_none) (refused_promise
        (narrow_promises (is_lenient me.promises) me.promises asked)
        (narrow_promises (is_lenient me.promises) me.execpromises exec_asked) p e)
