-- Refusals and kills that name a promise.
use Rattle.std.proofs.Common.{◌≡◌, ◌↔◌, ℕ, Bool, true, false, Option, None, Some, Result, Ok, Err, refl, ap, sym, subst, ◌∙◌, ◌⊎◌, inl, inr, ⊎_elim}
use Rattle.pv_model.specs.declared.call.Call.{Call}
use Rattle.pv_model.specs.declared.call.Call.TheVariants as TheCall
use Rattle.pv_model.specs.declared.errno.Errno.{Errno}
use Rattle.pv_model.specs.declared.errno.Errno.TheVariants.{EPERM, EINVAL, ENOSYS}
use Rattle.pv_model.specs.declared.outcome.Cause.TheVariants.{Plain, Promise as ByPromise}
use Rattle.pv_model.specs.declared.outcome.Outcome.TheVariants.{Failed, Killed}
use Rattle.pv_model.specs.declared.promise.Promise.{Promise}
use Rattle.pv_model.specs.Machine.{answer, answer_by_attempt, at_next_line, effect, Attempt, done, refused, after_walks, ◌>>=◌, give, demand, Bytes, asked_promises, unless_refused, pledge, Effect, returns, returns_bytes, ends, waits, answers, needs, Promises, narrow_promises, is_lenient, missing_promise, Program, Process, State, process_at, with_process}
use Rattle.pv_model.specs.Promises.{read_promises, first_increase, unless_increase}
use Rattle.pv_laws_states.proofs.CallOutcomes.{at_call, by_answer, answered-always}
use Rattle.pv_laws_states.proofs.CallRemainders
use Rattle.pv_laws_access.proofs.ProcessesAfterEnds.{not-killed}
use Rattle.pv_laws_access.specs.Promises.{IsFirstMissing, Asks, Increases, IncreasesNothing, IsIncrease, IsRefusedByPromise, missing, increase}
use Rattle.pv_laws_access.proofs.FirstMissing.{first-missing-named, first-increase-named}
use Rattle.pv_laws_access.proofs.PledgeRefusals.{is_pledge, not-by-promise}

-- ---- narrowing

increased : (lenient : Bool) (held asked : Option Promises) (a : Promise) → narrow_promises lenient held asked ≡ Err a → (lenient ≡ false) × Increases held asked a
increased lenient held None a is = cc is
increased lenient None (Some wants) a is = cc is
increased true (Some has) (Some wants) a is = cc is
increased false (Some has) (Some wants) a is = (refl, (has, wants, refl, refl, (first-increase-named has wants a).0 (by (first_increase has wants) is)))
  where
    by : (o : Option Promise) → unless_increase o wants ≡ Err a → o ≡ Some a
    by None is = cc is
    by (Some p) is = let same : p ≡ a = cc is in ap Some same

increases-refused : (held asked : Option Promises) (a : Promise) → Increases held asked a → narrow_promises false held asked ≡ Err a
increases-refused held asked a is =
    (λ i. narrow_promises false (is.2 i) (is.3 i)) ∙ ap (λ o. unless_increase o is.1) ((first-increase-named is.0 is.1 a).1 is.4)

-- if no promise beyond those held is requested, the value is accepted
narrowed : (held asked : Option Promises) → IncreasesNothing held asked → (preserved : Option Promises) × (narrow_promises false held asked ≡ Ok preserved)
narrowed held asked none = by (narrow_promises false held asked) refl
  where
    by : (r : Result (Option Promises) Promise) → narrow_promises false held asked ≡ r → (preserved : Option Promises) × (narrow_promises false held asked ≡ Ok preserved)
    by (Ok preserved) is = (preserved, is)
    by (Err a) is = absurd (none a (increased false held asked a is).1)

no-increase : (held asked preserved : Option Promises) → narrow_promises false held asked ≡ Ok preserved → IncreasesNothing held asked
no-increase held asked preserved is a more = let both : Ok preserved ≡ Err a = sym is ∙ increases-refused held asked a more in cc both

-- ---- requested sets

asked-is : (text : Option Bytes) (asked : Option Promises) → Asks text asked → asked_promises text ≡ give asked
asked-is None asked is = ap give (sym is)
asked-is (Some text) asked is = ap (λ o. demand EINVAL o >>= (λ set. give (Some set))) is.1 ∙ ap give (sym is.2)

outcome-after : (before x : State) (pid : ℕ) (now : Process) (n : ℕ) (attempt : Attempt Effect) → (answer_by_attempt before x pid now (after_walks n attempt)).outcome ≡ (answer_by_attempt before x pid now attempt).outcome
outcome-after before x pid now n (done walks (after, returns k)) = refl
outcome-after before x pid now n (done walks (after, returns_bytes k bytes)) = refl
outcome-after before x pid now n (done walks (after, ends status)) = refl
outcome-after before x pid now n (done walks (after, waits)) = refl
outcome-after before x pid now n (refused walks e c) = refl

-- an argument requests a set, or is invalid
asks-or : (text : Option Bytes) → ((asked : Option Promises) × Asks text asked) ⊎ (asked_promises text ≡ refused 0 EINVAL Plain)
asks-or None = inl (None, refl)
asks-or (Some text) = by (read_promises text) refl
  where
    by : (o : Option Promises) → read_promises text ≡ o → ((asked : Option Promises) × Asks (Some text) asked) ⊎ (asked_promises (Some text) ≡ refused 0 EINVAL Plain)
    by None none = inr (ap (λ p. demand EINVAL p >>= (λ set. give (Some set))) none)
    by (Some set) is = inl (Some set, (set, is, refl))

module _ (me : Process) (promises execpromises : Option Bytes) (errno : Errno) (a : Promise) where
  abbrev Increase : Type 0
  Increase = IsRefusedByPromise me (TheCall.Pledge promises execpromises) a errno

  module _ (before x : State) (pid : ℕ) (now : Process) (same : now.promises ≡ me.promises) (exec_same : now.execpromises ≡ me.execpromises) where
    abbrev Names : Attempt Effect → Type 0
    Names attempt = (answer_by_attempt before x pid now attempt).outcome ≡ Failed errno (ByPromise a)

    abbrev lenient : Bool
    lenient = is_lenient now.promises

    abbrev last : Option Promises → Option Promises → Attempt Effect
    last preserved exec_preserved = answers (with_process x pid (record now { promises = preserved; execpromises = exec_preserved })) 0

    module _ (asked exec_asked : Option Promises) (asks : Asks promises asked) (exec_asks : Asks execpromises exec_asked) where
      reported : (strict : lenient ≡ false) → (Increases now.promises asked a ⊎ (IncreasesNothing now.promises asked × Increases now.execpromises exec_asked a)) → errno ≡ EPERM → Increase
      reported strict increases error =
          subst (IsRefusedByPromise me (TheCall.Pledge promises execpromises) a) (sym error) (increase (record {
            promises = promises;
            execpromises = execpromises;
            pledges = refl;
            strict = ap is_lenient (sym same) ∙ strict;
            asked = asked;
            asks = asks;
            exec_asked = exec_asked;
            exec_asks = exec_asks;
            increases = subst (λ held. Increases held asked a ⊎ (IncreasesNothing held asked × Increases me.execpromises exec_asked a)) same
                (subst (λ held. Increases now.promises asked a ⊎ (IncreasesNothing now.promises asked × Increases held exec_asked a)) exec_same increases);
          }))

      second : (preserved : Option Promises) → (lenient ≡ false → IncreasesNothing now.promises asked) → (r : Result (Option Promises) Promise) → narrow_promises lenient now.execpromises exec_asked ≡ r
          → Names (unless_refused r >>= last preserved) → Increase
      second preserved none (Ok exec_preserved) narrows is = cc is
      second preserved none (Err p) narrows is =
          let named : p ≡ a = cc is in
          let error : EPERM ≡ errno = cc is in
          let more = increased lenient now.execpromises exec_asked a (narrows ∙ ap Err named) in
          reported more.0 (inr (none more.0, more.1)) (sym error)

      first : (r : Result (Option Promises) Promise) → narrow_promises lenient now.promises asked ≡ r → Names (unless_refused r >>= CallRemainders.pledge_3 x pid now exec_asked) → Increase
      first (Ok preserved) narrows is =
          second preserved (λ strict. no-increase now.promises asked preserved (ap (λ b. narrow_promises b now.promises asked) (sym strict) ∙ narrows)) (narrow_promises lenient now.execpromises exec_asked) refl
          (sym (outcome-after before x pid now 0 (unless_refused (narrow_promises lenient now.execpromises exec_asked) >>= last preserved)) ∙ is)
      first (Err p) narrows is =
          let named : p ≡ a = cc is in
          let error : EPERM ≡ errno = cc is in
          let more = increased lenient now.promises asked a (narrows ∙ ap Err named) in
          reported more.0 (inl more.1) (sym error)

    -- the attempt of a pledge whose arguments are valid
    abbrev course : Option Promises → Option Promises → Attempt Effect
    course asked exec_asked = unless_refused (narrow_promises lenient now.promises asked) >>= CallRemainders.pledge_3 x pid now exec_asked

    outcome-is : (asked exec_asked : Option Promises) → Asks promises asked → Asks execpromises exec_asked
        → (answer_by_attempt before x pid now (pledge x pid now promises execpromises)).outcome ≡ (answer_by_attempt before x pid now (course asked exec_asked)).outcome
    outcome-is asked exec_asked asks exec_asks =
        ap (λ p. (answer_by_attempt before x pid now (p >>= CallRemainders.pledge_1 x pid now execpromises)).outcome) (asked-is promises asked asks)
        ∙ ap (λ p. (answer_by_attempt before x pid now (after_walks 0 (p >>= CallRemainders.pledge_2 x pid now asked))).outcome) (asked-is execpromises exec_asked exec_asks)
        ∙ outcome-after before x pid now 0 (after_walks 0 (course asked exec_asked))
        ∙ outcome-after before x pid now 0 (course asked exec_asked)

    pledge-increases : Names (pledge x pid now promises execpromises) → Increase
    pledge-increases is =
        ⊎_elim
        (λ (some : (asked : Option Promises) × Asks promises asked).
        ⊎_elim
        (λ (exec_some : (asked : Option Promises) × Asks execpromises asked).
        first some.0 exec_some.0 some.1 exec_some.1 (narrow_promises lenient now.promises some.0) refl (sym (outcome-is some.0 exec_some.0 some.1 exec_some.1) ∙ is))
        (λ (bad : asked_promises execpromises ≡ refused 0 EINVAL Plain).
        let plain : (answer_by_attempt before x pid now (pledge x pid now promises execpromises)).outcome ≡ Failed EINVAL Plain =
        ap (λ p. (answer_by_attempt before x pid now (p >>= CallRemainders.pledge_1 x pid now execpromises)).outcome) (asked-is promises some.0 some.1)
        ∙ ap (λ p. (answer_by_attempt before x pid now (after_walks 0 (p >>= CallRemainders.pledge_2 x pid now some.0))).outcome) bad in
        let both : Failed EINVAL Plain ≡ Failed errno (ByPromise a) = sym plain ∙ is in absurd (cc both))
        (asks-or execpromises))
        (λ (bad : asked_promises promises ≡ refused 0 EINVAL Plain).
        let plain : (answer_by_attempt before x pid now (pledge x pid now promises execpromises)).outcome ≡ Failed EINVAL Plain =
        ap (λ p. (answer_by_attempt before x pid now (p >>= CallRemainders.pledge_1 x pid now execpromises)).outcome) bad in
        let both : Failed EINVAL Plain ≡ Failed errno (ByPromise a) = sym plain ∙ is in absurd (cc both))
        (asks-or promises)

-- conversely
module _ (before x : State) (pid : ℕ) (now : Process) (a : Promise) (promises execpromises : Option Bytes) (asked exec_asked : Option Promises) (asks : Asks promises asked) (exec_asks : Asks execpromises exec_asked)
    (strict : is_lenient now.promises ≡ false) where
  abbrev reported-by : Attempt Effect → Type 0
  reported-by attempt = (answer_by_attempt before x pid now attempt).outcome ≡ Failed EPERM (ByPromise a)

  abbrev by_narrowing : Result (Option Promises) Promise → Attempt Effect
  by_narrowing r = unless_refused r >>= CallRemainders.pledge_3 x pid now exec_asked

  abbrev then_narrowing : Option Promises → Result (Option Promises) Promise → Attempt Effect
  then_narrowing preserved r = unless_refused r >>= (λ exec_preserved. answers (with_process x pid (record now { promises = preserved; execpromises = exec_preserved })) 0)

  increases-pledge : Increases now.promises asked a ⊎ (IncreasesNothing now.promises asked × Increases now.execpromises exec_asked a)
      → reported-by (by_narrowing (narrow_promises (is_lenient now.promises) now.promises asked))
  increases-pledge is =
      ⊎_elim
      (λ (more : Increases now.promises asked a).
      ap (λ r. (answer_by_attempt before x pid now (by_narrowing r)).outcome) (ap (λ b. narrow_promises b now.promises asked) strict ∙ increases-refused now.promises asked a more))
      (λ (later : IncreasesNothing now.promises asked × Increases now.execpromises exec_asked a).
      let preserved = narrowed now.promises asked later.0 in
      ap (λ r. (answer_by_attempt before x pid now (by_narrowing r)).outcome) (ap (λ b. narrow_promises b now.promises asked) strict ∙ preserved.1)
      ∙ ap (λ r. (answer_by_attempt before x pid now (after_walks 0 (then_narrowing preserved.0 r))).outcome)
      (ap (λ b. narrow_promises b now.execpromises exec_asked) strict ∙ increases-refused now.execpromises exec_asked a later.1)) is

module _ (program_of : Bytes → Option Program) (s : State) (pid : ℕ) (me : Process) (call : Call) (at : process_at s pid ≡ Some me) where
  one : (y : Process) → process_at s pid ≡ Some y → y ≡ me
  one y found = let both : Some y ≡ Some me = sym found ∙ at in cc both

  module _ (errno : Errno) (a : Promise) where
    by-pledge : (x : State) (now : Process) → now.promises ≡ me.promises → now.execpromises ≡ me.execpromises → (c : Call) → call ≡ c → is_pledge c ≡ true
        → (answer_by_attempt s x pid now (effect program_of x pid now c)).outcome ≡ Failed errno (ByPromise a) → IsRefusedByPromise me call a errno
    unfolding effect
    by-pledge x now same exec_same (TheCall.Pledge promises execpromises) is pledges reported =
        subst (λ c. IsRefusedByPromise me c a errno) (sym is) (pledge-increases me promises execpromises errno a s x pid now same exec_same reported)
    by-pledge x now same exec_same c is pledges reported = cc pledges

    refused-by : (answer program_of s pid call).outcome ≡ Failed errno (ByPromise a) → IsRefusedByPromise me call a errno
    refused-by =
        by_answer (λ r. r.outcome ≡ Failed errno (ByPromise a) → IsRefusedByPromise me call a errno) program_of s pid call
        (λ none is. cc is)
        (λ y found met is. by y found (is_pledge call) refl is)
        (λ y p found lacks lenient is.
        let error : ENOSYS ≡ errno = cc is in
        let named : p ≡ a = cc is in
        let same = one y found in
        subst (IsRefusedByPromise me call a) error
        (missing (ap (λ (z : Process). is_lenient z.promises) (sym same) ∙ lenient)
        ((first-missing-named me.promises call a).0 (ap (λ (z : Process). missing_promise z.promises (needs call)) (sym same) ∙ lacks ∙ ap Some named))))
        (λ y p found lacks strict is. cc is)
      where
        by : (y : Process) → process_at s pid ≡ Some y → (b : Bool) → is_pledge call ≡ b
            → (answer_by_attempt s (at_call s pid y) pid (at_next_line y) (effect program_of (at_call s pid y) pid (at_next_line y) call)).outcome ≡ Failed errno (ByPromise a)
            → IsRefusedByPromise me call a errno
        by y found false plain is = absurd (not-by-promise program_of (at_call s pid y) s pid (at_next_line y) call errno a plain is)
        by y found true pledges is =
            by-pledge (at_call s pid y) (at_next_line y) (ap (λ (z : Process). z.promises) (one y found)) (ap (λ (z : Process). z.execpromises) (one y found)) call refl pledges is

  reported-increase : (a : Promise) (inc : IsIncrease me call a) → (answer program_of s pid call).outcome ≡ Failed EPERM (ByPromise a)
  unfolding effect
  reported-increase a inc =
      subst (λ c. (answer program_of s pid c).outcome ≡ Failed EPERM (ByPromise a)) (sym inc.pledges)
      (by_answer (λ r. r.outcome ≡ Failed EPERM (ByPromise a)) program_of s pid (TheCall.Pledge inc.promises inc.execpromises)
      (λ none. let both : None ≡ Some me = sym none ∙ at in cc both)
      (λ y found met.
      let same = one y found in
      outcome-is y inc.promises inc.execpromises EPERM a s (at_call s pid y) pid (at_next_line y) refl refl inc.asked inc.exec_asked inc.asks inc.exec_asks
      ∙ increases-pledge s (at_call s pid y) pid (at_next_line y) a inc.promises inc.execpromises inc.asked inc.exec_asked inc.asks inc.exec_asks (ap (λ (z : Process). is_lenient z.promises) same ∙ inc.strict)
      (subst (λ (z : Process). Increases z.promises inc.asked a ⊎ (IncreasesNothing z.promises inc.asked × Increases z.execpromises inc.exec_asked a)) (sym same) inc.increases))
      (λ y p found lacks lenient. let bad : None ≡ Some p = sym (answered-always y.promises (TheCall.Pledge inc.promises inc.execpromises) refl) ∙ lacks in cc bad)
      (λ y p found lacks strict. let bad : None ≡ Some p = sym (answered-always y.promises (TheCall.Pledge inc.promises inc.execpromises) refl) ∙ lacks in cc bad))

  reported-missing : (a : Promise) → is_lenient me.promises ≡ true → missing_promise me.promises (needs call) ≡ Some a → (answer program_of s pid call).outcome ≡ Failed ENOSYS (ByPromise a)
  reported-missing a lenient lacks =
      by_answer (λ r. r.outcome ≡ Failed ENOSYS (ByPromise a)) program_of s pid call
      (λ none. let both : None ≡ Some me = sym none ∙ at in cc both)
      (λ y found met. let both : None ≡ Some a = sym met ∙ ap (λ (z : Process). missing_promise z.promises (needs call)) (one y found) ∙ lacks in cc both)
      (λ y p found missing under.
      let both : Some p ≡ Some a = sym missing ∙ ap (λ (z : Process). missing_promise z.promises (needs call)) (one y found) ∙ lacks in
      let same : p ≡ a = cc both in ap (λ q. Failed ENOSYS (ByPromise q)) same)
      (λ y p found missing strict. let both : false ≡ true = sym strict ∙ ap (λ (z : Process). is_lenient z.promises) (one y found) ∙ lenient in cc both)

  pub promise-refuses : (errno : Errno) (a : Promise) → ((answer program_of s pid call).outcome ≡ Failed errno (ByPromise a)) ↔ IsRefusedByPromise me call a errno
  promise-refuses errno a = (refused-by errno a, λ is. by errno is)
    where
      by : (e : Errno) → IsRefusedByPromise me call a e → (answer program_of s pid call).outcome ≡ Failed e (ByPromise a)
      by _ (missing lenient first) = reported-missing a lenient ((first-missing-named me.promises call a).1 first)
      by _ (increase inc) = reported-increase a inc

  pub promise-kills : (a : Promise) → ((answer program_of s pid call).outcome ≡ Killed a) ↔ ((is_lenient me.promises ≡ false) × IsFirstMissing me.promises call a)
  promise-kills a = (killed, kills)
    where
      killed : (answer program_of s pid call).outcome ≡ Killed a → (is_lenient me.promises ≡ false) × IsFirstMissing me.promises call a
      killed =
          by_answer (λ r. r.outcome ≡ Killed a → (is_lenient me.promises ≡ false) × IsFirstMissing me.promises call a) program_of s pid call
          (λ none is. cc is)
          (λ y found met is. absurd (not-killed s (at_call s pid y) pid (at_next_line y) (effect program_of (at_call s pid y) pid (at_next_line y) call) a is))
          (λ y p found lacks lenient is. cc is)
          (λ y p found lacks strict is.
          let named : p ≡ a = cc is in
          let same = one y found in (
            ap (λ (z : Process). is_lenient z.promises) (sym same) ∙ strict,
            (first-missing-named me.promises call a).0 (ap (λ (z : Process). missing_promise z.promises (needs call)) (sym same) ∙ lacks ∙ ap Some named),
          ))

      kills : (is_lenient me.promises ≡ false) × IsFirstMissing me.promises call a → (answer program_of s pid call).outcome ≡ Killed a
      kills both' =
          let lacks = (first-missing-named me.promises call a).1 both'.1 in
          by_answer (λ r. r.outcome ≡ Killed a) program_of s pid call
          (λ none. let both : None ≡ Some me = sym none ∙ at in cc both)
          (λ y found met. let both : None ≡ Some a = sym met ∙ ap (λ (z : Process). missing_promise z.promises (needs call)) (one y found) ∙ lacks in cc both)
          (λ y p found missing lenient. let both : true ≡ false = sym lenient ∙ ap (λ (z : Process). is_lenient z.promises) (one y found) ∙ both'.0 in cc both)
          (λ y p found missing strict.
          let both : Some p ≡ Some a = sym missing ∙ ap (λ (z : Process). missing_promise z.promises (needs call)) (one y found) ∙ lacks in
          let same : p ≡ a = cc both in ap Killed same)
