-- What a writer wrote is the answer, or a prefix of it.
use Rattle.std.proofs.Common.{◌≡◌, ap, sym, subst, refl, inl, inr, ℕ, Result, Ok, Err, IfErr}
use Rattle.std.specs.Result.{IsErrAnd}
use Rattle.pv_model.specs.declared.stream.Failed.{Failed}
use Rattle.pv_model.specs.declared.stream.Sink.{Ghosts as Writing}
use Rattle.pv_model.specs.Machine.{Bytes, and_then}
use Rattle.pv_streams.specs.declared.stop.Stop.{Stop}
use Rattle.pv_streams.specs.declared.stop.Stop.TheVariants.{Memory as NoStepMemory, Write as Unwritten}
use Rattle.pv_streams.specs.Sinks.{FailsBy, Writes, WritesOr}
use Rattle.pv_questions.specs.Answered.{IsWritten}
use Rattle.pv_questions.specs.Answers.{Answer}
use Rattle.pv_questions.specs.Failures.{IsFailureOf, failure_of_stop}
use Rattle.pv_questions.specs.declared.answering.End.{End}
use Rattle.pv_questions.specs.declared.failure.Failure.{Failure}
use Rattle.pv_questions.specs.declared.failure.Failure.TheVariants.{Read, Memory, Write, Refused, Incomplete, Different}
use Rattle.pv_questions.specs.declared.failure.Refusal.{Refusal}
use Rattle.pv_questions.specs.declared.failure.Target.TheVariants.{Output}
use Rattle.pv_questions.proofs.CheckKinds.{IsOfCheck}

-- a result that is an error is this error
pub is_error : {T E : Type 0} (r : Result T E) (error : E) → IsErrAnd r (λ e. e ≡ error) → r ≡ Err error
is_error (Ok value) error is = absurd is
is_error (Err e) error is = ap Err is

module _ {W : Type 0} {sink : Writing W} where
  as_result : {answer : Answer} {old new : W} (failure : Failure) (r : Result End Failure) → IsErrAnd r (λ e. e ≡ failure) → IsWritten sink answer old new (Err failure)
      → IsWritten sink answer old new r
  as_result {answer = answer} {old = old} {new = new} failure r is written =
      subst (λ (x : Result End Failure). IsWritten sink answer old new x) (sym (is_error r failure is)) written

  -- the same answer
  pub answer-as : {a b : Answer} {old new : W} {r : Result End Failure} → a ≡ b → IsWritten sink a old new r → IsWritten sink b old new r
  answer-as {old = old} {new = new} {r = r} same written = subst (λ (answer : Answer). IsWritten sink answer old new r) same written

  -- ---- nothing was written: the answer is a refusal, or there is no memory

  pub refusal-written : {answer : Answer} {old : W} {refused : Refusal} → answer ≡ Err (Refused refused) → IsWritten sink answer old old (Err (Refused refused))
  refusal-written is = record { outcome = (is, refl); counts = refl; untouched = λ h. refl }

  memory-written : (answer : Answer) (old : W) → IsWritten sink answer old old (Err Memory)
  memory-written answer old = record { outcome = inl refl; counts = refl; untouched = λ h. refl }

  pub no_memory-written : {answer : Answer} {old : W} {r : Result End Failure} → IsErrAnd r (λ e. e ≡ Memory) → IsWritten sink answer old old r
  no_memory-written {answer = answer} {old = old} {r = r} is = as_result Memory r is (memory-written answer old)

  module _ {A : Type 0} (asked : Result A Failure) (answered : A → Answer) where
    refused-by : (old : W) (failure : Failure) → IsFailureOf asked failure → ((f : Failure) → asked ≡ Err f → IsOfCheck f)
        → IsWritten sink (and_then (λ f. f) asked answered) old old (Err failure)
    refused-by old Memory is kind = memory-written (and_then (λ f. f) asked answered) old
    refused-by old (Refused refused) is kind = refusal-written (ap (λ (a : Result A Failure). and_then (λ f. f) a answered) is)
    refused-by old (Read origin) is kind = absurd (kind (Read origin) is)
    refused-by old (Write target) is kind = absurd (kind (Write target) is)
    refused-by old Incomplete is kind = absurd (kind Incomplete is)
    refused-by old Different is kind = absurd (kind Different is)

    -- a check failed
    pub checked-written : {old : W} {r : Result End Failure} (failure : Failure) → IsErrAnd r (λ e. e ≡ failure) → IfErr asked IsOfCheck → IsFailureOf asked failure
        → IsWritten sink (and_then (λ f. f) asked answered) old old r
    checked-written {old = old} {r = r} failure same kind is =
        as_result failure r same (refused-by old failure is (λ f e. subst (λ (a : Result A Failure). IfErr a IsOfCheck) e kind))

    -- the answer after a check is that of the value
    pub next-written : {old new : W} {r : Result End Failure} (value : A) → asked ≡ Ok value → IsWritten sink (answered value) old new r
        → IsWritten sink (and_then (λ f. f) asked answered) old new r
    next-written {old = old} {new = new} {r = r} value is written =
        subst (λ (a : Result A Failure). IsWritten sink (and_then (λ f. f) a answered) old new r) (sym is) written

  -- ---- a text was written, or a prefix of it

  module _ {text : Bytes} {end : End} {old new : W} where
    stopped-by : {T : Type 0} (stop : Stop) → WritesOr {T = T} sink FailsBy text old new (Err stop)
        → IsWritten sink (Ok (record { text = text; end = end })) old new (Err (failure_of_stop stop))
    stopped-by NoStepMemory writes =
        record { outcome = inr (record { text = text; end = end }, refl, writes.prefix); counts = writes.failed; untouched = λ h. absurd h }
    stopped-by Unwritten writes =
        record { outcome = (refl, inr (record { text = text; end = end }, refl, writes.prefix)); counts = writes.failed; untouched = λ h. absurd h }

    pub stopped-written : {T : Type 0} {stop : Stop} {r : Result End Failure} → IsErrAnd r (λ e. e ≡ failure_of_stop stop) → WritesOr {T = T} sink FailsBy text old new (Err stop)
        → IsWritten sink (Ok (record { text = text; end = end })) old new r
    stopped-written {stop = stop} {r = r} same writes = as_result (failure_of_stop stop) r same (stopped-by stop writes)

    pub failed-written : {T : Type 0} {error : Failed} {r : Result End Failure} → IsErrAnd r (λ e. e ≡ Write Output) → Writes {T = T} sink text old new (Err error)
        → IsWritten sink (Ok (record { text = text; end = end })) old new r
    failed-written {r = r} same writes =
        as_result (Write Output) r same
        (record { outcome = (refl, inr (record { text = text; end = end }, refl, writes.prefix)); counts = writes.failed; untouched = λ h. absurd h })

    -- the whole text, by a writer with one more reason to fail, or without
    pub whole-written : {T E : Type 0} {fails : E → ℕ → ℕ → Type 0} {value : T} {last : End} → end ≡ last → WritesOr sink fails text old new (Ok value)
        → IsWritten sink (Ok (record { text = text; end = end })) old new (Ok last)
    whole-written ends writes = record { outcome = (record { text = text; end = end }, refl, (ends, writes.whole)); counts = writes.quiet; untouched = tt }

    pub all-written : {T E : Type 0} {value : T} {last : End} → end ≡ last → Writes {E = E} sink text old new (Ok value)
        → IsWritten sink (Ok (record { text = text; end = end })) old new (Ok last)
    all-written ends writes = record { outcome = (record { text = text; end = end }, refl, (ends, writes.whole)); counts = writes.quiet; untouched = tt }
