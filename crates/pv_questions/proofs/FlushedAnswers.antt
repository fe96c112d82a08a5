-- The output of a writer that is then flushed is the answer.
use Rattle.std.proofs.Common.{◌≡◌, ◌∙◌, ap, sym, subst, refl, inr, ℕ, Option, Result, Ok, Err, OnOk}
use Rattle.std.specs.Result.{IsErrAnd}
use Rattle.pv_model.specs.declared.stream.Sink.{Ghosts as Writing}
use Rattle.pv_model.specs.Machine.{Bytes, Rose}
use Rattle.pv_streams.specs.Sinks.{WritesPrefix}
use Rattle.pv_streams.proofs.SinkWrites.{begins_whole}
use Rattle.pv_questions.specs.Answered.{Begins, FlushedWith, Flushes, FlushesAfter, IsResultOfEnd, IsWritten, OutcomeBuffered, WritesAnswer, WritesWhole}
use Rattle.pv_questions.specs.Answers.{Answer}
use Rattle.pv_questions.specs.declared.answering.End.{End}
use Rattle.pv_questions.specs.declared.answering.End.TheVariants.{Complete, Incomplete as NotComplete, Different as Differs}
use Rattle.pv_questions.specs.declared.failure.Failure.{Failure}
use Rattle.pv_questions.specs.declared.failure.Failure.TheVariants.{Read, Memory, Write, Refused, Incomplete, Different}
use Rattle.pv_questions.specs.declared.failure.Target.TheVariants.{Output}
use Rattle.pv_questions.proofs.WrittenAnswers.{is_error}

-- a failure that is no end of a text
abbrev IsNoEnd : Failure → Type 0
IsNoEnd Incomplete = ⊥
IsNoEnd Different = ⊥
IsNoEnd failure = Unit {0}

no_end : (end : End) (failure : Failure) → IsNoEnd failure → IsResultOfEnd end (Err failure) → ⊥
no_end end Incomplete other h = other
no_end end Different other h = other
no_end Complete failure other h = h
no_end NotComplete failure other h = h
no_end Differs failure other h = h

-- ---- the outcome, if the flush keeps the output

module _ (answer : Answer) (before mid after : Option Bytes) (kept : after ≡ mid) where
  begun : Begins answer before mid → Begins answer before after
  begun is = subst (λ (w : Option Bytes). Begins answer before w) (sym kept) is

  all-begun : (end : End) → OutcomeBuffered answer before mid (Ok end) → Begins answer before after
  all-begun end is = inr (is.0, is.1, subst (λ (w : Option Bytes). WritesPrefix is.0.text before w) (sym kept) (begins_whole is.0.text before mid is.2.1))

  ended : (end : End) (result : Result (Unit {0}) Failure) → IsResultOfEnd end result → OutcomeBuffered answer before mid (Ok end) → WritesWhole answer before after result
  ended end result ends is = (is.0, is.1, (subst (λ (e : End). IsResultOfEnd e result) (sym is.2.0) ends, kept ∙ is.2.1))

-- ---- the answer

module _ {W : Type 0} (sink : Writing W) (answer : Answer) (old mid new : W) where
  counted : (result : Result (Unit {0}) Failure) → sink.failures mid ≡ sink.failures old → Rose (sink.failures mid) (sink.failures new)
      → result ≡ Err (Write Output) → Rose (sink.failures old) (sink.failures new)
  counted result quiet rose is = subst (λ (n : ℕ). Rose n (sink.failures new)) quiet rose

  whole-flushed : (end : End) (result : Result (Unit {0}) Failure) → IsWritten sink answer old mid (Ok end) → Flushes sink (Ok end) mid new result
      → WritesAnswer sink answer old new result
  whole-flushed end (Ok done) w f = record {
    outcome = ended answer (sink.written old) (sink.written mid) (sink.written new) f.preserved end (Ok done) f.ends.0 w.outcome;
    flushed = λ h. f.ends.1;
    failed = λ e. cc e;
  }
  whole-flushed end (Err (Write target)) w f = record {
    outcome = (f.ends.0, all-begun answer (sink.written old) (sink.written mid) (sink.written new) f.preserved end w.outcome);
    flushed = λ h. tt;
    failed = counted (Err (Write target)) w.counts f.ends.1;
  }
  whole-flushed end (Err Incomplete) w f = record {
    outcome = ended answer (sink.written old) (sink.written mid) (sink.written new) f.preserved end (Err Incomplete) f.ends.0 w.outcome;
    flushed = λ h. f.ends.1;
    failed = λ e. cc e;
  }
  whole-flushed end (Err Different) w f = record {
    outcome = ended answer (sink.written old) (sink.written mid) (sink.written new) f.preserved end (Err Different) f.ends.0 w.outcome;
    flushed = λ h. f.ends.1;
    failed = λ e. cc e;
  }
  whole-flushed end (Err Memory) w f = absurd (no_end end Memory tt f.ends.0)
  whole-flushed end (Err (Read origin)) w f = absurd (no_end end (Read origin) tt f.ends.0)
  whole-flushed end (Err (Refused refused)) w f = absurd (no_end end (Refused refused) tt f.ends.0)

  part-flushed : (result : Result (Unit {0}) Failure) → IsWritten sink answer old mid (Err Memory) → Flushes sink (Err Memory) mid new result
      → WritesAnswer sink answer old new result
  part-flushed (Err Memory) w f = record {
    outcome = begun answer (sink.written old) (sink.written mid) (sink.written new) f.preserved w.outcome;
    flushed = λ h. f.ends.1;
    failed = λ e. cc e;
  }
  part-flushed (Err (Write target)) w f = record {
    outcome = (f.ends.0, begun answer (sink.written old) (sink.written mid) (sink.written new) f.preserved w.outcome);
    flushed = λ h. tt;
    failed = counted (Err (Write target)) w.counts f.ends.1;
  }
  part-flushed (Ok done) w f = let e = f.ends.0 in cc e
  part-flushed (Err Incomplete) w f = let e = f.ends.0 in cc e
  part-flushed (Err Different) w f = let e = f.ends.0 in cc e
  part-flushed (Err (Read origin)) w f = let e = f.ends.0 in cc e
  part-flushed (Err (Refused refused)) w f = let e = f.ends.0 in cc e

  -- a failure after which nothing is flushed
  kept-flushed : (result : Result (Unit {0}) Failure) (failure : Failure) → result ≡ Err failure → WritesAnswer sink answer old new (Err failure)
      → WritesAnswer sink answer old new result
  kept-flushed result failure is answered = subst (λ (r : Result (Unit {0}) Failure). WritesAnswer sink answer old new r) (sym is) answered

  pub answered : (end : Result End Failure) (result : Result (Unit {0}) Failure) → IsWritten sink answer old mid end → Flushes sink end mid new result
      → WritesAnswer sink answer old new result
  answered (Ok end) result w f = whole-flushed end result w f
  answered (Err Memory) result w f = part-flushed result w f
  answered (Err (Refused refused)) result w f = kept-flushed result (Refused refused) f.ends.0 (record {
    outcome = (w.outcome.0, f.preserved ∙ w.outcome.1);
    flushed = λ h. ap (λ (x : W). sink.buffered x) (f.ends.1 ∙ w.untouched tt) ∙ h;
    failed = λ e. cc e;
  })
  answered (Err (Write target)) result w f = kept-flushed result (Write target) f.ends.0 (record {
    outcome = (w.outcome.0, begun answer (sink.written old) (sink.written mid) (sink.written new) f.preserved w.outcome.1);
    flushed = λ h. tt;
    failed = λ e. subst (λ (x : W). Rose (sink.failures old) (sink.failures x)) (sym f.ends.1) w.counts;
  })
  answered (Err (Read origin)) result w f = absurd w.outcome
  answered (Err Incomplete) result w f = absurd w.outcome
  answered (Err Different) result w f = absurd w.outcome

-- ---- the end before a flush

module _ {W : Type 0} (sink : Writing W) (mid new : W) where
  memory-by : (end : Result End Failure) → FlushesAfter sink end mid new (Err Memory) → end ≡ Err Memory
  memory-by (Ok end) f = absurd (no_end end Memory tt f.0)
  memory-by (Err Memory) f = refl
  memory-by (Err (Refused refused)) f = let e = f.0 in cc e
  memory-by (Err (Write target)) f = let e = f.0 in cc e
  memory-by (Err (Read origin)) f = let e = f.0 in cc e
  memory-by (Err Incomplete) f = let e = f.0 in cc e
  memory-by (Err Different) f = let e = f.0 in cc e

  -- there is no memory after the flush, so there was none before
  pub memory-ended : (end : Result End Failure) (result : Result (Unit {0}) Failure) → Flushes sink end mid new result → result ≡ Err Memory → end ≡ Err Memory
  memory-ended end result f is = memory-by end (subst (λ (r : Result (Unit {0}) Failure). FlushesAfter sink end mid new r) is f.ends)

  not_done : {A : Type 0} (failure : Failure) → FlushesAfter sink (Err failure) mid new (Ok tt) → A
  not_done Memory f = let e = f.0 in cc e
  not_done (Refused refused) f = let e = f.0 in cc e
  not_done (Write target) f = let e = f.0 in cc e
  not_done (Read origin) f = let e = f.0 in cc e
  not_done Incomplete f = let e = f.0 in cc e
  not_done Different f = let e = f.0 in cc e

  -- what holds after a whole text
  pub done-ended : (Holds : Type 0) (end : Result End Failure) (result : Result (Unit {0}) Failure) → Flushes sink end mid new result → OnOk end Holds → OnOk result Holds
  done-ended Holds end (Err failure) f on = tt
  done-ended Holds (Ok end) (Ok done) f on = on
  done-ended Holds (Err failure) (Ok done) f on = not_done failure f.ends

-- ---- what a flush does

module _ {W : Type 0} (sink : Writing W) (old new : W) where
  with_end : (e : End) (r : Result (Unit {0}) Failure) → IsResultOfEnd e r → sink.buffered new ≡ 0 → FlushedWith sink (IsResultOfEnd e) old new r
  with_end e (Ok done) ends empty = (ends, empty)
  with_end e (Err (Write target)) ends empty = absurd (no_end e (Write target) tt ends)
  with_end e (Err Memory) ends empty = (ends, empty)
  with_end e (Err (Read origin)) ends empty = (ends, empty)
  with_end e (Err (Refused refused)) ends empty = (ends, empty)
  with_end e (Err Incomplete) ends empty = (ends, empty)
  with_end e (Err Different) ends empty = (ends, empty)

module _ {W : Type 0} {sink : Writing W} {old new : W} where
  as_flushed : {end one : Result End Failure} {r : Result (Unit {0}) Failure} (result : Result (Unit {0}) Failure) → end ≡ one → r ≡ result → Flushes sink one old new result
      → Flushes sink end old new r
  as_flushed {one = one} {r = r} result is same f =
      subst (λ (e : Result End Failure). Flushes sink e old new r) (sym is) (subst (λ (x : Result (Unit {0}) Failure). Flushes sink one old new x) (sym same) f)

  -- a whole text is flushed, or this fails
  pub all-flushed : {end : Result End Failure} {e : End} (r : Result (Unit {0}) Failure) → end ≡ Ok e → IsResultOfEnd e r → sink.written new ≡ sink.written old
      → sink.buffered new ≡ 0 → Flushes sink end old new r
  all-flushed {e = e} r is ends kept empty = as_flushed r is refl (record { preserved = kept; ends = with_end sink old new e r ends empty })

  pub all-unflushed : {end : Result End Failure} {e : End} {r : Result (Unit {0}) Failure} → end ≡ Ok e → IsErrAnd r (λ x. x ≡ Write Output)
      → sink.written new ≡ sink.written old → Rose (sink.failures old) (sink.failures new) → Flushes sink end old new r
  all-unflushed {r = r} is same kept rose = as_flushed (Err (Write Output)) is (is_error r (Write Output) same) (record { preserved = kept; ends = (refl, rose) })

  -- a prefix is flushed, or this fails
  pub prefix-flushed : {failure : Failure} → failure ≡ Memory → sink.written new ≡ sink.written old → sink.buffered new ≡ 0 → Flushes sink (Err failure) old new (Err Memory)
  prefix-flushed is kept empty = as_flushed (Err Memory) (ap Err is) refl (record { preserved = kept; ends = (refl, empty) })

  pub prefix-unflushed : {failure : Failure} {r : Result (Unit {0}) Failure} → failure ≡ Memory → IsErrAnd r (λ x. x ≡ Write Output) → sink.written new ≡ sink.written old
      → Rose (sink.failures old) (sink.failures new) → Flushes sink (Err failure) old new r
  prefix-unflushed {r = r} is same kept rose =
      as_flushed (Err (Write Output)) (ap Err is) (is_error r (Write Output) same) (record { preserved = kept; ends = (refl, rose) })

-- nothing is done after any other failure
pub other-unflushed : {W : Type 0} {sink : Writing W} {old : W} (failure : Failure) → (failure ≡ Memory → ⊥) → Flushes sink (Err failure) old old (Err failure)
other-unflushed Memory other = absurd (other refl)
other-unflushed (Refused refused) other = record { preserved = refl; ends = (refl, refl) }
other-unflushed (Write target) other = record { preserved = refl; ends = (refl, refl) }
other-unflushed (Read origin) other = record { preserved = refl; ends = (refl, refl) }
other-unflushed Incomplete other = record { preserved = refl; ends = (refl, refl) }
other-unflushed Different other = record { preserved = refl; ends = (refl, refl) }

-- the same end
pub end-as : {W : Type 0} {sink : Writing W} {old new : W} {end one : Result End Failure} {r : Result (Unit {0}) Failure} → end ≡ one → Flushes sink one old new r
    → Flushes sink end old new r
end-as {sink = sink} {old = old} {new = new} {r = r} is f = subst (λ (e : Result End Failure). Flushes sink e old new r) (sym is) f
