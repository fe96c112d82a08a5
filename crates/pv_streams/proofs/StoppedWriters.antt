-- Writers that a lack of memory or a failed write ends, by the contracts of the writers that they call.
use Rattle.std.proofs.Common.{◌≡◌, ◌++◌, ◌∙◌, [], ap, refl, subst, sym, Result, Ok, Err}
use Rattle.std.specs.Result.{IsErrAnd}
use Rattle.std.proofs.lemmas.Result.{err_from_is_err_and}
use Rattle.pv_model.specs.declared.stream.Sink.{Ghosts as Writing}
use Rattle.pv_model.specs.Machine.{Bytes}
use Rattle.pv_streams.specs.declared.stop.Stop.{Stop}
use Rattle.pv_streams.specs.declared.stop.Stop.TheVariants.{Memory, Write}
use Rattle.pv_streams.specs.Sinks.{FailsBy, Writes, WritesOr}
use Rattle.pv_streams.proofs.SinkWrites.{begins_whole, written_nothing}
use Rattle.pv_streams.proofs.OutputTexts.{written_none}
use Rattle.pv_streams.proofs.WriterContracts.{WritesBut, but_after, but_end, or_as, or_both, or_longer, or_ok, or_written, writes_as, writes_both}

module _ {W : Type 0} {sink : Writing W} where
  -- two writers, the first of which wrote its text
  pub then_stops : {T U : Type 0} {a b : Bytes} {old mid new : W} {x : U} {r : Result T Stop} → WritesOr sink FailsBy a old mid (Ok x) → WritesOr sink FailsBy b mid new r → WritesOr sink FailsBy (a ++ b) old new r
  then_stops {x = x} first second = or_both {F = Stop} {x = x} (or_written first) second

  pub then_writes : {T U F : Type 0} {a b : Bytes} {old mid new : W} {x : U} {r : Result T F} → WritesOr sink FailsBy a old mid (Ok x) → Writes sink b mid new r → Writes sink (a ++ b) old new r
  then_writes {x = x} first second = writes_both {F = Stop} {x = x} (or_written first) second

  -- a writer of an empty text
  pub nothing_written : {T : Type 0} {text : Bytes} {old : W} {x : T} → [] ≡ text → WritesOr sink FailsBy text old old (Ok x)
  nothing_written {old = old} none = or_as none (record { whole = written_none (sink.written old); prefix = tt; failed = tt; quiet = refl })

  -- a writer that wrote its text can return any value
  pub still_ok : {T U : Type 0} {a : Bytes} {old new : W} {x : U} {y : T} → WritesOr sink FailsBy a old new (Ok x) → WritesOr sink FailsBy a old new (Ok y)
  still_ok one = record { whole = one.whole; prefix = tt; failed = tt; quiet = one.quiet }

  -- ---- the result is an error that another writer caused

  module _ {T : Type 0} {r : Result T Stop} where
    -- another writer stopped
    pub stopped : {U : Type 0} {a : Bytes} {old new : W} {stop : Stop} → IsErrAnd r (λ e. e ≡ stop) → WritesOr {T = U} sink FailsBy a old new (Err stop) → WritesOr sink FailsBy a old new r
    stopped {a = a} {old = old} {new = new} ended one =
        let p = err_from_is_err_and r ended in
        subst (λ (x : Result T Stop). WritesOr sink FailsBy a old new x) (sym (p.1 ∙ ap Err p.2)) (record { whole = tt; prefix = one.prefix; failed = one.failed; quiet = tt })

    -- a write failed
    pub unwritten : {U F : Type 0} {a : Bytes} {old new : W} {e : F} → IsErrAnd r (λ stop. stop ≡ Write) → Writes {T = U} sink a old new (Err e) → WritesOr sink FailsBy a old new r
    unwritten ended one = stopped {U = T} ended (record { whole = tt; prefix = one.prefix; failed = one.failed; quiet = tt })

    -- there was no memory to begin
    pub no_memory : {a : Bytes} {old : W} → IsErrAnd r (λ stop. stop ≡ Memory) → WritesOr sink FailsBy a old old r
    no_memory {a = a} {old = old} ended = stopped {U = T} ended (record { whole = tt; prefix = (0, sym (written_nothing a (sink.written old))); failed = refl; quiet = tt })

    -- there was no memory after a text
    pub no_memory_after : {U : Type 0} {a : Bytes} {old new : W} {x : U} → IsErrAnd r (λ stop. stop ≡ Memory) → WritesOr sink FailsBy a old new (Ok x) → WritesOr sink FailsBy a old new r
    no_memory_after ended one = stopped {U = T} ended (record { whole = tt; prefix = begins_whole _ _ _ one.whole; failed = one.quiet; quiet = tt })

    -- ---- after a part of a text

    module _ {text left : Bytes} {old now : W} (so_far : WritesBut sink left text old now) where
      pub but_no_memory : IsErrAnd r (λ stop. stop ≡ Memory) → WritesOr sink FailsBy text old now r
      but_no_memory ended =
          stopped {U = T} ended
          (or_as so_far.whole (or_longer left (record { whole = tt; prefix = begins_whole _ _ _ so_far.written.whole; failed = so_far.written.quiet; quiet = tt })))

      pub but_stopped : {U : Type 0} {component : Bytes} (rest : Bytes) {new : W} {stop : Stop} → IsErrAnd r (λ e. e ≡ stop) → left ≡ component ++ rest → WritesOr {T = U} sink FailsBy component now new (Err stop) → WritesOr sink FailsBy text old new r
      but_stopped rest ended is failed = stopped ended (or_as (ap (λ bs. so_far.done ++ bs) (sym is) ∙ so_far.whole) (or_both so_far.written (or_longer rest failed)))

  -- ---- a text, part by part

  pub but_as : {text a b : Bytes} {old now : W} → a ≡ b → WritesBut sink a text old now → WritesBut sink b text old now
  but_as {text = text} {old = old} {now = now} same left = subst (λ (rest : Bytes). WritesBut sink rest text old now) same left

  -- the last part
  pub but_last : {T E : Type 0} {text left : Bytes} {old mid new : W} {r : Result T E} → WritesBut sink left text old mid → Writes sink left mid new r → Writes sink text old new r
  but_last left more = writes_as left.whole (writes_both left.written more)

  module _ {text : Bytes} {T : Type 0} where
    pub but_then : {left component rest : Bytes} {old mid new : W} {x : T} → WritesBut sink left text old mid → left ≡ component ++ rest → WritesOr sink FailsBy component mid new (Ok x) → WritesBut sink rest text old new
    but_then {x = x} left is more = but_after {E = Stop} {x = x} left is (or_written more)

    pub but_ends : {left : Bytes} {old now : W} {x : T} → left ≡ [] → WritesBut sink left text old now → WritesOr sink FailsBy text old now (Ok x)
    but_ends {x = x} none left = or_ok {F = Stop} {x = x} (but_end none left)
