-- Answers that stop: memory was refused before the text was written, or a write failed.
use Rattle.std.proofs.Common.{◌≡◌, ◌∙◌, sym, subst, ap, Result, Ok, Err, refl}
use Rattle.std.specs.Result.{IfErr, IsErrAnd}
use Rattle.pv_model.specs.declared.stream.Sink.{Ghosts as Writing}
use Rattle.pv_model.specs.Machine.{Bytes}
use Rattle.pv_streams.specs.declared.stop.Stop.{Stop}
use Rattle.pv_streams.specs.declared.stop.Stop.TheVariants.{Memory, Write}
use Rattle.pv_streams.specs.Sinks.{FailsBy, Writes, WritesOr}
use Rattle.pv_streams.proofs.SinkWrites.{written_nothing}

-- a failed write is not a lack of memory
pub never_memory : {T : Type 0} (result : Result T Stop) → IfErr result (λ stop. stop ≡ Write) → result ≡ Err Memory → ⊥
never_memory (Ok x) error is = cc
never_memory (Err stop) error is = cc

pub not_memory : {T : Type 0} (result : Result T Stop) → IsErrAnd result (λ stop. stop ≡ Write) → result ≡ Err Memory → ⊥
not_memory (Ok x) ended is = cc
not_memory (Err stop) ended is = cc

module _ {W T : Type 0} (sink : Writing W) (text : Bytes) where
  -- if there is no memory, nothing was written
  pub unwritten : (out : W) (result : Result T Stop) (stop : Stop) → result ≡ Err stop → stop ≡ Memory → WritesOr sink FailsBy text out out result
  unwritten out result stop is memory =
      subst (λ (r : Result T Stop). WritesOr sink FailsBy text out out r) (sym (is ∙ ap (λ (s : Stop). Err s) memory))
      (record { whole = tt; prefix = (0, sym (written_nothing text (sink.written out))); failed = refl; quiet = tt })

  -- a write failed
  pub unfinished : {U E : Type 0} (old new : W) (result : Result T Stop) (stop : Stop) (e : E) → result ≡ Err stop → stop ≡ Write → Writes {T = U} sink text old new (Err e) → WritesOr sink FailsBy text old new result
  unfinished old new result stop e is failed writes =
      subst (λ (r : Result T Stop). WritesOr sink FailsBy text old new r) (sym (is ∙ ap (λ (s : Stop). Err s) failed))
      (record { whole = tt; prefix = writes.prefix; failed = writes.failed; quiet = tt })
