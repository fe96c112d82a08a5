-- Bytes written to a sink.
use Rattle.std.specs.Prelude.{◌≡◌, ℕ, ◌++◌, Option, option_map, Result, OnOk, OnErr, IfErr}
use Rattle.pv_model.specs.declared.stream.Sink.{Ghosts as Writing}
use Rattle.pv_model.specs.Machine.{Bytes, Rose}
use Rattle.pv_model.specs.Stream.{and_front}
use Rattle.pv_streams.specs.declared.stop.Stop.{Stop}
use Rattle.pv_streams.specs.declared.stop.Stop.TheVariants.{Memory, Write}

-- the output with a whole text appended
abbrev pub and_all : Option Bytes → Bytes → Option Bytes
and_all written text = option_map (λ had. had ++ text) written

-- the output grew by a prefix of a text
abbrev pub WritesPrefix : Bytes → Option Bytes → Option Bytes → Type 0
WritesPrefix text before after = (k : ℕ) × (after ≡ and_front before k text)

-- the contract of a writer: it writes the complete text, or it fails after a prefix of the text; the sink counts the
-- failure
pub record Writes {W T E : Type 0} (sink : Writing W) (text : Bytes) (old new : W) (result : Result T E) : Type 0 where
  pub whole : OnOk result (sink.written new ≡ and_all (sink.written old) text)
  pub prefix : OnErr result (WritesPrefix text (sink.written old) (sink.written new))
  pub failed : OnErr result (Rose (sink.failures old) (sink.failures new))
  pub quiet : OnOk result (sink.failures new ≡ sink.failures old)

-- the contract of a writer that can also fail for another reason: `fails` says which errors the sink counts
pub record WritesOr {W T E : Type 0} (sink : Writing W) (fails : E → ℕ → ℕ → Type 0) (text : Bytes) (old new : W) (result : Result T E) : Type 0 where
  pub whole : OnOk result (sink.written new ≡ and_all (sink.written old) text)
  pub prefix : OnErr result (WritesPrefix text (sink.written old) (sink.written new))
  pub failed : IfErr result (λ error. fails error (sink.failures old) (sink.failures new))
  pub quiet : OnOk result (sink.failures new ≡ sink.failures old)

-- a failed write was counted if a write failed, and none was counted if there was no memory
abbrev pub FailsBy : Stop → ℕ → ℕ → Type 0
FailsBy Memory before after = after ≡ before
FailsBy Write before after = Rose before after
