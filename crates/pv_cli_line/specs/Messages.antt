-- Messages for a person.
use Rattle.std.specs.Prelude.{◌≡◌, Bool, true, ◌++◌, codes, Result, OnOk, IfOk}
use Rattle.pv_model.specs.declared.stream.Failed.{Failed}
use Rattle.pv_model.specs.declared.stream.Sink.{Ghosts as Writing}
use Rattle.pv_model.specs.Machine.{Bytes}
use Rattle.pv_streams.specs.Sinks.{Writes, WritesPrefix}

-- the text ends in a newline, so it is not empty
abbrev pub EndsInNewline : Bytes → Type 0
EndsInNewline text = (front : Bytes) × (text ≡ front ++ codes "\n")

-- a text was written to a sink, or a prefix of it up to a failed write; the result says whether it ends in a newline
pub record WritesText {W : Type 0} (sink : Writing W) (before after : W) (result : Result Bool Failed) : Type 0 where
  pub text : Bytes
  pub written : Writes sink text before after result
  pub ends : IfOk result (λ is_ended. is_ended ≡ true → EndsInNewline text)

-- a message was written to a sink and flushed, or a prefix of it up to a failed write
pub record WritesMessage {W : Type 0} (sink : Writing W) (before after : W) (result : Result (Unit {0}) Failed) : Type 0 where
  pub text : Bytes
  pub ends : EndsInNewline text
  pub written : Writes sink text before after result
  pub flushed : OnOk result (sink.buffered after ≡ 0)

-- more text was written to a sink, possibly nothing
abbrev pub WritesMore : {W : Type 0} → Writing W → W → W → Type 0
WritesMore sink before after = (text : Bytes) × WritesPrefix text (sink.written before) (sink.written after)
