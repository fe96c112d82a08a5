-- The one relation between an answer, its sink, and the result.
use Rattle.std.specs.Prelude.{◌≡◌, ◌⊎◌, ⊤, ℕ, Option, Result, Ok, Err, IfErr}
use Rattle.pv_model.specs.declared.stream.Sink.{Ghosts as Writing}
use Rattle.pv_model.specs.Machine.{Bytes, Started, State, Rose, steps_of}
use Rattle.pv_streams.specs.ProperPrefixes.{WritesProperPrefix}
use Rattle.pv_run.specs.OfSession.Stopping.{StopsAtExecve}
use Rattle.pv_streams.specs.Sinks.{WritesPrefix, and_all}
use Rattle.pv_questions.specs.Answers.{Answer, EndedText, answer_to, run_started}
use Rattle.pv_questions.specs.declared.answering.End.{End}
use Rattle.pv_questions.specs.declared.answering.End.TheVariants.{Complete, Incomplete as NotComplete, Different as Differs}
use Rattle.pv_questions.specs.declared.failure.Failure.{Failure}
use Rattle.pv_questions.specs.declared.failure.Failure.TheVariants.{Read, Memory, Write, Refused, Incomplete, Different}
use Rattle.pv_questions.specs.declared.failure.Target.TheVariants.{Output}
use Rattle.pv_questions.specs.declared.input.Inputs.{Inputs}
use Rattle.pv_questions.specs.declared.question.Question.{Question}
use Rattle.pv_questions.specs.declared.question.Question.TheVariants.{Access, Explore, Exposure, Graph, Policy, Trace}

-- nothing was written
abbrev pub KeepsOutput : {W : Type 0} → Writing W → W → W → Type 0
KeepsOutput sink old new = sink.written new ≡ sink.written old

-- unless a write failed, nothing is buffered
abbrev pub BuffersNothing : {T : Type 0} → Result T Failure → ℕ → Type 0
BuffersNothing (Err (Write target)) waiting = ⊤
BuffersNothing result waiting = waiting ≡ 0

-- the result of a command that wrote a text with this end
abbrev pub IsResultOfEnd : End → Result (Unit {0}) Failure → Type 0
IsResultOfEnd Complete (Ok done) = ⊤
IsResultOfEnd NotComplete (Err Incomplete) = ⊤
IsResultOfEnd Differs (Err Different) = ⊤
IsResultOfEnd end result = ⊥

-- a reply was written as far as the predicate says
abbrev pub OnReply : Answer → (EndedText → Type 0) → Type 0
OnReply answer holds = (reply : EndedText) × (answer ≡ Ok reply) × holds reply

-- the whole text was written, and its end is the result
abbrev pub WritesWhole : Answer → Option Bytes → Option Bytes → Result (Unit {0}) Failure → Type 0
WritesWhole answer before after result = OnReply answer (λ reply. IsResultOfEnd reply.end result × (after ≡ and_all before reply.text))

-- nothing, or a prefix of the text, was written
abbrev pub Begins : Answer → Option Bytes → Option Bytes → Type 0
Begins answer before after = (after ≡ before) ⊎ OnReply answer (λ reply. WritesPrefix reply.text before after)

-- what was written, and why: the whole text; or a prefix or nothing, if there is no memory or a write failed; or
-- nothing, if the answer is a refusal
abbrev pub Outcome : Answer → Option Bytes → Option Bytes → Result (Unit {0}) Failure → Type 0
Outcome answer before after (Err Memory) = Begins answer before after
Outcome answer before after (Err (Write target)) = (target ≡ Output) × Begins answer before after
Outcome answer before after (Err (Refused refused)) = (answer ≡ Err (Refused refused)) × (after ≡ before)
Outcome answer before after (Err (Read origin)) = ⊥
Outcome answer before after result = WritesWhole answer before after result

-- an answer was written to a sink and flushed
pub record WritesAnswer {W : Type 0} (sink : Writing W) (answer : Answer) (old new : W) (result : Result (Unit {0}) Failure) : Type 0 where
  pub outcome : Outcome answer (sink.written old) (sink.written new) result
  pub flushed : sink.buffered old ≡ 0 → BuffersNothing result (sink.buffered new)
  -- a failed write was counted
  pub failed : result ≡ Err (Write Output) → Rose (sink.failures old) (sink.failures new)

-- ---- before it is flushed

-- the same before the flush, where the end of a text is no failure
abbrev pub OutcomeBuffered : Answer → Option Bytes → Option Bytes → Result End Failure → Type 0
OutcomeBuffered answer before after (Ok end) = OnReply answer (λ reply. (reply.end ≡ end) × (after ≡ and_all before reply.text))
OutcomeBuffered answer before after (Err Incomplete) = ⊥
OutcomeBuffered answer before after (Err Different) = ⊥
OutcomeBuffered answer before after (Err failure) = Outcome answer before after (Err failure)

-- a failed write was counted, and nothing else
abbrev pub CountsWrite : Result End Failure → ℕ → ℕ → Type 0
CountsWrite (Err (Write target)) before after = Rose before after
CountsWrite result before after = after ≡ before

-- the input is invalid
abbrev pub IsRefusal : Failure → Type 0
IsRefusal (Refused refused) = ⊤
IsRefusal failure = ⊥

-- the text of an answer, or a prefix of it, was written
pub record IsWritten {W : Type 0} (sink : Writing W) (answer : Answer) (old new : W) (result : Result End Failure) : Type 0 where
  pub outcome : OutcomeBuffered answer (sink.written old) (sink.written new) result
  pub counts : CountsWrite result (sink.failures old) (sink.failures new)
  -- a refusal touches no sink
  pub untouched : IfErr result (λ failure. IsRefusal failure → new ≡ old)

-- a sink was flushed, and the result is one of these, unless the flush failed
abbrev pub FlushedWith : {W : Type 0} → Writing W → (Result (Unit {0}) Failure → Type 0) → W → W → Result (Unit {0}) Failure → Type 0
FlushedWith sink Ends old new (Err (Write target)) = (target ≡ Output) × Rose (sink.failures old) (sink.failures new)
FlushedWith sink Ends old new result = Ends result × (sink.buffered new ≡ 0)

-- a whole text and a prefix are flushed; after any other failure nothing is done
abbrev pub FlushesAfter : {W : Type 0} → Writing W → Result End Failure → W → W → Result (Unit {0}) Failure → Type 0
FlushesAfter sink (Ok end) old new result = FlushedWith sink (IsResultOfEnd end) old new result
FlushesAfter sink (Err Memory) old new result = FlushedWith sink (λ r. r ≡ Err Memory) old new result
FlushesAfter sink (Err failure) old new result = (result ≡ Err failure) × (new ≡ old)

-- the end of a writer after its output is flushed: unchanged, unless the flush failed
pub record Flushes {W : Type 0} (sink : Writing W) (end : Result End Failure) (old new : W) (result : Result (Unit {0}) Failure) : Type 0 where
  pub preserved : sink.written new ≡ sink.written old
  pub ends : FlushesAfter sink end old new result

-- ---- what more is known if there is no memory

-- a proper prefix of the text was written, or nothing
abbrev pub WritesPart : Answer → Option Bytes → Option Bytes → Type 0
WritesPart answer before after = (after ≡ before) ⊎ OnReply answer (λ reply. WritesProperPrefix reply.text before after)

-- a search stopped: an answer that is written when all of it is known was not begun, and another one has not its last
-- line
abbrev pub StopsSearch : Question → Answer → Option Bytes → Option Bytes → Type 0
StopsSearch (Explore kind states) answer before after = WritesPart answer before after
StopsSearch (Access kind files states) answer before after = WritesPart answer before after
StopsSearch (Graph tree states) answer before after = WritesPart answer before after
StopsSearch (Exposure kind files states) answer before after = after ≡ before
StopsSearch (Policy kind granted states) answer before after = after ≡ before
StopsSearch question answer before after = ⊤

-- a run stopped before an execve(2), and exactly the lines of the earlier steps were written; or nothing was written
abbrev pub StopsExactly : Result Started Failure → Option Bytes → Option Bytes → Type 0
StopsExactly started before after =
    (after ≡ before) ⊎ ((it : Started) × (now : State) × (started ≡ Ok it) × StopsAtExecve (steps_of it.schedule) it.state now before after)

-- an answer stopped: a trace before an execve(2), and a search before its last line
abbrev pub StopsAnswer : Question → Inputs → Option Bytes → Option Bytes → Type 0
StopsAnswer Trace inputs before after = StopsExactly (run_started inputs) before after
StopsAnswer question inputs before after = StopsSearch question (answer_to question inputs) before after
