-- The output for a source, and its translation in memory: one relation for each function.
use Rattle.std.specs.Prelude.{◌≡◌, ◌⊎◌, ℕ, [], Result, Ok, Err, IfErr, IfOk, OnOk}
use Rattle.std.specs.Global.{Vec}
use Rattle.pv_model.specs.declared.stream.Sink.{Ghosts as Writing}
use Rattle.pv_model.specs.Machine.{Bytes, blocks_of, read_source, text_of_blocks, Rose}
use Rattle.pv_streams.specs.Sinks.{WritesPrefix, and_all}
use Rattle.pv_source.specs.declared.source.Output.{Output}
use Rattle.pv_source.specs.declared.source.SourceStop.{SourceStop}
use Rattle.pv_source.specs.declared.source.SourceStop.TheVariants.{Memory, Refused, Write}
use Rattle.pv_source.specs.Outcome.{BeginsErrors, BeginsText, IsBeforeOutput, ReportsErrors, WritesSourceOutput, output_of}
use Rattle.pv_source.specs.Warnings.{BeginsWarnings, Warns, warned_lines}

-- ---- a source without errors

-- the text that the blocks of a source translate to
abbrev pub text_of_source : Bytes → Bytes
text_of_source source = text_of_blocks (blocks_of source)

-- the output for a source without errors
abbrev pub output_of_source : Output → Bytes → Bytes
output_of_source output source = output_of output source (text_of_source source)

-- a text was written, and then the warnings about its source were reported
pub record WritesValidSource {W E : Type 0} (writing : Writing W) (reporting : Writing E) (text name source : Bytes) (before after : W) (unreported reported : E)
    (result : Result (Unit {0}) SourceStop) : Type 0 where
  -- success: the sink received exactly the text
  pub written : OnOk result (writing.written after ≡ and_all (writing.written before) text)
  -- success: the warnings were reported
  pub warned : OnOk result (Warns name source (reporting.written unreported) (reporting.written reported))
  -- success: without a warning, nothing was reported
  pub silent : OnOk result (warned_lines source ≡ [] → reported ≡ unreported)
  -- success: everything that was written is flushed
  pub empty : OnOk result (writing.buffered after ≡ 0)
  -- failure: there is no memory, or a write failed
  pub kind : IfErr result (λ stop. (stop ≡ Memory) ⊎ (stop ≡ Write))
  -- if there is no memory, nothing was written or reported
  pub stopped : IfErr result (λ stop. IsBeforeOutput stop → (after ≡ before) × (reported ≡ unreported))
  -- a failed write was counted; the text was written before the warnings
  pub write : result ≡ Err Write →
      (Rose (writing.failures before) (writing.failures after) × (reported ≡ unreported))
      ⊎ (Rose (reporting.failures unreported) (reporting.failures reported) × (writing.written after ≡ and_all (writing.written before) text))
  -- after a failed write, a prefix of the text or of the warnings was written
  pub begun : result ≡ Err Write →
      (WritesPrefix text (writing.written before) (writing.written after) × (reported ≡ unreported))
      ⊎ (BeginsWarnings name source (reporting.written unreported) (reporting.written reported) × (writing.written after ≡ and_all (writing.written before) text))

-- a source was translated, and the warnings about it were reported
pub record TranslatesValidSource {E : Type 0} (reporting : Writing E) (name source : Bytes) (unreported reported : E) (result : Result (Vec ℕ) SourceStop) : Type 0 where
  -- success: the result is the text of the source
  pub text : IfOk result (λ text. text.items ≡ text_of_source source)
  -- success: the warnings were reported
  pub warned : OnOk result (Warns name source (reporting.written unreported) (reporting.written reported))
  -- success: without a warning, nothing was reported
  pub silent : OnOk result (warned_lines source ≡ [] → reported ≡ unreported)
  -- failure: there is no memory, or a write failed
  pub kind : IfErr result (λ stop. (stop ≡ Memory) ⊎ (stop ≡ Write))
  -- if there is no memory, nothing was reported
  pub stopped : IfErr result (λ stop. IsBeforeOutput stop → reported ≡ unreported)
  -- a failed write was counted
  pub write : result ≡ Err Write → Rose (reporting.failures unreported) (reporting.failures reported)
  -- after a failed write, a prefix of the warnings was reported
  pub begun : result ≡ Err Write → BeginsWarnings name source (reporting.written unreported) (reporting.written reported)

-- ---- any source

-- the output for a source was written to a sink, and then its warnings were reported to another; or its lines with
-- errors were reported
pub record WritesOutput {W E : Type 0} (writing : Writing W) (reporting : Writing E) (output : Output) (name bytes : Bytes) (before after : W) (unreported reported : E)
    (result : Result (Unit {0}) SourceStop) : Type 0 where
  -- success: the sink received exactly the output
  pub written : OnOk result (WritesSourceOutput output bytes (writing.written before) (writing.written after))
  -- success: the warnings were reported
  pub warned : OnOk result (Warns name bytes (reporting.written unreported) (reporting.written reported))
  -- success: without a warning, nothing was reported
  pub silent : OnOk result (warned_lines bytes ≡ [] → reported ≡ unreported)
  -- success: everything that was written is flushed
  pub empty : OnOk result (writing.buffered after ≡ 0)
  -- the source is refused: its lines with errors were reported
  pub refused : result ≡ Err Refused → ReportsErrors name bytes (reporting.written unreported) (reporting.written reported)
  -- the source is refused: nothing was written
  pub unwritten : result ≡ Err Refused → after ≡ before
  -- if there is no memory, nothing was written or reported
  pub stopped : IfErr result (λ stop. IsBeforeOutput stop → (after ≡ before) × (reported ≡ unreported))
  -- a failed write was counted; nothing was written to the other sink, except that warnings follow the whole output
  pub write : result ≡ Err Write →
      (Rose (writing.failures before) (writing.failures after) × (reported ≡ unreported))
      ⊎ (Rose (reporting.failures unreported) (reporting.failures reported) × ((after ≡ before) ⊎ WritesSourceOutput output bytes (writing.written before) (writing.written after)))
  -- after a failed write, a prefix of the output, of the lines with errors or of the warnings was written
  pub begun : result ≡ Err Write →
      (BeginsText output bytes (writing.written before) (writing.written after) × (reported ≡ unreported))
      ⊎ ((BeginsErrors name bytes (reporting.written unreported) (reporting.written reported) × (after ≡ before))
      ⊎ (BeginsWarnings name bytes (reporting.written unreported) (reporting.written reported) × WritesSourceOutput output bytes (writing.written before) (writing.written after)))

-- a source was translated in memory, and then its warnings were reported; or its lines with errors were reported
pub record TranslatesSource {E : Type 0} (reporting : Writing E) (name bytes : Bytes) (unreported reported : E) (result : Result (Vec ℕ) SourceStop) : Type 0 where
  -- success: the result is the manifest or bundle of the source
  pub text : IfOk result (λ text. read_source bytes ≡ Ok text.items)
  -- success: the warnings were reported
  pub warned : OnOk result (Warns name bytes (reporting.written unreported) (reporting.written reported))
  -- success: without a warning, nothing was reported
  pub silent : OnOk result (warned_lines bytes ≡ [] → reported ≡ unreported)
  -- the source is refused: its lines with errors were reported
  pub refused : result ≡ Err Refused → ReportsErrors name bytes (reporting.written unreported) (reporting.written reported)
  -- if there is no memory, nothing was reported
  pub stopped : IfErr result (λ stop. IsBeforeOutput stop → reported ≡ unreported)
  -- a failed write was counted
  pub write : result ≡ Err Write → Rose (reporting.failures unreported) (reporting.failures reported)
  -- after a failed write, a prefix of the lines with errors or of the warnings was reported
  pub begun : result ≡ Err Write →
      BeginsErrors name bytes (reporting.written unreported) (reporting.written reported)
      ⊎ BeginsWarnings name bytes (reporting.written unreported) (reporting.written reported)
