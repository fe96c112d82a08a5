-- Lemmas of streams.
-- - texts: SinkWrites (output, write by write), OutputTexts (output, text by text), EqualOutputs (the output of equal
--   texts), TextRemainders (texts written part by part), UnescapedFronts (the leading bytes of a text that need no escape)
-- - writers: WriterContracts (a writer that calls others), StoppedWriters (writers that a lack of memory or a failed write
--   ends), StoppedAnswers (answers that stop), ProperPrefixes (the proper prefixes of answers)
-- - input: SourceReads (read by read)
pub mod SinkWrites
pub mod SourceReads
pub mod OutputTexts
pub mod EqualOutputs
pub mod TextRemainders
pub mod UnescapedFronts
pub mod WriterContracts
pub mod StoppedWriters
pub mod StoppedAnswers
pub mod ProperPrefixes
