-- Lemmas about the text formats, from words to complete texts.
-- - Words: ParserCorrectness, SingleWords, FirstWord, Decimals, QuotedTexts, FlagWords, ShortestForm, WordLists.
-- - Lines: ArgumentLists, InstructionLines, EntryLines, EntryPaths, TextLines.
-- - Complete texts: ProgramParsing, WrittenPrograms, ScheduleParsing, ManifestParsing, AppliedEntries.
-- - Sources: LabelNumbers (labels), WrittenLines (written lines contain no LF), AcceptedBlocks and AcceptedSources (the
--   written text is accepted), EncodedWords (words of lines), AcceptedTexts (an accepted text denotes itself),
--   EqualSources (sources with the same words).
pub mod AppliedEntries
pub mod ArgumentLists
pub mod Decimals
pub mod EntryLines
pub mod EntryPaths
pub mod FirstWord
pub mod FlagWords
pub mod InstructionLines
pub mod SingleWords
pub mod QuotedTexts
pub mod ParserCorrectness
pub mod ShortestForm
pub mod TextLines
pub mod ManifestParsing
pub mod ProgramParsing
pub mod ScheduleParsing
pub mod WordLists
pub mod WrittenPrograms
pub mod AcceptedTexts
pub mod AcceptedBlocks
pub mod AcceptedSources
pub mod LabelNumbers
pub mod EncodedWords
pub mod WrittenLines
pub mod EqualSources
