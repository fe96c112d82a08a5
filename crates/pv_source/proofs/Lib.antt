-- Lemmas of sources: SourceWords (the words of a line), SourceLines (lines with words, and the lines of a body),
-- SourceBlocks (blocks), SourceEntries (the entries of blocks), SourcePrograms (labels and instructions), ReportedLines
-- (the lines that are reported), MessageBytes (their messages), WrittenReports (the reports that are written),
-- WrittenTexts (the translation), LocatedLines (the instructions with their lines).
pub mod LocatedLines
pub mod MessageBytes
pub mod SourceBlocks
pub mod SourceEntries
pub mod SourceLines
pub mod SourcePrograms
pub mod SourceWords
pub mod ReportedLines
pub mod WrittenReports
pub mod WrittenTexts
