-- Lemmas about exposure: FirstKeys (elements with new keys), ProgramRecords (the records of programs are their groups),
-- RecordedFindings (the lines of findings: the first of each line and file text is stored), SearchText
-- (the lines of a search), FindingAddition (one more file, process and state).
pub mod FirstKeys
pub mod ProgramRecords
pub mod RecordedFindings
pub mod SearchText
pub mod FindingAddition
pub mod RangeTexts
pub mod ListTexts
pub mod UnnamedFiles
pub mod VisitRecords
pub mod EditReasons
pub mod EditingEntries
pub mod FirstLeaks
pub mod FileDescriptions
pub mod FilesOfReads
pub mod ProgramFiles
