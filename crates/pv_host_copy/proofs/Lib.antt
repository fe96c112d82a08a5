-- Lemmas: FileReads (a file read up to a maximum length), FirstPaths (the first path of a file or symbolic link),
-- ImportSteps (the import, step by step), DirectoryDescent (the descent into host directories), WholeImport (a complete
-- import), MergedEntries (a host directory merged with the entries of a source), SourceEntries (these entries),
-- SkippedLines (the lines of skipped entries), ExportSteps (the export, name by name), ImportOfExport (the import of
-- the directory that an export makes).
pub mod ExportSteps
pub mod FirstPaths
pub mod SourceEntries
pub mod WholeImport
pub mod MergedEntries
pub mod ImportOfExport
pub mod ImportSteps
pub mod SkippedLines
pub mod DirectoryDescent
pub mod FileReads
