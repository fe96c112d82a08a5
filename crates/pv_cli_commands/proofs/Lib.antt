-- CommandStatus: the status of a failure, and what a command that fails leaves buffered and creates. InputsRead: the
-- inputs of a command that were read, in order. UnreadParts: what the reading of inputs leaves unchanged.
-- FlushedOutput: what a run, the output for a source and an answer leave buffered. WrittenFiles: files that were written
-- by a run and by an import.
pub mod CommandStatus
pub mod InputsRead
pub mod UnreadParts
pub mod FlushedOutput
pub mod WrittenFiles
