-- Lemmas about the command line: OptionNames (those of the parser), Files (those of a search), PlainPaths (the paths
-- of files), MessageParts (their parts), ReportedErrors (errors), NumberWords (numbers in words), RunQuestions (the
-- commands of questions about a run), LineResults (the command of a line, or its refusal) and Requests (those for help
-- and the version).
pub mod OptionNames
pub mod Files
pub mod PlainPaths
pub mod MessageParts
pub mod ReportedErrors
pub mod NumberWords
pub mod RunQuestions
pub mod LineResults
pub mod Requests
