-- AppendedTexts: texts that are appended piece by piece. CheckKinds: the kinds of failures of the checks.
-- CutSchedules: a schedule that is cut. EqualInputs: a manifest alone, a bundle with this manifest, and the image that
-- is made of it. FlushedAnswers: an answer that is flushed. LiveNumbers: the numbers of the live processes.
-- NumbersBelow: a test of the numbers below a bound. QuestionAnswers: the answers about states and searches.
-- ReasonRows: the reasons of processes in the order of their numbers. RunTexts: a text written run by run.
-- SourceFormats: the format of a file. WitnessTurns: the text of a witness parses as its turns.
-- WrittenAnswers: what a writer wrote is an answer or a prefix of it.
pub mod AppendedTexts
mod CheckKinds
mod CutSchedules
pub mod EqualInputs
mod FlushedAnswers
pub mod LiveNumbers
pub mod NumbersBelow
mod QuestionAnswers
pub mod ReasonRows
pub mod RunTexts
pub mod SourceFormats
mod WitnessTurns
mod WrittenAnswers
