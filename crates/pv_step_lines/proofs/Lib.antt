-- Lemmas about steps that are made with their lines.
-- - UnveilTargets (the target of an unveil), ReturnedSizes (the number of bytes of a call), WritableSteps (the data of
--   a step can be written), StepStates (the state after a step), MadeLines (the lines of a step are those of the
--   definitions)
-- - PledgeIncreases (pledge), EntryOrigins (origins in words), RemarkLines, MovedLines and StatusBytes (parts of
--   lines), CallLines (the bytes of a call's lines), AncestorLines (the lines of levels, one at a time)
pub mod PledgeIncreases
pub mod CallLines
pub mod AncestorLines
pub mod WritableSteps
pub mod StepStates
pub mod MadeLines
pub mod MovedLines
pub mod RemarkLines
pub mod ReturnedSizes
pub mod EntryOrigins
pub mod StatusBytes
pub mod UnveilTargets
pub use Rattle.pv_answers.proofs as OfAnswers
pub use Rattle.pv_session.proofs.OfLawsRuns
pub use Rattle.pv_answers.proofs.OfProcs
pub use Rattle.pv_session.proofs as OfSession
