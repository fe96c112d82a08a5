-- Lemmas about the records of a run: CallCounts (counts), RecordedTargets (the targets at which walks were checked),
-- RecordedImages (the process images of a process), RecordLists (records in lists, by index), ImageBounds (of process
-- images), KnownWalks (the walks of a call), NeededPromises (the promises that a call needs), StepDemands (the demand
-- of a step), RunDemands (the demands of a run), CallerNumbers (the numbers of the processes that make calls),
-- NeedsText (the texts of the records), RecordedLines (their lines), LineBytes (the bytes of lines), KnownPaths (the
-- path of a directory). FairTurns has turns, TurnLoops follows them step by step, TurnsLines writes them, and TurnOrder
-- finds the process with the next turn.
pub mod KnownWalks
pub mod NeededPromises
pub mod StepDemands
pub mod RunDemands
pub mod ImageBounds
pub mod RecordLists
pub mod RecordedLines
pub mod RecordedImages
pub mod KnownPaths
pub mod LineBytes
pub mod NeedsText
pub mod CallerNumbers
pub mod TurnOrder
pub mod RecordedTargets
pub mod CallCounts
pub mod TurnsLines
pub mod FairTurns
pub mod TurnLoops
pub use Rattle.pv_answers.proofs as OfAnswers
pub use Rattle.pv_session.proofs.OfCallsPath
