-- Lemmas about the search: PlannedSearch (the search visits the states and observes the texts of the definitions),
-- WitnessTurns (witnesses as turns), LastProcessNumbers (the last process number given), LiveNumbers (the numbers of
-- live processes, and the tree without live processes), ScheduleStates (states along a schedule, and checkpoints),
-- RebuiltMachines (the rebuilt machine), SearchSteps (the search, step by step), GraphLines (the state graph),
-- GraphStepLines (the lines of its steps), ReportedBytes (the bytes of texts, and of `explore`), StateRows (states as
-- rows of small numbers), VisitedStates (the data stored with visited states), LiveAfterSteps (a process that is live
-- after its step was not ended by it), CellsAfterSteps (the cells after a step), VisitedList (the visited states, one
-- at a time), CachedFollowing (steps from the cache, and the states at the ends of witnesses), StoredWitnesses
-- (witnesses stored as their last steps), ImageSizes (of images, which runs leave unchanged), SideStates (the states of
-- one side of a search of pairs), SteppingProcess (the process that makes a step), NumberRanges (the numbers from 1 on,
-- and the greatest of numbers).
pub mod PlannedSearch
pub mod WitnessTurns
pub mod LastProcessNumbers
pub mod LiveNumbers
pub mod ScheduleStates
pub mod RebuiltMachines
pub mod SearchSteps
pub mod CachedFollowing
pub mod GraphLines
pub mod GraphStepLines
pub mod ReportedBytes
pub mod StateRows
pub mod VisitedStates
pub mod LiveAfterSteps
pub mod CellsAfterSteps
pub mod VisitedList
pub mod StoredWitnesses
pub mod ImageSizes
pub mod SideStates
pub mod SteppingProcess
pub mod NumberRanges
pub use Rattle.pv_step_lines.proofs.OfAnswers
pub use Rattle.pv_step_cache.proofs.OfLawsSteps
pub use Rattle.pv_step_lines.proofs.OfSession
pub use Rattle.pv_step_lines.proofs as OfStepLines
