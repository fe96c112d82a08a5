-- Lemmas about single steps.
-- - Dependence: ProcessInsides (lists of processes that differ inside), AgreeingStates (states that agree in the part
--   on which a step depends), ValidInsides (validity when insides are replaced), DependentSteps (steps in such states).
-- - Two states at once: ChangedPairs (attempts, answers and steps, for any relation of states), ReportedParts (the
--   lines of a call), ChangedProcess, CallsOfOthers, RoomCalls and StepsOfOthers (another process differs),
--   CallsWithOtherTables (the caller differs), ChangedOffsets and OffsetCalls (an open file differs), OtherBytes and
--   ContentSteps (the bytes of a file differ), OtherReferences and RoomRefusals (references differ), NextCalls and
--   KeptOpenFiles (the effects of the next call).
-- - Commuting steps: CommutingSteps, InsideSteps, ReorderedRuns, ExchangedSteps, ParentIndependence; and for kinds of
--   calls IndependentSteps, QuerySteps, OffsetSteps, WriteSteps, CutSteps, EntrySteps, ReferenceSteps and OwnSteps
--   (references change), DescriptorSteps, DirectorySteps, UnveilSteps, ExecveSteps.
-- - Larger images: PaddedMaps, LargerNeeds, LargerTrees, LargerTreeRoom, LargerChanges, LargerWalks, LargerAttempts,
--   LargerCalls, LargerSteps, LargerRuns, LargerImages.
-- - Examples by computation: ExampleRuns, CommuteExampleRuns, UnveilExampleRuns, GrowthExampleRuns, EntryExamples,
--   FullImageExampleRuns.
pub mod ProcessInsides
pub mod AgreeingStates
pub mod ValidInsides
pub mod DependentSteps
pub mod ExampleRuns
-- ---- commuting steps
pub mod ChangedPairs
pub mod ChangedProcess
pub mod CallsOfOthers
pub mod RoomCalls
pub mod StepsOfOthers
pub mod ChangedOffsets
pub mod OffsetCalls
pub mod CommutingSteps
pub mod OtherReferences
pub mod InsideSteps
pub mod ParentIndependence
pub mod ReportedParts
pub mod ExchangedSteps
pub mod IndependentSteps
pub mod KeptOpenFiles
pub mod QuerySteps
pub mod ReferenceSteps
pub mod OwnSteps
pub mod DescriptorSteps
pub mod OffsetSteps
pub mod OtherBytes
pub mod ContentSteps
pub mod WriteSteps
pub mod RoomRefusals
pub mod DirectorySteps
pub mod UnveilSteps
pub mod ExecveSteps
pub mod CutSteps
pub mod CallsWithOtherTables
pub mod NextCalls
pub mod EntrySteps
pub mod CommuteExampleRuns
pub mod UnveilExampleRuns
pub mod GrowthExampleRuns
pub mod EntryExamples
pub mod ReorderedRuns
-- ---- larger images
pub mod PaddedMaps
pub mod LargerNeeds
pub mod LargerTrees
pub mod LargerWalks
pub mod LargerTreeRoom
pub mod LargerAttempts
pub mod LargerChanges
pub mod LargerCalls
pub mod LargerSteps
pub mod LargerRuns
pub mod LargerImages
pub mod FullImageExampleRuns
pub use Rattle.pv_laws_runs.proofs.OfLawsAnswers
pub use Rattle.pv_laws_runs.proofs as OfLawsRuns
