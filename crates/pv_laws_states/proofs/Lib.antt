-- Lemmas about states, calls and runs.
-- - Collection: CollectedStates, ReferenceMembers (references of a state, one by one), LengthLimits (the early tests of
--   lengths).
-- - Processes: Processes (lookup and update), ValidEnds (end, adoption, removal).
-- - Answers: AttemptValues (results of attempts), CallOutcomes (answers by cause), ValidReplies (answers by effect),
--   WalkStarts (starting directories), CallRemainders (the rest of each call after each check), CallWalks (walks and
--   refusals).
-- - Validity: ValidStates, ProcessInsides, ChangedStates, GrownTrees; call by call ValidByProcess, ValidByTable,
--   ValidByFile, ValidByTree, ValidByOpen; and ValidBySteps (steps, runs, the first state).
-- - Calls in two states: RelatedAttempts (attempts under any relation), RelatedCalls (a call respects a relation if its
--   parts do), RespectedParts (parts of calls that respect a relation; two states with other processes).
-- - Noninterference of lines: OtherInsides (process lists that differ in registers and buffers), OtherInsidesCalls
--   (each call on both).
-- - ExampleStates: processes of worked runs.
pub mod ExampleStates
pub mod CollectedStates
pub mod AttemptValues
pub mod Processes
pub mod CallOutcomes
pub mod ReferenceMembers
pub mod ValidStates
pub mod ProcessInsides
pub mod ValidEnds
pub mod ValidReplies
pub mod ChangedStates
pub mod WalkStarts
pub mod ValidByProcess
pub mod ValidByTable
pub mod ValidByFile
pub mod GrownTrees
pub mod ValidByTree
pub mod ValidByOpen
pub mod ValidBySteps
pub mod OtherInsides
pub mod CallRemainders
pub mod CallWalks
pub mod OtherInsidesCalls
pub mod LengthLimits
pub mod RelatedAttempts
pub mod RelatedCalls
pub mod RespectedParts
