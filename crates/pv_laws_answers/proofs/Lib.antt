-- Lemmas about the answers and about the search.
-- - `explain`: ExplainLines (lines that only explain), PlaceLevels (levels), AddedEntries, TablesAfterSteps and
--   EntrySettings (settings of entries).
-- - `reach`: SinglePermissions (single permissions), FinalLinks (walks that do not end at links), AskingCalls (calls that need
--   permissions), GoverningChanges (the governing entry before and after a step), ReachedNames (the names listed).
-- - `needs`: RestraintLines (lines and walks), ListedNeeds (program images), NeedCounts (their counts), OtherRestraints
--   (other promises or another table), OtherPromises (runs with other promises).
-- - The search: Lists, NewKeys, StateDecoding (decoding of states), Witnesses and WitnessOrders (their order), LiveProcesses,
--   SearchInvariant (step by step), SoundStates, CompleteSearches, LeastWitnesses, Observations, CompleteObservations.
--   The graph: MarkedLists, GraphLines, GraphPaths, ExplainedWitnesses.
-- - Files that are not read: EqualSteps, UnreadSteps (one step), UnreadRuns (runs). Deadlocks: ParentNumbers, WaitingProcesses.
-- - Examples by computation: AnswerExampleRuns, ExampleRuns.
pub mod ExplainLines
pub mod PlaceLevels
pub mod SinglePermissions
pub mod FinalLinks
pub mod AskingCalls
pub mod ReachedNames
pub mod AddedEntries
pub mod TablesAfterSteps
pub mod EntrySettings
pub mod RestraintLines
pub mod ListedNeeds
pub mod NeedCounts
pub mod OtherRestraints
pub mod OtherPromises
pub mod GoverningChanges
pub mod AnswerExampleRuns
-- ---- the search and its graph
pub mod GraphPaths
pub mod EqualSteps
pub mod UnreadRuns
pub mod CompleteSearches
pub mod ExampleRuns
pub mod ExplainedWitnesses
pub mod LeastWitnesses
pub mod Lists
pub mod LiveProcesses
pub mod GraphLines
pub mod MarkedLists
pub mod NewKeys
pub mod UnreadSteps
pub mod Observations
pub mod CompleteObservations
pub mod StateDecoding
pub mod SearchInvariant
pub mod SoundStates
pub mod ParentNumbers
pub mod WaitingProcesses
pub mod Witnesses
pub mod WitnessOrders
pub use Rattle.pv_laws_access.proofs as OfLawsAccess
pub use Rattle.pv_laws_states.proofs as OfLawsStates
