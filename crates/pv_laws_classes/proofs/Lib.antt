-- Lemmas on states that are equal up to a renumbering of open files.
-- - RenumberedLists (lists of processes whose descriptors are renumbered), RenumberedFiles (open files under two
--   numberings, and the pigeonhole principle for them), RenumberedStates (operations on related states),
--   RenumberedAttempts (attempts and answers), RenumberedDescriptors (the open file of a descriptor), RenumberedCalls
--   (the effects of calls).
-- - RenumberedSteps: steps and runs. CanonicalForms: the equivalence and the canonical form.
-- - Searches, for any steps and any classes: VisitedStates (the visited states and reported steps), over
--   `SearchInvariant` and `WitnessOrders` of `pv_laws_answers`; SearchObservations (the observations of the steps).
-- - Searches that make each step, for any function that gives the class of a state: ClassFunctions (such functions: the
--   identity and the canonical form), StateSearches (they are searches).
-- - RenumberedAccesses: accesses, and observations of steps. ExampleRuns, ClassExampleRuns: examples by computation.
--
-- Lemmas on combined steps.
-- - RegisterSteps (steps on registers, and steps of another process that they pass), CombinedTurns (the normal form of
--   a schedule), CombinedSteps (schedules of combined steps), LeastLengths (the least length of a schedule).
--   TogetherExampleRuns: examples by computation.
--
-- Lemmas on states that are equal up to dead variables.
-- - LiveLists (lists of processes that are the same except for registers and buffers), LiveStates (operations on such
--   states), LiveValues (registers and buffers that agree), NextLiveSteps (the next step of a process), LiveAnswers
--   and LiveCounts (answers, lines), LiveCalls (the effects of calls).
-- - LiveSteps: steps and runs. LiveTables and LivenessExactness: live variables by iteration. LiveClasses and
--   ClearedVariables: the equivalence, and states with zero in dead variables. LiveExampleRuns: examples by
--   computation.
--
-- Lemmas on the reduced search.
-- - ReducedSchedules: schedules in which each process makes its steps on registers directly before its next step, and
--   their parts.
-- - ReducedClasses: classes of states that are equal up to the numbers of open files and for dead variables.
-- - ReducedSearch: the visited states and reported steps. ReducedReports: the reduced search and the full search.
--   ReducedExampleRuns: examples by computation.
--
-- Lemmas on the data of a process that `access`, `policy` and `exposure` show.
-- - It depends neither on numbers of open files (RenumberedShown), nor on dead variables, nor on steps of other
--   processes on registers (ShownLiveness; WalksInLines: the walks that a call began, from its lines; SimilarProcesses:
--   a process that looks the same in two states).
-- - So the reduced search sees it: ShownSchedules (a reduced schedule after which it is the same as after a schedule),
--   ReducedProcesses (both searches see the same), ReducedAccesses (the listed accesses). ShownLaws: the laws.
pub mod RenumberedLists
pub mod RenumberedFiles
pub mod RenumberedStates
pub mod RenumberedAttempts
pub mod RenumberedDescriptors
pub mod RenumberedCalls
pub mod RenumberedSteps
pub mod CanonicalForms
pub mod ClassFunctions
pub mod VisitedStates
pub mod StateSearches
pub mod RenumberedAccesses
pub mod ExampleRuns
pub mod ClassExampleRuns
pub mod RegisterSteps
pub mod CombinedTurns
pub mod CombinedSteps
pub mod LeastLengths
pub mod TogetherExampleRuns
pub mod ReducedSchedules
pub mod ReducedClasses
pub mod ReducedSearch
pub mod ReducedReports
pub mod RenumberedShown
pub mod SearchObservations
pub mod ShownSchedules
pub mod ReducedProcesses
pub mod ReducedAccesses
pub mod ReducedExampleRuns
pub mod LiveLists
pub mod LiveValues
pub mod NextLiveSteps
pub mod LiveStates
pub mod LiveCalls
pub mod LiveAnswers
pub mod LiveCounts
pub mod LiveSteps
pub mod LiveTables
pub mod LivenessExactness
pub mod LiveExampleRuns
pub mod LiveClasses
pub mod ClearedVariables
pub mod WalksInLines
pub mod SimilarProcesses
pub mod ShownLiveness
pub mod ShownLaws
pub use Rattle.pv_laws_answers.proofs as OfLawsAnswers
pub use Rattle.pv_laws_steps.proofs as OfLawsSteps
