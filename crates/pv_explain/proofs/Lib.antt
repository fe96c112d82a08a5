-- Lemmas about explained steps.
-- - ProcessOrigins (the records of processes: lookup, update, and number), NewProcesses (the processes that are live
--   after a step), EntryOrigins (the records after a call)
-- - UnknownWords (of pledge), ErrorLines (the reason of an error in both states), TrueReasons, WorkedErrors
-- - EntryLevels (the level whose entry governs a place), AddedLines (the lines added to a step), AllowedLines (their
--   text), TrueLines (their statements are true)
-- - StepRecords (the number and line of one step, and the records after it), StepSequences (several steps,
--   and an explained run)
pub mod AddedLines
pub mod AllowedLines
pub mod ErrorLines
pub mod EntryLevels
pub mod EntryOrigins
pub mod StepRecords
pub mod NewProcesses
pub mod ProcessOrigins
pub mod StepSequences
pub mod TrueLines
pub mod TrueReasons
pub mod UnknownWords
pub mod WorkedErrors
