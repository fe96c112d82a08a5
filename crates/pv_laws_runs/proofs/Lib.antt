-- Lemmas about runs from accepted inputs: ProgramRanges (arguments, lines, programs), ManifestEntries (the lines of a
-- manifest), ManifestTrees (each entry makes a valid first tree), ImageTrees (the tree of an image), RunPremises (the
-- start of a run), StartingStates (boot, and reachable states), SecretExampleRuns (the worked run), RunChecks (the
-- checks of a run), TurnSteps, ReadyTurns and ScheduleEnds (schedules of turns: their turns, their steps, and the
-- states in which they end), BundlePrograms (the node of `/init`).
pub mod ProgramRanges
mod ManifestEntries
mod ManifestTrees
mod ImageTrees
pub mod StartingStates
pub mod SecretExampleRuns
pub mod RunPremises
pub mod RunChecks
pub mod TurnSteps
pub mod ReadyTurns
pub mod ScheduleEnds
pub mod BundlePrograms
pub use Rattle.pv_laws_answers.proofs.OfLawsAccess
pub use Rattle.pv_laws_answers.proofs as OfLawsAnswers
