pub mod Renumbering
pub mod Examples
pub mod Canonical
pub mod ClassExamples
pub mod Together
pub mod TogetherExamples
pub mod Liveness
pub mod LivenessExamples
pub mod Reduced
pub mod ReducedAnswers
pub mod Shown
pub mod ReducedExamples
pub use Rattle.pv_laws_steps.specs as OfLawsSteps
