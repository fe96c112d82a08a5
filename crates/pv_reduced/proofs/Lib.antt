-- Lemmas about the reduced search: LivenessComputation (the computation of live variables, and their tables),
-- DescriptorOrder (the order of open files), StateKeys (the encoding of a representative), ListSets (sets of lists of
-- parts), NextStepBounds (the process that must make the next step), PlannedReduction (the search visits the states and
-- observes the texts of the definitions), ReducedSearchSteps (the search, step by step), ReportedBytes (the bytes of
-- texts, and of `explore`).
pub mod LivenessComputation
pub mod DescriptorOrder
pub mod StateKeys
pub mod ListSets
pub mod NextStepBounds
pub mod PlannedReduction
pub mod ReducedSearchSteps
pub mod ReportedBytes
pub use Rattle.pv_state_encoding.proofs.OfAnswers
pub use Rattle.pv_explore.proofs as OfExplore
pub use Rattle.pv_laws_classes.proofs.OfLawsSteps
pub use Rattle.pv_explore.proofs.OfSession
pub use Rattle.pv_explore.proofs.OfStepLines
