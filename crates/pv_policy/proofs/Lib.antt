-- Lemmas of the proofs: GroupTables (tables of groups), CollectedUses (the collected uses and the lines of the
-- definition), CollectedCalls (the calls of the visited states), MappedFronts (lists whose front is mapped),
-- NextCalls (the next step of a process), ListSteps (lists, one element at a time), UsedPermissions (the permissions
-- that a walks of a call use), RecordedCalls (a call as it is recorded).
pub mod GroupTables
pub mod CollectedUses
pub mod CollectedCalls
pub mod MappedFronts
pub mod NextCalls
pub mod ListSteps
pub mod UsedPermissions
pub mod RecordedCalls
pub use Rattle.pv_needs.proofs.OfAnswers
