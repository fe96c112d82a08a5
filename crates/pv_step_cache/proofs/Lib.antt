-- Lemmas about cached transitions: Keys (the key determines the part of the state on which a step depends), StatesByKey
-- (the edits determine the state after the step), RepeatedSteps (a cached transition is valid for every step with its
-- key, and stays valid when more groups are stored), CellLists (loops over cells, and edits of cells), LiveOwners (live
-- processes by cells), KeyLists (byte strings in tables), CacheLookups (lookup and insertion).
pub mod Keys
pub mod StatesByKey
pub mod RepeatedSteps
pub mod CellLists
pub mod LiveOwners
pub mod KeyLists
pub mod CacheLookups
pub use Rattle.pv_state_encoding.proofs.OfAnswers
pub use Rattle.pv_laws_steps.proofs.OfLawsAnswers
pub use Rattle.pv_laws_steps.proofs.OfLawsRuns
pub use Rattle.pv_laws_steps.proofs as OfLawsSteps
pub use Rattle.pv_state_encoding.proofs.OfListing
pub use Rattle.pv_state_encoding.proofs as OfStateEncoding
