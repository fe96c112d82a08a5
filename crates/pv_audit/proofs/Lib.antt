-- Lemmas about audits.
-- - the least of some numbers: LeastNumbers
-- - the access of a process: TableEntries, NameAccess (all names), NodeDescriptors, LiveProcesses (the live processes)
-- - the verdict: FirstReasons (the reason is the first of `leaks`), FileVerdicts
pub mod LeastNumbers
pub mod TableEntries
pub mod NameAccess
pub mod NodeDescriptors
pub mod LiveProcesses
pub mod FirstReasons
pub mod FileVerdicts
pub use Rattle.pv_calls_state.proofs as OfCallsState
pub use Rattle.pv_laws_access.proofs as OfLawsAccess
