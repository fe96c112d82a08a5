pub mod Explained
pub mod Levels
pub mod Reach
pub mod ReachNames
pub mod Settings
pub mod Wanted
pub mod ProcessImages
pub mod Begun
pub mod Counts
pub mod OverTime
pub mod Examples
pub mod Witnesses
pub mod Search
pub mod Observed
pub mod Accesses
pub mod Waits
pub mod Unread
pub mod Graphs
pub mod SearchExamples
pub use Rattle.pv_laws_access.specs as OfLawsAccess
pub use Rattle.pv_laws_states.specs as OfLawsStates
