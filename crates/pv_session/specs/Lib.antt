pub mod Audits
pub mod Restraints
pub mod Observing
pub mod Running
pub mod Stopping
pub mod Tracing
pub use Rattle.pv_calls.specs.OfAudit
pub use Rattle.pv_calls.specs.OfCallsPath
