pub mod Afters
pub mod Checkpoints
pub mod FirstMachines
pub mod Observing
pub mod Plan
pub mod Rows
pub mod Searches
pub mod Sides
pub mod Vertices
pub mod VisitedStates
pub mod Visiting
pub mod Witnesses
pub use Rattle.pv_step_lines.specs.OfAudit
pub use Rattle.pv_step_lines.specs.OfCallsPath
pub use Rattle.pv_step_lines.specs.OfSession
pub use Rattle.pv_step_cache.specs.OfStateEncoding
pub use Rattle.pv_step_cache.specs as OfStepCache
