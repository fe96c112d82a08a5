pub mod Answered
pub mod Answers
pub mod Failures
pub mod FilePaths
pub mod Files
pub mod Formats
pub mod Laws
pub mod Reasons
pub mod Schedules
pub mod Trees
pub use Rattle.pv_policy.specs.OfReduced
pub use Rattle.pv_run.specs as OfRun
