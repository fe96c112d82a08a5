pub mod Asked
pub mod Collecting
pub mod Groups
pub mod Noting
pub mod Usage
pub use Rattle.pv_needs.specs.OfAnswers
pub use Rattle.pv_needs.specs as OfNeeds
pub use Rattle.pv_procs.specs as OfProcs
pub use Rattle.pv_reduced.specs as OfReduced
