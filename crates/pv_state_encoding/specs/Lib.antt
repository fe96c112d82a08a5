pub mod Packed
pub mod Parts
pub mod Groups
pub mod Encoded
pub use Rattle.pv_answers.specs.OfCallsState
pub use Rattle.pv_answers.specs.OfProcs
