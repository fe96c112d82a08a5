pub mod Appending
pub mod Naming
pub use Rattle.pv_answers.specs.OfProcs
