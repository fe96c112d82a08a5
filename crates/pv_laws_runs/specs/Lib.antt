pub mod Starts
pub mod Runs
pub mod Examples
pub mod Asked
pub mod Turns
pub mod OwnSources
pub use Rattle.pv_laws_answers.specs.OfLawsAccess
