pub mod Edits
pub mod Cached
pub mod Steps
pub use Rattle.pv_laws_steps.specs as OfLawsSteps
pub use Rattle.pv_state_encoding.specs as OfStateEncoding
