pub mod Children
pub mod Lent
pub mod Parts
pub mod Slots
pub mod ProcessTable
pub mod Reaping
pub mod Turns
pub use Rattle.pv_unveil.specs as OfUnveil
pub use Rattle.pv_promises.specs as OfPromises
pub use Rattle.pv_script.specs as OfScript
pub use Rattle.pv_unveil.specs.OfTree
