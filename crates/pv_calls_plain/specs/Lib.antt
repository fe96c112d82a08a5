pub mod Performed
pub mod Seeking
pub mod Space
pub use Rattle.pv_calls_state.specs as OfCallsState
pub use Rattle.pv_calls_state.specs.OfProcs
pub use Rattle.pv_calls_state.specs.OfScript
pub use Rattle.pv_calls_state.specs.OfUnveil
