pub mod Holdings
pub mod Reaching
pub mod Texts
pub use Rattle.pv_calls_state.specs as OfCallsState
pub use Rattle.pv_listing.specs as OfListing
pub use Rattle.pv_calls_state.specs.OfProcs
pub use Rattle.pv_calls_state.specs.OfPromises
pub use Rattle.pv_calls_state.specs.OfUnveil
