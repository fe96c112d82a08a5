pub mod Findings
pub mod Reasons
pub use Rattle.pv_calls_state.specs as OfCallsState
pub use Rattle.pv_laws_access.specs as OfLawsAccess
pub use Rattle.pv_calls_state.specs.OfProcs
pub use Rattle.pv_calls_state.specs.OfScript
pub use Rattle.pv_calls_state.specs.OfTree
