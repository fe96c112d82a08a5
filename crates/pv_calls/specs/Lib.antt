pub mod Calls
pub mod Loading
pub use Rattle.pv_audit.specs as OfAudit
pub use Rattle.pv_calls_path.specs as OfCallsPath
pub use Rattle.pv_calls_path.specs.OfCallsPlain
pub use Rattle.pv_audit.specs.OfCallsState
pub use Rattle.pv_audit.specs.OfLawsAccess
pub use Rattle.pv_audit.specs.OfProcs
pub use Rattle.pv_audit.specs.OfScript
pub use Rattle.pv_audit.specs.OfTree
