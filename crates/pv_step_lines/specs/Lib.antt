pub mod Basis
pub mod Before
pub mod Made
pub mod Moved
pub mod Origin
pub mod Parts
pub use Rattle.pv_session.specs.OfAudit
pub use Rattle.pv_session.specs.OfCallsPath
pub use Rattle.pv_answers.specs.OfProcs
pub use Rattle.pv_session.specs as OfSession
