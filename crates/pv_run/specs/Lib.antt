pub mod Images
pub mod Listings
pub mod Making
pub mod Run
pub use Rattle.pv_session.specs.OfAudit
pub use Rattle.pv_session.specs as OfSession
