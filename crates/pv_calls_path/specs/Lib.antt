pub mod Caller
pub mod Ends
pub mod Execve
pub mod Linking
pub mod Moving
pub mod Opening
pub mod Reached
pub mod Starting
pub use Rattle.pv_calls_plain.specs as OfCallsPlain
pub use Rattle.pv_namei.specs as OfNamei
