-- Lemmas about the calls that walk: CheckedWalks and DirectoryNames serve all calls. StatusCalls, NameCalls, NodeCalls,
-- OpenCalls, RenameChecks and UnveilCalls have the calls of one subject. WalkEnds has the ends of the walks that a call
-- began.
pub mod WalkEnds
pub mod StatusCalls
pub mod NameCalls
pub mod DirectoryNames
pub mod NodeCalls
pub mod OpenCalls
pub mod CheckedWalks
pub mod RenameChecks
pub mod UnveilCalls
pub use Rattle.pv_calls_plain.proofs as OfCallsPlain
