-- Lemmas about the calls that walk no path: ReportedCollections (from the effect of a call, through its report, to the
-- collected state), NumberAnswers and RoomForCalls (calls that need no room, and calls that may), FileCalls,
-- DescriptorFiles, PledgeResults and WaitAnswers (single calls).
pub mod FileCalls
pub mod DescriptorFiles
pub mod NumberAnswers
pub mod PledgeResults
pub mod RoomForCalls
pub mod ReportedCollections
pub mod WaitAnswers
pub use Rattle.pv_calls_state.proofs as OfCallsState
