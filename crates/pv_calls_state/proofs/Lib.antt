-- Lemmas about the counted state.
-- - counts of users and references: ReferenceCounting, UncountedChanges (a process that changes alone), ProcessChanges,
--   RemovedUsers, AddedUsers, TargetDirectories, AddedTableEntries (a table entry), Descriptors, BorrowedRecords (a
--   process's record), ProcessEnds, OpenedNodes, TreeChanges, FileWrites, ReadBuffers, ReapedChildren, FirstCounts
-- - CollectionByCounts: collecting by counts equals the definition. AttemptSequences: sequences of attempts, for the
--   system calls too
pub mod AddedTableEntries
pub mod UncountedChanges
pub mod AttemptSequences
pub mod FirstCounts
pub mod ProcessChanges
pub mod ReferenceCounting
pub mod Descriptors
pub mod ProcessEnds
pub mod TreeChanges
pub mod OpenedNodes
pub mod BorrowedRecords
pub mod ReadBuffers
pub mod ReapedChildren
pub mod RemovedUsers
pub mod AddedUsers
pub mod TargetDirectories
pub mod CollectionByCounts
pub mod FileWrites
pub use Rattle.pv_laws_states.proofs as OfLawsStates
pub use Rattle.pv_laws_trees.proofs as OfLawsTrees
pub use Rattle.pv_procs.proofs as OfProcs
pub use Rattle.pv_procs.proofs.OfUnveil
