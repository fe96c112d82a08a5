-- Lemmas of the tree with its counts.
--
-- - NameCounts counts names, CollectedNodes has the nodes that the collection removes, CarriedData builds the stored
--   data after every change, ParentChanges has parents
-- - single changes: CollectionCounts, LinkCounts, NodeCreation (new nodes), NewNodeData (the stored data after that),
--   EntryMoves, ContentChanges (the contents of a file), UnaffectedLookups (names that a change does not affect);
--   RoomForEntries (errors), VersionSizes (the sizes of both versions), DirectoryEntries, RootTree (the tree with only
--   a root)
-- - names of a node: NameOrder (lists that ascend in the order of names), NextNames (from one name to the next),
--   LeastNames (the least of all). BorrowedRuns: runs of borrowed bytes
-- - TreeCopies: the stored data of a copied tree
-- - an existing image: GatheredNames (the data that a pass over entries has collected so far), ImageByteLists (names
--   and contents are bytes)
pub mod DirectoryEntries
pub mod VersionSizes
pub mod NameCounts
pub mod ParentChanges
pub mod CollectedNodes
pub mod CarriedData
pub mod CollectionCounts
pub mod LinkCounts
pub mod RoomForEntries
pub mod NodeCreation
pub mod NewNodeData
pub mod EntryMoves
pub mod UnaffectedLookups
pub mod RootTree
pub mod ContentChanges
pub mod GatheredNames
pub mod ImageByteLists
pub mod NameOrder
pub mod NextNames
pub mod LeastNames
pub mod BorrowedRuns
pub mod TreeCopies
pub use Rattle.pv_dirs.proofs as OfDirs
pub use Rattle.pv_laws_trees.proofs as OfLawsTrees
