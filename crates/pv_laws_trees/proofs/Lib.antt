-- Lemmas about trees, walks and images. They are public because proofs of code use them.
-- - ListTests (tests, optional values and lists of any type), UnveilTargets (targets and permissions of unveil(2)).
-- - Trees: NumberedMaps (maps from numbers), DirectoryEntries (the entries of a directory), NameOrder, ListMembers
--   (membership in lists), Trees (well-formed trees by their entries; parents), TreeBytes (bytes of names).
-- - Collection and room: Collection, NodeRoom, NameCounts, ReferenceCounts, EmptyTrees (the tree with only the root).
-- - TreeChanges: TreeChanges (one node replaced), NewNodes, WellFormedChanges (changes that keep a tree well-formed),
--   Ancestors (ancestors), LookupsAfterChanges (lookups before and after a change).
-- - WalkRelations: WalkRelations (the function computes the relation), WalkPlaces (valid places, and the part of the
--   tree that a walk reads).
-- - Image bytes: Ranges, Directories, Inodes, InodeNodes, InodeBlocks, ImagePlaces, InodeNames, ReachedNodes,
--   SlotEntries, FirstErrors, MachineStarts, ImageBytes.
-- - Mounting: PassedTests and ImageTrees (inodes that pass all tests hold a well-formed tree), TreeImages (the bytes
--   are an image of it), and conversely HeldNodes, ImageEntries, SortedEntries and MountedImages. AcceptedImages:
--   booting.
pub mod ListTests
pub mod NumberedMaps
pub mod DirectoryEntries
pub mod Trees
pub mod Collection
pub mod NodeRoom
pub mod TreeChanges
pub mod TreeBytes
pub mod Ancestors
pub mod WellFormedChanges
pub mod WalkRelations
pub mod WalkPlaces
pub mod EmptyTrees
pub mod NewNodes
pub mod NameCounts
pub mod ReferenceCounts
pub mod LookupsAfterChanges
pub mod ListMembers
pub mod NameOrder
pub mod UnveilTargets
-- ---- image bytes
pub mod FirstErrors
pub mod SlotEntries
pub mod MachineStarts
pub mod Ranges
pub mod Directories
pub mod Inodes
pub mod InodeNodes
pub mod InodeNames
pub mod InodeBlocks
pub mod ImagePlaces
pub mod ReachedNodes
pub mod ImageBytes
-- ---- mounting
pub mod PassedTests
pub mod ImageTrees
pub mod TreeImages
pub mod HeldNodes
pub mod SortedEntries
pub mod ImageEntries
pub mod MountedImages
pub mod AcceptedImages
