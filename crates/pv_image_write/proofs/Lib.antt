-- Lemmas of written images.
--
-- - WrittenImage: the bytes are an image of the tree, from ImageParts, InodeReads (inodes), NodeContents and
--   BlockReads; NumberRanges, PartConcatenation and EntryLists are below them
-- - NamedTrees, PlacedTrees: the tree that is written
-- - WindowWrites (the bytes that were written, and those in the window), ImageWrites (node by node)
pub mod NumberRanges
pub mod PartConcatenation
pub mod EntryLists
pub mod NodeContents
pub mod InodeReads
pub mod BlockReads
pub mod NamedTrees
pub mod ImageParts
pub mod WindowWrites
pub mod ImageWrites
pub mod WrittenImage
pub mod PlacedTrees
