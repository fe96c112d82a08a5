-- Lemmas of the check of an image.
--
-- - numbers and sizes: FieldNumbers, HeaderSizes
-- - blocks: PointerRows (sequences of pointers), InvalidBlocks (lists of blocks that are invalid), InodeBlocks (the
--   blocks of the inodes before one), InodeContents (contents and their length)
-- - slots: SlotRows (slot by slot), SortedNames (sorted names), BadContents (errors, by the kind of the inode)
-- - places: SlotTargets (the inodes that directories name), NameCounts (names), NumberUnions (lists with their missing
--   numbers added), ReachableInodes
-- - MountedImages: the image of bytes that pass
pub mod BadContents
pub mod NameCounts
pub mod FieldNumbers
pub mod HeaderSizes
pub mod InodeBlocks
pub mod InodeContents
pub mod NumberUnions
pub mod MountedImages
pub mod PointerRows
pub mod ReachableInodes
pub mod InvalidBlocks
pub mod SlotRows
pub mod SlotTargets
pub mod SortedNames
