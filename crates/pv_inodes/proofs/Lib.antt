-- Lemmas of files on blocks.
--
-- - numbers: NumberMaps (maps from numbers), ByteLists (overwriting), InodeLayouts (the sizes of a version: no other
--   proof computes with them), LeastFreeInode (the start of the search for a free inode), GreatestUsedInode
--   (the end of those in use)
-- - a write to a block: BlockNumbers, ContentWrites, InodeFields (fields of inodes, and pointers), InodeContents (byte
--   by byte)
-- - owners of blocks: BlockOwners, BlockAllocation (an inode allocates a block), InodeCreation (an inode is created or
--   freed), UsedInodes (the remaining room)
-- - the effect of a change: ContentGrowth, ChangedInode, EditedFiles (one inode), MethodResults (the results of the
--   methods), ReadResults (what they read), EmptyStore
-- - an existing image: ImageBlocks (numbers, pointers and contents in bytes are those in blocks), BlockUses (the lists
--   of blocks that inodes use are the sequences that they own), ClaimedBlocks (blocks marked as in use one by one),
--   MountedStore
pub mod ChangedInode
pub mod ByteLists
pub mod ClaimedBlocks
pub mod InodeContents
pub mod StoreCopies
pub mod EditedFiles
pub mod EmptyStore
pub mod ContentGrowth
pub mod InodeFields
pub mod ImageBlocks
pub mod UsedInodes
pub mod InodeLayouts
pub mod GreatestUsedInode
pub mod LeastFreeInode
pub mod MethodResults
pub mod InodeCreation
pub mod MountedStore
pub mod NumberMaps
pub mod BlockOwners
pub mod ContentWrites
pub mod BlockAllocation
pub mod ReadResults
pub mod BlockNumbers
pub mod BlockUses
