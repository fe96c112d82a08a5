-- Lemmas of directories on slots.
--
-- - entries: SortedEntries, EntryReplacement (filling a hole with the last slot), NextNames (the next name),
--   EntryOrders (entries in another order), AscendingNames (names that ascend from slot to slot), CommonPrefixes (the
--   prefix that the names between two names share with them)
-- - bytes: EqualParts (parts of equal length), SlotBytes, SlotRuns (bytes from a slot on), ImageSlots (slots in the
--   image format)
-- - passes over slots: SlotScans (for the next name), NamedInodes (for one that names a node), EntryCounts (of entries)
-- - trees: FileTrees, TreeViews (statements about the tree as statements about files), MappedNumbers, EntryAddition,
--   EntryRemoval, SlotExchange, FileContents, EmptyTrees, CallResults, ImageTrees (the tree of an image)
-- - the index: IndexedEntries (the entries that it finds), ChangedIndex (the index after a change)
pub mod EntryAddition
pub mod AscendingNames
pub mod CommonPrefixes
pub mod EntryReplacement
pub mod FileContents
pub mod EntryCounts
pub mod EmptyTrees
pub mod SortedEntries
pub mod SlotExchange
pub mod ImageTrees
pub mod ChangedIndex
pub mod IndexedEntries
pub mod MappedNumbers
pub mod NamedInodes
pub mod NextNames
pub mod CallResults
pub mod SlotScans
pub mod EntryOrders
pub mod EntryRemoval
pub mod SlotRuns
pub mod SlotBytes
pub mod ImageSlots
pub mod EqualParts
pub mod FileTrees
pub mod TreeViews
pub use Rattle.pv_inodes.proofs as OfInodes
