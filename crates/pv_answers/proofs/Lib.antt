-- Lemmas about answers.
-- - texts: TextParts (texts of many parts, the front of a buffer), KeywordTexts (of a set), NodePaths (of nodes)
-- - processes: ProcessSequence (from one number to the next), InstructionWords (the next instruction), LocationLines,
--   DescriptorLines and HeldLines (descriptors, entries and memory), ProcessLines (all processes)
-- - places: PermissionsAtPlaces (by the governing entry), ListedLines (names, one entry at a time), AbsentNameEntries
--   (entries for absent names), OpenDescriptors (open descriptors), RemovedDirectories (removed directories),
--   PermissionLines (all lines)
pub mod TextParts
pub mod KeywordTexts
pub mod NodePaths
pub mod ProcessSequence
pub mod InstructionWords
pub mod LocationLines
pub mod DescriptorLines
pub mod HeldLines
pub mod ProcessLines
pub mod PermissionsAtPlaces
pub mod ListedLines
pub mod AbsentNameEntries
pub mod OpenDescriptors
pub mod RemovedDirectories
pub mod PermissionLines
pub use Rattle.pv_listing.proofs as OfListing
pub use Rattle.pv_calls_state.proofs.OfProcs
pub use Rattle.pv_calls_state.proofs.OfUnveil
