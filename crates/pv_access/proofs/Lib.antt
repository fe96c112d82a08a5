-- Lemmas about accesses: AccessCandidates (the accesses of a call by its candidates), BegunWalks (the walks that a call
-- begins), PreparedTexts (the texts of candidates), DescriptorBounds (descriptors past the last), FileNotes (files
-- without a note), AccessBytes (the bytes of a search).
pub mod AccessCandidates
pub mod FileNotes
pub mod DescriptorBounds
pub mod PreparedTexts
pub mod BegunWalks
pub mod AccessBytes
