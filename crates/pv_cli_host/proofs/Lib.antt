-- Lemmas: EntryBounds (the number of entries in and below a directory), TargetNames (names of directories without the
-- last one).
pub mod EntryBounds
pub mod TargetNames
