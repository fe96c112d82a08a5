-- Lemmas of listings: DirectoryNames (the next name is the first of the entries after the last one), EntryLines (the
-- lines of a node, entry by entry).
pub mod DirectoryNames
pub mod EntryLines
