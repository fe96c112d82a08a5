-- Lemmas about the files of a tree: GivenFiles (the names of nodes that are given), ListedFiles (their order),
-- FileNotes (notes and their files).
pub mod GivenFiles
pub mod ListedFiles
pub mod FileNotes
