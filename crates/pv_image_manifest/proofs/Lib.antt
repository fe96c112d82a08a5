-- Lemmas of manifests: Containers (the parent directory of an entry), NewFiles (a file that is created empty and then
-- written), AddedEntries (an entry added in its directory), EntrySequences (the tree so far), TreePrefixes (a tree with
-- one more entry); of texts: FirstWords (lines by their first word), BodyLines (the lines of an executable file),
-- ListedEntries (entries line by line), WholeManifests, TextEnds.
pub mod AddedEntries
pub mod BodyLines
pub mod Containers
pub mod TextEnds
pub mod EntrySequences
pub mod FirstWords
pub mod TreePrefixes
pub mod ListedEntries
pub mod NewFiles
pub mod WholeManifests
