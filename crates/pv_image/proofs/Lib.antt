-- Lemmas of migration: NamedTrees (a tree whose nodes are all named is the tree of its named nodes), EnlargedTrees (the
-- tree in its new image), MigrationResults (the results of migration, and the laws), MigratedRuns (runs on both
-- images).
pub mod NamedTrees
pub mod EnlargedTrees
pub mod MigrationResults
pub mod MigratedRuns
