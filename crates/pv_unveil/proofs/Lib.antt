-- Lemmas of tables: EntryNumbers and EntryKeys (entries by number and by key), ClimbSteps (climbs to parent
-- directories), ComputedJudgement (the computed judgement is by the entry that governs).
pub mod ClimbSteps
pub mod EntryNumbers
pub mod ComputedJudgement
pub mod EntryKeys
pub use Rattle.pv_tree.proofs as OfTree
