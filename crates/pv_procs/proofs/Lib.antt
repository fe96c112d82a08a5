-- Lemmas of processes on their slots: SlotLookups and SlotInvariant (finding and changing a slot), ElementSteps (lists
-- that are processed element by element); then by call: ForkedSlots, EndedSlots, ReapedSlots, LoadedPrograms, IdlePrograms
-- (no program from a place on has users), and ContextSteps (the context of a process advances).
pub mod EndedSlots
pub mod SlotLookups
pub mod SlotInvariant
pub mod ElementSteps
pub mod ForkedSlots
pub mod ReapedSlots
pub mod LoadedPrograms
pub mod IdlePrograms
pub mod ContextSteps
pub use Rattle.pv_unveil.proofs as OfUnveil
pub use Rattle.pv_unveil.proofs.OfTree
