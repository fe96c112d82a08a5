-- Lemmas about steps and runs: CachedSystems (the state and the name cache of a session stay sound), MachineSteps (a
-- step, by the fetched instruction and the answer), BufferAfterWrite (a write keeps the buffer of its process, so its
-- line shows the written bytes), InsideRuns (instructions made at once, as a run), TurnRuns (of a process), ObservedRuns
-- (runs with an observer), TracedRuns (runs whose trace is written, and those that write nothing), StoppedRuns (out of
-- memory), StepRestraints (restraints), AuditMeaning (the verdict on a file, and its meaning for all runs).
pub mod AuditMeaning
pub mod CachedSystems
pub mod InsideRuns
pub mod StepRestraints
pub mod MachineSteps
pub mod ObservedRuns
pub mod StoppedRuns
pub mod TracedRuns
pub mod TurnRuns
pub mod BufferAfterWrite
pub use Rattle.pv_calls.proofs.OfCallsPath
pub use Rattle.pv_calls.proofs.OfLawsAccess
pub use Rattle.pv_calls.proofs.OfLawsRuns
