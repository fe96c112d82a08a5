-- Lemmas about calls: CallAnswers (from the result of a call, by its promises, to its answer), StatesAfterCalls
-- (the state after a call), WaitBlocking (whether a wait would block), LiveCallers (a process stays live after a call
-- on paths), ExecveSteps (execve), ExecveOutcomes (the outcomes of an execve that loads a program), FirstStates
-- (the first state, and the states after an instruction and after a call).
pub mod FirstStates
pub mod CallAnswers
pub mod ExecveSteps
pub mod LiveCallers
pub mod ExecveOutcomes
pub mod StatesAfterCalls
pub mod WaitBlocking
pub use Rattle.pv_calls_path.proofs as OfCallsPath
pub use Rattle.pv_audit.proofs.OfLawsAccess
pub use Rattle.pv_laws_runs.proofs as OfLawsRuns
