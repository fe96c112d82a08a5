-- The lemmas on the dependencies of a step that the definitions of an observer cite: each observer of pv_explore proves
-- them of itself.
pub use Rattle.pv_explore.proofs.SteppingProcess.{found-inside, process-seen}
