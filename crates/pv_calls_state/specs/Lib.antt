pub mod Attempts
pub mod Changes
pub mod Counts
pub mod Opening
pub mod Releasing
pub mod Writing
pub use Rattle.pv_files.specs as OfFiles
pub use Rattle.pv_procs.specs.OfTree.OfInodes
pub use Rattle.pv_laws_trees.specs as OfLawsTrees
pub use Rattle.pv_procs.specs as OfProcs
pub use Rattle.pv_procs.specs.OfPromises
pub use Rattle.pv_procs.specs.OfScript
pub use Rattle.pv_procs.specs.OfTree
pub use Rattle.pv_procs.specs.OfUnveil
