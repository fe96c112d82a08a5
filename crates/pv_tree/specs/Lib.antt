pub mod Changes
pub mod Holding
pub mod NodeNames
pub mod Places
pub mod Rooms
pub mod Present
pub use Rattle.pv_dirs.specs.Sizes
pub use Rattle.pv_dirs.specs.Trees
pub use Rattle.pv_dirs.specs as OfDirs
pub use Rattle.pv_dirs.specs.OfInodes
pub use Rattle.pv_laws_trees.specs as OfLawsTrees
