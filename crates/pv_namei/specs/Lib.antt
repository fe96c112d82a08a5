pub mod Components
pub mod Onward
pub mod Cached
pub use Rattle.pv_tree.specs.OfDirs
pub use Rattle.pv_tree.specs.OfInodes
pub use Rattle.pv_tree.specs as OfTree
